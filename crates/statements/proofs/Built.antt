-- What the builder leaves, and what is read of it.
-- Assumes nothing.
use mathlib.Core.Path.{◌≡◌, refl, sym, ◌∙◌, ap}
use mathlib.Core.Logic.{◌↔◌}
use mathlib.Core.Bool.{Bool, true, false, cond}
use mathlib.Core.List.{List, [], ◌∷◌, ◌++◌, append-nil}
use Prim.Native.Nat.{ℕ, ◌+◌, ◌-◌, ◌*◌, ◌/◌, ◌%◌, ◌^◌, ◌≤◌, ◌<◌}
use native.Mathlib.Nat.{le_of_eq}
use native.Mathlib.Omega.{arith}
use lib.ListN.{length, take, get_or, length-take}
use lib.Seq.{get_or-take}
use lib.Dec.{eqb}
use borrow.Author.Tests.{eqb-true, ne_eqb}
use Rattle.format.specs.Format.{precision_of, table_bits, input_bits, asked, word_count, word_width, image_length}
use Rattle.format.specs.declared.Form.TheVariants.{Plain, Full}
use Rattle.format.specs.declared.Format.{Format}
use Rattle.nodes.specs.Nodes.{node}
use Rattle.packing.specs.Packing.{Bytes, bit_at, bit_of_word}
use Rattle.packing.proofs.Bytes.{bytes_take, bytes_append}
use Rattle.packing.proofs.Image.{bytes-packed_bytes}
use Rattle.tail.specs.Tail.{zeros}
use Rattle.tail.proofs.Zeros.{bytes-zeros}
use Rattle.answers.specs.Refusal.{Outcome, outcome, served, some_applies}
use Rattle.layout.specs.Layout.{rom_of, first_past}
use Rattle.layout.specs.Refusals.{word_refusal}
use Rattle.layout.proofs.Laws as layouts
use Rattle.layout.proofs.Laws.{Fits}
use Rattle.layout.proofs.Rom as roms
use Rattle.image.specs.Image.{table_of, image, node_of}
use Rattle.image.specs.Refusals.{node_refusal}
use Rattle.image.specs.Calls.{build_outcome, build_leaves, node_outcome}
use Rattle.image.proofs.Laws.{table_fits, has_bits}
use Rattle.image.proofs.Judging.{node_served}
use Rattle.operand.specs.Operand.{cut_operand}
use Rattle.operand.specs.Refusals.{operand_refusals}
use Rattle.operand.proofs.Limits.{operand_decides, operand_passes, operand_kept}
use Rattle.interpolation.specs.Algorithm.{node_number}
use Rattle.interpolation.specs.Reciprocal.{read_reciprocal, reciprocal}
use Rattle.interpolation.specs.Calls.{cut_refusals, reciprocal_outcome}
use Rattle.statements.specs.Terms.{IsOffered, IsLongEnough, right_word, IsRightAt, IsTailZero, IsFractionCount, IsNormalised}
use Rattle.statements.proofs.Iff.{guards_of, read_right}
use Rattle.statements.proofs.Nodes.{served_decodes}
use Rattle.statements.proofs.Numbers.{kept_answer, later_number}
use Rattle.statements.proofs.Reciprocals.{has_word, gives}
use Rattle.statements.proofs.Tails.{IsFilledZero, past_end, end_zero}

-- what the builder leaves, by its answer
module _ (F : Format) (s : List ℕ) where
  pub left_as_found : ((build_outcome F s).number ≡ 0 → ⊥) → build_leaves F s ≡ s
  left_as_found f = rw (ne_eqb (build_outcome F s).number 0 f)

  by_image : (P : List ℕ → Type 0) → P s → (IsLongEnough F s → P (rom_of (table_of F) (length s))) → P (build_leaves F s)
  by_image P found built = go (eqb (build_outcome F s).number 0) refl
    where
      go : (b : Bool) → eqb (build_outcome F s).number 0 ≡ b → P (cond b (rom_of (table_of F) (length s)) s)
      go true e =
          built ((later_number F s [] 0 0 tt tt tt).0 (eqb-true (build_outcome F s).number 0 e)).1.0
      go false e = found

  pub built_as_long : length (build_leaves F s) ≡ length s
  built_as_long = by_image (λ t. length t ≡ length s) refl (roms.rom_length (table_of F) (length s))

  -- a format that can be ordered and a long enough buffer are built
  pub built : IsOffered F → IsLongEnough F s → build_leaves F s ≡ rom_of (table_of F) (length s)
  built p l = ap (λ (o : Outcome). cond (eqb o.number 0) (rom_of (table_of F) (length s)) s) (kept_answer F s [] 0 p l)

module _ (F : Format) (s : List ℕ) (p : IsOffered F) (l : IsLongEnough F s) where
  -- the buffer behind the builder
  abbrev left : List ℕ
  left = build_leaves F s

  abbrev k : ℕ
  k = precision_of F

  abbrev a : ℕ
  a = table_bits F

  abbrev b : ℕ
  b = input_bits F

  fits : Fits (table_of F)
  fits = table_fits F (has_bits F (guards_of F.guard_bits p.1))

  pub built_words : (j : ℕ) → j < word_count F → IsRightAt F left j
  built_words j h = rw (built F s p l) (roms.rom_word (table_of F) fits (length s) j h)

  -- the image stands at the front, whatever stood there before
  pub front : take (image_length F) left ≡ image F
  front = rw (built F s p l) (roms.rom_front (table_of F) (length s))

  -- and zero bytes behind it
  pub tail_bytes : (i : ℕ) → image_length F ≤ i → i < length left → get_or left i 0 ≡ 0
  tail_bytes = rw (built F s p l) (λ i h m. roms.rom_zero (table_of F) (length s) i h (omega (arith, m, roms.rom_length (table_of F) (length s) l)))

  -- it is bytes, whatever stood there before
  pub built_bytes : Bytes left
  built_bytes =
      rw (built F s p l) (bytes_append (image F) (zeros (length s - image_length F)) (bytes-packed_bytes (word_width F) (right_word F.form k a) (word_count F)) (bytes-zeros (length s - image_length F)))

  still_long : IsLongEnough F left
  still_long = rw (built_as_long F s) l

  pub read_back : (j : ℕ) → j ≤ 2 ^ k → node_outcome F left j ≡ served (node k a j)
  read_back j h =
      kept_answer F left (node_refusal k j ∷ word_refusal (table_of F) left j ∷ []) (node_of F left j) p still_long
      ∙ node_served F left j (node_of F left j) h (read_right F left j (built_words j))
      ∙ ap served (served_decodes F left j h (built_words j))

  pub built_gives : (n X : ℕ) → IsFractionCount n → IsNormalised n X → reciprocal_outcome F left n X ≡ served (reciprocal k a b n X)
  built_gives n X c o =
      gives F left n X p still_long c o (built_words (node_number k b (cut_operand k b n X)) (has_word F left n X o)) (built_words (node_number k b (cut_operand k b n X) + 1))

  -- the answer to any operand: 4 or 5, or R
  pub built_answers : (n X : ℕ) → reciprocal_outcome F left n X ≡ outcome (operand_refusals n X) (reciprocal k a b n X)
  built_answers n X = by (some_applies (operand_refusals n X)) refl
    where
      by : (some : Bool) → some_applies (operand_refusals n X) ≡ some → reciprocal_outcome F left n X ≡ outcome (operand_refusals n X) (reciprocal k a b n X)
      by false none =
          let o = operand_kept n X none in
          built_gives n X (o.low, o.high) (o.least, o.below) ∙ sym (operand_passes n X [] (reciprocal k a b n X) none)
      by true some =
          kept_answer F left (operand_refusals n X ++ cut_refusals F left (cut_operand k b n X)) (read_reciprocal F left (cut_operand k b n X)) p still_long
          ∙ operand_decides n X (cut_refusals F left (cut_operand k b n X)) (read_reciprocal F left (cut_operand k b n X)) some
          ∙ sym (operand_decides n X [] (reciprocal k a b n X) some)

  -- no byte has a one behind the last word
  nothing_past : length left ≤ first_past (table_of F) left
  nothing_past =
      rw (built F s p l) (omega (arith, roms.rom_past (table_of F) fits (length s) l, roms.rom_length (table_of F) (length s) l))

  pub tail_zero : IsTailZero F left
  tail_zero = end_zero F left nothing_past

-- from the images of both forms, of equal guard bits, every operand has the same answer
pub same_in_both : (k a b : ℕ) (s s' : List ℕ) → IsOffered (asked Plain k a b) → IsLongEnough (asked Plain k a b) s → IsLongEnough (asked Full k a b) s' → (n X : ℕ)
    → reciprocal_outcome (asked Plain k a b) (build_leaves (asked Plain k a b) s) n X ≡ reciprocal_outcome (asked Full k a b) (build_leaves (asked Full k a b) s') n X
same_in_both k a b s s' p l m n X = built_answers (asked Plain k a b) s p l n X ∙ sym (built_answers (asked Full k a b) s' p m n X)

module _ (F : Format) (s : List ℕ) (some : 1 ≤ word_width F) (bytes : Bytes s) (l : IsLongEnough F s) where
  -- the front of a buffer is the image exactly where its words are right and its filling bits are zero
  pub right_is_image : (((j : ℕ) → j < word_count F → IsRightAt F s j) × IsFilledZero F s) ↔ (take (image_length F) s ≡ image F)
  right_is_image = (to, from)
    where
      as_long : length (take (image_length F) s) ≡ image_length F
      as_long = length-take (image_length F) s ∙ omega (arith, l)

      same_bit : (b : ℕ) → b < 8 * image_length F → bit_at (take (image_length F) s) b ≡ bit_at s b
      same_bit b h = ap (λ (x : ℕ). x / 2 ^ (7 - b % 8) % 2) (get_or-take (image_length F) s (b / 8) 0 (omega (arith, h)))

      no_zeros : rom_of (table_of F) (image_length F) ≡ image F
      no_zeros = ap (λ (n : ℕ). image F ++ zeros n) {x = image_length F - image_length F} {y = 0} (omega arith) ∙ append-nil (image F)

      to : ((j : ℕ) → j < word_count F → IsRightAt F s j) × IsFilledZero F s → take (image_length F) s ≡ image F
      to t =
          roms.right_rom (table_of F) (table_fits F some) (take (image_length F) s) (bytes_take (image_length F) s bytes) (le_of_eq (sym as_long))
          (λ j h. layouts.own_word (table_of F) (table_fits F some) s j h ∙ t.0 j h)
          (past_end F (take (image_length F) s) (λ b h m. let less : b < 8 * image_length F = omega (arith, m, as_long) in same_bit b less ∙ t.1 b h less))
          ∙ ap (rom_of (table_of F)) as_long
          ∙ no_zeros

      from : take (image_length F) s ≡ image F → ((j : ℕ) → j < word_count F → IsRightAt F s j) × IsFilledZero F s
      from e = (
        layouts.front_right (table_of F) (table_fits F some) s e,
        λ b h m.
            sym (same_bit b m)
            ∙ end_zero F (take (image_length F) s)
            (le_of_eq (as_long ∙ sym (ap (first_past (table_of F)) (e ∙ sym no_zeros) ∙ roms.rom_past (table_of F) (table_fits F some) (image_length F) (omega arith))))
            b h (omega (arith, m, as_long)),
      )

-- bit b of word j of the image
pub image_bits : (F : Format) → 1 ≤ word_width F → (j b : ℕ) → j < word_count F → b < word_width F → bit_at (image F) (j * word_width F + b) ≡ bit_of_word (word_width F) (right_word F.form (precision_of F) (table_bits F) j) b
image_bits F some = layouts.image_bit (table_of F) (table_fits F some)
