-- Full words, in numbers.
--
-- What Refusals and Construction say of every format is said here of `full_of k`, the full words of precision k with
-- the usual guard bits: two of the table and three of the input.
-- Its image is 2^k + 1 words of 2k + 4 bits, one for each node from 0 to 2^k, and zero bits to the end of the last
-- byte.
-- The word of node j is c(j) itself.
--
-- The format: full_count, full_width, full_table, full_right, full_word_fits.
-- The length of its image: full_length.
-- What a bench reads at word j of an image that was built is c(j): full_built_word; bit by bit: full_built_bit.
-- The image is these words, one after the other: full_image_bit; it ends at bit (2^k + 1) × (2k + 4): full_place.
-- The nodes are read back: full_read_back.
-- The bits that fill the last byte, and the bytes behind it, are zero: full_built_filling, full_built_tail.
-- Refusal 2: full_refuses_2.
-- Refusal 6, which node 2^k gives like the rest: full_check_refuses_6, full_check_place_6, full_node_refuses_6,
-- full_last_refuses_6, full_reciprocal_refuses_6.
-- Refusal 7: full_check_refuses_7; a filling bit that is one counts at the image's last byte: full_filling_7.
-- What is served: full_node_serves, full_reciprocal_serves, full_passes_words.
-- The bytes that are shown, up to those of node 2^k: full_part_empty, full_part_length, full_part_from,
-- full_part_bytes.
--
-- All else that Refusals, Construction and Bound say of a format F reads so too: 2^k + 1 for `word_count F`, 2k + 4 for
-- `word_width F`, k for `precision_of F`, 2 and 3 for its guard bits, and `IsPrecision k` for `IsOffered F`.
-- So 18 is never given, by the page Usual.
use mathlib.Core.Path.{◌≡◌, refl, sym, ◌∙◌, ap}
use mathlib.Core.Logic.{◌↔◌, ◌⊎◌, inl, inr, ⊎_elim}
use mathlib.Core.List.{List, []}
use Prim.Native.Nat.{ℕ, ◌+◌, ◌-◌, ◌*◌, ◌/◌, ◌^◌, ◌≤◌, ◌<◌}
use native.Mathlib.Omega.{arith}
use lib.ListN.{length, get_or}
use Rattle.format.specs.Format.{full_of, word_count, word_width, image_length}
use Rattle.nodes.specs.Nodes.{node}
use Rattle.nodes.proofs.Forms.{node_fits}
use Rattle.packing.specs.Packing.{Bytes, word_at, bit_at, bit_of_word}
use Rattle.packing.specs.Writing.{writer_before}
use Rattle.answers.specs.Refusal.{served}
use Rattle.image.specs.Image.{table_of, image}
use Rattle.image.specs.Calls.{build_outcome, build_leaves, check_outcome, node_outcome, shown_part, shown_from}
use Rattle.operand.specs.Operand.{cut_operand}
use Rattle.interpolation.specs.Algorithm.{node_number}
use Rattle.interpolation.specs.Calls.{reciprocal_outcome}
use Rattle.statements.specs.Terms.{IsPrecision, IsLongEnough, IsRightAt, IsFractionCount, IsNormalised}
use Rattle.statements.proofs.Iff.{joined, none, same, usual_guards, usual2, usual3, usual4, usual5, usual6}
use Rattle.statements.proofs.Reciprocals.{before_last}
use Rattle.statements.proofs.Refusals
use Rattle.statements.proofs.Construction
use Rattle.statements.proofs.Built

module _ (k : ℕ) where
  pub full_count : word_count (full_of k) ≡ 2 ^ k + 1
  full_count = refl

  pub full_width : word_width (full_of k) ≡ 2 * k + 4
  full_width = refl

  pub full_table : table_of (full_of k) ≡ record { count = 2 ^ k + 1; width = 2 * k + 4; word = node k 2 }
  full_table = refl

  -- the word of node j is right where it is c(j),
  pub full_right : (s : List ℕ) (j : ℕ) → IsRightAt (full_of k) s j ↔ (word_at (2 * k + 4) s j ≡ node k 2 j)
  full_right s j = same

  -- which has its place in it
  pub full_word_fits : (j : ℕ) → node k 2 j < 2 ^ (2 * k + 4)
  full_word_fits = node_fits k 2

  pub full_length : image_length (full_of k) ≡ ((2 ^ k + 1) * (2 * k + 4) + 7) / 8
  full_length = refl

  -- bit b of c(j) is bit j × (2k + 4) + b of the image
  pub full_image_bit : (j b : ℕ) → j ≤ 2 ^ k → b < 2 * k + 4 → bit_at (image (full_of k)) (j * (2 * k + 4) + b) ≡ bit_of_word (2 * k + 4) (node k 2 j) b
  full_image_bit j b h = Built.image_bits (full_of k) (omega arith) j b (omega arith)

  -- where the bit place stands after the last word
  pub full_place : IsPrecision k → (writer_before (2 * k + 4) (node k 2) (2 ^ k + 1)).place ≡ (2 ^ k + 1) * (2 * k + 4)
  full_place p = Construction.place_after_full k 2 3 p usual_guards

-- A buffer behind the builder, whatever it held before.
module _ (k : ℕ) (p : IsPrecision k) (s : List ℕ) (l : IsLongEnough (full_of k) s) where
  -- the 2k + 4 bits from bit j × (2k + 4) on are c(j)
  pub full_built_word : (j : ℕ) → j ≤ 2 ^ k → word_at (2 * k + 4) (build_leaves (full_of k) s) j ≡ node k 2 j
  full_built_word j h = Construction.built_word (full_of k) (p, usual_guards) s l j (omega arith)

  pub full_built_bit : (j b : ℕ) → j ≤ 2 ^ k → b < 2 * k + 4 → bit_at (build_leaves (full_of k) s) (j * (2 * k + 4) + b) ≡ bit_of_word (2 * k + 4) (node k 2 j) b
  full_built_bit j b h m =
      sym (Construction.word_bit (full_of k) (build_leaves (full_of k) s) j (Built.built_bytes (full_of k) s (p, usual_guards) l) b m)
      ∙ ap (λ (x : ℕ). bit_of_word (2 * k + 4) x b) (full_built_word j h)

  pub full_built_filling : (b : ℕ) → (2 ^ k + 1) * (2 * k + 4) ≤ b → b < 8 * image_length (full_of k) → bit_at (build_leaves (full_of k) s) b ≡ 0
  full_built_filling b h m = Construction.built_tail (full_of k) (p, usual_guards) s l b h (omega (arith, m, l, Refusals.build_leaves_length (full_of k) s))

  pub full_built_tail : (i : ℕ) → image_length (full_of k) ≤ i → i < length s → get_or (build_leaves (full_of k) s) i 0 ≡ 0
  full_built_tail i h m = Built.tail_bytes (full_of k) s (p, usual_guards) l i h (omega (arith, m, Refusals.build_leaves_length (full_of k) s))

  -- and every node is read back from it
  pub full_read_back : (j : ℕ) → j ≤ 2 ^ k → node_outcome (full_of k) (build_leaves (full_of k) s) j ≡ served (node k 2 j)
  full_read_back = Construction.node_read_back (full_of k) (p, usual_guards) s l

-- Any buffer s.
module _ (k : ℕ) (s : List ℕ) where
  -- 2: the buffer is shorter than the image of full words
  pub full_refuses_2 : ((build_outcome (full_of k) s).number ≡ 2) ↔ (IsPrecision k × (length s < ((2 ^ k + 1) * (2 * k + 4) + 7) / 8))
  full_refuses_2 = joined (Refusals.build_refuses_2 (full_of k) s) usual2

  -- 6, by the check: a word is not c(j), that of node 2^k among them
  pub full_check_refuses_6 : ((check_outcome (full_of k) s).number ≡ 6)
      ↔ (IsPrecision k × IsLongEnough (full_of k) s × ((j : ℕ) × (j ≤ 2 ^ k) × (word_at (2 * k + 4) s j ≡ node k 2 j → ⊥)))
  full_check_refuses_6 =
      joined (joined (Refusals.check_refuses_6 (full_of k) s) usual3)
      (λ t. (t.0, t.1, (t.2.0, omega (arith, t.2.1), t.2.2)), λ t. (t.0, t.1, (t.2.0, omega (arith, t.2.1), t.2.2)))

  -- the place is the lowest such node, up to node 2^k
  pub full_check_place_6 : (check_outcome (full_of k) s).number ≡ 6
      → ((check_outcome (full_of k) s).place ≤ 2 ^ k) × (word_at (2 * k + 4) s (check_outcome (full_of k) s).place ≡ node k 2 (check_outcome (full_of k) s).place → ⊥)
      × ((i : ℕ) → i < (check_outcome (full_of k) s).place → word_at (2 * k + 4) s i ≡ node k 2 i)
  full_check_place_6 e = let at = Refusals.check_place_6 (full_of k) s e in (omega (arith, at.0), at.1, at.2)

  -- 7: the words are right, and a byte has a one behind the last of them: at bit (2^k + 1) × (2k + 4) or later
  pub full_check_refuses_7 : ((check_outcome (full_of k) s).number ≡ 7)
      ↔ (IsPrecision k × IsLongEnough (full_of k) s × ((j : ℕ) → j ≤ 2 ^ k → word_at (2 * k + 4) s j ≡ node k 2 j) × ((i : ℕ) × (i < length s) × ((b : ℕ) × ((2 ^ k + 1) * (2 * k + 4) ≤ b) × (b / 8 ≡ i) × (bit_at s b ≡ 1))))
  full_check_refuses_7 =
      joined (joined (Refusals.check_refuses_7 (full_of k) s) usual4)
      (λ t. (t.0, t.1, λ j h. t.2 j (omega arith), (t.3.0, t.3.1.0, t.3.1.1)), λ t. (t.0, t.1, λ j h. t.2 j (omega arith), (t.3.0, (t.3.1, t.3.2))))

  -- a filling bit that is one counts under 7, at the image's last byte, whatever stands past the image
  pub full_filling_7 : IsPrecision k → IsLongEnough (full_of k) s → ((j : ℕ) → j ≤ 2 ^ k → word_at (2 * k + 4) s j ≡ node k 2 j)
      → (b : ℕ) → (2 ^ k + 1) * (2 * k + 4) ≤ b → b < 8 * image_length (full_of k) → bit_at s b ≡ 1
      → ((check_outcome (full_of k) s).number ≡ 7) × ((check_outcome (full_of k) s).place ≡ image_length (full_of k) - 1) × ((check_outcome (full_of k) s).value ≡ 0)
  full_filling_7 p l r b h m one =
      let there : b / 8 < length s = omega (arith, m, l) in
      let seven : (check_outcome (full_of k) s).number ≡ 7 = full_check_refuses_7.1 (p, l, r, (b / 8, there, (b, h, refl, one))) in
      (seven, Refusals.check_place_filling (full_of k) s seven b h m one, Refusals.check_value (full_of k) s)

  -- a buffer passes the check exactly when every word is c(j), the filling bits are zero and so are the bytes past the
  -- image
  pub full_passes_words : IsPrecision k → Bytes s → IsLongEnough (full_of k) s
      → ((check_outcome (full_of k) s).number ≡ 0)
      ↔ (((j : ℕ) → j ≤ 2 ^ k → word_at (2 * k + 4) s j ≡ node k 2 j) × ((b : ℕ) → (2 ^ k + 1) * (2 * k + 4) ≤ b → b < 8 * image_length (full_of k) → bit_at s b ≡ 0) × ((i : ℕ) → image_length (full_of k) ≤ i → i < length s → get_or s i 0 ≡ 0))
  full_passes_words p bytes l =
      joined (Construction.check_passes_words (full_of k) (p, usual_guards) s bytes l)
      (λ t. (λ j h. t.0 j (omega arith), t.1, t.2), λ t. (λ j h. t.0 j (omega arith), t.1, t.2))

  -- reading node j, up to 2^k from its word
  module _ (j : ℕ) where
    pub full_node_refuses_6 : ((node_outcome (full_of k) s j).number ≡ 6) ↔ (IsPrecision k × IsLongEnough (full_of k) s × (j ≤ 2 ^ k) × (word_at (2 * k + 4) s j ≡ node k 2 j → ⊥))
    full_node_refuses_6 =
        joined (joined (Refusals.node_refuses_6 (full_of k) s j) usual4)
        (λ t. (t.0, t.1, omega (arith, t.2), t.3), λ t. (t.0, t.1, omega (arith, t.2), t.3))

    pub full_node_serves : ((node_outcome (full_of k) s j).number ≡ 0) ↔ (IsPrecision k × IsLongEnough (full_of k) s × (j ≤ 2 ^ k) × (word_at (2 * k + 4) s j ≡ node k 2 j))
    full_node_serves =
        joined (joined (Refusals.node_serves (full_of k) s j) usual4)
        (λ t. (t.0, t.1, t.2, t.3 (omega (arith, t.2))), λ t. (t.0, t.1, t.2, λ h. t.3))

  -- so node 2^k gives 6 exactly where its word is wrong
  pub full_last_refuses_6 : ((node_outcome (full_of k) s (2 ^ k)).number ≡ 6) ↔ (IsPrecision k × IsLongEnough (full_of k) s × (word_at (2 * k + 4) s (2 ^ k) ≡ 2 ^ (2 * k + 2) → ⊥))
  full_last_refuses_6 =
      joined (full_node_refuses_6 (2 ^ k))
      (λ t. (t.0, t.1, λ e. t.3 (e ∙ sym (Construction.last-node k 2))), λ t. (t.0, t.1, omega arith, λ e. t.2 (e ∙ Construction.last-node k 2)))

  -- the reciprocal reads the words of j and of j + 1, which may be 2^k
  module _ (n X : ℕ) where
    abbrev j : ℕ
    j = node_number k 3 (cut_operand k 3 n X)

    pub full_reciprocal_refuses_6 : ((reciprocal_outcome (full_of k) s n X).number ≡ 6)
        ↔ (IsPrecision k × IsLongEnough (full_of k) s × IsFractionCount n × IsNormalised n X × ((word_at (2 * k + 4) s j ≡ node k 2 j → ⊥) ⊎ (word_at (2 * k + 4) s (j + 1) ≡ node k 2 (j + 1) → ⊥)))
    full_reciprocal_refuses_6 =
        joined (joined (Refusals.reciprocal_refuses_6 (full_of k) s n X) usual5) (
          λ t. (t.0, t.1, t.2, t.3, ⊎_elim (λ f. inl f) (λ g. inr g.1) t.4),
          λ t. (t.0, t.1, t.2, t.3, ⊎_elim (λ f. inl f) (λ g. inr (omega (arith, before_last k 3 n X t.3), g)) t.4),
        )

    pub full_reciprocal_serves : ((reciprocal_outcome (full_of k) s n X).number ≡ 0)
        ↔ (IsPrecision k × IsLongEnough (full_of k) s × IsFractionCount n × IsNormalised n X × (word_at (2 * k + 4) s j ≡ node k 2 j) × (word_at (2 * k + 4) s (j + 1) ≡ node k 2 (j + 1)))
    full_reciprocal_serves =
        joined (joined (Refusals.reciprocal_serves (full_of k) s n X) usual6)
        (λ t. (t.0, t.1, t.2, t.3, t.4, t.5 (omega (arith, before_last k 3 n X t.3))), λ t. (t.0, t.1, t.2, t.3, t.4, λ h. t.5))

  -- the bytes of words 0 to 2^k are shown, from byte floor(j × w / 8) to byte floor((j × w + w - 1) / 8) with w = 2k +
  -- 4
  module _ (j : ℕ) where
    pub full_part_empty : (shown_part (full_of k) s j ≡ []) ↔ ((IsPrecision k × IsLongEnough (full_of k) s × (j ≤ 2 ^ k)) → ⊥)
    full_part_empty =
        joined (joined (Refusals.part_empty (full_of k) s j) (none usual3))
        (λ f t. f (t.0, t.1, omega (arith, t.2)), λ f t. f (t.0, t.1, omega (arith, t.2)))

    module _ (p : IsPrecision k) (l : IsLongEnough (full_of k) s) (h : j ≤ 2 ^ k) where
      pub full_part_length : length (shown_part (full_of k) s j) ≡ (j * (2 * k + 4) + (2 * k + 4) - 1) / 8 + 1 - j * (2 * k + 4) / 8
      full_part_length = Refusals.part_length (full_of k) s j (p, usual_guards) l (omega arith)

      pub full_part_from : shown_from (full_of k) s j ≡ j * (2 * k + 4) / 8
      full_part_from = Refusals.part_from (full_of k) s j (p, usual_guards) l (omega arith)

      pub full_part_bytes : (i : ℕ) → i < length (shown_part (full_of k) s j) → get_or (shown_part (full_of k) s j) i 0 ≡ get_or s (j * (2 * k + 4) / 8 + i) 0
      full_part_bytes = Refusals.part_bytes (full_of k) s j (p, usual_guards) l (omega arith)
