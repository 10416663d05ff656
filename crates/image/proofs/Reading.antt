-- What the image's own bytes give for a node: none where its word is wrong, and else what the buffer's word stands for.
-- Assumes nothing.
use mathlib.Core.Path.{◌≡◌, refl, sym, ap, ◌∙◌}
use mathlib.Core.Bool.{Bool, true, false, cond}
use mathlib.Core.List.{List}
use Prim.Native.Nat.{ℕ, ◌%◌, ◌^◌, ◌≤◌, ◌<◌}
use native.Mathlib.Nat.{mod-eq_of_lt}
use native.Mathlib.Omega.{arith}
use lib.Dec.{ltb}
use lib.Pow.{pow_mono}
use borrow.Author.Tests.{ltb-true, ltb-false, eq-eqb, ne_eqb}
use Rattle.std.proofs.Common.{Option, Some, None}
use Rattle.units.specs.declared.TableUnits.{TableUnits}
use Rattle.format.specs.Format.{precision_of, table_bits, word_width, word_count, count_in}
use Rattle.format.specs.declared.Format.{Format}
use Rattle.format.specs.declared.Form.{Form}
use Rattle.format.specs.declared.Form.TheVariants.{Plain, Full}
use Rattle.format.proofs.Laws.{width_most, count_least}
use Rattle.nodes.specs.Nodes.{decode_in}
use Rattle.nodes.specs.Inner.{lead_in, quotients_of, judged_word}
use Rattle.packing.specs.Inner.{word_read}
use Rattle.packing.proofs.Words.{word_lt}
use Rattle.packing.proofs.Reading.{read_there}
use Rattle.layout.specs.Refusals.{word_refusal}
use Rattle.image.specs.Image.{table_of, word_of, node_of}
use Rattle.image.specs.Inner.{node_in_bytes}
use Rattle.image.proofs.Limits.{ImageKept}
use Rattle.image.proofs.OwnBytes.{own_bytes, own_word}
use Rattle.image.proofs.Judging.{refusal_tells, word_given, last_passes}

-- a node with no word is the leading one, whatever word is given
lead_last : (f : Form) (k a j word : ℕ) → count_in f k ≤ j → j ≤ 2 ^ k → lead_in f k a ≡ decode_in f k a j word
lead_last Plain k a j word past h = rw (eq-eqb j (2 ^ k) (omega (arith, past, h))) refl
lead_last Full k a j word past h = absurd (omega (arith, past, h))

-- what is given for a node, by whether its word is wrong
abbrev pub given_node : Format → List ℕ → ℕ → Bool → Option TableUnits
given_node F s j wrong = cond wrong None (Some (record { 0 = node_of F s j }))

module _ (F : Format) (s : List ℕ) (j : ℕ) (kept : ImageKept F s) (in-table : j ≤ 2 ^ precision_of F) where
  -- the word that is read is the buffer's, and has its place in 32 bits
  module _ (there : j < word_count F) where
    narrow : word_width F ≤ 30
    narrow = omega (arith, kept.high, kept.guard.table_most, width_most F.form (precision_of F) (table_bits F))

    word_is : word_read (word_width F) (own_bytes F s) j ≡ word_of F s j
    word_is = read_there (word_width F) (own_bytes F s) j (omega (arith, narrow)) ∙ own_word F s kept j there

    low_is : word_read (word_width F) (own_bytes F s) j % 2 ^ 32 ≡ word_of F s j
    low_is =
        let fits : word_of F s j < 2 ^ 32 = omega (arith, word_lt (word_width F) s j, pow_mono narrow) in
        ap (λ (w : ℕ). w % 2 ^ 32) word_is ∙ mod-eq_of_lt fits

  pub own_node : node_in_bytes (quotients_of F) (own_bytes F s) j ≡ given_node F s j (word_refusal (table_of F) s j).applies
  own_node = by (ltb j (word_count F)) refl
    where
      by : (b : Bool) → ltb j (word_count F) ≡ b → node_in_bytes (quotients_of F) (own_bytes F s) j ≡ given_node F s j (word_refusal (table_of F) s j).applies
      by true e =
          let there = ltb-true j (word_count F) e in
          rw (ne_eqb j (word_count F) (λ same. omega (arith, there, same)))
          (ap (judged_word (quotients_of F) j) (low_is there)
          ∙ word_given F s j there kept.high kept.guard.table_most
          ∙ ap (given_node F s j) (sym (refusal_tells F s j there)))
      by false e =
          let past = ltb-false j (word_count F) e in
          rw (eq-eqb j (word_count F) (omega (arith, past, in-table, count_least F.form (precision_of F))))
          (ap (λ (c : ℕ). Some (record { 0 = c })) (lead_last F.form (precision_of F) (table_bits F) j (word_of F s j) past in-table)
          ∙ ap (given_node F s j) (sym (last_passes F s j past)))
