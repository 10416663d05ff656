-- The two ends of a piece of a table with the usual guard bits, had in one reading of the image's own bytes: what
-- both words stand for, and what the test by a product tells of them.
-- Assumes nothing.
use mathlib.Core.Path.{◌≡◌, refl, sym, ap, ◌∙◌}
use mathlib.Core.Bool.{Bool, true, false, not}
use mathlib.Core.List.{List}
use Prim.Native.Nat.{ℕ, ◌+◌, ◌*◌, ◌/◌, ◌%◌, ◌^◌, ◌≤◌, ◌<◌}
use native.Mathlib.Omega.{arith}
use lib.Dec.{ltb}
use borrow.Author.Tests.{ltb-true, ltb-false, eq-eqb, ne_eqb}
use Rattle.format.specs.Format.{precision_of, table_bits, word_width, word_count, plain_of, full_of, usual}
use Rattle.format.specs.declared.Form.{Form}
use Rattle.format.specs.declared.Form.TheVariants.{Plain, Full}
use Rattle.format.specs.declared.Format.{Format}
use Rattle.format.proofs.Laws.{width_least, count_least}
use Rattle.nodes.specs.Nodes.{leading_one, decode_under}
use Rattle.nodes.specs.Inner.{lead_in}
use Rattle.nodes.proofs.Nodes.{last_judged}
use Rattle.packing.specs.Packing.{Bytes, field_at}
use Rattle.packing.proofs.Words.{words_high, words_low, word_past}
use Rattle.layout.specs.Refusals.{word_refusal}
use Rattle.image.specs.Image.{table_of, word_of, node_of}
use Rattle.image.proofs.Laws.{whole_bytes}
use Rattle.image.proofs.Limits.{ImageKept}
use Rattle.image.proofs.OwnBytes.{own_bytes, own_length, own_word}
use Rattle.inverting.specs.Inner.{lower_end, upper_end, passes}
use Rattle.image.proofs.Judging.{word_tells, refusal_tells, word_value, last_passes}

-- both words, as they are read
abbrev pub both_words : Format → List ℕ → ℕ → ℕ
both_words F s j = field_at (own_bytes F s) (j * word_width F) (2 * word_width F)

-- what each stands for
abbrev pub lower_node : Format → List ℕ → ℕ → ℕ
lower_node F s j = lower_end F (both_words F s j) j

abbrev pub upper_node : Format → List ℕ → ℕ → ℕ
upper_node F s j = upper_end F (both_words F s j) j

module _ (F : Format) (s : List ℕ) (j : ℕ) (kept : ImageKept F s) (bytes : Bytes (own_bytes F s)) where
  one : 1 ≤ word_width F
  one = omega (arith, kept.guard.table_least, width_least F.form (precision_of F) (table_bits F))

  -- the word of node j, which has one
  module _ (there : j < word_count F) where
    lower_word : both_words F s j / 2 ^ word_width F ≡ word_of F s j
    lower_word = words_high (word_width F) (own_bytes F s) j bytes one ∙ own_word F s kept j there

    value_there : lower_node F s j ≡ node_of F s j
    value_there = ap (decode_under (lead_in F.form (precision_of F) (table_bits F)) j) lower_word
        ∙ word_value F s j there

    tells_there : (word_refusal (table_of F) s j).applies
        ≡ not (passes (precision_of F) (table_bits F) j (lower_node F s j))
    tells_there =
        refusal_tells F s j there
        ∙ word_tells F s j there
        (ap (λ (x : ℕ). passes (precision_of F) (table_bits F) j
        (decode_under (lead_in F.form (precision_of F) (table_bits F)) j x)) lower_word)

  -- the word of node j + 1, where it has one
  upper_word : both_words F s j % 2 ^ word_width F ≡ word_of F (own_bytes F s) (j + 1)
  upper_word = words_low (word_width F) (own_bytes F s) j bytes one

  module _ (there : j + 1 < word_count F) where
    next_word : both_words F s j % 2 ^ word_width F ≡ word_of F s (j + 1)
    next_word = upper_word ∙ own_word F s kept (j + 1) there

    next_value : upper_node F s j ≡ node_of F s (j + 1)
    next_value = ap (decode_under (lead_in F.form (precision_of F) (table_bits F)) (j + 1)) next_word
        ∙ word_value F s (j + 1) there

    next_tells : (word_refusal (table_of F) s (j + 1)).applies
        ≡ not (passes (precision_of F) (table_bits F) (j + 1) (upper_node F s j))
    next_tells =
        refusal_tells F s (j + 1) there
        ∙ word_tells F s (j + 1) there
        (ap (λ (x : ℕ). passes (precision_of F) (table_bits F) (j + 1)
        (decode_under (lead_in F.form (precision_of F) (table_bits F)) (j + 1) x)) next_word)

-- behind the last plain word there are no bytes, which are read as zero bits, and those pass for the last node
module _ (k : ℕ) (s : List ℕ) (j : ℕ) (kept : ImageKept (plain_of k) s) (bytes : Bytes (own_bytes (plain_of k) s))
    (last : j + 1 ≡ 2 ^ k) where
  no_word : both_words (plain_of k) s j % 2 ^ word_width (plain_of k) ≡ 0
  no_word =
      upper_word (plain_of k) s j kept bytes
      ∙ ap (word_of (plain_of k) (own_bytes (plain_of k) s)) last
      ∙ word_past (word_width (plain_of k)) (own_bytes (plain_of k) s) (2 ^ k)
      (omega (arith, own_length (plain_of k) s kept, whole_bytes k kept.low))

  last_value : upper_node (plain_of k) s j ≡ node_of (plain_of k) s (j + 1)
  last_value =
      ap (decode_under (leading_one k 2) (j + 1)) no_word
      ∙ rw (ne_eqb (j + 1) 0 (λ e. omega (arith, e)), eq-eqb (j + 1) (2 ^ k) last) (omega arith)

  last_tells : (word_refusal (table_of (plain_of k)) s (j + 1)).applies
      ≡ not (passes k 2 (j + 1) (upper_node (plain_of k) s j))
  last_tells =
      last_passes (plain_of k) s (j + 1) (omega (arith, last))
      ∙ ap not (sym (ap (λ (x : ℕ). passes k 2 (j + 1) (decode_under (leading_one k 2) (j + 1) x)) no_word
      ∙ ap (λ (i : ℕ). passes k 2 i (decode_under (leading_one k 2) i 0)) last
      ∙ last_judged k 2))

-- the upper end of a piece that begins at node j, by the form: in full words node j + 1 has a word in any case
module _ (k : ℕ) (s : List ℕ) (j : ℕ) (below : j < 2 ^ k) where
  value_in : (f : Form) → ImageKept (usual f k) s → Bytes (own_bytes (usual f k) s)
      → upper_node (usual f k) s j ≡ node_of (usual f k) s (j + 1)
  value_in Plain kept bytes = by (ltb (j + 1) (2 ^ k)) refl
    where
      by : (b : Bool) → ltb (j + 1) (2 ^ k) ≡ b → upper_node (plain_of k) s j ≡ node_of (plain_of k) s (j + 1)
      by true e = next_value (plain_of k) s j kept bytes (ltb-true (j + 1) (2 ^ k) e)
      by false e = last_value k s j kept bytes (omega (arith, below, ltb-false (j + 1) (2 ^ k) e))
  value_in Full kept bytes = next_value (full_of k) s j kept bytes (omega (arith, below))

  tells_in : (f : Form) → ImageKept (usual f k) s → Bytes (own_bytes (usual f k) s)
      → (word_refusal (table_of (usual f k)) s (j + 1)).applies ≡ not (passes k 2 (j + 1) (upper_node (usual f k) s j))
  tells_in Plain kept bytes = by (ltb (j + 1) (2 ^ k)) refl
    where
      by : (b : Bool) → ltb (j + 1) (2 ^ k) ≡ b
          → (word_refusal (table_of (plain_of k)) s (j + 1)).applies
          ≡ not (passes k 2 (j + 1) (upper_node (plain_of k) s j))
      by true e = next_tells (plain_of k) s j kept bytes (ltb-true (j + 1) (2 ^ k) e)
      by false e = last_tells k s j kept bytes (omega (arith, below, ltb-false (j + 1) (2 ^ k) e))
  tells_in Full kept bytes = next_tells (full_of k) s j kept bytes (omega (arith, below))

-- so both ends are what the buffer gives for nodes j and j + 1, and the test tells of their words
module _ (f : Form) (k : ℕ) (s : List ℕ) (j : ℕ) (kept : ImageKept (usual f k) s) (below : j < 2 ^ k)
    (bytes : Bytes (own_bytes (usual f k) s)) where
  there : j < word_count (usual f k)
  there = omega (arith, below, count_least f k)

  pub lower_value : lower_node (usual f k) s j ≡ node_of (usual f k) s j
  lower_value = value_there (usual f k) s j kept bytes there

  pub lower_tells : (word_refusal (table_of (usual f k)) s j).applies ≡ not (passes k 2 j (lower_node (usual f k) s j))
  lower_tells = tells_there (usual f k) s j kept bytes there

  pub upper_value : upper_node (usual f k) s j ≡ node_of (usual f k) s (j + 1)
  upper_value = value_in k s j below f kept bytes

  pub upper_tells : (word_refusal (table_of (usual f k)) s (j + 1)).applies
      ≡ not (passes k 2 (j + 1) (upper_node (usual f k) s j))
  upper_tells = tells_in k s j below f kept bytes
