-- The words of a format put one by one.
-- Assumes nothing.
use mathlib.Core.Path.{◌≡◌, ap, ◌∙◌}
use mathlib.Core.List.{List, ◌++◌}
use Prim.Native.Nat.{ℕ, ◌*◌, ◌^◌, ◌≤◌, ◌<◌}
use native.Mathlib.Nat.{mul-le-mul}
use native.Mathlib.Omega.{arith}
use lib.ListN.{drop}
use lib.Pow.{pow_mono}
use Rattle.format.specs.Format.{precision_of, table_bits, word_count, word_width, image_length}
use Rattle.format.specs.declared.Format.{Format}
use Rattle.format.proofs.Laws.{width_most, count_most}
use Rattle.packing.specs.Writing.{finish_leaves, writer_before, bytes_before}
use Rattle.packing.proofs.Written.{place-before, words_finished}
use Rattle.nodes.specs.Nodes.{node}
use Rattle.layout.specs.Layout.{Layout, image_of}
use Rattle.image.specs.Image.{image}
use Rattle.image.proofs.Laws.{own_layout}
use Rattle.statements.specs.Terms.{IsOffered, IsLongEnough}

module _ (F : Format) (p : IsOffered F) where
  abbrev k : ℕ
  k = precision_of F

  abbrev a : ℕ
  a = table_bits F

  -- a word can be put
  narrow : word_width F ≤ 32
  narrow = omega (arith, p.0.1, p.1.1, width_most F.form k a)

  -- their bits are far fewer than 2^64
  few : (j : ℕ) → j ≤ word_count F → j * word_width F < 2 ^ 64
  few j h = omega (arith, mul-le-mul upto narrow)
    where
      upto : j ≤ 4097
      upto = omega (arith, h, count_most F.form k, pow_mono p.0.1)

  pub place : (j : ℕ) → j ≤ word_count F → (writer_before (word_width F) (node k a) j).place ≡ j * word_width F
  place j h = place-before (word_width F) (node k a) j (few j h)

  pub finished : (s : List ℕ) → IsLongEnough F s
      → finish_leaves (bytes_before (word_width F) (node k a) s (word_count F)) (writer_before (word_width F) (node k a) (word_count F)) ≡ image F ++ drop (image_length F) s
  finished s l =
      words_finished (word_width F) (node k a) s (word_count F) narrow (few (word_count F) (omega arith)) l
      ∙ ap (λ (t : Layout). image_of t ++ drop (image_length F) s) (own_layout F)
