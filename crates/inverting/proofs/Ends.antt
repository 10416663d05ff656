-- The answer by both words of a piece is that of the buffer, in a table with the usual guard bits.
-- Assumes nothing.
use mathlib.Core.Path.{◌≡◌, sym, ap₂, ◌∙◌}
use mathlib.Core.Bool.{Bool, true, false, cond, not}
use mathlib.Core.List.{List}
use Prim.Native.Nat.{ℕ, ◌+◌, ◌-◌, ◌*◌, ◌/◌, ◌^◌, ◌≤◌, ◌<◌}
use native.Mathlib.Omega.{arith}
use lib.Pow.{shr_lt}
use Rattle.format.specs.Format.{usual, word_width}
use Rattle.format.specs.declared.Form.{Form}
use Rattle.format.specs.declared.Format.{Format}
use Rattle.format.proofs.Laws.{width_most}
use Rattle.packing.specs.Packing.{Bytes}
use Rattle.answers.specs.Refusal.{served}
use Rattle.layout.specs.Refusals.{word_refusal}
use Rattle.image.specs.Image.{table_of}
use Rattle.image.proofs.Limits.{ImageKept}
use Rattle.image.proofs.OwnBytes.{own-bytes}
use Rattle.interpolation.specs.Algorithm.{node_number, fraction, product_sum, chopped}
use Rattle.interpolation.specs.Inner.{cut_outcome}
use Rattle.interpolation.proofs.Cut.{cut_number_below}
use Rattle.inverting.proofs.BothWords as words
use Rattle.interpolation.proofs.Answers.{first-wrong, next_wrong, none_wrong}
use Rattle.inverting.specs.Inner.{both_in, lower_end, upper_end, passes, wrong_at, ends_outcome}

-- the upper of two words in a window
pub word_above : (f : Form) (k window : ℕ) → k ≤ 12 → window < 2 ^ 64
    → both_in (usual f k) window / 2 ^ word_width (usual f k) < 2 ^ word_width (usual f k)
word_above f k window few h =
    let w = word_width (usual f k) in
    let whole : 64 ≡ w + w + (64 - 2 * w) = omega (arith, few, width_most f k 2) in
    shr_lt w w (shr_lt (w + w) (64 - 2 * w) (rw (← whole) h))

module _ (f : Form) (k : ℕ) (s : List ℕ) (t : ℕ) (kept : ImageKept (usual f k) s) (least : 2 ^ (2 * k + 3) ≤ t)
    (most : t < 2 ^ (2 * k + 4)) (bytes : Bytes s) where
  abbrev F : Format
  F = usual f k

  pub cut_below : node_number k 3 t < 2 ^ k
  cut_below = cut_number_below k 3 t least most

  -- both words, as they are read
  abbrev pub both_words : ℕ
  both_words = words.both_words F s (node_number k 3 t)

  -- the word of node j is judged first, then that of node j + 1, and R is interpolated between what they stand for
  pub ends_of_cut : ends_outcome F both_words (node_number k 3 t) (fraction k 3 t) ≡ cut_outcome F s t
  ends_of_cut =
      by (passes k 2 (node_number k 3 t) (lower_end F both_words (node_number k 3 t)))
      (passes k 2 (node_number k 3 t + 1) (upper_end F both_words (node_number k 3 t)))
      (words.lower_tells f k s (node_number k 3 t) kept cut_below (own-bytes F s kept bytes))
      (words.upper_tells f k s (node_number k 3 t) kept cut_below (own-bytes F s kept bytes))
    where
      by : (a b : Bool) → (word_refusal (table_of F) s (node_number k 3 t)).applies ≡ not a
          → (word_refusal (table_of F) s (node_number k 3 t + 1)).applies ≡ not b
          → cond (not a) (wrong_at (node_number k 3 t))
          (cond (not b) (wrong_at (node_number k 3 t + 1))
          (served (chopped k 2 3
          (product_sum k 3 (lower_end F both_words (node_number k 3 t)) (upper_end F both_words (node_number k 3 t))
          (fraction k 3 t)))))
          ≡ cut_outcome F s t
      by false b e d = sym (first-wrong F s t e)
      by true false e d = sym (next_wrong F s t e d)
      by true true e d =
          ap₂ (λ (x y : ℕ). served (chopped k 2 3 (product_sum k 3 x y (fraction k 3 t))))
          (words.lower_value f k s (node_number k 3 t) kept cut_below (own-bytes F s kept bytes))
          (words.upper_value f k s (node_number k 3 t) kept cut_below (own-bytes F s kept bytes))
          ∙ sym (none_wrong F s t e d)
