-- What a reciprocal is that is given. An answer with the number 0 gives R, and R is within an ulp.
-- Nothing is assumed of the image, of the format, of n or of X.
-- Assumes nothing.
use mathlib.Core.Path.{◌≡◌, ◌∙◌}
use mathlib.Core.Bool.{false}
use mathlib.Core.List.{List, [], ◌∷◌, ◌++◌}
use Prim.Native.Nat.{ℕ, ◌+◌, ◌*◌, ◌^◌, ◌<◌}
use lib.ListN.{length}
use Rattle.format.specs.Format.{precision_of, table_bits, input_bits}
use Rattle.format.specs.declared.Format.{Format}
use Rattle.answers.specs.Refusal.{Refusal, some_applies}
use Rattle.answers.proofs.Order.{served_value}
use Rattle.answers.proofs.Earlier.{none_applies, neither_applies, earlier_none}
use Rattle.layout.specs.Refusals.{word_refusal}
use Rattle.image.specs.Image.{table_of}
use Rattle.image.specs.Refusals.{limits}
use Rattle.image.proofs.Limits.{ImageKept, clear_kept}
use Rattle.operand.specs.Operand.{cut_operand}
use Rattle.operand.specs.Refusals.{operand_refusals}
use Rattle.operand.proofs.Laws.{cut_normalised}
use Rattle.operand.proofs.Limits.{OperandKept, operand_kept}
use Rattle.interpolation.specs.Algorithm.{node_number}
use Rattle.interpolation.specs.Reciprocal.{reciprocal, read_reciprocal, IsWithinUlp}
use Rattle.interpolation.specs.Calls.{cut_refusals, reciprocal_refusals, reciprocal_outcome}
use Rattle.interpolation.proofs.Answers.{read_right}
use Rattle.interpolation.proofs.Bound.{reciprocal_low, reciprocal_high}
use Rattle.interpolation.proofs.Cut.{cut_number_below}

module _ (F : Format) (s : List ℕ) (n X : ℕ) (given : (reciprocal_outcome F s n X).number ≡ 0) where
  abbrev k : ℕ
  k = precision_of F

  abbrev a : ℕ
  a = table_bits F

  abbrev b : ℕ
  b = input_bits F

  abbrev t : ℕ
  t = cut_operand k b n X

  abbrev R : ℕ
  R = (reciprocal_outcome F s n X).value

  -- the refusals of the limits do not apply, nor those of n and X, nor those of the two words
  limits_clear : (some_applies (limits F (length s)) ≡ false)
      × (some_applies (operand_refusals n X ++ cut_refusals F s t) ≡ false)
  limits_clear = neither_applies (limits F (length s)) (operand_refusals n X ++ cut_refusals F s t)
      (none_applies (reciprocal_refusals F s n X) (read_reciprocal F s t) tt given)

  operand_clear : (some_applies (operand_refusals n X) ≡ false) × (some_applies (cut_refusals F s t) ≡ false)
  operand_clear = neither_applies (operand_refusals n X) (cut_refusals F s t) limits_clear.1

  abbrev lower_word : Refusal
  lower_word = word_refusal (table_of F) s (node_number k b t)

  abbrev upper_word : Refusal
  upper_word = word_refusal (table_of F) s (node_number k b t + 1)

  lower_clear : (lower_word.applies ≡ false) × (some_applies (upper_word ∷ []) ≡ false)
  lower_clear = earlier_none lower_word (upper_word ∷ []) operand_clear.1

  -- So precision and guard bits are in their ranges, the image is long enough, and n and X are in their ranges.
  pub given_in_range : ImageKept F s × OperandKept n X
  given_in_range = (clear_kept F s limits_clear.0, operand_kept n X operand_clear.0)

  -- and what is given is R
  pub given_right : R ≡ reciprocal k a b n X
  given_right =
      let o = given_in_range.1 in
      let range = cut_normalised k b n X o.least o.below in
      (served_value (reciprocal_refusals F s n X) (read_reciprocal F s t) tt given).1
      ∙ read_right F s t lower_clear.0 (earlier_none upper_word [] lower_clear.1).0
      (cut_number_below k b t range.0 range.1)

  -- R × X and 2^(n+2k+1) are less than X apart
  pub given_low : 2 ^ (n + 2 * k + 1) < R * X + X
  given_low =
      let g = given_in_range.0.guard in
      let o = given_in_range.1 in
      rw given_right (reciprocal_low k a b g.table_least g.input_least n X o.least o.below)

  pub given_high : R * X < 2 ^ (n + 2 * k + 1) + X
  given_high =
      let g = given_in_range.0.guard in
      let o = given_in_range.1 in
      rw given_right (reciprocal_high k a b g.table_least g.input_least n X o.least o.below)

  pub given_within : IsWithinUlp k n X R
  given_within = (given_low, given_high)
