-- What the limits of n and X mean for every list of refusals that begins with them.
-- Assumes nothing.
use mathlib.Core.Path.{◌≡◌}
use mathlib.Core.Bool.{true, false}
use mathlib.Core.List.{List, [], ◌∷◌, ◌++◌}
use Prim.Native.Nat.{ℕ, ◌+◌, ◌^◌, ◌≤◌, ◌<◌}
use borrow.Author.Tests.{not-false}
use Rattle.answers.specs.Refusal.{Refusal, outcome, served, some_applies}
use Rattle.answers.proofs.Earlier.{earlier_decides, earlier_passes, earlier_clear, earlier_none}
use Rattle.operand.specs.Operand.{is_fraction_count, is_normalised}
use Rattle.operand.specs.Refusals.{fraction_refusal, operand_refusal, operand_refusals}
use Rattle.operand.proofs.Laws.{count-in, in_count, normalised_in, in_normalised}

-- both limits are kept: n is from 1 to 63, and X is normalised
pub record OperandKept (n X : ℕ) : Type 0 where
  pub low : 1 ≤ n
  pub high : n ≤ 63
  pub least : 2 ^ n ≤ X
  pub below : X < 2 ^ (n + 1)

module _ (n X : ℕ) where
  -- where one is broken the later refusals play no part
  pub operand_decides : (rs : List Refusal) (v : ℕ) → some_applies (operand_refusals n X) ≡ true → outcome (operand_refusals n X ++ rs) v ≡ outcome (operand_refusals n X) 0
  operand_decides = earlier_decides (operand_refusals n X)

  -- where both are kept the later refusals decide
  pub operand_passes : (rs : List Refusal) (v : ℕ) → some_applies (operand_refusals n X) ≡ false → outcome (operand_refusals n X ++ rs) v ≡ outcome rs v
  operand_passes rs v = earlier_passes rs v (operand_refusals n X)

  -- they are where the two alone would serve the call
  pub operand_clear : served 0 ≡ outcome (operand_refusals n X) 0 → some_applies (operand_refusals n X) ≡ false
  operand_clear = earlier_clear (operand_refusals n X) tt

  pub operand_kept : some_applies (operand_refusals n X) ≡ false → OperandKept n X
  operand_kept e =
      let first = earlier_none (fraction_refusal n) (operand_refusal n X ∷ []) e in
      let count = count-in n (not-false (is_fraction_count n) first.0) in
      let range = normalised_in n X (not-false (is_normalised n X) (earlier_none (operand_refusal n X) [] first.1).0) in
      record { low = count.0; high = count.1; least = range.0; below = range.1 }

  -- and an operand in its ranges keeps both
  pub operand_none : OperandKept n X → some_applies (operand_refusals n X) ≡ false
  operand_none o = rw (in_count n o.low o.high, in_normalised n X o.least o.below)
