-- Bits written to the right of an operand.
-- Assumes nothing.
use mathlib.Core.Path.{◌≡◌, refl, ap}
use mathlib.Core.List.{List}
use Prim.Native.Nat.{ℕ, ◌+◌, ◌-◌, ◌*◌, ◌^◌, ◌≤◌, ◌<◌}
use native.Mathlib.Nat.{add-zero}
use native.Mathlib.Omega.{arith}
use lib.Pow.{pow_pos, pow_mono}
use Rattle.format.specs.Format.{asked}
use Rattle.format.specs.declared.Form.{Form}
use Rattle.quotient.specs.Quotient.{rounded_up}
use Rattle.operand.specs.Operand.{cut_operand, cut_bits}
use Rattle.operand.proofs.Laws.{cut_longer, normalised_longer, in_count}
use Rattle.interpolation.specs.Algorithm.{cut_reciprocal}
use Rattle.interpolation.specs.Reciprocal.{reciprocal}
use Rattle.interpolation.specs.Calls.{reciprocal_outcome}

-- of the m bits, which make the number y, the first 2k + b - n are among the first 2k + b fraction bits, and these are
-- zero
module _ (k a b n m X y : ℕ) (h : y < 2 ^ (m - (2 * k + b - n))) where
  cut_same : cut_operand k b (n + m) (X * 2 ^ m + y) ≡ cut_operand k b n X
  cut_same = cut_longer m X y (cut_bits k b) n h

  pub reciprocal_same : reciprocal k a b (n + m) (X * 2 ^ m + y) ≡ reciprocal k a b n X
  reciprocal_same = ap (cut_reciprocal k a b) cut_same

  pub outcome_same : 1 ≤ n → n + m ≤ 63 → (f : Form) (s : List ℕ) → reciprocal_outcome (asked f k a b) s (n + m) (X * 2 ^ m + y) ≡ reciprocal_outcome (asked f k a b) s n X
  outcome_same low most f s =
      let fewer : m - (2 * k + b - n) ≤ m = omega arith in
      let bits : y < 2 ^ m = omega (arith, h, pow_mono fewer) in
      rw (in_count (n + m) (omega (arith, low)) most, in_count n low (omega (arith, most)), normalised_longer m X y n bits, cut_same)

-- zeros
module _ (k a b n m X : ℕ) where
  none : 0 < 2 ^ (m - (2 * k + b - n))
  none = pow_pos (m - (2 * k + b - n))

  pub reciprocal_zeros : reciprocal k a b (n + m) (X * 2 ^ m) ≡ reciprocal k a b n X
  reciprocal_zeros = rw (add-zero (X * 2 ^ m)) at (reciprocal_same k a b n m X 0 none)

  pub outcome_zeros : 1 ≤ n → n + m ≤ 63 → (f : Form) (s : List ℕ) → reciprocal_outcome (asked f k a b) s (n + m) (X * 2 ^ m) ≡ reciprocal_outcome (asked f k a b) s n X
  outcome_zeros low most f s = rw (add-zero (X * 2 ^ m)) at (outcome_same k a b n m X 0 none low most f s)

-- a one, by computation
pub of_64_and_129 : (reciprocal 2 2 3 6 64 ≡ 32) × (reciprocal 2 2 3 (6 + 1) (64 * 2 ^ 1 + 1) ≡ 31)
unfolding rounded_up
of_64_and_129 = (refl, refl)
