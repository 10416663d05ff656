-- One ulp is 2^a table units.
-- Assumes nothing.
use mathlib.Core.Path.{◌≡◌, ap}
use Prim.Native.Nat.{ℕ, ◌+◌, ◌*◌, ◌^◌}
use native.Mathlib.Nat.{mul-pos}
use native.Mathlib.Omega.{arith}
use lib.Pow.{pow-add, pow_pos}
use Rattle.units.specs.Units.{table_units_in_one, ulps_in_one, table_units_in_ulp}

-- at every precision, and with any number of table guard bits, as many table units make one as the ulps that make one
-- have; the powers are said of 2^(2k) × 2^a, with more than is needed, so that definitions of which this is false are
-- refused with numbers at which it fails
pub ulp_in_units : (k a : ℕ) → table_units_in_one k a ≡ table_units_in_ulp a * ulps_in_one k
ulp_in_units k a =
    omega (
      arith,
      pow-add 2 (2 * k) a,
      pow-add 2 (2 * k) (a + 1),
      ap (λ (x : ℕ). 2 ^ (2 * k) * x) (pow-add 2 a 1),
      pow-add 2 (2 * k) 1,
      ap (λ (x : ℕ). 2 ^ a * x) (pow-add 2 (2 * k) 1),
      ap (λ (x : ℕ). 2 ^ a * x) (pow-add 2 (2 * k) 2),
      mul-pos (pow_pos (2 * k)) (pow_pos a),
    )
