-- The exact values that a node and a reciprocal stand for, counted in their units.
-- Assumes nothing.
use mathlib.Core.Path.{◌≡◌, ◌∙◌, ap}
use Prim.Native.Nat.{ℕ, ◌+◌, ◌*◌, ◌^◌}
use native.Mathlib.Omega.{arith}
use lib.Pow.{pow-add}
use Rattle.units.specs.Units.{table_units_in_one, ulps_in_one}

-- 2^(3k+a+1) / i is 2^k / i in table units
pub node_exact : (k a : ℕ) → 2 ^ (3 * k + (a + 1)) ≡ table_units_in_one k a * 2 ^ k
node_exact k a =
    ap (λ (e : ℕ). 2 ^ e) {x = 3 * k + (a + 1)} {y = 2 * k + (a + 1) + k} (omega arith) ∙ pow-add 2 (2 * k + (a + 1)) k

-- 2^(n+2k+1) / X is 2^n / X in ulps
pub reciprocal_exact : (k n : ℕ) → 2 ^ (n + 2 * k + 1) ≡ ulps_in_one k * 2 ^ n
reciprocal_exact k n = ap (λ (e : ℕ). 2 ^ e) {x = n + 2 * k + 1} {y = 2 * k + 1 + n} (omega arith) ∙ pow-add 2 (2 * k + 1) n
