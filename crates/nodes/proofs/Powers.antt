-- The powers of two of a table with a guard bits, as products of 2^k and of the leading one 2^(2k+a).
-- Assumes nothing.
use mathlib.Core.Path.{◌≡◌, sym, ap, ◌∙◌}
use Prim.Native.Nat.{ℕ, zero, suc, ◌+◌, ◌*◌, ◌^◌, ◌≤◌, ◌<◌}
use native.Mathlib.Omega.{arith}
use lib.Pow.{pow-add, pow_pos, pow_mono, pow-lt}
use Rattle.nodes.proofs.Laws.{Shape}

-- 2 × 2^n
pub double : (n : ℕ) → 2 ^ (n + 1) ≡ 2 * 2 ^ n
double n = omega (arith, pow-add 2 n 1)

-- the numerator is twice the leading one, times the number of words
pub numerator : (k a : ℕ) → 2 ^ (3 * k + (a + 1)) ≡ 2 * 2 ^ (2 * k + a) * 2 ^ k
numerator k a =
    ap (λ (n : ℕ). 2 ^ n) {x = 3 * k + (a + 1)} {y = (2 * k + a + 1) + k} (omega arith)
    ∙ pow-add 2 (2 * k + a + 1) k
    ∙ ap (λ (x : ℕ). x * 2 ^ k) (double (2 * k + a))

-- the leading one is at least twice the number of words, or one and one
pub shape : (k a : ℕ) → Shape (2 ^ (2 * k + a)) (2 ^ k)
shape zero a = record { some = pow_pos 0; wide = omega (arith, pow_pos (2 * 0 + a)) }
shape (suc q) a =
    let l : suc q + 1 ≤ 2 * suc q + a = omega arith in
    record { some = pow_pos (suc q); wide = omega (arith, double (suc q), pow_mono l) }

-- the bound of the difference of neighbours, times the number of words, is twice the leading one
pub step : (k a : ℕ) → 2 ^ (k + (a + 1)) * 2 ^ k ≡ 2 * 2 ^ (2 * k + a)
step k a =
    sym (pow-add 2 (k + (a + 1)) k)
    ∙ ap (λ (n : ℕ). 2 ^ n) {x = (k + (a + 1)) + k} {y = 2 * k + a + 1} (omega arith)
    ∙ double (2 * k + a)

-- and is above the number of words
pub step_wide : (k a : ℕ) → 2 ^ k < 2 ^ (k + (a + 1))
step_wide k a = pow-lt (omega arith)
