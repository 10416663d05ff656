-- `bits::padded` meets its contract: bits that are shifted past the highest place fall off.
-- Assumes nothing.
use mathlib.Core.Path.{◌≡◌, sym, ap, ◌∙◌}
use Prim.Native.Nat.{ℕ, ◌+◌, ◌-◌, ◌*◌, ◌%◌, ◌^◌}
use native.Mathlib.Nat.{mul-mod_left}
use native.Mathlib.Omega.{arith}
use lib.Pow.{pow-add}
use Rattle.bits.proofs.padded.Goals as goal

-- x × 2^n is a multiple of 2^64
pub returns-then-count-ge64 : goal.returns-then-count-ge64
returns-then-count-ge64 c =
    let x = c.args.x in
    let n = c.args.count in
    let all : n ≡ n - 64 + 64 = omega (arith, c.if-count-ge64.true) in
    sym (ap (λ (y : ℕ). y % 2 ^ 64) {x = x * 2 ^ n} {y = x * 2 ^ (n - 64) * 2 ^ 64}
    (omega (arith, ap (λ (e : ℕ). x * 2 ^ e) all, ap (λ (y : ℕ). x * y) (pow-add 2 (n - 64) 64)))
    ∙ mul-mod_left (x * 2 ^ (n - 64)) (2 ^ 64))
