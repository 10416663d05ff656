-- `quotient::rounded_up` meets its contract: what std rounds up is the quotient rounded down where that is exact, and
-- else one more.
-- Assumes nothing.
use mathlib.Core.Path.{◌≡◌, refl, sym, ◌∙◌}
use native.Mathlib.Nat.{lt-div-mul-add}
use native.Mathlib.Omega.{arith}
use Prim.Native.Nat.{ℕ, zero, suc, ◌+◌, ◌/◌, ◌%◌, ◌<◌, min}
use Rattle.std.proofs.Common.{div-mul-le_self}
use Rattle.std.specs.Int.{div_ceil}
use Rattle.quotient.specs.Quotient.{rounded_up}
use Rattle.quotient.proofs.Laws.{by_zero, unique, one_more}
use Rattle.quotient.proofs.rounded_up.Goals as goal

div_ceil-rounded_up : (M i : ℕ) → 0 < i → div_ceil M i ≡ rounded_up M i
div_ceil-rounded_up M i pos = by (M % i) refl
  where
    by : (r : ℕ) → M % i ≡ r → div_ceil M i ≡ rounded_up M i
    by zero e = rw e (unique M i pos (M / i + 0) (omega (arith, e)) (omega (arith, div-mul-le_self M i)))
    by (suc r) e = let one : min 1 (suc r) ≡ 1 = omega arith in rw (e, one) (sym (one_more M i pos (M / i) (omega (arith, e, div-mul-le_self M i)) (lt-div-mul-add {a = M} pos)))

pub returns-then-divisor-eq0 : goal.returns-then-divisor-eq0
returns-then-divisor-eq0 c = rw c.if-divisor-eq0.true (sym (by_zero _))

pub returns : goal.returns
returns c = c.div_ceil.ensures ∙ div_ceil-rounded_up c.args.numerator c.args.divisor (omega (arith, c.if-divisor-eq0.false))
