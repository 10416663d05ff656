-- `Operand::limits` meets its contract: n by its range, X by one shift.
-- Assumes nothing.
use mathlib.Core.Path.{◌∙◌}
use Prim.Native.Nat.{◌/◌, ◌^◌}
use native.Mathlib.Omega.{arith}
use borrow.Author.Tests.{ne_eqb}
use Rattle.operand.proofs.Laws.{in_count, normalised_high}
use Rattle.operand.proofs.Operand.limits.Goals as goal

pub returns-then-high-ne1-clause-value : goal.returns-then-high-ne1-clause-value
returns-then-high-ne1-clause-value c =
    let o = c.args.self in
    rw (
      in_count o.n (omega (arith, c.if-self-lt-LEAST_BITS.false)) (omega (arith, c.if-self-gt-MOST_BITS.false)),
      normalised_high o.n o.x ∙ ne_eqb (o.x / 2 ^ o.n) 1 (λ e. omega (arith, c.if-high-ne1.true, c.high.ensures, e)),
    )
