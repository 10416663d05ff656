-- `decimal::read` meets its contract: where it stops before the end, no number below 2^64 can come of what is left.
-- Assumes nothing.
use mathlib.Core.Path.{sym, ◌∙◌}
use native.Mathlib.Omega.{arith}
use Rattle.decimal.proofs.Steps.{at_over}
use Rattle.decimal.proofs.read.Goals as goal

pub returns-in_err-checked_mul : goal.returns-in_err-checked_mul
returns-in_err-checked_mul c =
    let l = c.loop-b in
    let over = c.in_err-checked_mul.ensures in
    let none = at_over c.args.s.now l.value l.b-index c.loop-b-test.true (omega arith) (omega arith) in
    c.from_residual.ensures ∙ sym (l.invariant.1 ∙ none)

pub returns-in_err-value : goal.returns-in_err-value
returns-in_err-value c =
    let l = c.loop-b in
    let over = c.in_err-value.ensures in
    let tens = c.in_ok-checked_mul.ensures in
    let none = at_over c.args.s.now l.value l.b-index c.loop-b-test.true (omega arith) (omega arith) in
    c.from_residual-in_err-value.ensures ∙ sym (l.invariant.1 ∙ none)
