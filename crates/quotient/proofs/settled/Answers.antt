-- `quotient::settled` meets its contract: a guess that passes the test is the quotient, and else it is divided for.
-- Assumes nothing.
use Rattle.std.proofs.Common.{sym, ◌∙◌}
use Rattle.quotient.specs.Inner.{numerator_bits}
use Rattle.quotient.proofs.Laws.{passed}
use Rattle.quotient.proofs.settled.Goals as goal

pub returns-then-rounds_up : goal.returns-then-rounds_up
returns-then-rounds_up c =
    let a = c.args in
    passed (numerator_bits a.numerator) a.divisor a.guess (sym c.rounds_up.ensures ∙ c.if-rounds_up.true)
