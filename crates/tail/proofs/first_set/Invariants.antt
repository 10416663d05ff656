-- The loop of `tail::first_set`: every byte from the first one up to the next is 0.
-- Assumes nothing.
use Rattle.tail.specs.Inner.{IsZero}
use Rattle.tail.proofs.first_set.Given as goal

abbrev pub invariant-loop-at : goal.invariant-loop-at
invariant-loop-at l = IsZero l.s l.from l.at
