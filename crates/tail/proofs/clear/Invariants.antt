-- The loop of `tail::clear`: the bytes up to the next one are zeros, and those from there on are as they were.
-- Assumes nothing.
use mathlib.Core.Path.{◌≡◌}
use mathlib.Core.List.{◌++◌}
use lib.ListN.{drop}
use Rattle.tail.specs.Tail.{zeros}
use Rattle.tail.proofs.clear.Given as goal

abbrev pub invariant-loop-byte : goal.invariant-loop-byte
invariant-loop-byte l = l.byte-items ≡ zeros l.byte-index ++ drop l.byte-index l.initial.byte-items
