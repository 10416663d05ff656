-- The loop of `decimal::read`: what is found from the value so far and the bytes that are left is what is found from
-- all of s.
-- Assumes nothing.
use mathlib.Core.Path.{◌≡◌}
use Prim.Native.Nat.{◌^◌, ◌<◌}
use lib.ListN.{drop}
use Rattle.decimal.specs.Reading.{reading}
use Rattle.decimal.proofs.Steps.{reading_from}
use Rattle.decimal.proofs.read.Given as goal

abbrev pub invariant-loop-b : goal.invariant-loop-b
invariant-loop-b l = (l.value < 2 ^ 64) × (reading l.s ≡ reading_from l.value (drop l.b-index l.s))
