-- The loop of `tail::is_zero`: the bytes or-ed so far make 0 exactly where each of them is 0.
-- Assumes nothing.
use mathlib.Core.Path.{◌≡◌}
use Rattle.tail.specs.Inner.{IsZero}
use Rattle.tail.proofs.is_zero.Given as goal

abbrev pub invariant-loop-byte : goal.invariant-loop-byte
invariant-loop-byte l = (l.all ≡ 0 → IsZero l.block 0 l.byte-index) × (IsZero l.block 0 l.byte-index → l.all ≡ 0)
