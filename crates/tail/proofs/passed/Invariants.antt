-- The loop of `tail::passed`: every byte from the first one up to the next is 0, and the blocks that are left are those
-- of the bytes from there on.
-- Assumes nothing.
use mathlib.Core.Path.{◌≡◌}
use Prim.Native.Nat.{◌≤◌}
use lib.ListN.{length, drop}
use Rattle.std.specs.Slice.Iter.{chunks_exact_rest, chunks_exact_size}
use Rattle.tail.specs.Inner.{IsZero}
use Rattle.tail.proofs.passed.Given as goal

abbrev pub invariant-loop-block : goal.invariant-loop-block
invariant-loop-block l = (l.from ≤ l.at) × (l.at ≤ length l.s) × IsZero l.s l.from l.at × (chunks_exact_rest l.block-iterator ≡ drop l.at l.s) × (chunks_exact_size l.block-iterator ≡ l.size)
