-- The loop of `Writer::finish`: the bits that wait stand at the top of 64, and each turn stores the highest byte of
-- what is left of them.
-- Assumes nothing.
use Rattle.std.proofs.Common.{◌≡◌, ◌*◌, ◌%◌, ◌^◌}
use Rattle.packing.proofs.Storing.{written}
use Rattle.packing.proofs.writing.Writer.finish.Given as goal

abbrev pub invariant-loop-byte : goal.invariant-loop-byte
invariant-loop-byte l = (l.rest ≡ l.initial.rest * 2 ^ (8 * l.byte-index) % 2 ^ 64) × (l.byte-items ≡ written l.initial.byte-items l.initial.rest l.byte-index)
