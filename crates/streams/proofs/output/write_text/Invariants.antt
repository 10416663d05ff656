-- The loop of `streams::write_text`: the front of the text has been written.
-- Assumes nothing.
use Prim.Native.Nat.{◌≤◌}
use lib.ListN.{length, take}
use Rattle.std.specs.Io.KnownBytes.{Appends}
use Rattle.streams.proofs.output.write_text.Given as goal

abbrev pub invariant-loop : goal.invariant-loop
invariant-loop g l =
    (l.done ≤ length l.text)
    × Appends (g.W.Write.contents l.fn.output) (g.W.Write.contents l.output) (take l.done l.text)
