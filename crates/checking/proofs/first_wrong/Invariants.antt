-- The loop of `checking::first_wrong`: no word before the pair that is read next is wrong, and a pair that is read is
-- there.
-- Assumes nothing.
use Prim.Native.Nat.{◌*◌, ◌≤◌}
use Rattle.image.specs.Inner.{layout_of}
use Rattle.checking.specs.Inner.{AreRight}
use Rattle.checking.proofs.first_wrong.Given as goal

abbrev pub invariant-loop-pair : goal.invariant-loop-pair
invariant-loop-pair l = (2 * l.pair ≤ l.fn.table.count) × AreRight (layout_of l.fn.table) l.image (2 * l.pair)
