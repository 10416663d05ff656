-- The loop of `checking::passed`: no word before those that are read next is wrong, and `bit` is where they start.
-- Assumes nothing.
use mathlib.Core.Path.{◌≡◌}
use Prim.Native.Nat.{◌*◌, ◌≤◌}
use Rattle.image.specs.Inner.{layout_of}
use Rattle.checking.specs.Inner.{AreRight}
use Rattle.checking.proofs.passed.Given as goal

abbrev pub invariant-loop-pair : goal.invariant-loop-pair
invariant-loop-pair l = (1 ≤ l.pair) × AreRight (layout_of l.fn.table) l.image (2 * l.pair) × (l.bit ≡ 2 * l.pair * l.fn.table.width)
