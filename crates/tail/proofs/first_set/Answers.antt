-- `tail::first_set` meets its contract: every byte that was passed is 0, and the one at which it ends is not, or is not
-- there.
-- Assumes nothing.
use mathlib.Core.Path.{◌≡◌}
use mathlib.Core.Logic.{⊎_elim}
use mathlib.Core.Bool.{false}
use mathlib.Core.List.{List}
use Prim.Native.Nat.{ℕ, ◌*◌, ◌≤◌, ◌<◌}
use native.Mathlib.Omega.{arith}
use Rattle.bools.proofs.Bools.{below_or_not}
use Rattle.tail.specs.Tail.{has_one_from}
use Rattle.tail.specs.Inner.{IsZero}
use Rattle.tail.proofs.Laws.{byte_before, byte_zero, set_one, one_is, one_nowhere}
use Rattle.tail.proofs.first_set.Goals as goal

-- no byte of those that are zero has a one behind the bits of the bytes before the first
none_before : (s : List ℕ) (from r : ℕ) → IsZero s from r → (i : ℕ) → i < r → has_one_from (8 * from) s i ≡ false
none_before s from r zero i h =
    ⊎_elim (λ l. byte_before (8 * from) s i (omega (arith, l))) (λ g. byte_zero (8 * from) s i (zero i g h)) (below_or_not i from)

pub returns-then-s-from : goal.returns-then-s-from
returns-then-s-from c =
    let a = c.args in
    one_nowhere (8 * a.from) a.s.now (λ i h. byte_before (8 * a.from) a.s.now i (omega (arith, h, c.if-s-from.true)))

pub returns-then-s-at-ne0 : goal.returns-then-s-at-ne0
returns-then-s-at-ne0 c =
    let b = 8 * c.args.from in
    let s = c.args.s.now in
    let at = c.loop-at.at in
    let behind : b ≤ 8 * at = omega (arith, c.passed-large.ensures.start, c.passed-small.ensures.start, c.loop-at.auto.at) in
    let set = set_one b s at behind (omega (arith, c.type_inv.s at)) c.if-s-at-ne0.true in
    one_is b s at (omega (arith, c.loop-at-test.true)) set (none_before s c.args.from at c.loop-at.invariant)

pub returns : goal.returns
returns c =
    let s = c.args.s.now in
    one_nowhere (8 * c.args.from) s (λ i h. none_before s c.args.from c.loop-at.at c.loop-at.invariant i (omega (arith, h, c.loop-at-test.false)))
