-- `tail::is_zero` meets its contract: or-ing a byte makes 0 only where both are 0.
-- Assumes nothing.
use mathlib.Core.Path.{◌≡◌, ap₂}
use Prim.Native.Nat.{ℕ}
use native.Mathlib.Omega.{arith}
use lib.Bits.{bit_or, or_add_and, and_le_l, and_le_r}
use lib.ListN.{get_or}
use Rattle.tail.proofs.Laws.{zero_next}
use Rattle.tail.proofs.is_zero.Goals as goal

-- two numbers make 0 only where both are 0
or_none : (a b : ℕ) → bit_or a b ≡ 0 → (a ≡ 0) × (b ≡ 0)
or_none a b e = (omega (arith, e, or_add_and a b, and_le_r a b), omega (arith, e, or_add_and a b, and_le_l a b))

pub loop-byte-preserved : goal.loop-byte-preserved
loop-byte-preserved c =
    let turn = c.loop-byte in
    let s = c.args.block.now in
    let n = turn.byte-index in (
      λ e.
          let none = or_none turn.all (get_or s n 0) e in
          zero_next s 0 n (turn.invariant.0 none.0) none.1,
      λ z. ap₂ bit_or (turn.invariant.1 (λ i f h. z i f (omega (arith, h)))) (z n (omega arith) (omega arith)),
    )
