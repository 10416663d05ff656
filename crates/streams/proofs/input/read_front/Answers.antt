-- `streams::read_front` meets its contract: a read adds what it gave to what stands at the front, and one that fails
-- adds nothing.
-- Assumes nothing.
use mathlib.Core.Path.{◌≡◌, sym, ◌∙◌, subst}
use mathlib.Core.List.{List, ◌++◌}
use Prim.Native.Nat.{ℕ, ◌+◌, ◌≤◌}
use native.Mathlib.Omega.{arith}
use lib.ListN.{length, take}
use lib.Seq.{length-take-le, take_at, drop_at, take-add, take-append-le}
use borrow.Rule.Slice.PartMut.{put_mid, post_of}
use Rattle.std.specs.Io.KnownBytes.{Consumes}
use Rattle.std.proofs.KnownBytes.{Consumes-trans, Consumes-kept}
use Rattle.streams.proofs.input.read_front.Goals as goal
use Rattle.streams.proofs.input.read_front.Goals.{in-Ok, in-Err}

module _ (s t : List ℕ) (at k : ℕ) (within : at ≤ length s) where
  -- what stands before `at` stays, where part of s from there on becomes t
  front_kept : take at (put_mid at k s t) ≡ take at s
  front_kept = take_at (take at s) (t ++ post_of at k s) at (length-take-le at s within)

  -- and n bytes more are those at the front of t
  front_more : (n : ℕ) → n ≤ length t → take (at + n) (put_mid at k s t) ≡ take at s ++ take n t
  front_more n fits =
      take-add at n (put_mid at k s t)
      ∙ rw (
        front_kept,
        drop_at (take at s) (t ++ post_of at k s) at (length-take-le at s within),
        take-append-le n t (post_of at k s) fits,
      )

pub loop-preserved : goal.loop-preserved
loop-preserved g c =
    let l = c.loop in
    let s = l.buffer in
    let t = c.read.new.buf in
    elim c.match-read.branch [
      | in-Ok w ↦
          let read = w.in-Ok.ensures in
          let more = front_more s t l.done _ l.invariant.0 w.in-Ok.n read.bound.0 in
          let lost = Consumes-trans _ _ _ _ _ l.invariant.2 read.bytes.0 in
          (omega (arith, w.done-is, read.bound), omega arith, rw w.done-is (subst (Consumes _ _) (sym more) lost))
      | in-Err w ↦
          let same = front_kept s t l.done _ l.invariant.0 in
          let lost = Consumes-kept _ _ _ _ l.invariant.2 w.in-Err.ensures.bytes in
          (omega (arith, w.done-is), omega arith, rw w.done-is (subst (Consumes _ _) (sym same) lost))
    ]
