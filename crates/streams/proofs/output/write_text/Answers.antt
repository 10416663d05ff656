-- `streams::write_text` meets its contract: a write adds what it took to what has been written, and one that fails adds
-- nothing.
-- Assumes nothing.
use mathlib.Core.Path.{◌≡◌, sym, ap, ◌∙◌, subst}
use mathlib.Core.List.{List, ◌++◌}
use Prim.Native.Nat.{ℕ, ◌+◌, ◌-◌, ◌≤◌}
use native.Mathlib.Omega.{arith}
use lib.ListN.{length, take, drop}
use lib.Seq.{take-add, take-take}
use Rattle.std.specs.Io.KnownBytes.{Appends}
use Rattle.std.proofs.KnownBytes.{Appends-trans, Appends-kept}
use Rattle.streams.proofs.output.write_text.Goals as goal
use Rattle.streams.proofs.output.write_text.Goals.{in-Ok, in-Err}

-- the front of s with n bytes more, of those m that stand behind it
front_more : (s : List ℕ) (at n m : ℕ) → n ≤ m → take (at + n) s ≡ take at s ++ take n (take m (drop at s))
front_more s at n m h = take-add at n s ∙ ap (λ (r : List ℕ). take at s ++ r) (sym (take-take n m (drop at s) h))

pub loop-preserved : goal.loop-preserved
loop-preserved g c =
    let l = c.loop in
    elim c.match-write.branch [
      | in-Ok w ↦
          let write = w.in-Ok.ensures in
          let s = c.args.text.now in
          let more = front_more s l.done w.in-Ok.n (length s - l.done) (omega (arith, write.bound)) in
          let grown = Appends-trans _ _ _ _ _ l.invariant.1 write.bytes in
          (omega (arith, w.done-is, write.bound), rw w.done-is (subst (Appends _ _) (sym more) grown))
      | in-Err w ↦
          (omega (arith, w.done-is), rw w.done-is (Appends-kept _ _ _ _ l.invariant.1 w.in-Err.ensures.bytes))
    ]
