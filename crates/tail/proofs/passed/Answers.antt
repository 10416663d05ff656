-- `tail::passed` meets its contract: a block is the bytes from the next one on, and where it is zero the blocks behind
-- it are left.
-- Assumes nothing.
use mathlib.Core.Path.{◌≡◌, sym, ◌∙◌, ap}
use mathlib.Core.List.{List, ◌++◌}
use Prim.Native.Nat.{ℕ, ◌+◌, ◌-◌, ◌≤◌, ◌<◌}
use native.Mathlib.Omega.{arith}
use lib.ListN.{length, drop, get_or}
use Rattle.std.proofs.lemmas.List.{length-append, length-drop, drop_at, drop-drop, get_or-drop, get_or_append_left}
use Rattle.bools.proofs.Bools.{clash}
use Rattle.tail.specs.Inner.{IsZero}
use Rattle.tail.proofs.Laws.{zero_then}
use Rattle.tail.proofs.passed.Goals as goal

-- a block of n bytes and what is left behind it, which are the bytes from byte `at` on
module _ (s : List ℕ) (at n : ℕ) (block rest : List ℕ) (here : at ≤ length s) (cut : drop at s ≡ block ++ rest) (long : length block ≡ n) where
  block_ends : at + n ≤ length s
  block_ends = omega (arith, here, long, sym (length-drop at s) ∙ ap length cut ∙ length-append block rest)

  rest_is : rest ≡ drop (at + n) s
  rest_is = sym (drop_at block rest n long) ∙ ap (drop n) (sym cut) ∙ drop-drop n at s

  byte_is : (i : ℕ) → i < n → get_or s (at + i) 0 ≡ get_or block i 0
  byte_is i h = sym (get_or-drop at s i 0) ∙ ap (λ (l : List ℕ). get_or l i 0) cut ∙ get_or_append_left block rest 0 i (omega (arith, h, long))

  zero_there : IsZero block 0 (length block) → IsZero s at (at + n)
  zero_there z i f h =
      ap (λ (x : ℕ). get_or s x 0) there ∙ byte_is (i - at) (omega (arith, h)) ∙ z (i - at) (omega arith) (omega (arith, h, long))
    where
      there : i ≡ at + (i - at)
      there = omega (arith, f)

  zero_here : IsZero s at (at + n) → IsZero block 0 (length block)
  zero_here z i f h = sym (byte_is i (omega (arith, h, long))) ∙ z (at + i) (omega arith) (omega (arith, h, long))

pub loop-block-preserved : goal.loop-block-preserved
loop-block-preserved c =
    let a = c.args in
    let turn = c.loop-block in
    let step = c.in-Some.ensures.steps in
    let block = c.in-Some.block.now in
    let cut = sym turn.invariant.3 ∙ step.1.0 in
    let long : length block ≡ a.size = step.1.1 ∙ turn.invariant.4 in
    let more = zero_there a.s.now turn.at a.size block _ turn.invariant.1 cut long (c.is_zero.ensures.0 c.if-not-is_zero.false) in (
      omega (arith, turn.invariant.0),
      block_ends a.s.now turn.at a.size block _ turn.invariant.1 cut long,
      zero_then a.s.now a.from turn.at (turn.at + a.size) turn.invariant.2 more,
      rest_is a.s.now turn.at a.size block _ turn.invariant.1 cut long,
      step.0 ∙ turn.invariant.4,
    )

pub returns-then-not-is_zero : goal.returns-then-not-is_zero
returns-then-not-is_zero c =
    let turn = c.loop-block in
    let step = c.in-Some.ensures.steps.1 in
    let cut = sym turn.invariant.3 ∙ step.0 in
    let zero = zero_here c.args.s.now turn.at c.args.size c.in-Some.block.now _ turn.invariant.1 cut (step.1 ∙ turn.invariant.4) in
    record { start = turn.invariant.0; end = turn.invariant.1; zero = turn.invariant.2; next = λ h z. clash (c.is_zero.ensures.1 (zero z)) c.if-not-is_zero.true }
