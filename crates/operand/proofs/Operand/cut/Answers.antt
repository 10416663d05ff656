-- `Operand::cut` meets its contract: a shift up by what n leaves of 64 bits, and one down by what s leaves.
-- Assumes nothing.
use mathlib.Core.Path.{refl, ap, ◌∙◌}
use Prim.Native.Nat.{ℕ, ◌-◌, ◌/◌, ◌^◌, ◌≤◌}
use native.Mathlib.Omega.{arith}
use borrow.Author.Tests.{le-leb}
use Rattle.operand.proofs.Laws.{cut_shifted}
use Rattle.operand.proofs.Operand.cut.Goals as goal

pub returns : goal.returns
returns c =
    let a = c.args in
    let few : a.self.n ≤ 63 = omega (arith, c.if-self-gt-MOST_BITS.false) in
    let few_kept : a.s ≤ 63 = omega (arith, c.if-s-gt-MOST_BITS.false) in
    c.high.ensures
    ∙ ap (λ (x : ℕ). x / 2 ^ (64 - a.s)) c.padded.ensures
    ∙ cut_shifted a.s a.self.n 64 a.self.x (omega (arith, few)) (omega (arith, few_kept))
    ∙ rw (le-leb a.self.n 63 few, le-leb a.s 63 few_kept) refl
