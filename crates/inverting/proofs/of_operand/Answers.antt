-- `inverting::of_operand` meets its contract: the limits of the precision and the image, those of n and X, and then
-- the cut operand.
-- Assumes nothing.
use mathlib.Core.Path.{◌≡◌, ap, ◌∙◌}
use mathlib.Core.Bool.{false}
use mathlib.Core.List.{List}
use Prim.Native.Nat.{ℕ, ◌+◌, ◌*◌, ◌≤◌}
use native.Mathlib.Omega.{arith}
use lib.ListN.{length}
use Rattle.format.specs.Format.{usual}
use Rattle.format.specs.declared.Form.{Form}
use Rattle.nodes.specs.Inner.{quotients_of}
use Rattle.answers.specs.Refusal.{some_applies}
use Rattle.image.specs.Refusals.{limits}
use Rattle.image.proofs.Limits.{limit_clear, clear_kept}
use Rattle.operand.specs.Refusals.{operand_refusals}
use Rattle.operand.specs.Inner.{cut_fraction}
use Rattle.operand.proofs.Limits.{operand_clear, operand_kept}
use Rattle.interpolation.specs.Calls.{reciprocal_outcome}
use Rattle.interpolation.specs.Inner.{cut_of, cut_outcome}
use Rattle.interpolation.proofs.Answers.{answer_of_cut}
use Rattle.inverting.specs.Inner.{IsCut}
use Rattle.inverting.proofs.CutBits.{whole, bits-below}
use Rattle.inverting.proofs.of_operand.Goals as goal

-- Behind the first test precision and image keep their limits, and behind the second n and X keep theirs.
-- The bits that are handed on are the fraction bits of t.
module _ (f : Form) (k : ℕ) (s : List ℕ) (n X : ℕ) (kept : some_applies (limits (usual f k) (length s)) ≡ false)
    (kept-too : some_applies (operand_refusals n X) ≡ false)
    (bits : ℕ) (cut : bits ≡ cut_fraction (2 * k + 3) n X) where
  few : 2 * k + 3 ≤ 63
  few = omega (arith, (clear_kept (usual f k) s kept).high)

  cut_given : cut_outcome (usual f k) s (cut_of k 3 bits) ≡ reciprocal_outcome (usual f k) s n X
  cut_given =
      ap (cut_outcome (usual f k) s) (whole k 3 n X bits (operand_kept n X kept-too) few cut)
      ∙ answer_of_cut (usual f k) s n X kept kept-too

  cut_is : IsCut f k s bits
  cut_is =
      let a = clear_kept (usual f k) s kept in
      record {
        low = a.low;
        high = a.high;
        long = a.long;
        below = bits-below k 3 n X bits (operand_kept n X kept-too) few cut;
      }

-- behind both
pub returns : goal.returns
returns c =
    let a = c.args in
    let s = a.image.now in
    c.of_cut.ensures
    ∙ cut_given a.form a.k.0 s a.operand.n a.operand.x
    (limit_clear (usual a.form a.k.0) s (rw c.usual.ensures at c.in_ok-table.ensures.refusals))
    (operand_clear a.operand.n a.operand.x c.in_ok-limits.ensures.value)
    c.cut.result c.cut.ensures

pub of_cut-requires : goal.of_cut-requires
of_cut-requires c =
    let a = c.args in
    let s = a.image.now in
    record {
      cut = cut_is a.form a.k.0 s a.operand.n a.operand.x
          (limit_clear (usual a.form a.k.0) s (rw c.usual.ensures at c.in_ok-table.ensures.refusals))
          (operand_clear a.operand.n a.operand.x c.in_ok-limits.ensures.value)
          c.cut.result c.cut.ensures;
      numbers = c.in_ok-table.ensures.numbers ∙ ap quotients_of c.usual.ensures;
    }
