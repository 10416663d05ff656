-- The test of guard bits, and their ranges in numbers.
-- Assumes nothing.
use mathlib.Core.Path.{◌≡◌, ap₂}
use mathlib.Core.Bool.{true, and-eq-true_iff, ◌&&◌}
use Prim.Native.Nat.{◌≤◌}
use native.Mathlib.Omega.{arith}
use lib.Dec.{eqb, leb}
use borrow.Author.Tests.{leb-true, le-leb, eqb-true}
use Rattle.format.specs.GuardBits.{least_table, greatest_table, least_input, greatest_input, guard_bits, guards_in, are_usual}
use Rattle.format.specs.declared.guard_bits.GuardBits.{GuardBits}

-- a is from 2 to 4 and b from 3 to 5
pub record InRange (g : GuardBits) : Type 0 where
  pub table_least : 2 ≤ g.table
  pub table_most : g.table ≤ 4
  pub input_least : 3 ≤ g.input
  pub input_most : g.input ≤ 5

module _ (g : GuardBits) where
  -- what the test passes is so
  pub guards-in : guards_in g ≡ true → InRange g
  guards-in e =
      let both = (and-eq-true_iff (leb least_table g.table && leb g.table greatest_table) (leb least_input g.input && leb g.input greatest_input)).0 e in
      let table = (and-eq-true_iff (leb least_table g.table) (leb g.table greatest_table)).0 both.0 in
      let input = (and-eq-true_iff (leb least_input g.input) (leb g.input greatest_input)).0 both.1 in
      record {
        table_least = leb-true 2 g.table table.0;
        table_most = leb-true g.table 4 table.1;
        input_least = leb-true 3 g.input input.0;
        input_most = leb-true g.input 5 input.1;
      }

  -- and what is so passes
  pub in_guards : InRange g → guards_in g ≡ true
  in_guards r = simp (le-leb 2 g.table r.table_least, le-leb g.table 4 r.table_most, le-leb 3 g.input r.input_least, le-leb g.input 5 r.input_most)

  -- and what is told to be usual is that
  pub usual-guards : are_usual g ≡ true → g ≡ guard_bits 2 3
  usual-guards e =
      let both = (and-eq-true_iff (eqb g.table 2) (eqb g.input 3)).0 e in
      ap₂ guard_bits (eqb-true g.table 2 both.0) (eqb-true g.input 3 both.1)

-- the usual guard bits are in range
pub usual-in-range : InRange (guard_bits 2 3)
usual-in-range = record { table_least = omega arith; table_most = omega arith; input_least = omega arith; input_most = omega arith }
