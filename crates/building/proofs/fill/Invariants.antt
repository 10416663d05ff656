-- The loop of `building::fill`: before the word of i, as many words are put as divisors came before it. The running
-- divisor is no NaN.
-- Assumes nothing.
use mathlib.Core.Bool.{not}
use lib.Dec.{T}
use lib.Ieee.{is_nan}
use Rattle.building.proofs.Filling.{Filled}
use Rattle.building.proofs.fill.Given as goal

abbrev pub invariant-loop-i : goal.invariant-loop-i
invariant-loop-i l = Filled l.table l.initial.image l.image l.w l.i × T (not (is_nan l.divisor))
