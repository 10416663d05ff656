-- The test of a precision's range, and the range in numbers.
-- Assumes nothing.
use mathlib.Core.Path.{◌≡◌}
use mathlib.Core.Bool.{true, and-eq-true_iff}
use Prim.Native.Nat.{ℕ, ◌≤◌}
use lib.Dec.{leb}
use borrow.Author.Tests.{leb-true, le-leb}
use Rattle.precision.specs.Precision.{in_range, least, greatest}

-- what the test passes is from 1 to 12
pub in-range : (k : ℕ) → in_range k ≡ true → (1 ≤ k) × (k ≤ 12)
in-range k e =
    let both = (and-eq-true_iff (leb least k) (leb k greatest)).0 e in
    (leb-true 1 k both.0, leb-true k 12 both.1)

-- and what is from 1 to 12 passes
pub range_in : (k : ℕ) → 1 ≤ k → k ≤ 12 → in_range k ≡ true
range_in k low high = simp (le-leb 1 k low, le-leb k 12 high)
