-- Reading digit by digit: what is found from a value and the bytes that are left.
-- Assumes nothing.
use mathlib.Core.Path.{◌≡◌, refl, ◌∙◌}
use mathlib.Core.Logic.{⊎_elim}
use mathlib.Core.Bool.{Bool, true, false, cond, ◌&&◌}
use mathlib.Core.List.{List}
use Prim.Native.Nat.{ℕ, ◌+◌, ◌-◌, ◌*◌, ◌^◌, ◌≤◌, ◌<◌}
use native.Mathlib.Numerals.{add-one}
use native.Mathlib.Omega.{arith}
use borrow.Author.Tests.{le-ltb, le-leb, lt-leb}
use lib.Dec.{ltb}
use lib.ListN.{length, drop, get_or}
use lib.Seq.{drop-cons}
use Rattle.std.specs.Prelude.{Option, Some, None}
use Rattle.std.specs.Str.{all_ascii_digits}
use Rattle.bools.proofs.Bools.{below_or_not}
use Rattle.decimal.specs.Decimal.{value_from}
use Rattle.decimal.proofs.Laws.{value-from}

-- what is found where v was read and the bytes s are left
abbrev pub reading_from : ℕ → List ℕ → Option ℕ
reading_from v s = cond (all_ascii_digits s && ltb (value_from v s) (2 ^ 64)) (Some (value_from v s)) None

-- a value that is too large stays too large
from_over : (v : ℕ) (s : List ℕ) → 2 ^ 64 ≤ v → reading_from v s ≡ None
from_over v s h = rw (le-ltb (value_from v s) (2 ^ 64) (omega (arith, value-from v s))) (other (all_ascii_digits s))
  where
    other : (t : Bool) → cond (t && false) (Some (value_from v s)) None ≡ None
    other true = refl
    other false = refl

-- one byte, by its cases
module _ (s : List ℕ) (v at : ℕ) (inside : at < length s) where
  abbrev next : ℕ
  next = get_or s at 0

  pub at_low : next < 48 → reading_from v (drop at s) ≡ None
  at_low h = rw (drop-cons s at 0 inside, lt-leb 48 next h)

  pub at_high : 57 < next → reading_from v (drop at s) ≡ None
  at_high h = rw (drop-cons s at 0 inside, le-leb 48 next (omega arith), lt-leb next 57 h)

  pub at_digit : 48 ≤ next → next ≤ 57
      → reading_from v (drop at s) ≡ reading_from (v * 10 + (next - 48)) (drop (at + 1) s)
  at_digit l h = rw (drop-cons s at 0 inside, add-one, le-leb 48 next l, le-leb next 57 h)

  pub at_over : 48 ≤ next → 2 ^ 64 ≤ v * 10 + (next - 48) → reading_from v (drop at s) ≡ None
  at_over l o =
      let more = v * 10 + (next - 48) in
      ⊎_elim at_high (λ h. at_digit l h ∙ from_over more (drop (at + 1) s) o) (below_or_not 57 next)
