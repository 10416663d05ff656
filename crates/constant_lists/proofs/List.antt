-- A rule of a constant list, proved at all of its entries by one test that is computed over the whole list.
-- Assumes nothing.
use mathlib.Core.Path.{◌≡◌, refl, ap, ◌∙◌}
use mathlib.Core.Bool.{Bool, true, false, cond}
use mathlib.Core.List.{List, [], ◌∷◌}
use Prim.Native.Nat.{ℕ, zero, suc, ◌+◌, ◌<◌}
use native.Mathlib.Nat.{add-zero, zero-add, add-suc, suc-add, le_of_suc-le-suc, not-suc-le-zero}
use native.Mathlib.Omega.{arith}
use lib.Dec.{eqb}
use lib.ListN.{length, get_or}
use borrow.Author.Tests.{eqb-true}

-- the first entry that is not what the rule gives at its place, counted from i, with what the rule gives there; else
-- nothing
abbrev pub miss : (ℕ → ℕ) → ℕ → List ℕ → List (ℕ × ℕ)
miss rule i [] = []
miss rule i (x ∷ xs) = cond (eqb x (rule i)) (miss rule (suc i) xs) ((x, rule i) ∷ [])

-- no miss in a list is none at its first entry and none in the rest
none : (b : Bool) (m : ℕ × ℕ) (ms : List (ℕ × ℕ)) → cond b ms (m ∷ []) ≡ [] → (b ≡ true) × (ms ≡ [])
none true m ms t = (refl, t)
none false m ms t = absurd (not-suc-le-zero {n = 0} (omega (arith, ap length t)))

-- then each entry is what the rule gives
from : (rule : ℕ → ℕ) (xs : List ℕ) (i : ℕ) → miss rule i xs ≡ [] → (k : ℕ) → k < length xs → get_or xs k 0 ≡ rule (i + k)
from rule [] i t k h = absurd (not-suc-le-zero h)
from rule (x ∷ xs) i t zero h = rw (add-zero i) (eqb-true x (rule i) (none _ _ (miss rule (suc i) xs) t).0)
from rule (x ∷ xs) i t (suc k) h =
    rw (add-suc i k, ← suc-add i k) (from rule xs (suc i) (none (eqb x (rule i)) _ _ t).1 k (le_of_suc-le-suc h))

-- the entry at k, as a term that does not compute: a proof finds in it the list that the source has, and need not
-- repeat it
pub entry_at : List ℕ → ℕ → ℕ
entry_at xs k = get_or xs k 0

pub read : (xs : List ℕ) (k : ℕ) → get_or xs k 0 ≡ entry_at xs k
unfolding entry_at
read xs k = refl

-- a list without a miss has at each place what the rule gives there
pub entry : (rule : ℕ → ℕ) (xs : List ℕ) (k : ℕ) → k < length xs → miss rule 0 xs ≡ [] → entry_at xs k ≡ rule k
unfolding entry_at
entry rule xs k h t = from rule xs 0 t k h ∙ ap rule (zero-add k)
