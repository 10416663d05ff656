-- The lowest number that passes a test.
-- Assumes nothing.
use Rattle.std.specs.Prelude.{ℕ, zero, suc, Bool, cond, ltb}

-- m, where it was found below n; else n where n passes; else the number after it
abbrev pub or_next : ℕ → Bool → ℕ → ℕ
or_next n passes m = cond (ltb m n) m (cond passes n (suc n))

-- the lowest number below n that passes a test, and n where none does
unfoldable pub lowest : (ℕ → Bool) → ℕ → ℕ
lowest p zero = zero
lowest p (suc n) = or_next n (p n) (lowest p n)
