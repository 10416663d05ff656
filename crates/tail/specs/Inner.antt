-- What only inner promises cite: a byte list whose end is cleared, and zero bytes of it that are passed.
-- Assumes nothing.
use Rattle.std.specs.Prelude.{◌≡◌, ℕ, ◌+◌, ◌-◌, ◌≤◌, ◌<◌, List, ◌++◌, length, take, get_or}
use Rattle.tail.specs.Tail.{zeros}

-- a byte list with zero bytes from byte n on
abbrev pub cleared_from : ℕ → List ℕ → List ℕ
cleared_from n s = take n s ++ zeros (length s - n)

-- the bytes from byte a up to byte b are zero
abbrev pub IsZero : List ℕ → ℕ → ℕ → Type 0
IsZero s a b = (i : ℕ) → a ≤ i → i < b → get_or s i 0 ≡ 0

-- the bytes from byte `from` up to byte r are zero, and the n bytes from there on are not all zero, or not all there
pub record Passed (s : List ℕ) (from n r : ℕ) : Type 0 where
  pub start : from ≤ r
  pub end : r ≤ length s
  pub zero : IsZero s from r
  pub next : r + n ≤ length s → IsZero s r (r + n) → ⊥
