-- The tail of a byte list: its bits from some bit on. The most significant bit of byte 0 is bit 0.
-- Assumes nothing.
use Rattle.std.specs.Prelude.{ℕ, ◌-◌, ◌*◌, ◌%◌, ◌^◌, Bool, not, eqb, ltb, if◌then◌else◌}
use Rattle.std.specs.Prelude.{List, get_or, length, replicate, Option, Some, None}
use Rattle.bools.specs.Lowest.{lowest}

-- what byte i holds of the bits from bit b on, differences stopping at 0: all eight of its bits, its lowest ones, or
-- none
abbrev pub bits_from : ℕ → List ℕ → ℕ → ℕ
bits_from b s i = get_or s i 0 % 2 ^ (8 - (b - 8 * i))

-- byte i has a one at bit b or later
abbrev pub has_one_from : ℕ → List ℕ → ℕ → Bool
has_one_from b s i = not (eqb (bits_from b s i) 0)

-- the lowest byte with a one at bit b or later, and the number of bytes where none has one
abbrev pub first_one_from : ℕ → List ℕ → ℕ
first_one_from b s = lowest (has_one_from b s) (length s)

-- the lowest byte with a one at bit b or later, if one has such a one
abbrev pub first_one_in : ℕ → List ℕ → Option ℕ
first_one_in b s = if ltb (first_one_from b s) (length s) then Some (first_one_from b s) else None

-- n zero bytes
abbrev pub zeros : ℕ → List ℕ
zeros n = replicate n 0
