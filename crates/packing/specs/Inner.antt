-- What only inner promises cite: the bits that are read at once.
-- Assumes nothing.
use Rattle.std.specs.Prelude.{ℕ, ◌*◌, ◌/◌, ◌%◌, ◌^◌, cond, List, nat_le}
use Rattle.packing.specs.Packing.{bytes_value, field_at}

-- the bits from bit b on at the top of 64 bits, of which there are 57 or more: eight bytes from the one that holds bit
-- b, moved up past the bits before it
abbrev pub window_at : List ℕ → ℕ → ℕ
window_at s b = (bytes_value s (b / 8) 8 * 2 ^ (b % 8)) % 2 ^ 64

-- the most bits that are read at once wherever they begin: with up to 7 bits before them they lie within 8 bytes
abbrev pub widest : ℕ
widest = 57

-- the w bits from bit b on, and 0 where they are too many to be read at once
abbrev pub field_read : List ℕ → ℕ → ℕ → ℕ
field_read s b w = cond (nat_le w widest) (field_at s b w) 0

-- the word at j, and 0 where it is too wide
abbrev pub word_read : ℕ → List ℕ → ℕ → ℕ
word_read w s j = field_read s (j * w) w
