-- Decimal digits: how many a number has at most, which texts are digits, and the number that digits stand for.
-- The digits of a number are std's `decimal`.
-- Assumes nothing.
use Rattle.std.specs.Prelude.{ℕ, ◌+◌, ◌-◌, ◌*◌, Bool, false, List, [], ◌∷◌}
use Rattle.std.specs.Str.{all_ascii_digits}

-- the most digits that a number of 64 bits has
abbrev pub most_digits : ℕ
most_digits = 20

-- s is one digit or more, and nothing else; leading zeros are allowed
abbrev pub is_digits : List ℕ → Bool
is_digits [] = false
is_digits (b ∷ s) = all_ascii_digits (b ∷ s)

-- the number that the digits of v with those of s after them stand for
abbrev pub value_from : ℕ → List ℕ → ℕ
value_from v [] = v
value_from v (b ∷ s) = value_from (v * 10 + (b - 48)) s

-- the number that the digits of s stand for, most significant first
abbrev pub decimal_value : List ℕ → ℕ
decimal_value s = value_from 0 s
