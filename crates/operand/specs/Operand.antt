-- An operand: a whole number X with n fraction bits, which stands for X / 2^n
-- (docs/SCOPE.md, "Quantities" and "The reciprocal").
-- Assumes nothing.
use Rattle.std.specs.Prelude.{ℕ, ◌+◌, ◌-◌, ◌*◌, ◌/◌, ◌^◌, Bool, ◌&&◌, leb, ltb}

-- the fewest and the most fraction bits of an operand
abbrev pub least_bits : ℕ
least_bits = 1

abbrev pub most_bits : ℕ
most_bits = 63

-- n is from 1 to 63
abbrev pub is_fraction_count : ℕ → Bool
is_fraction_count n = leb least_bits n && leb n most_bits

-- X is normalised: from 2^n to 2^(n+1) - 1
abbrev pub is_normalised : ℕ → ℕ → Bool
is_normalised n X = leb (2 ^ n) X && ltb X (2 ^ (n + 1))

-- X, which has n fraction bits, with s of them: floor(X / 2^(n-s)) where it has more, X × 2^(s-n) where it has fewer. A
-- difference stops at 0, so that one of the two powers is 1
abbrev pub cut_to : ℕ → ℕ → ℕ → ℕ
cut_to s n X = X * 2 ^ (s - n) / 2 ^ (n - s)

-- the fraction bits that a table with b input guard bits looks at: 2k + b, these among them
abbrev pub cut_bits : ℕ → ℕ → ℕ
cut_bits k b = 2 * k + b

-- t: X with 2k + b fraction bits
abbrev pub cut_operand : ℕ → ℕ → ℕ → ℕ → ℕ
cut_operand k b = cut_to (cut_bits k b)
