-- What only inner promises cite: the high and the low bits of a number, and powers of two, in plain arithmetic.
-- Assumes nothing.
use Rattle.std.specs.Prelude.{ℕ, ◌*◌, ◌/◌, ◌%◌, ◌^◌, cond, ltb}

-- x without its lowest n bits
abbrev pub high_bits : ℕ → ℕ → ℕ
high_bits x n = x / 2 ^ n

-- the lowest n bits of x
abbrev pub low_bits : ℕ → ℕ → ℕ
low_bits x n = x % 2 ^ n

-- the lowest 64 bits of x with n zero bits written to its right
abbrev pub padded_bits : ℕ → ℕ → ℕ
padded_bits x n = x * 2 ^ n % 2 ^ 64

-- 2^n where it has a place in 64 bits, else 0
abbrev pub power_or_0 : ℕ → ℕ
power_or_0 n = cond (ltb n 64) (2 ^ n) 0
