-- What only inner promises cite: the test of a quotient by a product.
-- Assumes nothing.
use Rattle.std.specs.Prelude.{ℕ, ◌+◌, ◌*◌, ◌%◌, ◌^◌, Bool, ◌&&◌, nat_le, nat_lt}

-- what counts of a numerator: its lowest 63 bits, which are all of it in every table
abbrev pub numerator_bits : ℕ → ℕ
numerator_bits M = M % 2 ^ 63

-- M / i ≤ c < M / i + 1, with no division
abbrev pub rounds_up : ℕ → ℕ → ℕ → Bool
rounds_up M i c = nat_le M (c * i) && nat_lt (c * i) (M + i)
