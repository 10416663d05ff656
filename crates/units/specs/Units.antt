-- The two units of the product (docs/SCOPE.md, "Quantities"), at precision k with a table guard bits.
-- Assumes nothing.
use Rattle.std.specs.Prelude.{ℕ, ◌+◌, ◌*◌, ◌^◌}

-- how many table units of 1 / 2^(2k+a+1) make one
abbrev pub table_units_in_one : ℕ → ℕ → ℕ
table_units_in_one k a = 2 ^ (2 * k + (a + 1))

-- how many ulps of 1 / 2^(2k+1) make one, whatever the guard bits
abbrev pub ulps_in_one : ℕ → ℕ
ulps_in_one k = 2 ^ (2 * k + 1)

-- how many table units make one ulp: four with two table guard bits
abbrev pub table_units_in_ulp : ℕ → ℕ
table_units_in_ulp a = 2 ^ a
