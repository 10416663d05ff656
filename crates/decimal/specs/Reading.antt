-- What reading a number finds.
-- Assumes nothing.
use Rattle.std.specs.Prelude.{ℕ, ◌^◌, cond, ◌&&◌, List, ltb, Option, Some, None}
use Rattle.decimal.specs.Decimal.{is_digits, decimal_value}

-- the number where s is digits and nothing else and the number is below 2^64; None for anything else
abbrev pub reading : List ℕ → Option ℕ
reading s = cond (is_digits s && ltb (decimal_value s) (2 ^ 64)) (Some (decimal_value s)) None
