-- What only inner promises cite: the fraction bits of an operand as one number.
-- Assumes nothing.
use Rattle.std.specs.Prelude.{ℕ, ◌%◌, ◌^◌, cond, ◌&&◌, leb}
use Rattle.operand.specs.Operand.{most_bits, cut_to}

-- the first s fraction bits of X, zeros where it has fewer, as a number; 0 where n or s is above 63
abbrev pub cut_fraction : ℕ → ℕ → ℕ → ℕ
cut_fraction s n X = cond (leb n most_bits && leb s most_bits) (cut_to s n X % 2 ^ s) 0
