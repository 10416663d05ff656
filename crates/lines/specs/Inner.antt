-- What only inner promises cite: the room that is asked for before a text is written.
-- Assumes nothing.
use Rattle.std.specs.Prelude.{ℕ, ◌+◌, length}
use Rattle.decimal.specs.Decimal.{most_digits}
use Rattle.lines.specs.Lines.{refused_title}

-- the most bytes that a number of 64 bits and the byte behind it are
abbrev pub longest_field : ℕ
longest_field = most_digits + 1

-- the most bytes that the line of a refusal is
abbrev pub longest_refusal : ℕ
longest_refusal = length refused_title + longest_field
