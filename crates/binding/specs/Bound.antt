-- A bound table: a lent image and the format that it is read by.
-- Assumes nothing.
use Rattle.std.specs.Prelude.{ℕ, List}
use Rattle.std.specs.Borrow.{Bor}
use Rattle.format.specs.declared.Format.{Format}
use Rattle.binding.specs.declared.BoundTable.{BoundTable}

-- the lent image and its format, kept together as they are
abbrev pub bound : Format → Bor (List ℕ) → BoundTable
bound F image = record { format = F; image = image }
