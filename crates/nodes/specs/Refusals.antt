-- The refusals of a format that cannot be ordered, whatever buffer comes with it (docs/SCOPE.md, "Turned back, in
-- checking order").
-- Assumes nothing.
use Rattle.std.specs.Prelude.{ℕ, not, List, [], ◌∷◌}
use Rattle.precision.specs.Precision.{in_range}
use Rattle.format.specs.GuardBits.{guards_in}
use Rattle.format.specs.Format.{precision_of}
use Rattle.format.specs.declared.Format.{Format}
use Rattle.format.specs.declared.guard_bits.GuardBits.{GuardBits}
use Rattle.answers.specs.Refusal.{Refusal}

-- 1: the precision is below 1 or above 12
abbrev pub precision_refusal : ℕ → Refusal
precision_refusal k = record { applies = not (in_range k); number = 1; place = 0 }

-- 18: the table guard bits are not 2 to 4, or the input guard bits not 3 to 5
abbrev pub guard_refusal : GuardBits → Refusal
guard_refusal g = record { applies = not (guards_in g); number = 18; place = 0 }

-- 1 and 18, in this order: there is no such table
abbrev pub table_refusals : Format → List Refusal
table_refusals F = precision_refusal (precision_of F) ∷ guard_refusal F.guard_bits ∷ []
