-- How long a number with a byte behind it is, and the line of a refusal.
-- Assumes nothing.
use mathlib.Core.Path.{◌≡◌}
use mathlib.Core.List.{[], ◌∷◌}
use Prim.Native.Nat.{ℕ, ◌+◌, ◌^◌, ◌≤◌, ◌<◌}
use native.Mathlib.Omega.{arith}
use lib.ListN.{length, length-append}
use Rattle.std.specs.Prelude.{decimal}
use Rattle.std.proofs.lemmas.Fmt.{length-decimal-le}
use Rattle.lines.specs.Lines.{field, refused_text, line_feed}
use Rattle.lines.specs.Inner.{longest_field, longest_refusal}

length-field : (n b : ℕ) → length (field n b) ≡ length (decimal n) + 1
unfolding field
length-field n b = length-append (decimal n) (b ∷ [])

pub field_below : (d n b : ℕ) → 0 < d → n < 10 ^ d → n < 2 ^ 64 → length (field n b) ≤ d + 1
field_below d n b p h fits = omega (arith, length-field n b, length-decimal-le d n p h fits)

pub field_most : (n b : ℕ) → n < 2 ^ 64 → length (field n b) ≤ longest_field
field_most n b fits = field_below 20 n b (omega arith) (omega arith) fits

pub refused_most : (number : ℕ) → number < 2 ^ 64 → length (refused_text number) ≤ longest_refusal
refused_most number fits = omega (arith, field_most number line_feed fits)
