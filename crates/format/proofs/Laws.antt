-- What holds of the words of every form: how wide and how many they are, and what their number says of k; and which
-- formats have the usual guard bits.
-- Assumes nothing.
use mathlib.Core.Path.{◌≡◌, refl, sym, ap, ap₂}
use mathlib.Core.Bool.{true}
use Prim.Native.Nat.{ℕ, ◌+◌, ◌*◌, ◌^◌, ◌≤◌}
use native.Mathlib.Omega.{arith}
use Rattle.format.specs.GuardBits.{are_usual}
use Rattle.format.specs.Format.{precision_of, usual, formed, width_in, count_in, is_offered}
use Rattle.format.specs.declared.Form.{Form}
use Rattle.format.specs.declared.Form.TheVariants.{Plain, Full}
use Rattle.format.specs.declared.Format.{Format}
use Rattle.format.specs.declared.guard_bits.GuardBits.{GuardBits}
use Rattle.format.proofs.Range.{InRange, in_guards, usual-guards, usual-in-range}
use Rattle.precision.proofs.Range.{range_in}

-- a word has 2k + a bits or more, and 2k + a + 2 or fewer
pub width_least : (f : Form) (k a : ℕ) → 2 * k + a ≤ width_in f k a
width_least Plain k a = omega arith
width_least Full k a = omega arith

pub width_most : (f : Form) (k a : ℕ) → width_in f k a ≤ 2 * k + (a + 2)
width_most Plain k a = omega arith
width_most Full k a = omega arith

-- there is a word for each node below the last, and none behind the last node
pub count_least : (f : Form) (k : ℕ) → 2 ^ k ≤ count_in f k
count_least Plain k = omega arith
count_least Full k = omega arith

pub count_most : (f : Form) (k : ℕ) → count_in f k ≤ 2 ^ k + 1
count_most Plain k = omega arith
count_most Full k = omega arith

-- a format in the form that it has is the same
pub is_same : (F : Format) {f : Form} → F.form ≡ f → formed F f ≡ F
is_same F e = ap (formed F) (sym e)

-- a format whose guard bits are told to be usual is that of its form and precision
pub is_usual : (F : Format) (f : Form) → are_usual F.guard_bits ≡ true → F.form ≡ f → usual f (precision_of F) ≡ F
is_usual F f told e = ap₂ with_guards (sym e) (sym (usual-guards F.guard_bits told))
  where
    with_guards : Form → GuardBits → Format
    with_guards f g = record { precision = F.precision; form = f; guard_bits = g }

-- a table is offered where precision and guard bits are in range
pub offered : (F : Format) → 1 ≤ precision_of F → precision_of F ≤ 12 → InRange F.guard_bits → is_offered F ≡ true
offered F low high guard = rw (range_in (precision_of F) low high, in_guards F.guard_bits guard) refl

pub usual_offered : (f : Form) (k : ℕ) → 1 ≤ k → k ≤ 12 → is_offered (usual f k) ≡ true
usual_offered f k low high = offered (usual f k) low high usual-in-range
