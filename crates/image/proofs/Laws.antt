-- The tables of the formats: their words have their width, and plain ones with two table guard bits fill whole bytes.
-- The words that the code makes and judges are the table's.
-- Assumes nothing.
use mathlib.Core.Path.{◌≡◌, refl, ap, fun_ext}
use Prim.Native.Nat.{ℕ, zero, suc, ◌+◌, ◌*◌, ◌/◌, ◌^◌, ◌≤◌}
use native.Mathlib.Nat.{not-suc-le-zero, pow-suc}
use native.Mathlib.Omega.{arith}
use Rattle.precision.specs.Precision as precisions
use Rattle.format.specs.Format.{precision_of, table_bits, plain_of, word_count, word_width}
use Rattle.format.specs.declared.Format.{Format}
use Rattle.format.proofs.Range.{InRange}
use Rattle.format.proofs.Laws.{width_least}
use Rattle.nodes.specs.Inner.{quotients_of}
use Rattle.nodes.proofs.Forms.{stored_lt, stored_low}
use Rattle.layout.specs.Layout.{Layout}
use Rattle.layout.proofs.Laws.{Fits, Whole}
use Rattle.image.specs.Image.{table_of}
use Rattle.image.specs.Inner.{layout_of}

-- a stored word has the width of a word, where that has bits
pub table_fits : (F : Format) → 1 ≤ word_width F → Fits (table_of F)
table_fits F some = record { one = some; words = λ j h. stored_lt F.form (precision_of F) (table_bits F) j }

-- as it has with guard bits in range
pub has_bits : (F : Format) → InRange F.guard_bits → 1 ≤ word_width F
has_bits F guard = omega (arith, guard.table_least, width_least F.form (precision_of F) (table_bits F))

-- the lowest bits of the quotients are the words
pub own_layout : (F : Format) → layout_of (quotients_of F) ≡ table_of F
own_layout F = ap with_words (fun_ext (stored_low F.form (precision_of F) (table_bits F)))
  where
    with_words : (ℕ → ℕ) → Layout
    with_words f = record { count = word_count F; width = word_width F; word = f }

-- an eighth of the bits of plain words is a whole number, for k from 1
pub eighths : (k : ℕ) → 1 ≤ k → 8 * (2 ^ k * (2 * k + 2) / 8) ≡ 2 ^ k * (2 * k + 2)
eighths zero h = absurd (not-suc-le-zero h)
eighths (suc zero) h = refl
eighths (suc (suc q)) h =
    let n : ℕ = 2 ^ suc (suc q) in
    let eight : n ≡ 4 * 2 ^ q = omega (arith, pow-suc 2 (suc q), pow-suc 2 q) in
    let e : n * (2 * suc (suc q) + 2) ≡ 8 * (2 ^ q * (q + 3)) = rw eight (omega arith) in
    omega (arith, e)

-- so they take whole bytes
module _ (k : ℕ) (one : 1 ≤ k) where
  pub whole_bytes : Whole (table_of (plain_of k))
  whole_bytes = omega (arith, eighths k one)

  -- which are an eighth of the bits of the words
  pub eighth_of_bits : precisions.image_length k ≡ 2 ^ k * (2 * k + 2) / 8
  eighth_of_bits = omega (arith, eighths k one)
