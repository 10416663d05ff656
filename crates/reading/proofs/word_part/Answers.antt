-- `reading::word_part` meets its contract: where there is such a word, its bytes are those from its first bit's to its
-- last bit's.
-- Assumes nothing.
use mathlib.Core.Path.{◌≡◌, sym, ap, ap₂, ◌∙◌}
use mathlib.Core.Bool.{false}
use mathlib.Core.List.{List}
use Prim.Native.Nat.{ℕ, ◌+◌, ◌-◌, ◌*◌, ◌/◌, ◌<◌, ◌≤◌}
use native.Mathlib.Omega.{arith}
use lib.ListN.{length}
use Rattle.format.specs.Format.{precision_of, table_bits, word_width}
use Rattle.format.specs.declared.Format.{Format}
use Rattle.format.proofs.Laws.{width_least}
use Rattle.packing.specs.Packing.{first_byte, span_bytes}
use Rattle.answers.specs.Refusal.{some_applies}
use Rattle.answers.specs.Answer.{part}
use Rattle.nodes.specs.Inner.{quotients_of}
use Rattle.nodes.specs.declared.Quotients.{Quotients}
use Rattle.image.specs.Refusals.{limits}
use Rattle.image.specs.Calls.{shown_from, shown_count}
use Rattle.image.proofs.Limits.{limit_clear, clear_kept}
use Rattle.image.proofs.Shown.{shown-from, shown-count}
use Rattle.reading.proofs.word_part.Goals as goal

-- from the first byte to the one behind the last, of a word that has bits
span : (w j : ℕ) → 1 ≤ w → (j * w + w + 7) / 8 - j * w / 8 ≡ span_bytes w j
span w j one = omega arith

-- behind the tests both limits are kept, t is the table of the format, and node j has a word
module _ (F : Format) (s : List ℕ) (t : Quotients) (clear : some_applies (limits F (length s)) ≡ false) (table : t ≡ quotients_of F) (j : ℕ) (there : j < t.count) where
  below : j < (quotients_of F).count
  below = omega (arith, there, ap (λ (q : Quotients). q.count) table)

  first : first_byte t.width j ≡ shown_from F s j
  first = ap (λ (q : Quotients). first_byte q.width j) table ∙ sym (shown-from F s j (clear_kept F s clear) below)

  count : (j * t.width + t.width + 7) / 8 - j * t.width / 8 ≡ shown_count F s j
  count =
      ap (λ (q : Quotients). (j * q.width + q.width + 7) / 8 - j * q.width / 8) table
      ∙ span (word_width F) j (omega (arith, (clear_kept F s clear).guard.table_least, width_least F.form (precision_of F) (table_bits F)))
      ∙ sym (shown-count F s j (clear_kept F s clear) below)

pub returns-in-Ok : goal.returns-in-Ok
returns-in-Ok c =
    let a = c.args in
    let s = a.image.now in
    let clear = limit_clear a.format s c.in-Ok.ensures.refusals in
    ap₂ part (first a.format s c.in-Ok.table clear c.in-Ok.ensures.numbers a.j c.if-j-table.true) (count a.format s c.in-Ok.table clear c.in-Ok.ensures.numbers a.j c.if-j-table.true)
