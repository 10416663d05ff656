-- The part of bytes that is shown.
-- Assumes nothing.
use mathlib.Core.Path.{◌≡◌, refl, ◌∙◌, ap}
use mathlib.Core.Logic.{◌↔◌}
use mathlib.Core.Bool.{Bool, true, false, cond, not, ◌||◌}
use mathlib.Core.List.{List, [], ◌∷◌}
use Prim.Native.Nat.{ℕ, ◌+◌, ◌-◌, ◌≤◌, ◌<◌}
use native.Mathlib.Nat.{suc-ne-zero}
use native.Mathlib.Omega.{arith}
use lib.ListN.{length, drop, get_or}
use lib.Seq.{get_or-take, get_or-drop}
use lib.Dec.{ltb}
use borrow.Author.Tests.{ltb-true}
use Rattle.format.specs.Format.{precision_of, table_bits, word_count, word_width}
use Rattle.format.specs.declared.Format.{Format}
use Rattle.format.proofs.Laws.{width_least}
use Rattle.packing.specs.Packing.{first_byte, last_byte, span_bytes}
use Rattle.packing.proofs.Words.{span_ordered}
use Rattle.answers.specs.Refusal.{some_applies}
use Rattle.layout.specs.Layout.{part_of}
use Rattle.image.specs.Image.{table_of}
use Rattle.image.specs.Refusals.{limits}
use Rattle.image.specs.Calls.{shown_part, shown_from, shown_count}
use Rattle.image.proofs.Limits.{ImageKept, clear_kept}
use Rattle.image.proofs.Shown.{shown-part, shown-from, shown-count}
use Rattle.statements.specs.Terms.{IsOffered, IsLongEnough}
use Rattle.statements.proofs.Iff.{guards_of}

-- a word has bits
pub some_bits : (F : Format) → IsOffered F → 1 ≤ word_width F
some_bits F p = omega (arith, p.1.0, width_least F.form (precision_of F) (table_bits F))

-- the part of bytes that is shown
module _ (F : Format) (s : List ℕ) (j : ℕ) where
  kept : IsOffered F → IsLongEnough F s → ImageKept F s
  kept p l = record { low = p.0.0; high = p.0.1; guard = guards_of F.guard_bits p.1; long = l }

  pub shown_first : IsOffered F → IsLongEnough F s → j < word_count F → shown_from F s j ≡ first_byte (word_width F) j
  shown_first p l h = shown-from F s j (kept p l) h

  pub shown_length : IsOffered F → IsLongEnough F s → j < word_count F → length (shown_part F s j) ≡ last_byte (word_width F) j + 1 - first_byte (word_width F) j
  shown_length p l h = shown-count F s j (kept p l) h

  pub shown_bytes : IsOffered F → IsLongEnough F s → j < word_count F → (i : ℕ) → i < length (shown_part F s j) → get_or (shown_part F s j) i 0 ≡ get_or s (first_byte (word_width F) j + i) 0
  shown_bytes p l h i m =
      ap (λ (t : List ℕ). get_or t i 0) (shown-part F s j (kept p l) h)
      ∙ get_or-take (span_bytes (word_width F) j) (drop (first_byte (word_width F) j) s) i 0 (omega (arith, shown_length p l h))
      ∙ get_or-drop (first_byte (word_width F) j) s i 0

  pub shown_empty : (shown_part F s j ≡ []) ↔ ((IsOffered F × IsLongEnough F s × (j < word_count F)) → ⊥)
  shown_empty = (to, from (some_applies (limits F (length s))) (ltb j (word_count F)) refl refl)
    where
      to : shown_part F s j ≡ [] → (IsOffered F × IsLongEnough F s × (j < word_count F)) → ⊥
      to e t =
          omega (arith, ap length e, shown_length t.0 t.1 t.2, span_ordered (word_width F) j (some_bits F t.0))

      from : (a b : Bool) → some_applies (limits F (length s)) ≡ a → ltb j (word_count F) ≡ b → ((IsOffered F × IsLongEnough F s × (j < word_count F)) → ⊥) → cond (a || not b) [] (part_of (table_of F) s j) ≡ []
      from true b e d f = refl
      from false false e d f = refl
      from false true e d f =
          let ok = clear_kept F s e in
          absurd (f (((ok.low, ok.high), (ok.guard.table_least, ok.guard.table_most, ok.guard.input_least, ok.guard.input_most)), ok.long, ltb-true j (word_count F) d))

  -- the same by how many bytes there are, and where
  pub shown_none : (shown_count F s j ≡ 0) ↔ ((IsOffered F × IsLongEnough F s × (j < word_count F)) → ⊥)
  shown_none =
      (λ e. shown_empty.0 (nothing (shown_part F s j) e), λ f. ap length (shown_empty.1 f))
    where
      nothing : (l : List ℕ) → length l ≡ 0 → l ≡ []
      nothing [] e = refl
      nothing (x ∷ l) e = absurd (suc-ne-zero (length l) e)

  pub hidden_at_front : ((IsOffered F × IsLongEnough F s × (j < word_count F)) → ⊥) → shown_from F s j ≡ 0
  hidden_at_front = from (some_applies (limits F (length s))) (ltb j (word_count F)) refl refl
    where
      from : (a b : Bool) → some_applies (limits F (length s)) ≡ a → ltb j (word_count F) ≡ b → ((IsOffered F × IsLongEnough F s × (j < word_count F)) → ⊥) → cond (a || not b) 0 (first_byte (word_width F) j) ≡ 0
      from true b e d f = refl
      from false false e d f = refl
      from false true e d f =
          let ok = clear_kept F s e in
          absurd (f (((ok.low, ok.high), (ok.guard.table_least, ok.guard.table_most, ok.guard.input_least, ok.guard.input_most)), ok.long, ltb-true j (word_count F) d))
