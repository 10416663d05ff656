-- What an answer means that serves the call: the node that is read is c(j), the buffer that passes is the full ROM, and
-- what the builder leaves passes.
-- Assumes nothing.
use mathlib.Core.Path.{◌≡◌, sym, ◌∙◌, ap}
use mathlib.Core.Logic.{◌↔◌}
use mathlib.Core.Bool.{false, cond, and-eq-true_iff}
use mathlib.Core.List.{List, [], ◌∷◌}
use Prim.Native.Nat.{ℕ, ◌≤◌, ◌<◌, ◌^◌}
use native.Mathlib.Nat.{le_of_eq}
use native.Mathlib.Omega.{arith}
use lib.ListN.{length}
use lib.Dec.{eqb}
use borrow.Author.Tests.{ltb-false}
use Rattle.std.proofs.Common.{Result, Ok, Err, IsOk, IfOk}
use Rattle.units.specs.declared.TableUnits.{TableUnits}
use Rattle.precision.specs.Precision.{in_range}
use Rattle.precision.proofs.Range.{in-range}
use Rattle.format.specs.GuardBits.{guards_in}
use Rattle.format.specs.Format.{precision_of, table_bits, word_count}
use Rattle.format.specs.declared.Format.{Format}
use Rattle.format.proofs.Range.{guards-in}
use Rattle.format.proofs.Laws.{offered}
use Rattle.nodes.specs.Nodes.{node}
use Rattle.packing.specs.Packing.{Bytes}
use Rattle.answers.specs.Refusal.{Outcome, served, some_applies}
use Rattle.answers.specs.Answer.{outcome_of_done, outcome_of_node}
use Rattle.answers.specs.declared.Refused.{Refused}
use Rattle.answers.proofs.Order.{served_value}
use Rattle.answers.proofs.Earlier.{none_applies, neither_applies, is_served, earlier_none}
use Rattle.layout.specs.Layout.{rom_of, word_in, first_wrong, first_past}
use Rattle.layout.specs.Refusals.{image_refusal, word_refusal, tail_refusal}
use Rattle.layout.proofs.Laws.{Fits, all_right, right_before}
use Rattle.layout.proofs.Rom.{rom_length, rom_word, rom_past, rom_long, past_within, right_rom}
use Rattle.image.specs.Image.{table_of, node_of}
use Rattle.image.specs.Refusals.{node_refusal, limits}
use Rattle.image.specs.Calls.{build_outcome, build_leaves, check_refusals, check_outcome, node_refusals, node_outcome, IsFullRom}
use Rattle.image.proofs.Checks.{check_none}
use Rattle.image.proofs.Judging.{right_node}
use Rattle.image.proofs.Laws.{table_fits, has_bits}
use Rattle.image.proofs.Limits.{ImageKept, limit_passes, clear_kept, kept_clear}

module _ (F : Format) (s : List ℕ) where
  -- a node that is read is c(j)
  pub node_given : (j : ℕ) → (node_outcome F s j).number ≡ 0 → (node_outcome F s j).value ≡ node (precision_of F) (table_bits F) j
  node_given j e =
      let k = precision_of F in
      let later = (neither_applies (limits F (length s)) (node_refusal k j ∷ word_refusal (table_of F) s j ∷ []) (none_applies (node_refusals F s j) (node_of F s j) tt e)).1 in
      let there = earlier_none (node_refusal k j) (word_refusal (table_of F) s j ∷ []) later in
      let right = earlier_none (word_refusal (table_of F) s j) [] there.1 in
      (served_value (node_refusals F s j) (node_of F s j) tt e).1 ∙ right_node F s j (ltb-false (2 ^ k) j there.0) right.0

  -- a buffer that passes the check is the full ROM
  pub passed_full : Bytes s → (check_outcome F s).number ≡ 0 → IsFullRom F s
  passed_full bytes e =
      let parts = neither_applies (limits F (length s)) (image_refusal (table_of F) s ∷ tail_refusal (table_of F) s ∷ []) (none_applies (check_refusals F s) 0 tt e) in
      let kept = clear_kept F s parts.0 in
      let words = earlier_none (image_refusal (table_of F) s) (tail_refusal (table_of F) s ∷ []) parts.1 in
      let tail = earlier_none (tail_refusal (table_of F) s) [] words.1 in
      let right : word_count F ≤ first_wrong (table_of F) s = ltb-false (first_wrong (table_of F) s) (word_count F) words.0 in
      let none : length s ≤ first_past (table_of F) s = ltb-false (first_past (table_of F) s) (length s) tail.0 in (
        offered F kept.low kept.high kept.guard,
        right_rom (table_of F) (table_fits F (has_bits F kept.guard)) s bytes kept.long (λ j h. right_before (table_of F) s j (omega (arith, h, right)))
            (omega (arith, none, past_within (table_of F) s)),
      )

  -- the limits are kept where the buffer is one
  full_kept : IsFullRom F s → ImageKept F s
  full_kept p =
      let parts = (and-eq-true_iff (in_range (precision_of F)) (guards_in F.guard_bits)).0 p.0 in
      let range = in-range (precision_of F) parts.0 in
      record {
        low = range.0;
        high = range.1;
        guard = guards-in F.guard_bits parts.1;
        long = omega (arith, ap length p.1, rom_long (table_of F) (length s));
      }

  -- and it passes
  pub full_passes : IsFullRom F s → check_outcome F s ≡ served 0
  full_passes p = check_none F s (kept_clear F s kept) (le_of_eq (sym (all_right (table_of F) s words))) (le_of_eq (sym past))
    where
      kept : ImageKept F s
      kept = full_kept p

      fits : Fits (table_of F)
      fits = table_fits F (has_bits F kept.guard)

      words : (j : ℕ) → j < word_count F → word_in (table_of F) s j ≡ (table_of F).word j
      words j h = ap (λ (u : List ℕ). word_in (table_of F) u j) p.1 ∙ rom_word (table_of F) fits (length s) j h

      past : first_past (table_of F) s ≡ length s
      past = ap (first_past (table_of F)) p.1 ∙ rom_past (table_of F) fits (length s) kept.long

  -- what the builder leaves where it serves is the full ROM
  pub built_full : (build_outcome F s).number ≡ 0 → IsFullRom F (build_leaves F s)
  built_full e = (offered F kept.low kept.high kept.guard, left ∙ ap (rom_of (table_of F)) (sym as_long))
    where
      clear : some_applies (limits F (length s)) ≡ false
      clear = none_applies (limits F (length s)) 0 tt e

      kept : ImageKept F s
      kept = clear_kept F s clear

      left : build_leaves F s ≡ rom_of (table_of F) (length s)
      left = ap (λ (o : Outcome). cond (eqb o.number 0) (rom_of (table_of F) (length s)) s) (limit_passes F s [] 0 clear)

      as_long : length (build_leaves F s) ≡ length s
      as_long = ap length left ∙ rom_length (table_of F) (length s) kept.long

  -- a buffer passes exactly where it is the full ROM
  pub passes_full : Bytes s → ((check_outcome F s).number ≡ 0) ↔ IsFullRom F s
  passes_full bytes = (passed_full bytes, λ p. ap (λ (o : Outcome). o.number) (full_passes p))

  -- the same of the answers as the code has them
  pub node_gives : (j : ℕ) (r : Result TableUnits Refused) → outcome_of_node r ≡ node_outcome F s j → IfOk r (λ c. c.0 ≡ node (precision_of F) (table_bits F) j)
  node_gives j (Ok c) e = ap (λ (o : Outcome). o.value) e ∙ node_given j (sym (ap (λ (o : Outcome). o.number) e))
  node_gives j (Err why) e = tt

  pub check_passes : Bytes s → (r : Result (Unit {0}) Refused) → outcome_of_done r ≡ check_outcome F s → IsOk r ↔ IsFullRom F s
  check_passes bytes r e =
      let ok = is_served (λ _. 0) r e in
      (λ t. passed_full bytes (ok.0 t), λ p. ok.1 (ap (λ (o : Outcome). o.number) (full_passes p)))

-- what the builder leaves where it serves passes the check
pub built_passes : (F : Format) (s : List ℕ) → (build_outcome F s).number ≡ 0 → check_outcome F (build_leaves F s) ≡ served 0
built_passes F s e = full_passes F (build_leaves F s) (built_full F s e)
