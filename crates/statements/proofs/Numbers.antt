-- The numbers of the calls: the limits of a format and the buffer before any list of refusals, the check where a word
-- or the tail is wrong, and the last refusals of reading a node.
-- Assumes nothing.
use mathlib.Core.Path.{◌≡◌, refl, sym, ◌∙◌, ap}
use mathlib.Core.Logic.{◌↔◌}
use mathlib.Core.Bool.{false, not}
use mathlib.Core.List.{List, [], ◌∷◌, ◌++◌}
use Prim.Native.Nat.{ℕ, ◌*◌, ◌^◌, ◌≤◌, ◌<◌}
use native.Mathlib.Nat.{le_of_eq}
use lib.ListN.{length}
use lib.Dec.{T, eqb, ltb}
use Rattle.format.specs.Format.{precision_of, table_bits, input_bits, word_count, word_width, image_length}
use Rattle.format.specs.declared.Format.{Format}
use Rattle.packing.specs.Packing.{bit_at}
use Rattle.tail.proofs.Bits.{before_first, at_first}
use Rattle.answers.specs.Refusal.{Refusal, Outcome, outcome, some_applies}
use Rattle.answers.proofs.Order.{avoids, first, later}
use Rattle.layout.specs.Layout.{end_of, first_wrong, first_past}
use Rattle.layout.specs.Refusals.{length_refusal, image_refusal, word_refusal, tail_refusal}
use Rattle.layout.proofs.Laws.{all_right, wrong_there, right_before}
use Rattle.image.specs.Image.{table_of}
use Rattle.nodes.specs.Refusals.{precision_refusal, guard_refusal}
use Rattle.image.specs.Refusals.{node_refusal, limits}
use Rattle.image.specs.Calls.{check_outcome, node_refusals}
use Rattle.image.proofs.Checks.{check_wrong, check_past}
use Rattle.image.proofs.Limits.{limit_none, limit_passes}
use Rattle.image.proofs.Judging.{node_refused}
use Rattle.statements.specs.Terms.{IsPrecision, AreGuardBits, IsOffered, IsLongEnough, IsRightAt, IsSetPast}
use Rattle.statements.proofs.Iff.{joined, same, both, is_precision, no_precision, guards_of, are_guards, no_guards, in_table, is_below, not_below, wrong_word, no_wrong_word, read_wrong, some_wrong, none_wrong}

-- a lone test, with nothing behind it
pub alone : {A : Type 0} {n : ℕ} → (A × (n ≡ n)) ↔ A
alone = (λ t. t.0, λ t. (t, refl))

-- facts of precision and guard bits as one
offered : {A B C : Type 0} → (A × (B × C)) ↔ ((A × B) × C)
offered = (λ t. ((t.0, t.1.0), t.1.1), λ t. (t.0.0, (t.0.1, t.1)))

-- a format that can be ordered and a buffer that is long enough keep the limits
pub limits_kept : (F : Format) (s : List ℕ) → IsOffered F → IsLongEnough F s → some_applies (limits F (length s)) ≡ false
limits_kept F s o l = limit_none F s o.0.0 o.0.1 (guards_of F.guard_bits o.1) l

-- the limits before any list of refusals
module _ (F : Format) (s : List ℕ) (rs : List Refusal) (v : ℕ) where
  abbrev behind : Outcome
  behind = outcome (limits F (length s) ++ rs) v

  -- the refusals behind the first, and behind the second
  abbrev from_18 : List Refusal
  from_18 = guard_refusal F.guard_bits ∷ length_refusal (table_of F) (length s) ∷ rs

  abbrev from_2 : List Refusal
  from_2 = length_refusal (table_of F) (length s) ∷ rs

  pub refuses_1 : T (avoids 1 from_18) → (behind.number ≡ 1) ↔ (IsPrecision (precision_of F) → ⊥)
  refuses_1 t = joined (first (precision_refusal (precision_of F)) from_18 v t) (no_precision (precision_of F))

  pub refuses_18 : T (avoids 18 from_2) → (behind.number ≡ 18) ↔ (IsPrecision (precision_of F) × (AreGuardBits (table_bits F) (input_bits F) → ⊥))
  refuses_18 t =
      joined (later 18 (precision_refusal (precision_of F)) from_18 v tt)
      (both (is_precision (precision_of F)) (joined (first (guard_refusal F.guard_bits) from_2 v t) (no_guards F.guard_bits)))

  -- a number that neither has
  behind_guards : (n : ℕ) → T (not (eqb 1 n)) → T (not (eqb 18 n)) → (behind.number ≡ n) ↔ (IsOffered F × ((outcome from_2 v).number ≡ n))
  behind_guards n a b =
      joined (later n (precision_refusal (precision_of F)) from_18 v a)
      (joined (both (is_precision (precision_of F)) (joined (later n (guard_refusal F.guard_bits) from_2 v b) (both (are_guards F.guard_bits) same))) offered)

  pub refuses_2 : T (avoids 2 rs) → (behind.number ≡ 2) ↔ (IsOffered F × (length s < image_length F))
  refuses_2 t =
      joined (behind_guards 2 tt tt)
      (both same (joined (first (length_refusal (table_of F) (length s)) rs v t) (is_below (length s) (image_length F))))

  pub later_number : (n : ℕ) → T (not (eqb 1 n)) → T (not (eqb 18 n)) → T (not (eqb 2 n)) → (behind.number ≡ n) ↔ (IsOffered F × (IsLongEnough F s × ((outcome rs v).number ≡ n)))
  later_number n a b c =
      joined (behind_guards n a b)
      (both same (joined (later n (length_refusal (table_of F) (length s)) rs v c) (both (not_below (length s) (image_length F)) same)))

  -- with all limits kept the answer is that of the rest
  pub kept_answer : IsOffered F → IsLongEnough F s → behind ≡ outcome rs v
  kept_answer o l = limit_passes F s rs v (limits_kept F s o l)

-- the check
module _ (F : Format) (s : List ℕ) where
  -- its last two refusals, for a wrong word and for a wrong tail
  abbrev pub of_content : List Refusal
  of_content = image_refusal (table_of F) s ∷ tail_refusal (table_of F) s ∷ []

  pub first-wrong : IsOffered F → IsLongEnough F s → (j : ℕ) → j < word_count F → (IsRightAt F s j → ⊥)
      → ((check_outcome F s).place < word_count F) × (IsRightAt F s (check_outcome F s).place → ⊥) × ((i : ℕ) → i < (check_outcome F s).place → IsRightAt F s i)
  first-wrong o l j h f =
      let t = (is_below (first_wrong (table_of F) s) (word_count F)).0 ((some_wrong F s).1 (j, h, f)) in
      rw (ap (λ (a : Outcome). a.place) (check_wrong F s (limits_kept F s o l) t))
      (t, wrong_there (table_of F) s t, right_before (table_of F) s)

  -- 7, by the lowest byte with a one behind the last word
  pub number_7 : ((check_outcome F s).number ≡ 7)
      ↔ (IsOffered F × (IsLongEnough F s × (((j : ℕ) → j < word_count F → IsRightAt F s j) × T (ltb (first_past (table_of F) s) (length s)))))
  number_7 =
      joined (later_number F s of_content 0 7 tt tt tt)
      (both same (both same
      (joined (later 7 (image_refusal (table_of F) s) (tail_refusal (table_of F) s ∷ []) 0 tt) (both (none_wrong F s) (first (tail_refusal (table_of F) s) [] 0 tt)))))

  -- its place
  pub place_7 : (check_outcome F s).number ≡ 7 → (first_past (table_of F) s < length s) × ((check_outcome F s).place ≡ first_past (table_of F) s)
  place_7 e =
      let t = number_7.0 e in
      let h = (is_below (first_past (table_of F) s) (length s)).0 t.1.1.1 in
      (h, ap (λ (a : Outcome). a.place) (check_past F s (limits_kept F s t.0 t.1.0) (le_of_eq (sym (all_right (table_of F) s t.1.1.0))) h))

-- its place under 7: that byte has a one behind the last word, and no bit from there on before it is one
pub set_place : (F : Format) (s : List ℕ) → (check_outcome F s).number ≡ 7
    → IsSetPast F s (check_outcome F s).place × ((b : ℕ) → word_count F * word_width F ≤ b → b < 8 * (check_outcome F s).place → bit_at s b ≡ 0)
set_place F s e = let t = place_7 F s e in rw t.1 ((t.0, at_first (end_of (table_of F)) s t.0), before_first (end_of (table_of F)) s)

module _ (F : Format) (s : List ℕ) (j v : ℕ) where
  -- the two last refusals of reading a node
  pub node_number_3 : ((outcome (node_refusal (precision_of F) j ∷ word_refusal (table_of F) s j ∷ []) v).number ≡ 3) ↔ (2 ^ precision_of F < j)
  node_number_3 = joined (first (node_refusal (precision_of F) j) (word_refusal (table_of F) s j ∷ []) v tt) (is_below (2 ^ precision_of F) j)

  pub node_number_6 : ((outcome (node_refusal (precision_of F) j ∷ word_refusal (table_of F) s j ∷ []) v).number ≡ 6) ↔ ((j < word_count F) × (IsRightAt F s j → ⊥))
  node_number_6 =
      joined (later 6 (node_refusal (precision_of F) j) (word_refusal (table_of F) s j ∷ []) v tt)
      (joined (both (not_below (2 ^ precision_of F) j) (joined (first (word_refusal (table_of F) s j) [] v tt) (wrong_word F s j)))
      (λ t. t.1, λ t. (in_table F j t.0, t)))

  pub node_number_0 : ((outcome (node_refusal (precision_of F) j ∷ word_refusal (table_of F) s j ∷ []) v).number ≡ 0) ↔ ((j ≤ 2 ^ precision_of F) × (j < word_count F → IsRightAt F s j))
  node_number_0 =
      joined (later 0 (node_refusal (precision_of F) j) (word_refusal (table_of F) s j ∷ []) v tt)
      (both (not_below (2 ^ precision_of F) j) (joined (later 0 (word_refusal (table_of F) s j) [] v tt) (joined alone (no_wrong_word F s j))))

  -- its place under 6
  pub node_place : IsOffered F → IsLongEnough F s → j < word_count F → (IsRightAt F s j → ⊥) → (outcome (node_refusals F s j) v).place ≡ j
  node_place o l h f =
      ap (λ (a : Outcome). a.place)
      (kept_answer F s (node_refusal (precision_of F) j ∷ word_refusal (table_of F) s j ∷ []) v o l
      ∙ node_refused F s j v (in_table F j h) (read_wrong F s j h f))
