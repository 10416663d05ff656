-- The answer of the reciprocal: the limits of n and X before any list of refusals, the two words that are read, and the
-- whole call.
-- Assumes nothing.
use mathlib.Core.Path.{◌≡◌, sym, ◌∙◌, ap, ap₂}
use mathlib.Core.Logic.{◌↔◌, ◌⊎◌, ⊎_elim}
use mathlib.Core.Bool.{not}
use mathlib.Core.List.{List, [], ◌∷◌}
use Prim.Native.Nat.{ℕ, ◌+◌, ◌-◌, ◌*◌, ◌/◌, ◌^◌, ◌≤◌, ◌<◌}
use native.Mathlib.Nat.{le_of_lt, zero-div, zero-mod}
use native.Mathlib.Omega.{arith}
use lib.Pow.{pow-add, shl-shr}
use lib.Dec.{T, eqb}
use lib.ListN.{length}
use Rattle.answers.specs.Refusal.{Refusal, Outcome, outcome, served}
use Rattle.answers.proofs.Order.{avoids, first, later, shared}
use Rattle.format.specs.Format.{precision_of, table_bits, input_bits, word_count, image_length}
use Rattle.format.proofs.Laws.{count_least}
use Rattle.format.specs.declared.Format.{Format}
use Rattle.nodes.specs.Nodes.{node}
use Rattle.layout.specs.Refusals.{word_refusal}
use Rattle.image.specs.Image.{table_of}
use Rattle.operand.specs.Operand.{cut_operand}
use Rattle.operand.specs.Refusals.{fraction_refusal, operand_refusal}
use Rattle.operand.proofs.Laws.{cut_normalised, cut_greatest}
use Rattle.operand.proofs.Limits.{operand_passes, operand_none}
use Rattle.interpolation.specs.Algorithm.{index, node_number, fraction, product_sum, chopped}
use Rattle.interpolation.specs.Reciprocal.{read_reciprocal, reciprocal}
use Rattle.interpolation.specs.Calls.{cut_refusals, reciprocal_outcome}
use Rattle.interpolation.specs.Inner.{cut_of, cut_outcome}
use Rattle.nodes.proofs.Nodes.{node_first}
use Rattle.interpolation.proofs.Answers.{first-wrong, next_wrong, none_wrong, read_right as gives-R}
use Rattle.interpolation.proofs.Cut.{cut_index, cut_number_below, bits_number, bits_fraction, cut_node_falls, cut_fraction_below, difference_most, cut_reciprocal_least, cut_reciprocal_most, cut_reciprocal_last}
use Rattle.statements.specs.Terms.{IsPrecision, AreGuardBits, IsOffered, IsLongEnough, IsRightAt, IsFractionCount, IsNormalised}
use Rattle.statements.proofs.Iff.{joined, same, both, under, either, row3, row4, row5, row6, is_count, no_count, is-normalised, not_normalised, wrong_word, no_wrong_word, read_wrong, read_right}
use Rattle.statements.proofs.Numbers.{alone, refuses_1, refuses_18, refuses_2, kept_answer, later_number}

-- the limits of n and X before any list of refusals
module _ (n X : ℕ) (rs : List Refusal) (v : ℕ) where
  abbrev behind : Outcome
  behind = outcome (fraction_refusal n ∷ operand_refusal n X ∷ rs) v

  pub number_4 : T (avoids 4 (operand_refusal n X ∷ rs)) → (behind.number ≡ 4) ↔ (IsFractionCount n → ⊥)
  number_4 t = joined (first (fraction_refusal n) (operand_refusal n X ∷ rs) v t) (no_count n)

  pub number_5 : T (avoids 5 rs) → (behind.number ≡ 5) ↔ (IsFractionCount n × (IsNormalised n X → ⊥))
  number_5 t =
      joined (later 5 (fraction_refusal n) (operand_refusal n X ∷ rs) v tt)
      (both (is_count n) (joined (first (operand_refusal n X) rs v t) (not_normalised n X)))

  later_operand : (m : ℕ) → T (not (eqb 4 m)) → T (not (eqb 5 m)) → (behind.number ≡ m) ↔ (IsFractionCount n × (IsNormalised n X × ((outcome rs v).number ≡ m)))
  later_operand m a b =
      joined (later m (fraction_refusal n) (operand_refusal n X ∷ rs) v a)
      (both (is_count n) (joined (later m (operand_refusal n X) rs v b) (both (is-normalised n X) same)))

  kept_operand : IsFractionCount n → IsNormalised n X → behind ≡ outcome rs v
  kept_operand c o =
      operand_passes n X rs v (operand_none n X (record { low = c.0; high = c.1; least = o.0; below = o.1 }))

-- the words of node j, which has one, and of node j + 1, which may have none
module _ (F : Format) (s : List ℕ) (j v : ℕ) (h : j < word_count F) where
  abbrev words : List Refusal
  words = word_refusal (table_of F) s j ∷ word_refusal (table_of F) s (j + 1) ∷ []

  words_6 : ((outcome words v).number ≡ 6) ↔ ((IsRightAt F s j → ⊥) ⊎ ((j + 1 < word_count F) × (IsRightAt F s (j + 1) → ⊥)))
  words_6 =
      joined (shared (word_refusal (table_of F) s j) (word_refusal (table_of F) s (j + 1) ∷ []) v)
      (either (joined (wrong_word F s j) (λ t. t.1, λ f. (h, f))) (joined (first (word_refusal (table_of F) s (j + 1)) [] v tt) (wrong_word F s (j + 1))))

  words_0 : ((outcome words v).number ≡ 0) ↔ (IsRightAt F s j × (j + 1 < word_count F → IsRightAt F s (j + 1)))
  words_0 =
      joined (later 0 (word_refusal (table_of F) s j) (word_refusal (table_of F) s (j + 1) ∷ []) v tt)
      (both (joined (no_wrong_word F s j) (λ f. f h, λ r m. r))
      (joined (later 0 (word_refusal (table_of F) s (j + 1)) [] v tt) (joined alone (no_wrong_word F s (j + 1)))))

-- what holds of t and of its node, at every k and with any input guard bits
module _ (k b n X : ℕ) where
  abbrev j : ℕ
  j = node_number k b (cut_operand k b n X)

  -- the cut of a normalised operand is normalised
  cut_in_range : IsNormalised n X → (2 ^ (2 * k + b) ≤ cut_operand k b n X) × (cut_operand k b n X < 2 ^ (2 * k + (b + 1)))
  cut_in_range o = cut_normalised k b n X o.0 o.1

  -- so it leads to a node before the last, which has a word in every form
  pub before_last : IsNormalised n X → j < 2 ^ k
  before_last o = let r = cut_in_range o in cut_number_below k b (cut_operand k b n X) r.0 r.1

-- and of R
module _ (k a b n X : ℕ) where
  abbrev c : ℕ → ℕ
  c = node k a

  abbrev t : ℕ
  t = cut_operand k b n X

  abbrev at : ℕ
  at = j k b n X

  -- no difference of Algorithm 2 falls below 0
  pub differences : IsNormalised n X → (2 ^ k + at ≡ index k b t) × (at < 2 ^ k) × (c (at + 1) ≤ c at) × ((c at - c (at + 1)) * fraction k b t ≤ c at * 2 ^ (k + b))
  differences o =
      let r = cut_in_range k b n X o in (
        cut_index k b t r.0 r.1,
        before_last k b n X o,
        cut_node_falls k a b t,
        difference_most k b (c at) (c (at + 1)) (fraction k b t) (le_of_lt (cut_fraction_below k b t)),
      )

  -- R runs from 2^(2k) to 2^(2k+1)
  pub reciprocal_least : IsNormalised n X → 2 ^ (2 * k) ≤ reciprocal k a b n X
  reciprocal_least o = let r = cut_in_range k b n X o in cut_reciprocal_least k a b t r.0 r.1

  pub reciprocal_most : IsNormalised n X → reciprocal k a b n X ≤ 2 ^ (2 * k + 1)
  reciprocal_most o = let r = cut_in_range k b n X o in cut_reciprocal_most k a b t r.0 r.1

  -- both ends are reached
  pub reciprocal_of_greatest : 1 ≤ b → 2 * k + b ≤ n → X + 1 ≡ 2 ^ (n + 1) → reciprocal k a b n X ≡ 2 ^ (2 * k)
  reciprocal_of_greatest some e last =
      let one_more : 2 * k + b + 1 ≡ 2 * k + (b + 1) = omega arith in
      cut_reciprocal_last k a b t some (rw one_more at (cut_greatest (2 * k + b) n e X last))

  -- the least operand is cut to the least, which is node 0 itself
  pub reciprocal_of_least : X ≡ 2 ^ n → reciprocal k a b n X ≡ 2 ^ (2 * k + 1)
  reciprocal_of_least one =
      ap₂ (λ (i f : ℕ). chopped k a b (product_sum k b (c i) (c (i + 1)) f)) at_none fraction_none
      ∙ ap (λ (P : ℕ). P / 2 ^ (k + (a + b))) at_first
      ∙ shl-shr (2 ^ (2 * k + 1)) (k + (a + b))
    where
      moved : 2 ^ n * 2 ^ (2 * k + b - n) ≡ 2 ^ (2 * k + b) * 2 ^ (n - (2 * k + b))
      moved =
          sym (pow-add 2 n (2 * k + b - n))
          ∙ ap (λ (e : ℕ). 2 ^ e) {x = n + (2 * k + b - n)} {y = 2 * k + b + (n - (2 * k + b))} (omega arith)
          ∙ pow-add 2 (2 * k + b) (n - (2 * k + b))

      least : t ≡ cut_of k b 0
      least =
          ap (λ (x : ℕ). x * 2 ^ (2 * k + b - n) / 2 ^ (n - (2 * k + b))) one
          ∙ ap (λ (x : ℕ). x / 2 ^ (n - (2 * k + b))) moved
          ∙ shl-shr (2 ^ (2 * k + b)) (n - (2 * k + b))
          ∙ omega arith

      at_none : at ≡ 0
      at_none = ap (node_number k b) least ∙ bits_number k b 0 ∙ zero-div (2 ^ (k + b))

      fraction_none : fraction k b t ≡ 0
      fraction_none = ap (fraction k b) least ∙ bits_fraction k b 0 ∙ zero-mod (2 ^ (k + b))

      ulps : 2 ^ (2 * k + (a + 1)) * 2 ^ (k + b) ≡ 2 ^ (2 * k + 1) * 2 ^ (k + (a + b))
      ulps =
          sym (pow-add 2 (2 * k + (a + 1)) (k + b))
          ∙ ap (λ (e : ℕ). 2 ^ e) {x = 2 * k + (a + 1) + (k + b)} {y = 2 * k + 1 + (k + (a + b))} (omega arith)
          ∙ pow-add 2 (2 * k + 1) (k + (a + b))

      at_first : product_sum k b (c 0) (c 1) 0 ≡ 2 ^ (2 * k + 1) * 2 ^ (k + (a + b))
      at_first = omega (arith, ap (λ (x : ℕ). x * 2 ^ (k + b)) (node_first k a), ulps)

-- the whole call
module _ (F : Format) (s : List ℕ) (n X : ℕ) where
  abbrev k : ℕ
  k = precision_of F

  abbrev a : ℕ
  a = table_bits F

  abbrev b : ℕ
  b = input_bits F

  -- the lower node of the piece to which X leads; it has a word in every form
  abbrev lower : ℕ
  lower = j k b n X

  pub has_word : IsNormalised n X → lower < word_count F
  has_word o = omega (arith, before_last k b n X o, count_least F.form k)

  abbrev v : ℕ
  v = read_reciprocal F s (cut_operand k b n X)

  abbrev words_read : List Refusal
  words_read = cut_refusals F s (cut_operand k b n X)

  abbrev behind_limits : List Refusal
  behind_limits = fraction_refusal n ∷ operand_refusal n X ∷ words_read

  -- the numbers
  pub reciprocal_1 : ((reciprocal_outcome F s n X).number ≡ 1) ↔ (IsPrecision k → ⊥)
  reciprocal_1 = refuses_1 F s behind_limits v tt

  pub reciprocal_18 : ((reciprocal_outcome F s n X).number ≡ 18) ↔ (IsPrecision k × (AreGuardBits a b → ⊥))
  reciprocal_18 = refuses_18 F s behind_limits v tt

  pub reciprocal_2 : ((reciprocal_outcome F s n X).number ≡ 2) ↔ (IsOffered F × (length s < image_length F))
  reciprocal_2 = refuses_2 F s behind_limits v tt

  pub reciprocal_4 : ((reciprocal_outcome F s n X).number ≡ 4) ↔ (IsOffered F × IsLongEnough F s × (IsFractionCount n → ⊥))
  reciprocal_4 = joined (later_number F s behind_limits v 4 tt tt tt) (joined (both same (both same (number_4 n X words_read v tt))) row3)

  pub reciprocal_5 : ((reciprocal_outcome F s n X).number ≡ 5) ↔ (IsOffered F × IsLongEnough F s × IsFractionCount n × (IsNormalised n X → ⊥))
  reciprocal_5 = joined (later_number F s behind_limits v 5 tt tt tt) (joined (both same (both same (number_5 n X words_read v tt))) row4)

  pub reciprocal_6 : ((reciprocal_outcome F s n X).number ≡ 6)
      ↔ (IsOffered F × IsLongEnough F s × IsFractionCount n × IsNormalised n X × ((IsRightAt F s lower → ⊥) ⊎ ((lower + 1 < word_count F) × (IsRightAt F s (lower + 1) → ⊥))))
  reciprocal_6 =
      joined (later_number F s behind_limits v 6 tt tt tt)
      (joined (both same (both same (joined (later_operand n X words_read v 6 tt tt) (under (λ c. under (λ o. words_6 F s lower v (has_word o))))))) row5)

  pub reciprocal_0 : ((reciprocal_outcome F s n X).number ≡ 0)
      ↔ (IsOffered F × IsLongEnough F s × IsFractionCount n × IsNormalised n X × IsRightAt F s lower × (lower + 1 < word_count F → IsRightAt F s (lower + 1)))
  reciprocal_0 =
      joined (later_number F s behind_limits v 0 tt tt tt)
      (joined (both same (both same (joined (later_operand n X words_read v 0 tt tt) (under (λ c. under (λ o. words_0 F s lower v (has_word o))))))) row6)

  -- the whole answer with all limits kept: by the words of j and j + 1
  module _ (p : IsOffered F) (l : IsLongEnough F s) (c : IsFractionCount n) (o : IsNormalised n X) where
    kept_cut : reciprocal_outcome F s n X ≡ cut_outcome F s (cut_operand k b n X)
    kept_cut = kept_answer F s behind_limits v p l ∙ kept_operand n X words_read v c o

    pub lower_named : (IsRightAt F s lower → ⊥) → reciprocal_outcome F s n X ≡ record { number = 6; place = lower; value = 0 }
    lower_named f = kept_cut ∙ first-wrong F s (cut_operand k b n X) (read_wrong F s lower (has_word o) f)

    pub upper_named : IsRightAt F s lower → lower + 1 < word_count F → (IsRightAt F s (lower + 1) → ⊥) → reciprocal_outcome F s n X ≡ record { number = 6; place = lower + 1; value = 0 }
    upper_named r m f = kept_cut ∙ next_wrong F s (cut_operand k b n X) (read_right F s lower (λ l. r)) (read_wrong F s (lower + 1) m f)

    pub gives : IsRightAt F s lower → (lower + 1 < word_count F → IsRightAt F s (lower + 1)) → reciprocal_outcome F s n X ≡ served (reciprocal k a b n X)
    gives r q =
        let first = read_right F s lower (λ l. r) in
        let next = read_right F s (lower + 1) q in
        kept_cut ∙ none_wrong F s (cut_operand k b n X) first next ∙ ap served (gives-R F s (cut_operand k b n X) first next (before_last k b n X o))

  -- the place under 6
  pub lower_place : (reciprocal_outcome F s n X).number ≡ 6 → (IsRightAt F s lower → ⊥) → (reciprocal_outcome F s n X).place ≡ lower
  lower_place e f =
      let t = reciprocal_6.0 e in
      ap (λ (a : Outcome). a.place) (lower_named t.0 t.1 t.2 t.3 f)

  pub upper_place : (reciprocal_outcome F s n X).number ≡ 6 → IsRightAt F s lower → (reciprocal_outcome F s n X).place ≡ lower + 1
  upper_place e r =
      let t = reciprocal_6.0 e in
      ⊎_elim (λ f. absurd (f r))
      (λ u. ap (λ (a : Outcome). a.place) (upper_named t.0 t.1 t.2 t.3 r u.0 u.1))
      t.4
