-- What the answers of reading a node, of the check and of the reciprocal depend on.
-- Assumes nothing.
use mathlib.Core.Path.{◌≡◌, refl, sym, ◌∙◌, ap}
use mathlib.Core.Logic.{⊎_elim}
use mathlib.Core.Bool.{Bool, true, false, cond, not, ◌&&◌}
use mathlib.Core.List.{List, [], ◌∷◌, ◌++◌}
use Prim.Native.Nat.{ℕ, ◌+◌, ◌^◌, ◌≤◌, ◌<◌}
use native.Mathlib.Nat.{le_of_lt}
use native.Mathlib.Omega.{arith}
use lib.ListN.{length, take, get_or}
use lib.Seq.{ext_get_or, get_or-take}
use lib.Dec.{ltb, eqb}
use borrow.Author.Tests.{lt-ltb, le-ltb}
use Rattle.bools.proofs.Bools.{below_or_not}
use Rattle.precision.specs.Precision.{in_range}
use Rattle.format.specs.GuardBits.{guards_in}
use Rattle.format.specs.Format.{precision_of, table_bits, input_bits, word_count, word_width, image_length}
use Rattle.format.specs.declared.Format.{Format}
use Rattle.nodes.specs.Nodes.{decode_in}
use Rattle.nodes.proofs.Forms.{decoded_last}
use Rattle.packing.specs.Packing.{first_byte, last_byte}
use Rattle.packing.proofs.Words.{word_local, span_within}
use Rattle.answers.specs.Refusal.{Refusal, Outcome, outcome, turned_back, some_applies}
use Rattle.answers.proofs.Order.{applied}
use Rattle.layout.specs.Layout.{first_wrong}
use Rattle.layout.specs.Refusals.{image_refusal, word_refusal, tail_refusal}
use Rattle.layout.proofs.Laws.{Fits, own_word, wrong_agrees}
use Rattle.image.specs.Image.{table_of, word_of, node_of}
use Rattle.nodes.specs.Refusals.{precision_refusal, guard_refusal}
use Rattle.image.specs.Refusals.{node_refusal, limits}
use Rattle.image.specs.Calls.{check_outcome, node_outcome, shown_part, shown_from}
use Rattle.image.proofs.Laws.{table_fits, has_bits}
use Rattle.image.proofs.Judging.{node_past}
use Rattle.operand.specs.Operand.{cut_operand}
use Rattle.operand.specs.Refusals.{operand_refusals}
use Rattle.operand.proofs.Limits.{operand_decides, operand_passes, operand_kept}
use Rattle.interpolation.specs.Algorithm.{node_number}
use Rattle.interpolation.specs.Reciprocal.{read_reciprocal}
use Rattle.interpolation.specs.Calls.{cut_refusals, reciprocal_outcome}
use Rattle.interpolation.specs.Inner.{cut_outcome}
use Rattle.statements.specs.Terms.{IsOffered, IsLongEnough, right_word, IsRightAt}
use Rattle.statements.proofs.Iff.{guards_of, is_below, some_wrong}
use Rattle.statements.proofs.Numbers.{limits_kept, of_content}
use Rattle.statements.proofs.Reciprocals.{before_last, has_word}
use Rattle.statements.proofs.Parts.{some_bits, shown_empty, shown_length, shown_bytes}

-- two buffers that are long enough
module _ (F : Format) (s t : List ℕ) (l : IsLongEnough F s) (m : IsLongEnough F t) where
  abbrev k : ℕ
  k = precision_of F

  abbrev a : ℕ
  a = table_bits F

  abbrev b : ℕ
  b = input_bits F

  rest_same : (rs us : List Refusal) (v w : ℕ) → outcome rs v ≡ outcome us w
      → outcome (limits F (length s) ++ rs) v ≡ outcome (limits F (length t) ++ us) w
  rest_same rs us v w e =
      rw (le-ltb (length s) (image_length F) l, le-ltb (length t) (image_length F) m)
      (ap (λ (o : Outcome). cond (not (in_range k)) (turned_back (precision_refusal k)) (cond (not (guards_in F.guard_bits)) (turned_back (guard_refusal F.guard_bits)) o)) e)

  -- at node i all that is taken from its word, where it has one
  refusal_same : (i : ℕ) → (i < word_count F → word_of F s i ≡ word_of F t i) → word_refusal (table_of F) s i ≡ word_refusal (table_of F) t i
  refusal_same i e =
      ⊎_elim (λ h. ap (λ (x : ℕ). record { applies = ltb i (word_count F) && not (eqb x (right_word F.form k a i)); number = 6; place = i }) (e h))
      (λ n. rw (le-ltb i (word_count F) n)) (below_or_not i (word_count F))

  value_same : (i : ℕ) → i ≤ 2 ^ k → (i < word_count F → word_of F s i ≡ word_of F t i) → node_of F s i ≡ node_of F t i
  value_same i h e =
      ⊎_elim (λ l. ap (decode_in F.form k a i) (e l)) (λ n. decoded_last k a i (word_of F s i) F.form n h ∙ sym (decoded_last k a i (word_of F t i) F.form n h))
      (below_or_not i (word_count F))

  pub node_same : (j : ℕ) → (j < word_count F → word_of F s j ≡ word_of F t j) → node_outcome F s j ≡ node_outcome F t j
  node_same j e =
      rest_same (node_refusal k j ∷ word_refusal (table_of F) s j ∷ []) (node_refusal k j ∷ word_refusal (table_of F) t j ∷ []) (node_of F s j) (node_of F t j)
      (⊎_elim (λ h. node_past F s j (node_of F s j) h ∙ sym (node_past F t j (node_of F t j) h))
      (λ h. let r = refusal_same j e in let v = value_same j h e in cc) (below_or_not (2 ^ k) j))

  -- the words of nodes j and j + 1 of a cut operand
  cut_same : (x : ℕ) → node_number k b x < 2 ^ k → word_of F s (node_number k b x) ≡ word_of F t (node_number k b x) → (node_number k b x + 1 < word_count F → word_of F s (node_number k b x + 1) ≡ word_of F t (node_number k b x + 1))
      → cut_outcome F s x ≡ cut_outcome F t x
  cut_same x h e d =
      let next : node_number k b x + 1 ≤ 2 ^ k = omega arith in
      let r = refusal_same (node_number k b x) (λ m. e) in
      let r' = refusal_same (node_number k b x + 1) d in
      let c = value_same (node_number k b x) (le_of_lt h) (λ m. e) in
      let c' = value_same (node_number k b x + 1) next d in
      cc

  pub reciprocal_same : (n X : ℕ) → (node_number k b (cut_operand k b n X) < word_count F → word_of F s (node_number k b (cut_operand k b n X)) ≡ word_of F t (node_number k b (cut_operand k b n X)))
      → (node_number k b (cut_operand k b n X) + 1 < word_count F → word_of F s (node_number k b (cut_operand k b n X) + 1) ≡ word_of F t (node_number k b (cut_operand k b n X) + 1))
      → reciprocal_outcome F s n X ≡ reciprocal_outcome F t n X
  reciprocal_same n X e d = rest_same (limits s) (limits t) (value s) (value t) (by (some_applies (operand_refusals n X)) refl)
    where
      words : List ℕ → List Refusal
      words u = cut_refusals F u (cut_operand k b n X)

      limits : List ℕ → List Refusal
      limits u = operand_refusals n X ++ words u

      value : List ℕ → ℕ
      value u = read_reciprocal F u (cut_operand k b n X)

      by : (b : Bool) → some_applies (operand_refusals n X) ≡ b → outcome (limits s) (value s) ≡ outcome (limits t) (value t)
      by false none =
          let o = operand_kept n X none in
          operand_passes n X (words s) (value s) none
          ∙ cut_same (cut_operand k b n X) (before_last k b n X (o.least, o.below)) (e (has_word F s n X (o.least, o.below))) d
          ∙ sym (operand_passes n X (words t) (value t) none)
      by true some = operand_decides n X (words s) (value s) some ∙ sym (operand_decides n X (words t) (value t) some)

  -- the check where a word is wrong
  pub check_same : (j : ℕ) → j < word_count F → (IsRightAt F s j → ⊥) → ((i : ℕ) → i < word_count F → word_of F s i ≡ word_of F t i) → check_outcome F s ≡ check_outcome F t
  check_same j h f e =
      let agree : first_wrong (table_of F) s ≡ first_wrong (table_of F) t = wrong_agrees (table_of F) s t e in
      let wrong : first_wrong (table_of F) s < word_count F = (is_below (first_wrong (table_of F) s) (word_count F)).0 ((some_wrong F s).1 (j, h, f)) in
      rest_same (of_content F s) (of_content F t) 0 0
      (applied (image_refusal (table_of F) s) (tail_refusal (table_of F) s ∷ []) 0 (lt-ltb (first_wrong (table_of F) s) (word_count F) wrong)
      ∙ ap (λ (n : ℕ). record { number = 6; place = n; value = 0 }) agree
      ∙ sym (applied (image_refusal (table_of F) t) (tail_refusal (table_of F) t ∷ []) 0 (lt-ltb (first_wrong (table_of F) t) (word_count F) (omega (arith, wrong, agree)))))

-- a word by its bytes
pub word_same : (F : Format) (s t : List ℕ) (j : ℕ) → 1 ≤ word_width F → ((i : ℕ) → first_byte (word_width F) j ≤ i → i ≤ last_byte (word_width F) j → get_or s i 0 ≡ get_or t i 0) → word_of F s j ≡ word_of F t j
word_same F s t j = word_local (word_width F) s t j

-- two buffers with the same image at their front
module _ (F : Format) (s t : List ℕ) (p : IsOffered F) (l : IsLongEnough F s) (m : IsLongEnough F t) (e : take (image_length F) s ≡ take (image_length F) t) where
  fits : Fits (table_of F)
  fits = table_fits F (has_bits F (guards_of F.guard_bits p.1))

  front_word : (j : ℕ) → j < word_count F → word_of F s j ≡ word_of F t j
  front_word j h =
      sym (own_word (table_of F) fits s j h) ∙ ap (λ (u : List ℕ). word_of F u j) e ∙ own_word (table_of F) fits t j h

  pub front_node : (j : ℕ) → node_outcome F s j ≡ node_outcome F t j
  front_node j = node_same F s t l m j (front_word j)

  pub front_reciprocal : (n X : ℕ) → reciprocal_outcome F s n X ≡ reciprocal_outcome F t n X
  front_reciprocal n X =
      reciprocal_same F s t l m n X (front_word (node_number (precision_of F) (input_bits F) (cut_operand (precision_of F) (input_bits F) n X))) (front_word (node_number (precision_of F) (input_bits F) (cut_operand (precision_of F) (input_bits F) n X) + 1))

  pub front_check : (j : ℕ) → j < word_count F → (IsRightAt F s j → ⊥) → check_outcome F s ≡ check_outcome F t
  front_check j h f = check_same F s t l m j h f front_word

  front_byte : (i : ℕ) → i < image_length F → get_or s i 0 ≡ get_or t i 0
  front_byte i h =
      sym (get_or-take (image_length F) s i 0 h) ∙ ap (λ (u : List ℕ). get_or u i 0) e ∙ get_or-take (image_length F) t i 0 h

  part_there : (j : ℕ) → j < word_count F → shown_part F s j ≡ shown_part F t j
  part_there j h =
      let long = shown_length F s j p l h in
      let same : length (shown_part F s j) ≡ length (shown_part F t j) = long ∙ sym (shown_length F t j p m h) in
      ext_get_or 0 (shown_part F s j) (shown_part F t j) same
      (λ i q.
      shown_bytes F s j p l h i q
      ∙ front_byte (first_byte (word_width F) j + i)
      (omega (arith, q, long, span_within (word_width F) (word_count F) j (some_bits F p) h))
      ∙ sym (shown_bytes F t j p m h i (omega (arith, q, same))))

  -- and they stand at the same place
  pub front_place : (j : ℕ) → shown_from F s j ≡ shown_from F t j
  front_place j = rw (limits_kept F s p l, limits_kept F t p m)

  pub front_part : (j : ℕ) → shown_part F s j ≡ shown_part F t j
  front_part j =
      ⊎_elim (part_there j)
      (λ n. (shown_empty F s j).1 (λ r. omega (arith, n, r.2)) ∙ sym ((shown_empty F t j).1 (λ r. omega (arith, n, r.2))))
      (below_or_not j (word_count F))
