-- What a word in a buffer stands for: the test by a product tells whether it is wrong, and a right one stands for its
-- node; and what that means for the answer of reading a node.
-- Assumes nothing.
use mathlib.Core.Path.{◌≡◌, refl, sym, ap, ◌∙◌}
use mathlib.Core.Bool.{Bool, true, false, cond, not, ◌&&◌}
use mathlib.Core.List.{List, [], ◌∷◌}
use Prim.Native.Nat.{ℕ, ◌+◌, ◌^◌, ◌≤◌, ◌<◌}
use native.Mathlib.Omega.{arith}
use lib.Dec.{ltb}
use borrow.Author.Tests.{lt-ltb, le-ltb, ltb-true, ltb-false}
use Rattle.std.proofs.Common.{Some, None}
use Rattle.format.specs.Format.{precision_of, table_bits, word_width, word_count}
use Rattle.format.specs.declared.Format.{Format}
use Rattle.format.proofs.Laws.{count_most}
use Rattle.quotient.specs.Inner.{rounds_up}
use Rattle.nodes.specs.Nodes.{numerator, node, decode_under}
use Rattle.nodes.specs.Inner.{lead_in, quotients_of, judged_word}
use Rattle.nodes.proofs.Forms.{judged, judged_is, stands_for, decoded_under, decoded_right, decoded_last}
use Rattle.packing.proofs.Words.{word_lt}
use Rattle.answers.specs.Refusal.{outcome, served}
use Rattle.answers.proofs.Order.{applied, passed}
use Rattle.layout.specs.Layout.{is_wrong}
use Rattle.layout.specs.Refusals.{word_refusal}
use Rattle.layout.proofs.Laws.{not_wrong}
use Rattle.image.specs.Image.{table_of, word_of, node_of}
use Rattle.image.specs.Refusals.{node_refusal}

-- a choice by a test and one by its opposite
turned : {A : Type 0} (x y : A) (b d : Bool) → d ≡ not b → cond b x y ≡ cond d y x
turned x y true d e = rw e refl
turned x y false d e = rw e refl

-- a word that there is
module _ (F : Format) (s : List ℕ) (j : ℕ) (h : j < word_count F) where
  abbrev k : ℕ
  k = precision_of F

  abbrev a : ℕ
  a = table_bits F

  -- the test of what it stands for, whose result is v, tells whether it is wrong
  pub word_tells : {v : Bool} → v ≡ rounds_up (numerator k a) (2 ^ k + j) (decode_under (lead_in F.form k a) j (word_of F s j)) → is_wrong (table_of F) s j ≡ not v
  word_tells e = ap not (sym (e ∙ judged k a j (word_of F s j) F.form h (word_lt (word_width F) s j)))

  pub refusal_tells : (word_refusal (table_of F) s j).applies ≡ is_wrong (table_of F) s j
  refusal_tells = rw (lt-ltb j (word_count F) h)

  -- and it is what reading gives
  pub word_value : decode_under (lead_in F.form k a) j (word_of F s j) ≡ node_of F s j
  word_value = sym (decoded_under k a j (word_of F s j) F.form h)

  -- so what code gives for it is that, and none where the word is wrong
  pub word_given : k ≤ 12 → a ≤ 4 → judged_word (quotients_of F) j (word_of F s j) ≡ cond (is_wrong (table_of F) s j) None (Some (record { 0 = node_of F s j }))
  word_given high guard =
      let narrow = word_lt (word_width F) s j in
      judged_is F high guard j (word_of F s j) (omega (arith, h, count_most F.form k)) narrow
      ∙ turned _ _ (rounds_up (numerator k a) (2 ^ k + j) (stands_for F j (word_of F s j))) (is_wrong (table_of F) s j) (word_tells refl)
      ∙ ap (λ (c : ℕ). cond (is_wrong (table_of F) s j) None (Some (record { 0 = c }))) word_value

-- a word that is read and not wrong stands for the node; a node that has none is the last one, and is the node in any
-- case
pub right_node : (F : Format) (s : List ℕ) (j : ℕ) → j ≤ 2 ^ precision_of F → (word_refusal (table_of F) s j).applies ≡ false → node_of F s j ≡ node (precision_of F) (table_bits F) j
right_node F s j h = by (ltb j (word_count F)) refl
  where
    by : (b : Bool) → ltb j (word_count F) ≡ b → (b && is_wrong (table_of F) s j) ≡ false → node_of F s j ≡ node (precision_of F) (table_bits F) j
    by true below right = decoded_right (precision_of F) (table_bits F) j (word_of F s j) F.form (ltb-true j (word_count F) below) (not_wrong (table_of F) s j right)
    by false past right = decoded_last (precision_of F) (table_bits F) j (word_of F s j) F.form (ltb-false j (word_count F) past) h

-- a node that has no word never gives 6
pub last_passes : (F : Format) (s : List ℕ) (j : ℕ) → word_count F ≤ j → (word_refusal (table_of F) s j).applies ≡ false
last_passes F s j h = rw (le-ltb j (word_count F) h)

-- the two last refusals of reading a node, by where j lies and what its word is
module _ (F : Format) (s : List ℕ) (j v : ℕ) where
  pub node_past : 2 ^ precision_of F < j → outcome (node_refusal (precision_of F) j ∷ word_refusal (table_of F) s j ∷ []) v ≡ record { number = 3; place = 0; value = 0 }
  node_past h = applied (node_refusal (precision_of F) j) (word_refusal (table_of F) s j ∷ []) v (lt-ltb (2 ^ precision_of F) j h)

  pub node_refused : j ≤ 2 ^ precision_of F → (word_refusal (table_of F) s j).applies ≡ true → outcome (node_refusal (precision_of F) j ∷ word_refusal (table_of F) s j ∷ []) v ≡ record { number = 6; place = j; value = 0 }
  node_refused h e =
      passed (node_refusal (precision_of F) j) (word_refusal (table_of F) s j ∷ []) v (le-ltb (2 ^ precision_of F) j h) ∙ applied (word_refusal (table_of F) s j) [] v e

  pub node_served : j ≤ 2 ^ precision_of F → (word_refusal (table_of F) s j).applies ≡ false → outcome (node_refusal (precision_of F) j ∷ word_refusal (table_of F) s j ∷ []) v ≡ served v
  node_served h e =
      passed (node_refusal (precision_of F) j) (word_refusal (table_of F) s j ∷ []) v (le-ltb (2 ^ precision_of F) j h) ∙ passed (word_refusal (table_of F) s j) [] v e
