-- Facts of the nodes that the page Construction cites: their bits, and what words stand for.
-- Assumes nothing.
use mathlib.Core.Path.{◌≡◌, sym, ◌∙◌, ap}
use mathlib.Core.Logic.{◌↔◌}
use mathlib.Core.List.{List, [], ◌∷◌}
use Prim.Native.Nat.{ℕ, ◌+◌, ◌*◌, ◌/◌, ◌^◌, ◌≤◌, ◌<◌}
use native.Mathlib.Nat.{div-eq_of_lt-le}
use native.Mathlib.Omega.{arith}
use lib.Pow.{pow_pos}
use Rattle.format.specs.Format.{precision_of, table_bits, asked, word_count}
use Rattle.format.specs.declared.Form.TheVariants.{Plain, Full}
use Rattle.format.specs.declared.Format.{Format}
use Rattle.nodes.specs.Nodes.{node}
use Rattle.nodes.proofs.Nodes.{node_first, node_above, node_below, node_last, node_ordered, lead_double, stored_word_first, stored_word_between}
use Rattle.answers.specs.Refusal.{Outcome, served}
use Rattle.layout.specs.Refusals.{word_refusal}
use Rattle.image.specs.Image.{table_of, word_of, node_of}
use Rattle.image.specs.Refusals.{node_refusal}
use Rattle.image.specs.Calls.{node_outcome}
use Rattle.image.proofs.Judging.{right_node, node_served, last_passes}
use Rattle.statements.specs.Terms.{IsOffered, IsLongEnough, IsRightAt}
use Rattle.statements.proofs.Iff.{read_right}
use Rattle.statements.proofs.Numbers.{kept_answer, later_number, node_number_0}

-- i = 2^k + j is never 0
pub index_positive : (k j : ℕ) → 0 < 2 ^ k + j
index_positive k j = omega (arith, pow_pos k)

-- a value from 2^(2k+a) up to 2^(2k+a+1) has 2k + a + 1 bits with a leading one
pub leading-one : (k a j : ℕ) → 0 < j → j ≤ 2 ^ k → node k a j / 2 ^ (2 * k + a) ≡ 1
leading-one k a j h l =
    div-eq_of_lt-le (2 ^ (2 * k + a)) (omega (arith, node_last k a, node_ordered k a {i = j} {j = 2 ^ k} l)) (omega (arith, node_below k a j h, lead_double k a))

-- the word of a served node decodes to the node
pub served_decodes : (F : Format) (s : List ℕ) (j : ℕ) → j ≤ 2 ^ precision_of F → (j < word_count F → IsRightAt F s j) → node_of F s j ≡ node (precision_of F) (table_bits F) j
served_decodes F s j h f = right_node F s j h (read_right F s j f)

-- every node has a bit that is one
pub node_positive : (k a j : ℕ) → j ≤ 2 ^ k → 0 < node k a j
node_positive k a j h = omega (arith, node_last k a, node_ordered k a {i = j} {j = 2 ^ k} h, pow_pos (2 * k + a))

-- zero words: in full words they are wrong
pub zero_full : (k a b : ℕ) (s : List ℕ) (j : ℕ) → j ≤ 2 ^ k → word_of (asked Full k a b) s j ≡ 0 → IsRightAt (asked Full k a b) s j → ⊥
zero_full k a b s j h e r = omega (arith, node_positive k a j h, sym e ∙ r)

-- in plain words the one of node 0 is right, and every other is wrong
pub zero_right : (k a b : ℕ) (s : List ℕ) → word_of (asked Plain k a b) s 0 ≡ 0 → IsRightAt (asked Plain k a b) s 0
zero_right k a b s e = e ∙ sym (stored_word_first k a)

pub zero_wrong : (k a b : ℕ) (s : List ℕ) (j : ℕ) → 0 < j → j < 2 ^ k → word_of (asked Plain k a b) s j ≡ 0 → IsRightAt (asked Plain k a b) s j → ⊥
zero_wrong k a b s j h l e r = omega (arith, node_above k a j l, sym e ∙ r ∙ stored_word_between k a j h l)

-- node 2^k of plain words, which has none
pub last_served : (k a b : ℕ) (s : List ℕ) → IsOffered (asked Plain k a b) → IsLongEnough (asked Plain k a b) s → node_outcome (asked Plain k a b) s (2 ^ k) ≡ served (2 ^ (2 * k + a))
last_served k a b s o l =
    kept_answer (asked Plain k a b) s (node_refusal k (2 ^ k) ∷ word_refusal (table_of (asked Plain k a b)) s (2 ^ k) ∷ []) (node_of (asked Plain k a b) s (2 ^ k)) o l
    ∙ node_served (asked Plain k a b) s (2 ^ k) (node_of (asked Plain k a b) s (2 ^ k)) (omega arith) (last_passes (asked Plain k a b) s (2 ^ k) (omega arith))
    ∙ ap served (served_decodes (asked Plain k a b) s (2 ^ k) (omega arith) (λ h. absurd (omega (arith, h))) ∙ node_last k a)

-- the answer of reading node 0 by its plain word
module _ (k a b : ℕ) (s : List ℕ) (p : IsOffered (asked Plain k a b)) (l : IsLongEnough (asked Plain k a b) s) where
  abbrev F : Format
  F = asked Plain k a b

  zero_given : word_of F s 0 ≡ 0 → node_outcome F s 0 ≡ served (2 ^ (2 * k + (a + 1)))
  zero_given e =
      let right = zero_right k a b s e in
      kept_answer F s (node_refusal k 0 ∷ word_refusal (table_of F) s 0 ∷ []) (node_of F s 0) p l
      ∙ node_served F s 0 (node_of F s 0) (omega arith) (read_right F s 0 (λ h. right))
      ∙ ap served (served_decodes F s 0 (omega arith) (λ h. right) ∙ node_first k a)

  given_zero : node_outcome F s 0 ≡ served (2 ^ (2 * k + (a + 1))) → word_of F s 0 ≡ 0
  given_zero e =
      let none = (later_number F s (node_refusal k 0 ∷ word_refusal (table_of F) s 0 ∷ []) (node_of F s 0) 0 tt tt tt).0 (ap (λ (o : Outcome). o.number) e) in
      ((node_number_0 F s 0 (node_of F s 0)).0 none.1.1).1 (pow_pos k) ∙ stored_word_first k a

  pub zero_node : (word_of F s 0 ≡ 0) ↔ (node_outcome F s 0 ≡ served (2 ^ (2 * k + (a + 1))))
  zero_node = (zero_given, given_zero)
