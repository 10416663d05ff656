-- What a cut operand is answered with, by whether the words of its piece are right.
-- Assumes nothing.
use mathlib.Core.Path.{◌≡◌, sym, ap, ◌∙◌}
use mathlib.Core.Bool.{true, false}
use mathlib.Core.List.{List, [], ◌∷◌, ◌++◌}
use Prim.Native.Nat.{ℕ, ◌+◌, ◌^◌, ◌<◌}
use native.Mathlib.Nat.{le_of_lt}
use native.Mathlib.Omega.{arith}
use Rattle.format.specs.Format.{precision_of, table_bits, input_bits}
use Rattle.format.specs.declared.Format.{Format}
use Rattle.nodes.specs.Nodes.{node}
use lib.ListN.{length}
use Rattle.answers.specs.Refusal.{served, some_applies}
use Rattle.answers.proofs.Order.{applied, passed}
use Rattle.layout.specs.Refusals.{word_refusal}
use Rattle.image.specs.Image.{table_of, node_of}
use Rattle.image.specs.Refusals.{limits}
use Rattle.image.proofs.Limits.{limit_passes}
use Rattle.image.proofs.Judging.{right_node}
use Rattle.operand.specs.Operand.{cut_operand}
use Rattle.operand.specs.Refusals.{operand_refusals}
use Rattle.operand.proofs.Limits.{operand_passes}
use Rattle.interpolation.specs.Algorithm.{node_number, fraction, product_sum, chopped, cut_reciprocal}
use Rattle.interpolation.specs.Reciprocal.{read_reciprocal}
use Rattle.interpolation.specs.Calls.{cut_refusals, reciprocal_outcome}
use Rattle.interpolation.specs.Inner.{cut_outcome}

module _ (F : Format) (s : List ℕ) (t : ℕ) where
  abbrev k : ℕ
  k = precision_of F

  abbrev a : ℕ
  a = table_bits F

  abbrev b : ℕ
  b = input_bits F

  -- the word of node j is wrong
  pub first-wrong : (word_refusal (table_of F) s (node_number k b t)).applies ≡ true
      → cut_outcome F s t ≡ record { number = 6; place = node_number k b t; value = 0 }
  first-wrong e = applied (word_refusal (table_of F) s (node_number k b t))
      (word_refusal (table_of F) s (node_number k b t + 1) ∷ []) (read_reciprocal F s t) e

  module _ (first : (word_refusal (table_of F) s (node_number k b t)).applies ≡ false) where
    -- it is right, and that of node j + 1 is wrong
    pub next_wrong : (word_refusal (table_of F) s (node_number k b t + 1)).applies ≡ true
        → cut_outcome F s t ≡ record { number = 6; place = node_number k b t + 1; value = 0 }
    next_wrong e =
        passed (word_refusal (table_of F) s (node_number k b t))
        (word_refusal (table_of F) s (node_number k b t + 1) ∷ []) (read_reciprocal F s t) first
        ∙ applied (word_refusal (table_of F) s (node_number k b t + 1)) [] (read_reciprocal F s t) e

    module _ (next : (word_refusal (table_of F) s (node_number k b t + 1)).applies ≡ false) where
      -- both are right
      pub none_wrong : cut_outcome F s t ≡ served (read_reciprocal F s t)
      none_wrong =
          passed (word_refusal (table_of F) s (node_number k b t))
          (word_refusal (table_of F) s (node_number k b t + 1) ∷ []) (read_reciprocal F s t) first
          ∙ passed (word_refusal (table_of F) s (node_number k b t + 1)) [] (read_reciprocal F s t) next

      -- and what they give is R
      pub read_right : node_number k b t < 2 ^ k → read_reciprocal F s t ≡ cut_reciprocal k a b t
      read_right h =
          ap (λ (c : ℕ). chopped k a b (product_sum k b c (node_of F s (node_number k b t + 1)) (fraction k b t)))
          (right_node F s (node_number k b t) (le_of_lt h) first)
          ∙ ap (λ (c' : ℕ). chopped k a b (product_sum k b (node k a (node_number k b t)) c' (fraction k b t)))
          (right_node F s (node_number k b t + 1) (omega arith) next)

-- behind the limits of the table, of the buffer and of n and X, an operand is answered as t is
pub answer_of_cut : (F : Format) (s : List ℕ) (n X : ℕ) → some_applies (limits F (length s)) ≡ false
    → some_applies (operand_refusals n X) ≡ false
    → cut_outcome F s (cut_operand (precision_of F) (input_bits F) n X) ≡ reciprocal_outcome F s n X
answer_of_cut F s n X kept kept-too =
    let t = cut_operand (precision_of F) (input_bits F) n X in
    sym (limit_passes F s (operand_refusals n X ++ cut_refusals F s t) (read_reciprocal F s t) kept
    ∙ operand_passes n X (cut_refusals F s t) (read_reciprocal F s t) kept-too)
