-- What the reciprocal answers.
-- Assumes nothing.
use Rattle.std.specs.Prelude.{ℕ, ◌+◌, List, [], ◌∷◌, ◌++◌, length}
use Rattle.format.specs.Format.{precision_of, input_bits}
use Rattle.format.specs.declared.Format.{Format}
use Rattle.answers.specs.Refusal.{Refusal, Outcome, outcome}
use Rattle.layout.specs.Refusals.{word_refusal}
use Rattle.image.specs.Image.{table_of}
use Rattle.image.specs.Refusals.{limits}
use Rattle.operand.specs.Operand.{cut_operand}
use Rattle.operand.specs.Refusals.{fraction_refusal, operand_refusal}
use Rattle.interpolation.specs.Algorithm.{node_number}
use Rattle.interpolation.specs.Reciprocal.{read_reciprocal}

-- The refusals of a cut operand t: 6 for the word of node j, then for that of node j + 1, where it has one.
-- In plain words node 2^k has none.
abbrev pub cut_refusals : Format → List ℕ → ℕ → List Refusal
cut_refusals F s t =
    let j = node_number (precision_of F) (input_bits F) t in
    word_refusal (table_of F) s j ∷ word_refusal (table_of F) s (j + 1) ∷ []

-- the refusals of the reciprocal, in checking order: 1, 18, 2, 4, 5 and 6
abbrev pub reciprocal_refusals : Format → List ℕ → ℕ → ℕ → List Refusal
reciprocal_refusals F s n X = limits F (length s) ++ fraction_refusal n ∷ operand_refusal n X
    ∷ cut_refusals F s (cut_operand (precision_of F) (input_bits F) n X)

-- the answer of the reciprocal; it gives R by the words that it reads, in ulps
abbrev pub reciprocal_outcome : Format → List ℕ → ℕ → ℕ → Outcome
reciprocal_outcome F s n X = outcome (reciprocal_refusals F s n X)
    (read_reciprocal F s (cut_operand (precision_of F) (input_bits F) n X))
