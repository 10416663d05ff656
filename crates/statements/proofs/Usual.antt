-- The usual guard bits, two of the table and three of the input, in numbers.
--
-- What Refusals, Construction and Bound say in a and b is said here of a = 2 and b = 3 where neither form of words
-- counts.
-- The page Plain says it of plain words, and Full of full ones.
--
-- The formats: usual_formats.
-- They can be ordered exactly where k is a precision: usual_offered, usual_length.
-- Their refusals stand in the order of docs/SCOPE.md, "Turned back, in checking order": usual_build, usual_check,
-- usual_node, usual_reciprocal.
-- So 18 is never given: usual_build_numbers, usual_check_numbers, usual_node_numbers, usual_reciprocal_numbers.
-- The nodes: usual_reaches, usual_least, usual_first, usual_last, usual_between, usual_leading_one.
-- Their unit: usual_units.
-- Das Sarma and Matula, Algorithm 2: usual_t_cut, usual_t_padded, usual_i, usual_j, usual_f, usual_P, usual_R.
-- Its sizes: usual_difference, usual_fraction, usual_product.
-- The bound: usual_low, usual_high.
-- The greatest operand: usual_greatest.
-- Bits that are written to the right: usual_longer, usual_longer_answer, usual_padded, usual_padded_answer.
use mathlib.Core.Path.{◌≡◌, refl}
use mathlib.Core.Logic.{◌↔◌}
use mathlib.Core.Bool.{cond, and-true}
use mathlib.Core.List.{List, [], ◌∷◌}
use Prim.Native.Nat.{ℕ, ◌+◌, ◌-◌, ◌*◌, ◌/◌, ◌%◌, ◌^◌, ◌≤◌, ◌<◌}
use native.Mathlib.Omega.{arith}
use lib.Dec.{T}
use lib.ListN.{length}
use Rattle.precision.specs.Precision.{in_range}
use Rattle.format.specs.Format.{asked, usual, plain_of, full_of, image_length, length_or_0}
use Rattle.format.specs.declared.Form.{Form}
use Rattle.format.specs.declared.Form.TheVariants.{Plain, Full}
use Rattle.format.specs.declared.Format.{Format}
use Rattle.units.specs.Units.{table_units_in_one, ulps_in_one}
use Rattle.nodes.specs.Nodes.{node}
use Rattle.answers.specs.Refusal.{Refusal, outcome, is_one_of}
use Rattle.answers.proofs.Order.{listed}
use Rattle.layout.specs.Layout.{Layout}
use Rattle.layout.specs.Refusals.{length_refusal, image_refusal, word_refusal, tail_refusal}
use Rattle.image.specs.Image.{table_of, node_of}
use Rattle.nodes.specs.Refusals.{precision_refusal}
use Rattle.image.specs.Refusals.{node_refusal}
use Rattle.image.specs.Calls.{build_outcome, check_outcome, node_outcome}
use Rattle.operand.specs.Operand.{cut_operand}
use Rattle.operand.specs.Refusals.{fraction_refusal, operand_refusal}
use Rattle.interpolation.specs.Algorithm.{index, node_number, fraction, cut_product_sum}
use Rattle.interpolation.specs.Reciprocal.{read_reciprocal, reciprocal}
use Rattle.interpolation.specs.Calls.{reciprocal_outcome}
use Rattle.statements.specs.Terms.{IsPrecision, IsOffered}
use Rattle.statements.proofs.Iff.{usual_guards}
use Rattle.statements.proofs.Construction
use Rattle.statements.proofs.Bound

-- The formats for which no guard bits are named ask for these.
pub usual_formats : (k : ℕ) → (plain_of k ≡ asked Plain k 2 3) × (full_of k ≡ asked Full k 2 3)
usual_formats k = (refl, refl)

-- t of X with n fraction bits
abbrev t : ℕ → ℕ → ℕ → ℕ
t k n X = cut_operand k 3 n X

module _ (f : Form) (k : ℕ) where
  abbrev F : Format
  F = usual f k

  abbrev table : Layout
  table = table_of F

  pub usual_offered : IsOffered F ↔ IsPrecision k
  usual_offered = (λ o. o.0, λ p. (p, usual_guards))

  -- How long an image is: 0 exactly where the precision is none.
  pub usual_length : length_or_0 F ≡ cond (in_range k) (image_length F) 0
  usual_length = rw (and-true (in_range k)) refl

  -- What the calls answer: 1, 2, and for the builder nothing more; 6 and 7 for the check; 3 and 6 for a node; 4, 5 and
  -- 6 for the reciprocal.
  module _ (s : List ℕ) where
    abbrev by_build : List Refusal
    by_build = precision_refusal k ∷ length_refusal table (length s) ∷ []

    abbrev by_check : List Refusal
    by_check = precision_refusal k ∷ length_refusal table (length s) ∷ image_refusal table s ∷ tail_refusal table s ∷ []

    abbrev by_node : ℕ → List Refusal
    by_node j = precision_refusal k ∷ length_refusal table (length s) ∷ node_refusal k j ∷ word_refusal table s j ∷ []

    abbrev by_reciprocal : ℕ → ℕ → List Refusal
    by_reciprocal n X =
        let j = node_number k 3 (t k n X) in
        precision_refusal k ∷ length_refusal table (length s) ∷ fraction_refusal n ∷ operand_refusal n X ∷ word_refusal table s j ∷ word_refusal table s (j + 1) ∷ []

    pub usual_build : build_outcome F s ≡ outcome by_build 0
    usual_build = refl

    pub usual_build_numbers : T (is_one_of (build_outcome F s).number (0 ∷ 1 ∷ 2 ∷ []))
    usual_build_numbers = listed (0 ∷ 1 ∷ 2 ∷ []) by_build 0 tt tt

    pub usual_check : check_outcome F s ≡ outcome by_check 0
    usual_check = refl

    pub usual_check_numbers : T (is_one_of (check_outcome F s).number (0 ∷ 1 ∷ 2 ∷ 6 ∷ 7 ∷ []))
    usual_check_numbers = listed (0 ∷ 1 ∷ 2 ∷ 6 ∷ 7 ∷ []) by_check 0 tt tt

    pub usual_node : (j : ℕ) → node_outcome F s j ≡ outcome (by_node j) (node_of F s j)
    usual_node j = refl

    pub usual_node_numbers : (j : ℕ) → T (is_one_of (node_outcome F s j).number (0 ∷ 1 ∷ 2 ∷ 3 ∷ 6 ∷ []))
    usual_node_numbers j = listed (0 ∷ 1 ∷ 2 ∷ 3 ∷ 6 ∷ []) (by_node j) (node_of F s j) tt tt

    pub usual_reciprocal : (n X : ℕ) → reciprocal_outcome F s n X ≡ outcome (by_reciprocal n X) (read_reciprocal F s (t k n X))
    usual_reciprocal n X = refl

    pub usual_reciprocal_numbers : (n X : ℕ) → T (is_one_of (reciprocal_outcome F s n X).number (0 ∷ 1 ∷ 2 ∷ 4 ∷ 5 ∷ 6 ∷ []))
    usual_reciprocal_numbers n X = listed (0 ∷ 1 ∷ 2 ∷ 4 ∷ 5 ∷ 6 ∷ []) (by_reciprocal n X) (read_reciprocal F s (t k n X)) tt tt

-- The nodes.
module _ (k : ℕ) where
  -- c(j) is 2^(3k+3) / i rounded up
  pub usual_reaches : (j : ℕ) → 2 ^ (3 * k + 3) ≤ node k 2 j * (2 ^ k + j)
  usual_reaches = Construction.node_reaches k 2

  pub usual_least : (j c : ℕ) → 2 ^ (3 * k + 3) ≤ c * (2 ^ k + j) → node k 2 j ≤ c
  usual_least = Construction.node_least k 2

  -- from 2^(2k+3) to 2^(2k+2)
  pub usual_first : node k 2 0 ≡ 2 ^ (2 * k + 3)
  usual_first = Construction.first_node k 2

  pub usual_last : node k 2 (2 ^ k) ≡ 2 ^ (2 * k + 2)
  usual_last = Construction.last-node k 2

  pub usual_between : (j : ℕ) → 0 < j → j < 2 ^ k → (2 ^ (2 * k + 2) < node k 2 j) × (node k 2 j < 2 ^ (2 * k + 3))
  usual_between = Construction.node_between k 2

  -- with 2k + 3 bits but for node 0
  pub usual_leading_one : (j : ℕ) → 0 < j → j ≤ 2 ^ k → node k 2 j / 2 ^ (2 * k + 2) ≡ 1
  usual_leading_one = Construction.node_leading_one k 2

  -- one ulp is four table units, of 1 / 2^(2k+3)
  pub usual_units : (table_units_in_one k 2 ≡ 2 ^ (2 * k + 3)) × (table_units_in_one k 2 ≡ 4 * ulps_in_one k)
  usual_units = (refl, Construction.ulp_in_table_units k 2)

-- The steps of Algorithm 2 for X with n fraction bits.
module _ (k n X : ℕ) where
  abbrev j : ℕ
  j = node_number k 3 (t k n X)

  abbrev c : ℕ → ℕ
  c = node k 2

  pub usual_t_cut : 2 * k + 3 ≤ n → t k n X ≡ X / 2 ^ (n - (2 * k + 3))
  usual_t_cut = Construction.step_t_cut k 3 n X

  pub usual_t_padded : n ≤ 2 * k + 3 → t k n X ≡ X * 2 ^ (2 * k + 3 - n)
  usual_t_padded = Construction.step_t_padded k 3 n X

  pub usual_i : index k 3 (t k n X) ≡ t k n X / 2 ^ (k + 3)
  usual_i = refl

  pub usual_j : j ≡ index k 3 (t k n X) - 2 ^ k
  usual_j = refl

  pub usual_f : fraction k 3 (t k n X) ≡ t k n X % 2 ^ (k + 3)
  usual_f = refl

  pub usual_P : cut_product_sum k 2 3 (t k n X) ≡ c j * 2 ^ (k + 3) - (c j - c (j + 1)) * fraction k 3 (t k n X)
  usual_P = refl

  pub usual_R : reciprocal k 2 3 n X ≡ cut_product_sum k 2 3 (t k n X) / 2 ^ (k + 5)
  usual_R = refl

-- Differences of neighbours and f are each below 2^(k+3) (Das Sarma and Matula, Lemma 1), so that a multiplier of k + 3
-- bits by k + 3 bits suffices.
module _ (k : ℕ) where
  pub usual_difference : (j : ℕ) → node k 2 j - node k 2 (j + 1) < 2 ^ (k + 3)
  usual_difference = Bound.node_difference k 2

  pub usual_fraction : (t : ℕ) → fraction k 3 t < 2 ^ (k + 3)
  usual_fraction = Bound.fraction_below k 3

  pub usual_product : (t : ℕ) → (node k 2 (node_number k 3 t) - node k 2 (node_number k 3 t + 1)) * fraction k 3 t < 2 ^ (2 * k + 6)
  usual_product = Bound.product_below k 2 3

-- The bound.
module _ (k n X : ℕ) (least : 2 ^ n ≤ X) (below : X < 2 ^ (n + 1)) where
  pub usual_low : 2 ^ (n + 2 * k + 1) < reciprocal k 2 3 n X * X + X
  usual_low = Bound.bound_low k 2 3 n X usual_guards.0 usual_guards.2 least below

  pub usual_high : reciprocal k 2 3 n X * X < 2 ^ (n + 2 * k + 1) + X
  usual_high = Bound.bound_high k 2 3 n X usual_guards.0 usual_guards.2 least below

-- The greatest operand with 2k + 3 fraction bits or more has the least R.
pub usual_greatest : (k n X : ℕ) → 2 * k + 3 ≤ n → X + 1 ≡ 2 ^ (n + 1) → reciprocal k 2 3 n X ≡ 2 ^ (2 * k)
usual_greatest k n X = Bound.reciprocal_of_greatest k 2 3 n X (omega arith)

-- m bits y that are written to the right of X change nothing where X has 2k + 3 fraction bits or more,
module _ (k n m X y : ℕ) (enough : 2 * k + 3 ≤ n) (bits : y < 2 ^ m) where
  pub usual_longer : reciprocal k 2 3 (n + m) (X * 2 ^ m + y) ≡ reciprocal k 2 3 n X
  usual_longer = Bound.longer_reciprocal k 2 3 n m X y enough bits

  pub usual_longer_answer : n + m ≤ 63 → (f : Form) (s : List ℕ) → reciprocal_outcome (usual f k) s (n + m) (X * 2 ^ m + y) ≡ reciprocal_outcome (usual f k) s n X
  usual_longer_answer = Bound.longer_answer k 2 3 n m X y enough bits (omega (arith, enough))

-- and where it has fewer, and those that come to stand among the first 2k + 3 are zero.
module _ (k n m X y : ℕ) (few : n ≤ 2 * k + 3) (zeros : y < 2 ^ (n + m - (2 * k + 3))) where
  pub usual_padded : reciprocal k 2 3 (n + m) (X * 2 ^ m + y) ≡ reciprocal k 2 3 n X
  usual_padded = Bound.padded_reciprocal k 2 3 n m X y few zeros

  pub usual_padded_answer : 1 ≤ n → n + m ≤ 63 → (f : Form) (s : List ℕ) → reciprocal_outcome (usual f k) s (n + m) (X * 2 ^ m + y) ≡ reciprocal_outcome (usual f k) s n X
  usual_padded_answer = Bound.padded_answer k 2 3 n m X y few zeros
