-- Neighbours: how far the reciprocals of neighbouring operands lie apart.
--
-- The theorems are of every k, every number a of table guard bits and every number b of input guard bits from 1 on.
-- Only a given reciprocal has them in the ranges that can be ordered.
-- `cut_reciprocal k a b t` is R of a cut operand t, and `reciprocal k a b n X` that of an operand X.
-- `apart x y` is how far two numbers lie apart, and `rounded_up d q` is d / q rounded up.
-- Each clause names the theorems that settle it, which stand on this page where no other is named.
--
-- 1. At equal k and n, a larger operand never has a larger reciprocal: larger_operand.
--    Nor does one that is cut to a larger t, whatever numbers of fraction bits the two have: larger_cut_operand.
-- 2. If two cut operands differ by d, their reciprocals differ by at most d / 2^(b-1) rounded up: cut_steps.
--    With three input guard bits that is d / 4 rounded up: cut_steps_of_quarters.
--    From t to t + d, R never rises: step_falls.
--    It falls by no more than that: step_limited.
--    R of t + 1 is that of t, or one ulp less: neighbour_same_or_next.
-- 3. The same holds for any two operands at one precision with equal guard bits, of whatever n each, by the difference
--    of the t that they are cut or padded to: operand_steps, operand_steps_of_quarters.
-- 4. All of it holds of the reciprocals already given, from whatever two images and in whatever two forms:
--    given_never_larger, given_larger_operand, given_steps, given_steps_of_quarters.
--    These are of the values of `reciprocal_outcome`, which `inverting::reciprocal`, `BoundTable::reciprocal` and the
--    exported calls are promised to answer with.
--    Through a bound table it is the outcome on its image: bound-reciprocal, on the page Refusals.
--    `asked f k a b` is the format of form f, precision k and guard bits a and b, and every format is one:
--    every_format.
-- 5. All of it holds across nodes too: the two may lie in any pieces.
--    Each step of t, the last one of a piece too, takes the difference of its two nodes off P: sum_falls.
--    That is less than 2^(k+a+1), so less than 2 / 2^b of an ulp: node_difference, on the page Bound.
-- 6. For d below 2^k the limit cannot be lowered: from the least t each such step reaches it, whatever the precision
--    and the guard bits: limit_reached.
--    Steps that reach it inside a piece and across nodes are among the set examples: examples_hold, on the page
--    Examples.
use mathlib.Core.Path.{◌≡◌, refl}
use mathlib.Core.Logic.{◌⊎◌, ⊎_map}
use mathlib.Core.List.{List}
use Prim.Native.Nat.{ℕ, ◌+◌, ◌-◌, ◌*◌, ◌^◌, ◌≤◌, ◌<◌}
use native.Mathlib.Nat.{eq-or-lt_of_le}
use native.Mathlib.Omega.{arith}
use lib.Pow.{pow_mono}
use Rattle.quotient.specs.Quotient.{rounded_up}
use Rattle.format.specs.Format.{precision_of, table_bits, input_bits, asked}
use Rattle.format.specs.declared.Form.{Form}
use Rattle.format.specs.declared.Format.{Format}
use Rattle.nodes.specs.Nodes.{node}
use Rattle.operand.specs.Operand.{cut_operand}
use Rattle.operand.proofs.Laws.{cut_normalised, cut_ordered}
use Rattle.interpolation.specs.Algorithm.{node_number, cut_product_sum, cut_reciprocal}
use Rattle.interpolation.specs.Reciprocal.{reciprocal}
use Rattle.interpolation.specs.Calls.{reciprocal_outcome}
use Rattle.interpolation.proofs.Given
use Rattle.interpolation.proofs.Neighbours as neighbours
use Rattle.statements.specs.Terms.{IsNormalised, IsCutOperand, apart}

-- two numbers neither of which is more than U above the other
both_within : (x y U : ℕ) → x ≤ y + U → y ≤ x + U → apart x y ≤ U
both_within x y U h h' = omega (arith, h, h')

-- Two cut operands.
module _ (k a b t t' : ℕ) (cut : IsCutOperand k b t) (cut' : IsCutOperand k b t') where
  pub cut_steps : 1 ≤ b → apart (cut_reciprocal k a b t) (cut_reciprocal k a b t') ≤ rounded_up (apart t t') (2 ^ (b - 1))
  cut_steps some =
      let U = rounded_up (apart t t') (2 ^ (b - 1)) in
      let enough = neighbours.limit_enough b (apart t t') some in
      both_within (cut_reciprocal k a b t) (cut_reciprocal k a b t') U
      (neighbours.cut_within k a b t t' cut cut' U (omega (arith, enough)))
      (neighbours.cut_within k a b t' t cut' cut U (omega (arith, enough)))

-- With three input guard bits.
pub cut_steps_of_quarters : (k a t t' : ℕ) → IsCutOperand k 3 t → IsCutOperand k 3 t' → apart (cut_reciprocal k a 3 t) (cut_reciprocal k a 3 t') ≤ rounded_up (apart t t') 4
cut_steps_of_quarters k a t t' cut cut' = cut_steps k a 3 t t' cut cut' (omega arith)

-- A step from t to t + d.
module _ (k a b t d : ℕ) (cut : IsCutOperand k b t) (cut' : IsCutOperand k b (t + d)) where
  pub step_falls : cut_reciprocal k a b (t + d) ≤ cut_reciprocal k a b t
  step_falls = neighbours.cut_order k a b t (t + d) cut cut' (omega arith)

  pub step_limited : 1 ≤ b → cut_reciprocal k a b t ≤ cut_reciprocal k a b (t + d) + rounded_up d (2 ^ (b - 1))
  step_limited some =
      let U = rounded_up d (2 ^ (b - 1)) in
      neighbours.cut_within k a b t (t + d) cut cut' U (omega (arith, neighbours.limit_enough b d some))

-- A step from t to its neighbour.
pub neighbour_same_or_next : (k a b t : ℕ) → IsCutOperand k b t → IsCutOperand k b (t + 1) → 1 ≤ b
    → (cut_reciprocal k a b (t + 1) ≡ cut_reciprocal k a b t) ⊎ (cut_reciprocal k a b (t + 1) + 1 ≡ cut_reciprocal k a b t)
neighbour_same_or_next k a b t cut cut' some =
    let within = neighbours.cut_within k a b t (t + 1) cut cut' 1 (omega (arith, pow_mono some)) in
    ⊎_map (λ e. e) (λ l. omega (arith, l, within)) (eq-or-lt_of_le (step_falls k a b t 1 cut cut'))

-- Each step of t takes the difference of the two nodes of its piece off P.
pub sum_falls : (k a b t : ℕ) → IsCutOperand k b t → cut_product_sum k a b t ≡ cut_product_sum k a b (t + 1) + (node k a (node_number k b t) - node k a (node_number k b t + 1))
sum_falls k a b t cut = neighbours.sum_step k a b t cut

-- Two operands at one precision with equal guard bits, each with its own number of fraction bits.
module _ (k a b n X n' X' : ℕ) (operand : IsNormalised n X) (operand' : IsNormalised n' X') where
  cut : IsCutOperand k b (cut_operand k b n X)
  cut = cut_normalised k b n X operand.0 operand.1

  cut' : IsCutOperand k b (cut_operand k b n' X')
  cut' = cut_normalised k b n' X' operand'.0 operand'.1

  pub larger_cut_operand : cut_operand k b n X ≤ cut_operand k b n' X' → reciprocal k a b n' X' ≤ reciprocal k a b n X
  larger_cut_operand = neighbours.cut_order k a b (cut_operand k b n X) (cut_operand k b n' X') cut cut'

  pub operand_steps : 1 ≤ b → apart (reciprocal k a b n X) (reciprocal k a b n' X') ≤ rounded_up (apart (cut_operand k b n X) (cut_operand k b n' X')) (2 ^ (b - 1))
  operand_steps = cut_steps k a b (cut_operand k b n X) (cut_operand k b n' X') cut cut'

-- With equal numbers of them the larger one is cut to the larger t, or to the same.
pub larger_operand : (k a b n X X' : ℕ) → IsNormalised n X → IsNormalised n X' → X ≤ X' → reciprocal k a b n X' ≤ reciprocal k a b n X
larger_operand k a b n X X' o o' h = larger_cut_operand k a b n X n X' o o' (cut_ordered (2 * k + b) n h)

-- With three input guard bits.
pub operand_steps_of_quarters : (k a n X n' X' : ℕ) → IsNormalised n X → IsNormalised n' X'
    → apart (reciprocal k a 3 n X) (reciprocal k a 3 n' X') ≤ rounded_up (apart (cut_operand k 3 n X) (cut_operand k 3 n' X')) 4
operand_steps_of_quarters k a n X n' X' o o' = operand_steps k a 3 n X n' X' o o' (omega arith)

-- What a format asks for is its form and its numbers.
pub every_format : (F : Format) → asked F.form (precision_of F) (table_bits F) (input_bits F) ≡ F
every_format F = refl

-- Two reciprocals that are given at one precision with equal guard bits: nothing is assumed of the images s and s', nor
-- of the forms of their words.
module _ (k a b : ℕ) (f f' : Form) (s s' : List ℕ) (n X n' X' : ℕ) (given : (reciprocal_outcome (asked f k a b) s n X).number ≡ 0)
    (given' : (reciprocal_outcome (asked f' k a b) s' n' X').number ≡ 0) where
  abbrev R : ℕ
  R = (reciprocal_outcome (asked f k a b) s n X).value

  abbrev R' : ℕ
  R' = (reciprocal_outcome (asked f' k a b) s' n' X').value

  is_R : R ≡ reciprocal k a b n X
  is_R = Given.given_right (asked f k a b) s n X given

  is_R' : R' ≡ reciprocal k a b n' X'
  is_R' = Given.given_right (asked f' k a b) s' n' X' given'

  operand : IsNormalised n X
  operand = let o = (Given.given_in_range (asked f k a b) s n X given).1 in (o.least, o.below)

  operand' : IsNormalised n' X'
  operand' = let o = (Given.given_in_range (asked f' k a b) s' n' X' given').1 in (o.least, o.below)

  some : 1 ≤ b
  some = omega (arith, (Given.given_in_range (asked f k a b) s n X given).0.guard.input_least)

  pub given_never_larger : cut_operand k b n X ≤ cut_operand k b n' X' → R' ≤ R
  given_never_larger h = rw (is_R, is_R') (larger_cut_operand k a b n X n' X' operand operand' h)

  pub given_steps : apart R R' ≤ rounded_up (apart (cut_operand k b n X) (cut_operand k b n' X')) (2 ^ (b - 1))
  given_steps = rw (is_R, is_R') (operand_steps k a b n X n' X' operand operand' some)

-- With as many fraction bits,
pub given_larger_operand : (k a b : ℕ) (f f' : Form) (s s' : List ℕ) (n X X' : ℕ) → (reciprocal_outcome (asked f k a b) s n X).number ≡ 0
    → (reciprocal_outcome (asked f' k a b) s' n X').number ≡ 0 → X ≤ X' → (reciprocal_outcome (asked f' k a b) s' n X').value ≤ (reciprocal_outcome (asked f k a b) s n X).value
given_larger_operand k a b f f' s s' n X X' given given' h = given_never_larger k a b f f' s s' n X n X' given given' (cut_ordered (2 * k + b) n h)

-- and with three input guard bits.
pub given_steps_of_quarters : (k a : ℕ) (f f' : Form) (s s' : List ℕ) (n X n' X' : ℕ) → (reciprocal_outcome (asked f k a 3) s n X).number ≡ 0
    → (reciprocal_outcome (asked f' k a 3) s' n' X').number ≡ 0
    → apart (reciprocal_outcome (asked f k a 3) s n X).value (reciprocal_outcome (asked f' k a 3) s' n' X').value
    ≤ rounded_up (apart (cut_operand k 3 n X) (cut_operand k 3 n' X')) 4
given_steps_of_quarters k a = given_steps k a 3

-- From the least cut operand each step of fewer than 2^k is as large as a step of d can be.
pub limit_reached : (k a b d : ℕ) → 1 ≤ b → d < 2 ^ k → cut_reciprocal k a b (2 ^ (2 * k + b)) ≡ cut_reciprocal k a b (2 ^ (2 * k + b) + d) + rounded_up d (2 ^ (b - 1))
limit_reached k a b d some few = neighbours.limit_reached b d some k a few
