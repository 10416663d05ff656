-- Bound: a reciprocal that is given is R, and R × X lies within X of 2^(n+2k+1), which is less than one ulp.
--
-- Bits written to the right of an operand, up to 63 fraction bits in all, can change an answer only where they stand
-- among its first 2k + b and are not zero.
-- Each theorem is in the table guard bits a and the input guard bits b.
-- The page Usual has the case a = 2 and b = 3 in numbers.
-- `reciprocal k a b n X` is R, in which no form has a part; the page Construction has its steps.
-- `reciprocal_outcome F s n X` is the answer of the call for a format F.
-- `asked f k a b` is the format of precision k, form f and guard bits a and b.
-- Each clause names the theorems that settle it, which stand on this page where no other is named.
--
-- 1. At every precision, with all guard bits, for every n from 1 to 63 and every normalised X, R × X and 2^(n+2k+1) are
--    less than X apart: bound_low, bound_high.
--    These are of every k, every n, every a from 2 and every b from 3, since 12, 4, 5, 1 and 63 are limits of the call
--    alone.
--    That is less than one ulp: ulps_low, ulps_high.
--    What an ulp is: exact_in_ulps, reciprocal_of_one.
-- 2. A reciprocal that is given, which is one with the number 0, is this R: given_is_R.
--    So the bound holds of it: given_low, given_high.
--    When one is given: reciprocal_serves, on the page Refusals.
--    From every built image one is: built_gives, on the page Construction.
-- 3. It holds whatever bytes the image holds: s is any list of numbers in given_is_R, given_low and given_high, and
--    nothing is assumed of it.
-- 4. It holds wherever the image came from: these three ask for the number 0 and for nothing else.
--    They ask neither that the image was built here nor that it passed the check.
--    A bound table takes any image too, and answers as the call on an image does: bound-reciprocal, on the page
--    Refusals.
--    Nor does the form of its words count.
--    What is given from a plain image and from a full one of equal guard bits is the same: given_in_both.
--    From built images so is all of the answer: forms_agree, on the page Construction.
-- 5. Bits that are written to the right of X do not change R where X has 2k + b fraction bits or more:
--    longer_reciprocal.
--    From n = 1 on, and while there are at most 63 fraction bits in all, they do not change the answer from the same
--    image, in either form: longer_answer.
--    That is one equation for number, place and value.
--    Where X has fewer than 2k + b, the same holds where those that come to stand among the first 2k + b are zero:
--    padded_reciprocal, padded_answer.
--    Zeros alone change R at no n, and from n = 1 up to 63 in all not the answer either: zeros_reciprocal,
--    zeros_answer.
--    A written bit that is not zero can change R: written_bit_counts.
--    All but the last are of every X, normalised or not.
-- 6. R runs from 2^(2k) to 2^(2k+1) at every n: reciprocal_from, reciprocal_to.
--    The least operand reaches the upper end at every n: reciprocal_of_least.
--    The greatest reaches the lower one, at the latest from n = 2k + b on: reciprocal_of_greatest.
--    How far neighbours lie apart is said by the page Neighbours.
-- 7. The sizes of Das Sarma and Matula, Lemma 1: node_difference, fraction_below, product_below.
-- 8. No number of the algorithms overflows 64 bits up to k = 12, a = 4 and b = 5.
--    There P and its products have at most 47: first_product_below, product_sum_below, most_bits.
--    So they fit: first_product_fits, second_product_fits, product_sum_fits.
--    So do the numbers by which nodes are made and words judged: numerator_fits, judged_product_fits.
use mathlib.Core.Path.{◌≡◌, refl, sym, ◌∙◌}
use mathlib.Core.List.{List}
use Prim.Native.Nat.{ℕ, ◌+◌, ◌-◌, ◌*◌, ◌^◌, ◌≤◌, ◌<◌}
use Rattle.format.specs.Format.{precision_of, table_bits, input_bits, asked}
use Rattle.format.specs.declared.Form.{Form}
use Rattle.format.specs.declared.Form.TheVariants.{Plain, Full}
use Rattle.format.specs.declared.Format.{Format}
use Rattle.units.specs.Units.{ulps_in_one}
use Rattle.nodes.specs.Nodes.{node}
use Rattle.image.specs.Image.{node_of}
use Rattle.operand.proofs.Laws.{all_behind, zeros_before}
use Rattle.interpolation.specs.Algorithm.{node_number, fraction, cut_product_sum}
use Rattle.interpolation.specs.Reciprocal.{reciprocal}
use Rattle.interpolation.specs.Calls.{reciprocal_outcome}
use Rattle.interpolation.proofs.Bound.{reciprocal_low, reciprocal_high}
use Rattle.interpolation.proofs.Cut.{cut_fraction_below}
use Rattle.interpolation.proofs.Given
use Rattle.statements.specs.Terms.{IsPrecision, AreGuardBits, IsOffered}
use Rattle.statements.proofs.Longer
use Rattle.statements.proofs.Reciprocals
use Rattle.statements.proofs.Sizes
use Rattle.statements.proofs.Units

-- The bound: R × X differs from 2^(n+2k+1) by less than X, whether X is cut or padded.
module _ (k a b n X : ℕ) (units : 2 ≤ a) (steps : 3 ≤ b) (least : 2 ^ n ≤ X) (below : X < 2 ^ (n + 1)) where
  pub bound_low : 2 ^ (n + 2 * k + 1) < reciprocal k a b n X * X + X
  bound_low = reciprocal_low k a b units steps n X least below

  pub bound_high : reciprocal k a b n X * X < 2 ^ (n + 2 * k + 1) + X
  bound_high = reciprocal_high k a b units steps n X least below

  -- in ulps: R of them differ from the exact reciprocal of X / 2^n, which is 2^n / X, by less than one; both sides are
  -- multiplied by X
  pub ulps_low : ulps_in_one k * 2 ^ n < reciprocal k a b n X * X + X
  ulps_low = rw (Units.reciprocal_exact k n) at bound_low

  pub ulps_high : reciprocal k a b n X * X < ulps_in_one k * 2 ^ n + X
  ulps_high = rw (Units.reciprocal_exact k n) at bound_high

-- The unit: 2^(n+2k+1) / X is the exact reciprocal in ulps, and R of 2^n, which stands for one, is one in ulps.
module _ (k n : ℕ) where
  pub exact_in_ulps : 2 ^ (n + 2 * k + 1) ≡ ulps_in_one k * 2 ^ n
  exact_in_ulps = Units.reciprocal_exact k n

  pub reciprocal_of_one : (a b : ℕ) → reciprocal k a b n (2 ^ n) ≡ ulps_in_one k
  reciprocal_of_one a b = Reciprocals.reciprocal_of_least k a b n (2 ^ n) refl

-- Given means right: nothing is assumed of the image s, nor of the format F, of n and of X, but that a reciprocal is
-- given.
module _ (F : Format) (s : List ℕ) (n X : ℕ) (given : (reciprocal_outcome F s n X).number ≡ 0) where
  pub given_is_R : (reciprocal_outcome F s n X).value ≡ reciprocal (precision_of F) (table_bits F) (input_bits F) n X
  given_is_R = Given.given_right F s n X given

  -- and the bound holds of it
  pub given_low : 2 ^ (n + 2 * precision_of F + 1) < (reciprocal_outcome F s n X).value * X + X
  given_low = Given.given_low F s n X given

  pub given_high : (reciprocal_outcome F s n X).value * X < 2 ^ (n + 2 * precision_of F + 1) + X
  given_high = Given.given_high F s n X given

-- What a plain image and a full one of equal guard bits give for an operand is the same, whoever wrote them.
pub given_in_both : (k a b : ℕ) (s s' : List ℕ) (n X : ℕ) → (reciprocal_outcome (asked Plain k a b) s n X).number ≡ 0 → (reciprocal_outcome (asked Full k a b) s' n X).number ≡ 0
    → (reciprocal_outcome (asked Plain k a b) s n X).value ≡ (reciprocal_outcome (asked Full k a b) s' n X).value
given_in_both k a b s s' n X e d = given_is_R (asked Plain k a b) s n X e ∙ sym (given_is_R (asked Full k a b) s' n X d)

-- Bits to the right: m bits, which make the number y, written to the right of any X, normalised or not, that has 2k + b
-- fraction bits or more.
module _ (k a b n m X y : ℕ) (enough : 2 * k + b ≤ n) (bits : y < 2 ^ m) where
  -- they do not change R
  pub longer_reciprocal : reciprocal k a b (n + m) (X * 2 ^ m + y) ≡ reciprocal k a b n X
  longer_reciprocal = Longer.reciprocal_same k a b n m X y (all_behind (2 * k + b) n m y enough bits)

  -- nor, up to 63 in all, the answer: number, place and value from the same image, whatever it holds and however long
  -- it is
  pub longer_answer : 1 ≤ n → n + m ≤ 63 → (f : Form) (s : List ℕ) → reciprocal_outcome (asked f k a b) s (n + m) (X * 2 ^ m + y) ≡ reciprocal_outcome (asked f k a b) s n X
  longer_answer = Longer.outcome_same k a b n m X y (all_behind (2 * k + b) n m y enough bits)

-- Where X has fewer, so that some of the m bits come to stand among the first 2k + b fraction bits, the same holds
-- where those are zero: y is below 2^(n+m-2k-b). The difference stops at 0, so that y is 0 where all m of them are
-- among the first.
module _ (k a b n m X y : ℕ) (few : n ≤ 2 * k + b) (zeros : y < 2 ^ (n + m - (2 * k + b))) where
  pub padded_reciprocal : reciprocal k a b (n + m) (X * 2 ^ m + y) ≡ reciprocal k a b n X
  padded_reciprocal = Longer.reciprocal_same k a b n m X y (zeros_before (2 * k + b) n m y few zeros)

  pub padded_answer : 1 ≤ n → n + m ≤ 63 → (f : Form) (s : List ℕ) → reciprocal_outcome (asked f k a b) s (n + m) (X * 2 ^ m + y) ≡ reciprocal_outcome (asked f k a b) s n X
  padded_answer = Longer.outcome_same k a b n m X y (zeros_before (2 * k + b) n m y few zeros)

-- Zeros do not change R at any n, nor the answer from n = 1 up to 63 fraction bits in all: a caller may pad an operand
-- or leave it as it is.
module _ (k a b n m X : ℕ) where
  pub zeros_reciprocal : reciprocal k a b (n + m) (X * 2 ^ m) ≡ reciprocal k a b n X
  zeros_reciprocal = Longer.reciprocal_zeros k a b n m X

  pub zeros_answer : 1 ≤ n → n + m ≤ 63 → (f : Form) (s : List ℕ) → reciprocal_outcome (asked f k a b) s (n + m) (X * 2 ^ m) ≡ reciprocal_outcome (asked f k a b) s n X
  zeros_answer = Longer.outcome_zeros k a b n m X

-- A written bit that is not zero can change R: at k = 2 and b = 3, where t has 7 fraction bits, X = 64 with 6 of them
-- has another R than 129 with 7.
pub written_bit_counts : (reciprocal 2 2 3 6 64 ≡ 32) × (reciprocal 2 2 3 (6 + 1) (64 * 2 ^ 1 + 1) ≡ 31)
written_bit_counts = Longer.of_64_and_129

-- R runs from 2^(2k) to 2^(2k+1), for every a and b.
module _ (k a b n X : ℕ) (least : 2 ^ n ≤ X) (below : X < 2 ^ (n + 1)) where
  pub reciprocal_from : 2 ^ (2 * k) ≤ reciprocal k a b n X
  reciprocal_from = Reciprocals.reciprocal_least k a b n X (least, below)

  pub reciprocal_to : reciprocal k a b n X ≤ 2 ^ (2 * k + 1)
  reciprocal_to = Reciprocals.reciprocal_most k a b n X (least, below)

-- Both ends are reached: by the least operand, and by the greatest where it has 2k + b fraction bits or more.
module _ (k a b n X : ℕ) where
  pub reciprocal_of_least : X ≡ 2 ^ n → reciprocal k a b n X ≡ 2 ^ (2 * k + 1)
  reciprocal_of_least = Reciprocals.reciprocal_of_least k a b n X

  pub reciprocal_of_greatest : 1 ≤ b → 2 * k + b ≤ n → X + 1 ≡ 2 ^ (n + 1) → reciprocal k a b n X ≡ 2 ^ (2 * k)
  reciprocal_of_greatest = Reciprocals.reciprocal_of_greatest k a b n X

-- The difference of two neighbouring nodes is below 2^(k+a+1), at every node, and f below 2^(k+b), at every t (Das
-- Sarma and Matula, Lemma 1),
pub node_difference : (k a j : ℕ) → node k a j - node k a (j + 1) < 2 ^ (k + (a + 1))
node_difference = Sizes.step_small

pub fraction_below : (k b t : ℕ) → fraction k b t < 2 ^ (k + b)
fraction_below = cut_fraction_below

-- so a multiplier of k + a + 1 bits by k + b bits suffices.
module _ (k a b t : ℕ) where
  pub product_below : (node k a (node_number k b t) - node k a (node_number k b t + 1)) * fraction k b t < 2 ^ (2 * k + (a + b + 1))
  product_below = Sizes.second_product k a b t

  -- The other product and P have at most 3k + a + b + 2 bits,
  pub first_product_below : node k a (node_number k b t) * 2 ^ (k + b) < 2 ^ (3 * k + (a + b + 2))
  first_product_below = Sizes.first_product k a b t

  pub product_sum_below : cut_product_sum k a b t < 2 ^ (3 * k + (a + b + 2))
  product_sum_below = Sizes.sum_small k a b t

  module _ (p : IsPrecision k) (g : AreGuardBits a b) where
    -- which is 47 at k = 12, a = 4 and b = 5, and fewer below,
    pub most_bits : 3 * k + (a + b + 2) ≤ 47
    most_bits = Sizes.few k a b t p g

    -- so that P and both its products fit 64 bits.
    pub first_product_fits : node k a (node_number k b t) * 2 ^ (k + b) < 2 ^ 64
    first_product_fits = Sizes.first_fits k a b t p g

    pub second_product_fits : (node k a (node_number k b t) - node k a (node_number k b t + 1)) * fraction k b t < 2 ^ 64
    second_product_fits = Sizes.second_fits k a b t p g

    pub product_sum_fits : cut_product_sum k a b t < 2 ^ 64
    product_sum_fits = Sizes.sum_fits k a b t p g

-- Nor does what is divided to give a node overflow, nor the product by which a word is judged: what the word stands
-- for, times its divisor.
module _ (F : Format) (o : IsOffered F) where
  pub numerator_fits : 2 ^ (3 * precision_of F + (table_bits F + 1)) < 2 ^ 63
  numerator_fits = Sizes.numerator_small F o

  pub judged_product_fits : (s : List ℕ) (j : ℕ) → j ≤ 2 ^ precision_of F → node_of F s j * (2 ^ precision_of F + j) < 2 ^ 64
  judged_product_fits = Sizes.judged_fits F o
