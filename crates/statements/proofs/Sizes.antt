-- P between both nodes, how large the numbers of the algorithms are, for every k, a, b and t, and that they fit 64 bits
-- where k, a and b are in their ranges.
-- Assumes nothing.
use mathlib.Core.Path.{◌≡◌, sym, ap, ◌∙◌}
use mathlib.Core.Logic.{⊎_elim}
use mathlib.Core.List.{List}
use Prim.Native.Nat.{ℕ, ◌+◌, ◌-◌, ◌*◌, ◌^◌, ◌≤◌, ◌<◌}
use native.Mathlib.Nat.{le_of_lt, le_trans, lt_of_le_of_lt, lt_trans, mul-le-mul}
use native.Mathlib.Omega.{arith}
use lib.Pow.{pow-add, pow_pos, pow-lt, pow_mono}
use Rattle.format.specs.Format.{precision_of, table_bits, asked, word_width, word_count, image_length}
use Rattle.format.specs.declared.Form.TheVariants.{Plain}
use Rattle.format.specs.declared.Format.{Format}
use Rattle.format.proofs.Laws.{width_most, count_most}
use Rattle.bools.proofs.Bools.{below_or_not}
use Rattle.nodes.specs.Nodes.{node}
use Rattle.nodes.proofs.Nodes.{node_near, node_most}
use Rattle.nodes.proofs.Forms.{decoded_most, decoded_under, decoded_last}
use Rattle.packing.proofs.Words.{word_lt}
use Rattle.image.specs.Image.{word_of, node_of}
use Rattle.interpolation.specs.Algorithm.{node_number, fraction, cut_product_sum}
use Rattle.interpolation.proofs.Table.{sum_parts}
use Rattle.interpolation.proofs.Cut.{cut_fraction_below, cut_node_most, cut_node_falls, product_most, sum_most}
use Rattle.statements.specs.Terms.{IsPrecision, AreGuardBits, IsOffered}

-- the difference of neighbours
pub step_small : (k a j : ℕ) → node k a j - node k a (j + 1) < 2 ^ (k + (a + 1))
step_small k a j = omega (arith, node_near k a j, pow_pos (k + (a + 1)))

-- the longest image: at most 4,097 words of at most 30 bits
pub length_most : (F : Format) → IsOffered F → image_length F ≤ 15364
length_most F o = omega (arith, mul-le-mul words bits)
  where
    words : word_count F ≤ 4097
    words = omega (arith, count_most F.form (precision_of F), pow_mono o.0.1)

    bits : word_width F ≤ 30
    bits = omega (arith, o.0.1, o.1.1, width_most F.form (precision_of F) (table_bits F))

-- from k = 3 on there are eight plain words or a multiple of eight
pub whole_plain : (k a b : ℕ) → 3 ≤ k → 8 * image_length (asked Plain k a b) ≡ 2 ^ k * (2 * k + a)
whole_plain k a b h = omega (arith, ap (λ (x : ℕ). x * (2 * k + a)) eight)
  where
    eight : 2 ^ k ≡ 8 * 2 ^ (k - 3)
    eight = ap (λ (e : ℕ). 2 ^ e) {x = k} {y = 3 + (k - 3)} (omega (arith, h)) ∙ pow-add 2 3 (k - 3)

-- a product of powers
joined : (m n e : ℕ) → m + n ≡ e → 2 ^ m * 2 ^ n ≡ 2 ^ e
joined m n e h = sym (pow-add 2 m n) ∙ ap (λ (x : ℕ). 2 ^ x) h

-- a product of two numbers below powers
below_product : {x y A B : ℕ} → x < A → y < B → x * y < A * B
below_product h l = omega (arith, mul-le-mul h l)

module _ (k a b t : ℕ) where
  -- the nodes of the piece, and f
  abbrev c : ℕ
  c = node k a (node_number k b t)

  abbrev c' : ℕ
  c' = node k a (node_number k b t + 1)

  abbrev f : ℕ
  f = fraction k b t

  -- P between both nodes
  pub on_the_line : cut_product_sum k a b t ≡ c * (2 ^ (k + b) - f) + c' * f
  on_the_line = sum_parts c c' (2 ^ (k + b)) f (cut_node_falls k a b t) (le_of_lt (cut_fraction_below k b t))

  -- one bit more
  one_more : 2 ^ (3 * k + (a + b + 1)) < 2 ^ (3 * k + (a + b + 2))
  one_more = pow-lt (omega arith)

  pub first_product : c * 2 ^ (k + b) < 2 ^ (3 * k + (a + b + 2))
  first_product = lt_of_le_of_lt (product_most k a b c (cut_node_most k a b t)) one_more

  pub second_product : (c - c') * f < 2 ^ (2 * k + (a + b + 1))
  second_product =
      rw (joined (k + (a + 1)) (k + b) (2 * k + (a + b + 1)) (omega arith)) at (below_product (step_small k a (node_number k b t)) (cut_fraction_below k b t))

  pub sum_small : cut_product_sum k a b t < 2 ^ (3 * k + (a + b + 2))
  sum_small = lt_of_le_of_lt (sum_most k b c c' f) first_product

  module _ (p : IsPrecision k) (g : AreGuardBits a b) where
    pub few : 3 * k + (a + b + 2) ≤ 47
    few = omega (arith, p.1, g.1, g.3)

    in_64 : 2 ^ (3 * k + (a + b + 2)) < 2 ^ 64
    in_64 = let fewer : 3 * k + (a + b + 2) < 64 = omega (arith, few) in pow-lt fewer

    pub first_fits : c * 2 ^ (k + b) < 2 ^ 64
    first_fits = lt_trans first_product in_64

    pub second_fits : (c - c') * f < 2 ^ 64
    second_fits = let fewer : 2 * k + (a + b + 1) < 64 = omega (arith, few) in lt_trans second_product (pow-lt fewer)

    pub sum_fits : cut_product_sum k a b t < 2 ^ 64
    sum_fits = lt_trans sum_small in_64

module _ (F : Format) (o : IsOffered F) where
  abbrev k : ℕ
  k = precision_of F

  abbrev a : ℕ
  a = table_bits F

  pub numerator_small : 2 ^ (3 * k + (a + 1)) < 2 ^ 63
  numerator_small = let fewer : 3 * k + (a + 1) < 63 = omega (arith, o.0.1, o.1.1) in pow-lt fewer

  -- what a word stands for, and the value of a node that has none
  value_most : (s : List ℕ) (j : ℕ) → j ≤ 2 ^ k → node_of F s j ≤ 2 ^ (2 * k + (a + 2))
  value_most s j h =
      ⊎_elim
      (λ l. omega (arith, decoded_under k a j (word_of F s j) F.form l, decoded_most F.form k a j (word_of F s j) (word_lt (word_width F) s j)))
      (λ n. omega (arith, decoded_last k a j (word_of F s j) F.form n h, node_most k a j, pow_mono more))
      (below_or_not j (word_count F))
    where
      more : 2 * k + (a + 1) ≤ 2 * k + (a + 2)
      more = omega arith

  pub judged_fits : (s : List ℕ) (j : ℕ) → j ≤ 2 ^ k → node_of F s j * (2 ^ k + j) < 2 ^ 64
  judged_fits s j h =
      let few : 2 * k + (a + 2) ≤ 30 = omega (arith, o.0.1, o.1.1) in
      let wide : 2 ^ (2 * k + (a + 2)) ≤ 2 ^ 30 = pow_mono few in
      let divisor : 2 ^ k + j ≤ 2 ^ 13 = omega (arith, h, pow_mono o.0.1) in
      omega (arith, mul-le-mul (le_trans (value_most s j h) wide) divisor)
