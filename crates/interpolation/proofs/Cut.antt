-- The laws of a cut operand at every k and with any guard bits: where it lies, and how large P and R are.
-- Assumes nothing.
use mathlib.Core.Path.{◌≡◌, sym, ap, ◌∙◌}
use Prim.Native.Nat.{ℕ, ◌+◌, ◌-◌, ◌*◌, ◌/◌, ◌%◌, ◌^◌, ◌≤◌, ◌<◌}
use native.Mathlib.Nat.{
  le_of_lt,
  mod-lt,
  add-mul-div_right,
  add-mul-mod_self_right,
  sub-le,
  mul-le-mul,
  mul-le-mul_right,
  le-div_iff_mul-le,
  div-lt_iff_lt-mul,
  div-le_of_le-mul,
}
use native.Mathlib.Omega.{arith}
use lib.Pow.{pow_pos, pow-add, pow_mono}
use Rattle.nodes.specs.Nodes.{node}
use Rattle.nodes.proofs.Nodes.{node_last, node_most, node_ordered, node_near}
use Rattle.interpolation.specs.Algorithm.{
  index,
  node_number,
  fraction,
  product_sum,
  chopped,
  cut_product_sum,
  cut_reciprocal,
}
use Rattle.interpolation.specs.Inner.{cut_of}
use Rattle.interpolation.proofs.Pieces as pieces
use Rattle.interpolation.proofs.Powers as powers
use Rattle.interpolation.proofs.Table.{sum_parts, sum_least}

-- the leading one of a cut operand stands for 2^k pieces
in_pieces : (k b : ℕ) → 2 ^ (2 * k + b) ≡ 2 ^ k * 2 ^ (k + b)
in_pieces k b = omega (arith, powers.least k 0 b, ap (λ (x : ℕ). 2 ^ k * x) (powers.width k 0 b))

-- a cut operand t has 2k + b fraction bits
module _ (k b t : ℕ) (least : 2 ^ (2 * k + b) ≤ t) (most : t < 2 ^ (2 * k + (b + 1))) where
  from : 2 ^ k * 2 ^ (k + b) ≤ t
  from = omega (arith, in_pieces k b)

  to : t < 2 * 2 ^ k * 2 ^ (k + b)
  to = omega (arith, powers.most k 0 b, ap (λ (x : ℕ). 2 * 2 ^ k * x) (powers.width k 0 b))

  -- i is 2^k and j, which is below 2^k
  pub cut_index : 2 ^ k + node_number k b t ≡ index k b t
  cut_index = pieces.index_number (2 ^ k) (2 ^ (k + b)) t (pow_pos (k + b)) from to

  pub cut_number_below : node_number k b t < 2 ^ k
  cut_number_below = pieces.number_below (2 ^ k) (2 ^ (k + b)) t (pow_pos (k + b)) from to

-- a cut operand by its fraction bits: the first k of them are j, and the others are f
module _ (k b bits : ℕ) where
  behind_pieces : cut_of k b bits ≡ bits + 2 ^ k * 2 ^ (k + b)
  behind_pieces = omega (arith, in_pieces k b)

  pub bits_number : node_number k b (cut_of k b bits) ≡ bits / 2 ^ (k + b)
  bits_number =
      let i : index k b (cut_of k b bits) ≡ bits / 2 ^ (k + b) + 2 ^ k =
      ap (λ (t : ℕ). t / 2 ^ (k + b)) behind_pieces ∙ add-mul-div_right bits (2 ^ k) (pow_pos (k + b)) in
      omega (arith, i)

  pub bits_fraction : fraction k b (cut_of k b bits) ≡ bits % 2 ^ (k + b)
  bits_fraction = ap (λ (t : ℕ). t % 2 ^ (k + b)) behind_pieces ∙ add-mul-mod_self_right bits (2 ^ k) (2 ^ (k + b))

  -- and it is in range
  pub bits_least : 2 ^ (2 * k + b) ≤ cut_of k b bits
  bits_least = omega arith

  pub bits_most : bits < 2 ^ (2 * k + b) → cut_of k b bits < 2 ^ (2 * k + (b + 1))
  bits_most h = omega (
    arith,
    h,
    pow-add 2 (2 * k) b,
    ap (λ (x : ℕ). 2 ^ (2 * k) * x) (pow-add 2 b 1),
    pow-add 2 (2 * k) (b + 1),
  )

-- f is below 2^(k+b) at every t
pub cut_fraction_below : (k b t : ℕ) → fraction k b t < 2 ^ (k + b)
cut_fraction_below k b t = mod-lt t (pow_pos (k + b))

-- The two products of P, and P, between nodes c and c': none has more than 3k + a + b + 1 bits behind its leading
-- one. The second product is no greater than the first.
pub product_most : (k a b c : ℕ) → c ≤ 2 ^ (2 * k + (a + 1)) → c * 2 ^ (k + b) ≤ 2 ^ (3 * k + (a + b + 1))
product_most k a b c h =
    let together : 2 ^ (2 * k + (a + 1)) * 2 ^ (k + b) ≡ 2 ^ (3 * k + (a + b + 1)) =
    sym (pow-add 2 (2 * k + (a + 1)) (k + b))
    ∙ ap (λ (e : ℕ). 2 ^ e) {x = 2 * k + (a + 1) + (k + b)} {y = 3 * k + (a + b + 1)} (omega arith) in
    omega (arith, mul-le-mul_right (2 ^ (k + b)) h, together)

pub difference_most : (k b c c' f : ℕ) → f ≤ 2 ^ (k + b) → (c - c') * f ≤ c * 2 ^ (k + b)
difference_most k b c c' f inside = mul-le-mul (sub-le c c') inside

pub sum_most : (k b c c' f : ℕ) → product_sum k b c c' f ≤ c * 2 ^ (k + b)
sum_most k b c c' f = sub-le (c * 2 ^ (k + b)) ((c - c') * f)

-- the product of the last node is 2^(2k) ulps
last_product : (k a b : ℕ) → 2 ^ (2 * k + a) * 2 ^ (k + b) ≡ 2 ^ (2 * k) * 2 ^ (k + (a + b))
last_product k a b =
    sym (pow-add 2 (2 * k + a) (k + b))
    ∙ ap (λ (e : ℕ). 2 ^ e) {x = 2 * k + a + (k + b)} {y = 2 * k + (k + (a + b))} (omega arith)
    ∙ pow-add 2 (2 * k) (k + (a + b))

-- R between nodes that lie between the first and the last one
module _ (k a b c c' f : ℕ) (falls : c' ≤ c) (inside : f ≤ 2 ^ (k + b)) where
  pub chopped_most : c ≤ 2 ^ (2 * k + (a + 1)) → chopped k a b (product_sum k b c c' f) ≤ 2 ^ (2 * k + 1)
  chopped_most h =
      div-le_of_le-mul (2 ^ (k + (a + b)))
      (omega (arith, sum_most k b c c' f, mul-le-mul_right (2 ^ (k + b)) h, powers_most))
    where
      powers_most : 2 ^ (2 * k + (a + 1)) * 2 ^ (k + b) ≡ 2 ^ (k + (a + b)) * 2 ^ (2 * k + 1)
      powers_most =
          sym (pow-add 2 (2 * k + (a + 1)) (k + b))
          ∙ ap (λ (e : ℕ). 2 ^ e) {x = 2 * k + (a + 1) + (k + b)} {y = k + (a + b) + (2 * k + 1)} (omega arith)
          ∙ pow-add 2 (k + (a + b)) (2 * k + 1)

  pub chopped_least : 2 ^ (2 * k + a) ≤ c' → 2 ^ (2 * k) ≤ chopped k a b (product_sum k b c c' f)
  chopped_least h =
      (le-div_iff_mul-le (pow_pos (k + (a + b)))).1
      (omega (arith, sum_least c c' (2 ^ (k + b)) f falls inside, mul-le-mul_right (2 ^ (k + b)) h, last_product k a b))

-- both nodes of a piece lie between the first and the last one, and fall
pub cut_node_most : (k a b t : ℕ) → node k a (node_number k b t) ≤ 2 ^ (2 * k + (a + 1))
cut_node_most k a b t = node_most k a (node_number k b t)

pub cut_node_falls : (k a b t : ℕ) → node k a (node_number k b t + 1) ≤ node k a (node_number k b t)
cut_node_falls k a b t = node_ordered k a {i = node_number k b t} {j = node_number k b t + 1} (omega arith)

module _ (k a b t : ℕ) (least : 2 ^ (2 * k + b) ≤ t) (most : t < 2 ^ (2 * k + (b + 1))) where
  pub cut_node_least : 2 ^ (2 * k + a) ≤ node k a (node_number k b t + 1)
  cut_node_least =
      omega (
        arith,
        node_last k a,
        node_ordered k a {i = node_number k b t + 1} {j = 2 ^ k} (omega (arith, cut_number_below k b t least most)),
      )

  -- R runs from 2^(2k) to 2^(2k+1)
  pub cut_reciprocal_least : 2 ^ (2 * k) ≤ cut_reciprocal k a b t
  cut_reciprocal_least =
      chopped_least k a b (node k a (node_number k b t)) (node k a (node_number k b t + 1)) (fraction k b t)
      (cut_node_falls k a b t) (le_of_lt (cut_fraction_below k b t)) cut_node_least

  pub cut_reciprocal_most : cut_reciprocal k a b t ≤ 2 ^ (2 * k + 1)
  cut_reciprocal_most =
      chopped_most k a b (node k a (node_number k b t)) (node k a (node_number k b t + 1)) (fraction k b t)
      (cut_node_falls k a b t) (le_of_lt (cut_fraction_below k b t)) (cut_node_most k a b t)

-- P one step before the end of a piece whose nodes differ by less than D
one_step : (c c' u F D f P : ℕ) → 0 < F → f ≡ F - 1 → c' ≡ u → c < c' + D → P ≡ c * (F - f) + c' * f → P < u * F + D
one_step c c' u F D f P wide e d near p =
    let one : F - f ≡ 1 = omega arith in
    let all : f + 1 ≡ F = omega arith in
    omega (arith, p, ap (λ (x : ℕ). c * x) one, ap (λ (x : ℕ). c' * x) all, ap (λ (x : ℕ). x * F) d)

-- the greatest cut operand has the least R: it lies one step before the last node
module _ (k a b t : ℕ) (some : 1 ≤ b) (last : t + 1 ≡ 2 ^ (2 * k + (b + 1))) where
  abbrev F : ℕ
  F = 2 ^ (k + b)

  pieces_end : t + 1 ≡ (2 * 2 ^ k - 1 + 1) * F
  pieces_end =
      let twice : 2 * 2 ^ k - 1 + 1 ≡ 2 * 2 ^ k = omega (arith, pow_pos k) in
      last ∙ powers.most k a b ∙ rw (twice, powers.width k a b)

  number_last : node_number k b t + 1 ≡ 2 ^ k
  number_last = omega (arith, pieces.last_index (2 * 2 ^ k - 1) F t (pow_pos (k + b)) pieces_end, pow_pos k)

  fraction_last : fraction k b t ≡ F - 1
  fraction_last = pieces.last_rest (2 * 2 ^ k - 1) F t (pow_pos (k + b)) pieces_end

  -- P is less than an ulp above the last node's
  sum_last : cut_product_sum k a b t < 2 ^ (2 * k + a) * F + 2 ^ (k + (a + 1))
  sum_last =
      let j = node_number k b t in
      let upper : node k a (j + 1) ≡ 2 ^ (2 * k + a) = ap (node k a) number_last ∙ node_last k a in
      one_step (node k a j) (node k a (j + 1)) (2 ^ (2 * k + a)) F (2 ^ (k + (a + 1))) (fraction k b t)
      (cut_product_sum k a b t) (pow_pos (k + b)) fraction_last upper (node_near k a j)
      (sum_parts (node k a j) (node k a (j + 1)) F (fraction k b t) (cut_node_falls k a b t)
      (le_of_lt (cut_fraction_below k b t)))

  pub cut_reciprocal_last : cut_reciprocal k a b t ≡ 2 ^ (2 * k)
  cut_reciprocal_last =
      let more : k + (a + 1) ≤ k + (a + b) = omega (arith, some) in
      let below : cut_reciprocal k a b t < 2 ^ (2 * k) + 1 =
      (div-lt_iff_lt-mul (pow_pos (k + (a + b)))).1 (omega (arith, sum_last, last_product k a b, pow_mono more)) in
      omega (
        arith,
        below,
        cut_reciprocal_least k a b t
            (omega (
              arith,
              last,
              pow-add 2 (2 * k) b,
              ap (λ (x : ℕ). 2 ^ (2 * k) * x) (pow-add 2 b 1),
              pow-add 2 (2 * k) (b + 1),
              pow_pos (2 * k + b),
            )) (omega (arith, last)),
      )
