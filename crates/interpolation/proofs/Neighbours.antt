-- How far the reciprocals of neighbouring cut operands lie apart, by powers of two.
-- It holds of every table of nodes that keeps the laws of the steps, with a table and b input guard bits.
-- The nodes of the construction keep them at every k, where the limit is reached too.
-- Assumes nothing.
use mathlib.Core.Path.{◌≡◌, sym, ap, subst, ◌∙◌}
use mathlib.Core.Logic.{⊎_elim}
use Prim.Native.Nat.{ℕ, ◌+◌, ◌-◌, ◌*◌, ◌^◌, ◌≤◌, ◌<◌}
use native.Mathlib.Nat.{eq-zero-or-pos}
use native.Mathlib.Omega.{arith}
use lib.Pow.{pow_pos, pow-add}
use Rattle.quotient.specs.Quotient.{rounded_up}
use Rattle.quotient.proofs.Laws.{reaches}
use Rattle.nodes.specs.Nodes.{node}
use Rattle.interpolation.specs.Algorithm.{node_number, cut_product_sum, cut_reciprocal}
use Rattle.interpolation.proofs.Steps as steps
use Rattle.interpolation.proofs.Steps.{Steady}
use Rattle.interpolation.proofs.RoundedUp as rounded
use Rattle.interpolation.proofs.Reached as reached
use Rattle.interpolation.proofs.Powers as powers
use Rattle.interpolation.proofs.Powers.{reciprocal_by}

-- 2^b steps are 2 × 2^(b-1)
halves : (b : ℕ) → 1 ≤ b → 2 ^ b ≡ 2 * 2 ^ (b - 1)
halves b some =
    let more : b ≡ b - 1 + 1 = omega (arith, some) in
    ap (λ (e : ℕ). 2 ^ e) more ∙ omega (arith, pow-add 2 (b - 1) 1)

-- t lies where the cut operands do
abbrev pub IsIn : ℕ → ℕ → ℕ → Type 0
IsIn k b t = (2 ^ (2 * k + b) ≤ t) × (t < 2 ^ (2 * k + (b + 1)))

-- Nodes that keep the laws of the steps.
module _ (k a b : ℕ) {c : ℕ → ℕ} (laws : Steady (2 ^ a) (2 ^ k) c) where
  abbrev R : ℕ → ℕ
  R = reciprocal_by k a b c

  -- two cut operands, of which t' is no smaller than t
  module _ (t t' : ℕ) (cut : IsIn k b t) (cut' : IsIn k b t') (h : t ≤ t') where
    there : t + (t' - t) ≡ t'
    there = omega (arith, h)

    from : 2 ^ k * (2 ^ b * 2 ^ k) ≤ t
    from = rw (powers.least k a b) at cut.0

    to : t + (t' - t) ≤ 2 * 2 ^ k * (2 ^ b * 2 ^ k)
    to = omega (arith, there, rw (powers.most k a b) at cut'.1)

    -- R of t' is no greater,
    pub by_order : R t' ≤ R t
    by_order =
        rw (powers.unit k a b, powers.width k a b)
        (rw there at (steps.never_rises laws (2 ^ b) (pow_pos a) (pow_pos b) (pow_pos k) t (t' - t) from to))

    -- and less by at most any U of ulps that reach 2 × (t' - t) / 2^b
    forward : (U : ℕ) → 2 * (t' - t) ≤ U * 2 ^ b → R t ≤ R t' + U
    forward U l =
        rw (powers.unit k a b, powers.width k a b)
        (rw there at (steps.falls_within laws (2 ^ b) (pow_pos a) (pow_pos b) (pow_pos k) t (t' - t) from to U l))

  -- Of any two the R of one exceeds that of the other by their distance at most, or by 0 where the other is no greater.
  pub by_distance : (t t' : ℕ) → IsIn k b t → IsIn k b t' → (U : ℕ) → 2 * (t' - t) ≤ U * 2 ^ b → R t ≤ R t' + U
  by_distance t t' cut cut' U l =
      ⊎_elim
      (λ (e : t - t' ≡ 0). forward t t' cut cut' (omega (arith, e)) U l)
      (λ (p : 0 < t - t').
      let falls = by_order t' t cut' cut (omega (arith, p)) in
      omega (arith, falls))
      (eq-zero-or-pos (t - t'))

-- The nodes of the construction keep these laws at every k and with any number of table guard bits.
pub nodes_steady : (k a : ℕ) → Steady (2 ^ a) (2 ^ k) (node k a)
nodes_steady k a =
    subst
    (λ (M : ℕ). Steady (2 ^ a) (2 ^ k) (λ (j : ℕ). rounded_up M (2 ^ k + j)))
    (sym (powers.numerator k a 0))
    (rounded.rounded_steady (2 ^ a) (2 ^ k) (pow_pos k) (pow_pos a))

-- So P of the construction falls by the difference of its nodes for each step of t,
module _ (k a b : ℕ) where
  pub sum_step : (t : ℕ) → IsIn k b t
      → cut_product_sum k a b t
      ≡ cut_product_sum k a b (t + 1) + (node k a (node_number k b t) - node k a (node_number k b t + 1))
  sum_step t cut =
      steps.one_step (nodes_steady k a) (2 ^ (k + b)) (pow_pos (k + b)) t
      (rw (powers.width k a b) (rw (powers.least k a b) at cut.0))
      (rw (powers.width k a b) (rw (powers.most k a b) at cut.1))

  -- and R as above.
  pub cut_order : (t t' : ℕ) → IsIn k b t → IsIn k b t' → t ≤ t' → cut_reciprocal k a b t' ≤ cut_reciprocal k a b t
  cut_order = by_order k a b (nodes_steady k a)

  pub cut_within : (t t' : ℕ) → IsIn k b t → IsIn k b t' → (U : ℕ) → 2 * (t' - t) ≤ U * 2 ^ b
      → cut_reciprocal k a b t ≤ cut_reciprocal k a b t' + U
  cut_within = by_distance k a b (nodes_steady k a)

-- The limit of a step of d, d / 2^(b-1) rounded up, reaches 2d / 2^b.
module _ (b d : ℕ) (some : 1 ≤ b) where
  pub limit_enough : 2 * d ≤ rounded_up d (2 ^ (b - 1)) * 2 ^ b
  limit_enough = omega (
    arith,
    reaches d (2 ^ (b - 1)) (pow_pos (b - 1)),
    ap (λ (x : ℕ). rounded_up d (2 ^ (b - 1)) * x) (halves b some),
  )

  -- and from the least cut operand each step of fewer than 2^k is as large
  pub limit_reached : (k a : ℕ) → d < 2 ^ k
      → cut_reciprocal k a b (2 ^ (2 * k + b)) ≡ cut_reciprocal k a b (2 ^ (2 * k + b) + d) + rounded_up d (2 ^ (b - 1))
  limit_reached k a few =
      rw (powers.least k a b, powers.unit k a b, powers.width k a b, powers.numerator k a b)
      (rw (sym (halves b some)) at (reached.reached (2 ^ a) (2 ^ (b - 1)) (2 ^ k) d (pow_pos a) (pow_pos (b - 1)) few))
