-- The limit of the steps cannot be lowered: with nodes rounded up, each step of fewer than K from the least cut
-- operand reaches it. That is so whatever the number A of table units to an ulp and the number B of steps of t, which
-- is 2H. There the first two nodes lie 2A(K - 1) apart or more.
-- Assumes nothing.
use mathlib.Core.Path.{◌≡◌, ap, ap₂, ◌∙◌}
use Prim.Native.Nat.{ℕ, ◌+◌, ◌-◌, ◌*◌, ◌/◌, ◌%◌, ◌≤◌, ◌<◌}
use native.Mathlib.Nat.{
  le_refl,
  le_of_lt,
  sub-le,
  mul-pos,
  le-div_iff_mul-le,
  mul-le-mul,
  mul-le-mul_right,
  div-mul-le_self,
  lt_of_mul-lt-mul_right,
}
use native.Mathlib.Omega.{arith}
use lib.Arith.{digits_div, digits_mod}
use Rattle.quotient.specs.Quotient.{rounded_up}
use Rattle.quotient.proofs.Laws.{reaches, passes_less, least, exact}
use Rattle.interpolation.specs.Algorithm.{sum_over}
use Rattle.interpolation.proofs.Steps.{sum_at, reciprocal_at, falls_within}
use Rattle.interpolation.proofs.Excess.{numerator_of}
use Rattle.interpolation.proofs.RoundedUp.{rounded_node, rounded_steady}

-- U is the limit of d steps, d / H rounded up. At each of them P falls by D. P and R are what it comes to at the last
-- one, and m is K - 1.
core : (A H K m d U D P R : ℕ) → 0 < A → m + 1 ≡ K → d < K → U * H < d + H → 2 * A * m ≤ D
    → P + D * d ≡ 2 * (K * K) * (A * (2 * H * K)) → R * (A * (2 * H * K)) ≤ P
    → R + U ≤ 2 * (K * K)
core A H K m d U D P R units one few limit apart p r =
    let reach : (U * H + 1) * (2 * A * K) ≤ (d + H) * (2 * A * K) =
    mul-le-mul_right (2 * A * K) (omega (arith, limit)) in
    let before : (d + 1) * (2 * A) ≤ K * (2 * A) = mul-le-mul_right (2 * A) (omega (arith, few)) in
    let below : (R + U) * (A * (2 * H * K)) < (2 * (K * K) + 1) * (A * (2 * H * K)) =
    omega (arith, reach, before, p, r, units, mul-le-mul_right d apart, ap (λ (x : ℕ). 2 * A * d * x) one) in
    omega (arith, lt_of_mul-lt-mul_right (A * (2 * H * K)) below)

-- the first two nodes
module _ (A m : ℕ) where
  abbrev K : ℕ
  K = m + 1

  first : rounded_node A K 0 ≡ 2 * A * (K * K)
  first =
      let whole : numerator_of A K ≡ 2 * A * (K * K) * K = omega arith in
      let from : K + 0 ≡ K = omega arith in
      ap₂ rounded_up whole from ∙ exact (2 * A * (K * K)) K (omega arith)

  second : rounded_node A K 1 ≤ 2 * A * (m * m + m + 1)
  second = least (numerator_of A K) (K + 1) (omega arith) (2 * A * (m * m + m + 1)) (omega arith)

  nodes_apart : 2 * A * m ≤ rounded_node A K 0 - rounded_node A K 1
  nodes_apart = omega (arith, first, second)

-- R at the least cut operand K × F, and d steps behind it
module _ (A H K d : ℕ) (units : 0 < A) (steps : 0 < H) (few : d < K) where
  abbrev c : ℕ → ℕ
  c = rounded_node A K

  abbrev F : ℕ
  F = 2 * H * K

  abbrev R : ℕ → ℕ
  R = reciprocal_at A (2 * H) K c

  some : 0 < K
  some = omega (arith, few)

  inside : d < F
  inside = omega (arith, few, mul-le-mul_right K steps)

  -- P of a step in the first piece
  in_first : (f : ℕ) → f < F → sum_at K F c (K * F + f) ≡ sum_over F (c 0) (c 1) f
  in_first f l =
      let at : (K * F + f) / F - K ≡ 0 = omega (arith, digits_div K {m = F} {r = f} l) in
      let rest : (K * F + f) % F ≡ f = digits_mod K {m = F} {r = f} l in
      ap₂ (λ (i g : ℕ). sum_over F (c i) (c (i + 1)) g) at rest

  node_0 : c 0 * F ≡ 2 * (K * K) * (A * F)
  node_0 =
      let one : K - 1 + 1 ≡ K = omega (arith, some) in
      omega (arith, ap (λ (x : ℕ). x * F) (rw one at (first A (K - 1))))

  apart : 2 * A * (K - 1) ≤ c 0 - c 1
  apart =
      let one : K - 1 + 1 ≡ K = omega (arith, some) in
      rw one at (nodes_apart A (K - 1))

  -- the least cut operand is node 0 itself,
  at_least : sum_at K F c (K * F) ≡ 2 * (K * K) * (A * F)
  at_least =
      let at : K * F + 0 ≡ K * F = omega arith in
      omega (arith, rw at at (in_first 0 (omega (arith, inside))), node_0)

  -- and d steps behind it P is less by d times the difference of the nodes
  behind : sum_at K F c (K * F + d) + (c 0 - c 1) * d ≡ 2 * (K * K) * (A * F)
  behind = omega (arith, in_first d inside, node_0, mul-le-mul (sub-le (c 0) (c 1)) (le_of_lt inside))

  pub reached : R (K * F) ≡ R (K * F + d) + rounded_up d H
  reached =
      let unit : 0 < A * F = mul-pos units (omega (arith, inside)) in
      let limit : 2 * d ≤ rounded_up d H * (2 * H) = omega (arith, reaches d H steps) in
      let no_more = falls_within (rounded_steady A K some units) (2 * H) units (omega (arith, steps)) some (K * F) d
      (le_refl (K * F)) (omega (arith, inside, mul-le-mul_right F some)) (rounded_up d H) limit in
      let no_less =
      core A H K (K - 1) d (rounded_up d H) (c 0 - c 1) (sum_at K F c (K * F + d)) (R (K * F + d)) units
      (omega (arith, some)) few (passes_less d H steps) apart behind
      (div-mul-le_self (sum_at K F c (K * F + d)) (A * F)) in
      let from : 2 * (K * K) ≤ R (K * F) = (le-div_iff_mul-le unit).1 (omega (arith, at_least)) in
      omega (arith, no_more, no_less, from)
