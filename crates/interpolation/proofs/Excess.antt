-- Nodes that reach the exact values and exceed them by at most E on each of K pieces, with A table units to an ulp.
-- Node c(j) belongs to i = K + j, and its exact value is M / i.
-- Assumes nothing.
use mathlib.Core.Path.{◌≡◌, ap}
use Prim.Native.Nat.{ℕ, ◌+◌, ◌-◌, ◌*◌, ◌≤◌, ◌<◌}
use native.Mathlib.Nat.{
  add_assoc,
  le_of_lt,
  mul-pos,
  mul-le-mul,
  mul-le-mul_left,
  mul-le-mul_right,
  le_of_mul-le-mul_left,
}
use native.Mathlib.Omega.{arith}
use Rattle.interpolation.proofs.Steps.{Steady}

-- M, what is divided to give a node
abbrev pub numerator_of : ℕ → ℕ → ℕ
numerator_of A K = 2 * A * (K * K * K)

-- no node is below its exact value, and those at the left and at the right end of piece j exceed theirs by at most E j
pub record Exceeds (A K : ℕ) (c E : ℕ → ℕ) : Type 0 where
  pub above : (j : ℕ) → j ≤ K → numerator_of A K ≤ c j * (K + j)
  pub left : (j : ℕ) → j < K → c j * (K + j) ≤ numerator_of A K + E j * (K + j)
  pub right : (j : ℕ) → j < K → c (j + 1) * (K + j + 1) ≤ numerator_of A K + E j * (K + j + 1)

-- From i to i + 1 the exact values fall by M / (i × (i + 1)), which is from A up to 2AK less A for i from K to
-- 2K - 1. So nodes c and c' that exceed them by no more than E, which is A at most, fall, and by no more than 2AK.
module _ (A K i E c c' : ℕ) (from : K ≤ i) (to : i < 2 * K) (few : E ≤ A) where
  some : 0 < i * (i + 1)
  some = mul-pos {m = i} {n = i + 1} (omega (arith, from, to)) (omega arith)

  falls_at : numerator_of A K ≤ c * i → c' * (i + 1) ≤ numerator_of A K + E * (i + 1) → c' ≤ c
  falls_at h h' =
      let one : K - 1 + 1 ≡ K = omega (arith, from, to) in
      let square : 2 * K ≤ K * K + 1 = omega (arith, ap (λ (x : ℕ). x * x) one) in
      le_of_mul-le-mul_left {k = i * (i + 1)}
      (omega (
        arith,
        mul-le-mul_right (i + 1) h,
        mul-le-mul_right i h',
        mul-le-mul_right (i * (i + 1)) few,
        mul-le-mul_left (A * i) to,
        mul-le-mul_right (2 * A * K) to,
        mul-le-mul_left (2 * A * K) square,
      ))
      some

  near_at : c * i ≤ numerator_of A K + E * i → numerator_of A K ≤ c' * (i + 1) → c ≤ c' + 2 * A * K
  near_at h h' =
      le_of_mul-le-mul_left {k = i * (i + 1)}
      (omega (
        arith,
        mul-le-mul_right (i + 1) h,
        mul-le-mul_right i h',
        mul-le-mul_right (i * (i + 1)) few,
        mul-le-mul_left (A * i) to,
        mul-le-mul_left (2 * A * K) (mul-le-mul from from),
      ))
      some

-- so they are steady, where a piece exceeds by an ulp at most
pub steady : {A K : ℕ} {c E : ℕ → ℕ} → Exceeds A K c E → ((j : ℕ) → j < K → E j ≤ A) → Steady A K c
steady {A} {K} {c} {E} nodes few =
    record {
      falls = λ j h. falls_at A K (K + j) (E j) (c j) (c (j + 1)) (omega arith) (omega (arith, h)) (few j h)
          (nodes.above j (le_of_lt h)) (nodes.right j h);
      near = λ j h.
          near_at A K (K + j) (E j) (c j) (c (j + 1)) (omega arith) (omega (arith, h)) (few j h) (nodes.left j h)
          (rw add_assoc (nodes.above (j + 1) (omega (arith, h))));
    }
