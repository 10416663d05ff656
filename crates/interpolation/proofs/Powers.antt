-- The numbers of a table with a table guard bits and b input guard bits, as powers of two, and R by any nodes.
-- Assumes nothing.
use mathlib.Core.Path.{◌≡◌, sym, ap, ◌∙◌}
use Prim.Native.Nat.{ℕ, ◌+◌, ◌-◌, ◌*◌, ◌/◌, ◌^◌}
use native.Mathlib.Omega.{arith}
use lib.Pow.{pow-add}
use Rattle.interpolation.proofs.Steps.{sum_at}

module _ (k a b : ℕ) where
  -- R of a cut operand t by the nodes c
  abbrev pub reciprocal_by : (ℕ → ℕ) → ℕ → ℕ
  reciprocal_by c t = sum_at (2 ^ k) (2 ^ (k + b)) c t / 2 ^ (k + (a + b))

  -- F, the width of a piece
  pub width : 2 ^ (k + b) ≡ 2 ^ b * 2 ^ k
  width = omega (arith, pow-add 2 k b)

  -- G, the units of P to an ulp
  pub unit : 2 ^ (k + (a + b)) ≡ 2 ^ a * (2 ^ b * 2 ^ k)
  unit = pow-add 2 k (a + b) ∙ omega (arith, ap (λ (x : ℕ). 2 ^ k * x) (pow-add 2 a b))

  -- K cubed
  cubed : 2 ^ (3 * k) ≡ 2 ^ k * 2 ^ k * 2 ^ k
  cubed =
      ap (λ (e : ℕ). 2 ^ e) {x = 3 * k} {y = k + k + k} (omega arith) ∙ pow-add 2 (k + k) k
      ∙ ap (λ (x : ℕ). x * 2 ^ k) (pow-add 2 k k)

  -- M, what is divided to give a node
  pub numerator : 2 ^ (3 * k + (a + 1)) ≡ 2 * 2 ^ a * (2 ^ k * 2 ^ k * 2 ^ k)
  numerator = pow-add 2 (3 * k) (a + 1)
      ∙ omega (arith, ap (λ (x : ℕ). x * 2 ^ (a + 1)) cubed, ap (λ (x : ℕ). 2 ^ k * 2 ^ k * 2 ^ k * x) (pow-add 2 a 1))

  -- the least t
  pub least : 2 ^ (2 * k + b) ≡ 2 ^ k * (2 ^ b * 2 ^ k)
  least = ap (λ (e : ℕ). 2 ^ e) {x = 2 * k + b} {y = k + (k + b)} (omega arith) ∙ pow-add 2 k (k + b)
      ∙ ap (λ (x : ℕ). 2 ^ k * x) width

  -- and the end of all t
  pub most : 2 ^ (2 * k + (b + 1)) ≡ 2 * 2 ^ k * (2 ^ b * 2 ^ k)
  most =
      ap (λ (e : ℕ). 2 ^ e) {x = 2 * k + (b + 1)} {y = 2 * k + b + 1} (omega arith)
      ∙ pow-add 2 (2 * k + b) 1
      ∙ omega (arith, least)

  -- N, and N × 2^(n-2k-b), by which an operand that is padded by 2k + b - n bits is measured
  pub exact : (n : ℕ) → 2 ^ (n + 2 * k + 1) * 2 ^ (2 * k + b - n)
      ≡ 2 * 2 ^ b * (2 ^ k * 2 ^ k * 2 ^ k * 2 ^ k) * 2 ^ (n - (2 * k + b))
  exact n =
      sym (pow-add 2 (n + 2 * k + 1) (2 * k + b - n))
      ∙ ap (λ (e : ℕ). 2 ^ e) {x = n + 2 * k + 1 + (2 * k + b - n)} {y = (k + (b + 1) + 3 * k) + (n - (2 * k + b))}
      (omega arith)
      ∙ pow-add 2 (k + (b + 1) + 3 * k) (n - (2 * k + b))
      ∙ ap (λ (x : ℕ). x * 2 ^ (n - (2 * k + b))) all
    where
      all : 2 ^ (k + (b + 1) + 3 * k) ≡ 2 * 2 ^ b * (2 ^ k * 2 ^ k * 2 ^ k * 2 ^ k)
      all =
          pow-add 2 (k + (b + 1)) (3 * k)
          ∙ omega (
            arith,
            ap (λ (x : ℕ). 2 ^ (k + (b + 1)) * x) cubed,
            ap (λ (x : ℕ). x * (2 ^ k * 2 ^ k * 2 ^ k)) (pow-add 2 k (b + 1)),
            ap (λ (x : ℕ). 2 ^ k * x * (2 ^ k * 2 ^ k * 2 ^ k)) (pow-add 2 b 1),
          )
