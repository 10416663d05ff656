-- The one-ulp bound of operands, by powers of two.
-- It holds of every table of nodes that keeps its laws, with a table and b input guard bits.
-- The nodes rounded up keep them from a = 2 and b = 3 on, so it holds of R at every k and n.
-- Assumes nothing.
use mathlib.Core.Path.{◌≡◌, sym, ap, subst}
use Prim.Native.Nat.{ℕ, ◌+◌, ◌-◌, ◌*◌, ◌%◌, ◌^◌, ◌≤◌, ◌<◌}
use native.Mathlib.Nat.{mul-pos, lt_of_mul-lt-mul_right}
use native.Mathlib.Omega.{arith}
use lib.Pow.{pow_pos, pow_mono}
use Rattle.quotient.specs.Quotient.{rounded_up}
use Rattle.nodes.specs.Nodes.{node}
use Rattle.operand.specs.Operand.{cut_to}
use Rattle.operand.proofs.Laws.{cut_split, cut_rest, cut_range}
use Rattle.interpolation.specs.Reciprocal.{reciprocal}
use Rattle.interpolation.proofs.Core as core
use Rattle.interpolation.proofs.Table as table
use Rattle.interpolation.proofs.Table.{Table}
use Rattle.interpolation.proofs.RoundedUp.{keeps}
use Rattle.interpolation.proofs.Powers as powers

-- one bit more
longer : (k b : ℕ) → 2 ^ (2 * k + (b + 1)) ≡ 2 ^ (2 * k + b + 1)
longer k b = ap (λ (e : ℕ). 2 ^ e) {x = 2 * k + (b + 1)} {y = 2 * k + b + 1} (omega arith)

module _ (k a b : ℕ) where
  -- R of a cut operand t by the nodes c
  abbrev R : (ℕ → ℕ) → ℕ → ℕ
  R = powers.reciprocal_by k a b

  -- N = 2^(4k+b+1)
  abbrev exact_at : ℕ
  exact_at = 2 * 2 ^ b * (2 ^ k * 2 ^ k * 2 ^ k * 2 ^ k)

  exact_positive : 0 < exact_at
  exact_positive =
      mul-pos (mul-pos (omega arith) (pow_pos b))
      (mul-pos (mul-pos (mul-pos (pow_pos k) (pow_pos k)) (pow_pos k)) (pow_pos k))

  -- nodes that keep the laws
  module _ {c E D : ℕ → ℕ} (nodes : Table (2 ^ a) (2 ^ b) (2 ^ k) c E D) where
    -- of a cut operand
    pub cut_low : (t : ℕ) → 2 ^ (2 * k + b) ≤ t → t < 2 ^ (2 * k + (b + 1)) → exact_at < (R c t + 1) * t
    cut_low t l m =
        rw (powers.unit k a b, powers.width k a b)
        (table.bound_low nodes t (rw (powers.least k a b) at l) (rw (powers.most k a b) at m))

    pub cut_high : (t : ℕ) → 2 ^ (2 * k + b) ≤ t → t < 2 ^ (2 * k + (b + 1)) → R c t * (t + 1) ≤ exact_at + (t + 1)
    cut_high t l m =
        rw (powers.unit k a b, powers.width k a b)
        (table.bound_high nodes t (rw (powers.least k a b) at l) (rw (powers.most k a b) at m))

    -- Of an operand X with n fraction bits, cut or padded: X × 2^(2k+b-n) is t × 2^(n-2k-b) and a rest.
    -- One of the two powers is 1.
    module _ (n X : ℕ) (least : 2 ^ n ≤ X) (below : X < 2 ^ (n + 1)) where
      abbrev t : ℕ
      t = cut_to (2 * k + b) n X

      -- what X is multiplied and divided by
      abbrev Q : ℕ
      Q = 2 ^ (2 * k + b - n)

      abbrev S : ℕ
      S = 2 ^ (n - (2 * k + b))

      abbrev rest : ℕ
      rest = X * Q % S

      from : 2 ^ (2 * k + b) ≤ t
      from = (cut_range (2 * k + b) n X least below).0

      to : t < 2 ^ (2 * k + (b + 1))
      to = rw (longer k b) (cut_range (2 * k + b) n X least below).1

      padded_low : 2 ^ (n + 2 * k + 1) * Q < R c t * (X * Q) + X * Q
      padded_low =
          rw (powers.exact k a b n)
          (rw (cut_split (2 * k + b) n X) at (core.operand_low exact_at (R c t) t S rest (cut_low t from to)
          (cut_rest (2 * k + b) n X)))

      padded_high : R c t * (X * Q) < 2 ^ (n + 2 * k + 1) * Q + X * Q
      padded_high =
          rw (powers.exact k a b n)
          (rw (cut_split (2 * k + b) n X) at (core.operand_high exact_at t S rest (R c t) exact_positive
          (cut_high t from to) (cut_rest (2 * k + b) n X)))

      pub operand_low : 2 ^ (n + 2 * k + 1) < R c t * X + X
      operand_low = lt_of_mul-lt-mul_right Q (omega (arith, padded_low))

      pub operand_high : R c t * X < 2 ^ (n + 2 * k + 1) + X
      operand_high = lt_of_mul-lt-mul_right Q (omega (arith, padded_high))

-- the nodes of the construction with a table guard bits keep the laws
pub rounded-up : (k a b : ℕ) → 2 ≤ a → 3 ≤ b
    → Table (2 ^ a) (2 ^ b) (2 ^ k) (node k a) (λ (j : ℕ). 1) (λ (j : ℕ). 2 ^ a - 1)
rounded-up k a b units steps =
    subst
    (λ (M : ℕ). Table (2 ^ a) (2 ^ b) (2 ^ k) (λ (j : ℕ). rounded_up M (2 ^ k + j)) (λ (j : ℕ). 1)
    (λ (j : ℕ). 2 ^ a - 1))
    (sym (powers.numerator k a b))
    (keeps (2 ^ a) (2 ^ b) (2 ^ k) (pow_mono units) (pow_mono steps) (pow_pos k))

-- from a = 2 and b = 3 on: R of every k
module _ (k a b : ℕ) (units : 2 ≤ a) (steps : 3 ≤ b) (n X : ℕ) (least : 2 ^ n ≤ X) (below : X < 2 ^ (n + 1)) where
  pub reciprocal_high : reciprocal k a b n X * X < 2 ^ (n + 2 * k + 1) + X
  reciprocal_high = operand_high k a b (rounded-up k a b units steps) n X least below

  pub reciprocal_low : 2 ^ (n + 2 * k + 1) < reciprocal k a b n X * X + X
  reciprocal_low = operand_low k a b (rounded-up k a b units steps) n X least below
