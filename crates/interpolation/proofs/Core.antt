-- The one-ulp bound of a single piece, over plain numbers and with no division. A piece has the nodes c at i and c'
-- at i + 1. Its parts before and behind t are f and g. So F = f + g is its width, t = i × F + f and
-- P = c × g + c' × f. The nodes are M / i and M / (i + 1), raised by at most E. A = E + D table units make an ulp.
-- Assumes nothing.
use mathlib.Core.Logic.{⊎_elim}
use mathlib.Core.Path.{◌≡◌, ap}
use Prim.Native.Nat.{ℕ, zero, suc, ◌+◌, ◌-◌, ◌*◌, ◌≤◌, ◌<◌}
use native.Mathlib.Nat.{
  mul-le-mul_left,
  mul-le-mul_right,
  mul-pos,
  le_of_mul-le-mul_left,
  le_of_mul-le-mul_right,
  lt_of_mul-lt-mul_right,
}
use native.Mathlib.Omega.{arith}
use Rattle.bools.proofs.Bools.{below_or_not}

-- four times a product is at most the square of the sum
four_more : (f d : ℕ) → 4 * (f * (f + d)) ≤ (f + (f + d)) * (f + (f + d))
four_more f d = omega arith

four_times : (f g : ℕ) → 4 * (f * g) ≤ (f + g) * (f + g)
four_times f g =
    ⊎_elim
    (λ (h : f < g). let e : f + (g - f) ≡ g = omega arith in rw e at (four_more f (g - f)))
    (λ (h : g ≤ f). let e : g + (f - g) ≡ f = omega arith in omega (arith, rw e at (four_more g (f - g))))
    (below_or_not f g)

module _ (M i c c' f g : ℕ) where
  -- the weights of both nodes, over the common divisor i × (i + 1)
  weighed_low : M ≤ c * i → M ≤ c' * (i + 1) → M * (g * (i + 1) + f * i) ≤ (c * g + c' * f) * (i * (i + 1))
  weighed_low h h' = omega (arith, mul-le-mul_right (g * (i + 1)) h, mul-le-mul_right (f * i) h')

  -- the interpolated value is not below the exact one
  pub low : 0 < i → M ≤ c * i → M ≤ c' * (i + 1) → M * ((f + g) * (f + g)) ≤ (c * g + c' * f) * (i * (f + g) + f)
  low p h h' =
      le_of_mul-le-mul_left {k = i * (i + 1)} (omega (arith, mul-le-mul_right (i * (f + g) + f) (weighed_low h h')))
      (mul-pos p (omega arith))

-- the weights, times T, over the common divisor I
joined : (P I W M E D F T U : ℕ) → P * I ≤ M * W + E * F * I → W * T ≡ F * F * I + U → 4 * (M * U) ≤ 4 * (D * F * I * T)
    → I * (P * T) ≤ I * (M * (F * F) + (E + D) * F * T)
joined P I W M E D F T U h e s = omega (arith, mul-le-mul_right T h, ap (λ (x : ℕ). M * x) e)

module _ (M i c c' f g E D : ℕ) where
  weighed_high : c * i ≤ M + E * i → c' * (i + 1) ≤ M + E * (i + 1)
      → (c * g + c' * f) * (i * (i + 1)) ≤ M * (g * (i + 1) + f * i) + E * (f + g) * (i * (i + 1))
  weighed_high h h' = omega (arith, mul-le-mul_right (g * (i + 1)) h, mul-le-mul_right (f * i) h')

  -- what the interpolation adds is within what the rounding of the nodes leaves free
  spare : M * (f + g) + 4 * M * (i + 1) ≤ 4 * D * (i * i * (i + 1)) * (f + g)
      → 4 * (M * (f * g + g * (i + 1) + f * i)) ≤ 4 * (D * (f + g) * (i * (i + 1)) * (i * (f + g) + f + 1))
  spare room =
      omega (arith, mul-le-mul_right (f + g) room, mul-le-mul_left M (four_times f g))

  -- nor is it more than an ulp above the exact value of the next operand
  pub high : 0 < i → c * i ≤ M + E * i → c' * (i + 1) ≤ M + E * (i + 1)
      → M * (f + g) + 4 * M * (i + 1) ≤ 4 * D * (i * i * (i + 1)) * (f + g)
      → (c * g + c' * f) * (i * (f + g) + f + 1) ≤ M * ((f + g) * (f + g)) + (E + D) * (f + g) * (i * (f + g) + f + 1)
  high p h h' room =
      le_of_mul-le-mul_left {k = i * (i + 1)}
      (joined (c * g + c' * f) (i * (i + 1)) (g * (i + 1) + f * i) M E D (f + g) (i * (f + g) + f + 1)
      (f * g + g * (i + 1) + f * i)
      (weighed_high h h') (omega arith) (spare room))
      (mul-pos p (omega arith))

-- R is P / G without its rest, and N × G = M × F × F
module _ (N G P R t : ℕ) where
  pub chopped_low : 0 < t → P < (R + 1) * G → N * G ≤ P * t → N < (R + 1) * t
  chopped_low p h l = lt_of_mul-lt-mul_right G (omega (arith, mul-le-mul_left {m = suc P} {n = (R + 1) * G} t h))

  pub chopped_high : 0 < G → R * G ≤ P → P * (t + 1) ≤ N * G + G * (t + 1) → R * (t + 1) ≤ N + (t + 1)
  chopped_high p h l = le_of_mul-le-mul_right {k = G} (omega (arith, mul-le-mul_right (t + 1) h)) p

-- all operands X of one t, which is X / S without its rest r
module _ (N R t S r : ℕ) where
  pub operand_low : N < (R + 1) * t → r < S → N * S < R * (t * S + r) + (t * S + r)
  operand_low h l = omega (arith, mul-le-mul_right {m = suc N} {n = (R + 1) * t} S h)

module _ (N t S r : ℕ) where
  pub operand_high : (R : ℕ) → 0 < N → R * (t + 1) ≤ N + (t + 1) → r < S → R * (t * S + r) < N * S + (t * S + r)
  operand_high zero p h l = omega (arith, mul-le-mul_right {m = 1} {n = N} S p)
  operand_high (suc zero) p h l = omega (arith, mul-le-mul_right {m = 1} {n = N} S p)
  operand_high (suc (suc Q)) p h l = omega (arith, mul-le-mul_right S h, mul-le-mul_left (suc Q) l)
