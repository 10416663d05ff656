-- The one-ulp bound for every table of nodes that keeps a few laws. There are K pieces, A = 2^a table units to an ulp
-- and B = 2^b steps of t to each 2^(-2k) of the operand. The nodes exceed the exact values by at most E on each
-- piece, and A - E is D. Of the operand only t is spoken of.
-- Assumes nothing.
use mathlib.Core.Path.{◌≡◌, ap}
use Prim.Native.Nat.{ℕ, ◌+◌, ◌-◌, ◌*◌, ◌/◌, ◌%◌, ◌≤◌, ◌<◌}
use native.Mathlib.Nat.{add_assoc, le_of_lt, mul-pos, mul-le-mul_left, div-mul-le_self, lt-div-mul-add}
use native.Mathlib.Omega.{arith}
use Rattle.interpolation.specs.Algorithm.{sum_over}
use Rattle.interpolation.proofs.Core as core
use Rattle.interpolation.proofs.Pieces as pieces
use Rattle.interpolation.proofs.Steps.{Steady, sum_at, reciprocal_at, ulp_positive}
use Rattle.interpolation.proofs.Excess.{numerator_of, Exceeds, steady}

-- `room` says that the excess E of a piece leaves enough of an ulp
pub record Table (A B K : ℕ) (c E D : ℕ → ℕ) : Type 0 where
  pub units : 0 < A
  pub steps : 0 < B
  pub some : 0 < K
  pub nodes : Exceeds A K c E
  pub excess : (j : ℕ) → j < K → E j + D j ≡ A
  pub room : (j : ℕ) → j < K → A * B * (K * K * K) + 4 * A * (K * K) * (K + j + 1)
      ≤ 2 * D j * B * ((K + j) * (K + j) * (K + j + 1))

-- what the steps of R need of the nodes follows
pub table_steady : {A B K : ℕ} {c E D : ℕ → ℕ} → Table A B K c E D → Steady A K c
table_steady table = steady table.nodes (λ j h. omega (arith, table.excess j h))

-- P without its subtraction
sum_more : (c' d f g : ℕ) → (c' + d) * (f + g) - d * f ≡ (c' + d) * g + c' * f
sum_more c' d f g = omega arith

pub sum_parts : (c c' F f : ℕ) → c' ≤ c → f ≤ F → sum_over F c c' f ≡ c * (F - f) + c' * f
sum_parts c c' F f h l =
    let e : c' + (c - c') ≡ c = omega arith in
    let w : f + (F - f) ≡ F = omega arith in
    rw (e, w) at (sum_more c' (c - c') f (F - f))

-- P lies between both nodes
pub sum_least : (c c' F f : ℕ) → c' ≤ c → f ≤ F → c' * F ≤ sum_over F c c' f
sum_least c c' F f h l =
    let w : f + (F - f) ≡ F = omega arith in
    rw (sum_parts c c' F f h l) (omega (arith, mul-le-mul_left (F - f) h, ap (λ (x : ℕ). c' * x) w))

-- the core with the width, the operand and P by their names
low_at : (M i c c' F f g t P : ℕ) → f + g ≡ F → i * F + f ≡ t → P ≡ c * g + c' * f → 0 < i → M ≤ c * i
    → M ≤ c' * (i + 1) → M * (F * F) ≤ P * t
low_at M i c c' F f g t P w e s p h h' = rw (s, ← e, ← w) (core.low M i c c' f g p h h')

high_at : (M i c c' E D F f g t P : ℕ) → f + g ≡ F → i * F + f ≡ t → P ≡ c * g + c' * f → 0 < i → c * i ≤ M + E * i
    → c' * (i + 1) ≤ M + E * (i + 1)
    → M * F + 4 * M * (i + 1) ≤ 4 * D * (i * i * (i + 1)) * F → P * (t + 1) ≤ M * (F * F) + (E + D) * F * (t + 1)
high_at M i c c' E D F f g t P w e s p h h' room = rw (s, ← e, ← w) (core.high M i c c' f g E D p h h' (rw w room))

-- the exact value and the unit, by K, A and B
exact : (A B K : ℕ) → 2 * B * (K * K * K * K) * (A * (B * K)) ≡ 2 * A * (K * K * K) * (B * K * (B * K))
exact A B K = omega arith

-- the room of a piece, times 2 × K
room_at : (A B K D i : ℕ) → A * B * (K * K * K) + 4 * A * (K * K) * (i + 1) ≤ 2 * D * B * (i * i * (i + 1))
    → 2 * A * (K * K * K) * (B * K) + 4 * (2 * A * (K * K * K)) * (i + 1) ≤ 4 * D * (i * i * (i + 1)) * (B * K)
room_at A B K D i h = omega (arith, mul-le-mul_left (2 * K) h)

module _ {A B K : ℕ} {c E D : ℕ → ℕ} (table : Table A B K c E D) (t : ℕ) (least : K * (B * K) ≤ t)
    (most : t < 2 * K * (B * K)) where
  abbrev j : ℕ
  j = t / (B * K) - K

  abbrev f : ℕ
  f = t % (B * K)

  -- P and R of t
  abbrev P : ℕ
  P = sum_at K (B * K) c t

  abbrev R : ℕ
  R = reciprocal_at A B K c t

  wide : 0 < B * K
  wide = mul-pos table.steps table.some

  unit : 0 < A * (B * K)
  unit = ulp_positive table.units table.steps table.some

  below : j < K
  below = pieces.number_below K (B * K) t wide least most

  whole : f + (B * K - f) ≡ B * K
  whole = omega (arith, pieces.rest_below K (B * K) t wide least most)

  sum : P ≡ c j * (B * K - f) + c (j + 1) * f
  sum = sum_parts (c j) (c (j + 1)) (B * K) f ((table_steady table).falls j below)
      (omega (arith, pieces.rest_below K (B * K) t wide least most))

  -- no t is 0
  positive : 0 < t
  positive = omega (arith, mul-pos table.some wide)

  -- R is within an ulp from below: N < (R + 1) × t
  pub bound_low : 2 * B * (K * K * K * K) < (R + 1) * t
  bound_low =
      core.chopped_low (2 * B * (K * K * K * K)) (A * (B * K)) P R t positive
      (omega (arith, lt-div-mul-add {a = P} unit))
      (rw (exact A B K)
      (low_at (numerator_of A K) (K + j) (c j) (c (j + 1)) (B * K) f (B * K - f) t P whole
      (pieces.parts K (B * K) t wide least most) sum
      (omega (arith, table.some)) (table.nodes.above j (le_of_lt below))
      (rw add_assoc (table.nodes.above (j + 1) (omega (arith, below))))))

  -- and from above: R × (t + 1) ≤ N + (t + 1)
  pub bound_high : R * (t + 1) ≤ 2 * B * (K * K * K * K) + (t + 1)
  bound_high =
      core.chopped_high (2 * B * (K * K * K * K)) (A * (B * K)) P R t unit
      (div-mul-le_self P (A * (B * K)))
      (rw (exact A B K)
      (rw (table.excess j below) at (high_at (numerator_of A K) (K + j) (c j) (c (j + 1)) (E j) (D j) (B * K) f
      (B * K - f) t P whole (pieces.parts K (B * K) t wide least most) sum
      (omega (arith, table.some)) (table.nodes.left j below) (table.nodes.right j below)
      (room_at A B K (D j) (K + j) (table.room j below)))))
