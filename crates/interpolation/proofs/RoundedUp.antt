-- The nodes that are the exact values rounded up, and no more. Their steps are steady for every number of table units
-- to an ulp. Their table keeps all laws from 4 table units and 8 steps on.
-- Assumes nothing.
use mathlib.Core.Path.{◌≡◌}
use Prim.Native.Nat.{ℕ, ◌+◌, ◌-◌, ◌*◌, ◌≤◌, ◌<◌}
use native.Mathlib.Nat.{add_assoc, mul-le-mul, mul-le-mul_left, mul-le-mul_right}
use native.Mathlib.Omega.{arith}
use Rattle.quotient.specs.Quotient.{rounded_up}
use Rattle.quotient.proofs.Laws.{reaches, passes_less}
use Rattle.interpolation.proofs.Steps.{Steady}
use Rattle.interpolation.proofs.Excess.{numerator_of, Exceeds, steady}
use Rattle.interpolation.proofs.Table.{Table}

-- the room that is left of an ulp when a node is rounded up, by the spare units x and steps y
spare : (x y : ℕ) → (4 + x) * (8 + y) + 4 * (4 + x) ≤ 2 * (3 + x) * (8 + y)
spare x y = omega arith

room_of : (A B D K2 K3 i Y : ℕ) → A * B + 4 * A ≤ 2 * D * B → K3 ≤ Y → K2 * (i + 1) ≤ Y
    → A * B * K3 + 4 * A * K2 * (i + 1) ≤ 2 * D * B * Y
room_of A B D K2 K3 i Y s p q =
    omega (arith, mul-le-mul_right Y s, mul-le-mul_left (A * B) p, mul-le-mul_left (4 * A) q)

-- the powers of K against those of i
cube : (K i : ℕ) → K ≤ i → K * K * K ≤ i * i * (i + 1)
cube K i h = mul-le-mul (mul-le-mul h h) (omega arith)

square : (K i : ℕ) → K ≤ i → K * K * (i + 1) ≤ i * i * (i + 1)
square K i h = mul-le-mul_right (i + 1) (mul-le-mul h h)

-- node j
abbrev pub rounded_node : ℕ → ℕ → ℕ → ℕ
rounded_node A K j = rounded_up (numerator_of A K) (K + j)

-- they reach the exact values, and exceed them by less than one table unit
module _ (A K : ℕ) (some : 0 < K) where
  high : (i : ℕ) → 0 < i → rounded_up (numerator_of A K) i * i ≤ numerator_of A K + 1 * i
  high i p = omega (arith, passes_less (numerator_of A K) i p)

  pub exceeds : Exceeds A K (rounded_node A K) (λ (j : ℕ). 1)
  exceeds =
      record {
        above = λ j h. reaches (numerator_of A K) (K + j) (omega arith);
        left = λ j h. high (K + j) (omega arith);
        right = λ j h. rw add_assoc (high (K + (j + 1)) (omega arith));
      }

  -- so they are steady for every A
  pub rounded_steady : 0 < A → Steady A K (rounded_node A K)
  rounded_steady units = steady exceeds (λ j h. units)

module _ (A B K : ℕ) (units : 4 ≤ A) (steps : 8 ≤ B) (some : 0 < K) where
  spare_at : A * B + 4 * A ≤ 2 * (A - 1) * B
  spare_at =
      let a : 4 + (A - 4) ≡ A = omega arith in
      let d : 3 + (A - 4) ≡ A - 1 = omega arith in
      let b : 8 + (B - 8) ≡ B = omega arith in
      rw (a, b, d) at (spare (A - 4) (B - 8))

  pub keeps : Table A B K (rounded_node A K) (λ (j : ℕ). 1) (λ (j : ℕ). A - 1)
  keeps =
      record {
        units = omega arith;
        steps = omega arith;
        some = some;
        nodes = exceeds A K some;
        excess = λ j h. omega arith;
        room = λ j h.
            room_of A B (A - 1) (K * K) (K * K * K) (K + j) ((K + j) * (K + j) * (K + j + 1)) spare_at
            (cube K (K + j) (omega arith)) (square K (K + j) (omega arith));
      }
