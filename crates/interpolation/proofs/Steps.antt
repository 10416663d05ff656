-- How far the reciprocals of neighbouring cut operands lie apart, for every table of nodes that fall, and none by
-- more than 2AK to the next. There are K pieces, A = 2^a table units to an ulp and B = 2^b steps of t to each 2^(-2k)
-- of the operand. P falls by the difference of its two nodes for each step of t. At a piece's last step it does so
-- too: there both pieces give the same P, which is that of the node between them.
-- Assumes nothing.
use mathlib.Core.Path.{◌≡◌, sym, ap, ap₂, ◌∙◌}
use mathlib.Core.Logic.{⊎_elim}
use Prim.Native.Nat.{ℕ, zero, suc, ◌+◌, ◌-◌, ◌*◌, ◌/◌, ◌%◌, ◌≤◌, ◌<◌}
use native.Mathlib.Nat.{
  le_refl,
  eq-or-lt_of_le,
  mod-lt,
  mul-pos,
  sub-le,
  mul-le-mul,
  mul-le-mul_right,
  lt-div-mul-add,
  div-lt_iff_lt-mul,
}
use native.Mathlib.Omega.{arith}
use Rattle.quotient.specs.Quotient.{rounded_up}
use Rattle.quotient.proofs.Laws.{reaches}
use Rattle.interpolation.specs.Algorithm.{sum_over}
use Rattle.interpolation.proofs.Pieces as pieces

-- what the steps need of the nodes: they fall, and none exceeds the next by more than 2AK
pub record Steady (A K : ℕ) (c : ℕ → ℕ) : Type 0 where
  pub falls : (j : ℕ) → j < K → c (j + 1) ≤ c j
  pub near : (j : ℕ) → j < K → c j ≤ c (j + 1) + 2 * A * K

-- P of t by any nodes c, over K pieces of width F
abbrev pub sum_at : ℕ → ℕ → (ℕ → ℕ) → ℕ → ℕ
sum_at K F c t = sum_over F (c (t / F - K)) (c (t / F - K + 1)) (t % F)

-- and R, with A table units to an ulp, over pieces of width BK
abbrev pub reciprocal_at : ℕ → ℕ → ℕ → (ℕ → ℕ) → ℕ → ℕ
reciprocal_at A B K c t = sum_at K (B * K) c t / (A * (B * K))

-- an ulp has some of the units of P
pub ulp_positive : {A B K : ℕ} → 0 < A → 0 < B → 0 < K → 0 < A * (B * K)
ulp_positive units steps some = mul-pos units (mul-pos steps some)

-- one step further from the lower node of a piece
step_inside : (c c' F f : ℕ) → f + 1 < F → sum_over F c c' f ≡ sum_over F c c' (f + 1) + (c - c')
step_inside c c' F f l = omega (arith, mul-le-mul (sub-le c c') l)

-- the last step of a piece leads to its upper node, from which the next one begins
step_across : (c c' c'' F f : ℕ) → c' ≤ c → f + 1 ≡ F → sum_over F c c' f ≡ sum_over F c' c'' 0 + (c - c')
step_across c c' c'' F f h e =
    let d = c - c' in
    let w : c' + d ≡ c = omega (arith, h) in
    omega (arith, ap (λ (x : ℕ). x * F) w, ap (λ (x : ℕ). d * x) e)

-- where p is above p' by U × G at most, it is above it by U at most once both are divided by G and chopped
chopped_more : (p p' U G : ℕ) → 0 < G → p ≤ p' + U * G → p / G ≤ p' / G + U
chopped_more p p' U G some l =
    let below : p / G < p' / G + U + 1 = (div-lt_iff_lt-mul some).1 (omega (arith, l, lt-div-mul-add {a = p'} some)) in
    omega (arith, below)

module _ {A K : ℕ} {c : ℕ → ℕ} (steady : Steady A K c) (F : ℕ) (wide : 0 < F) where
  abbrev number_of : ℕ → ℕ
  number_of t = t / F - K

  -- one step of t
  module _ (t : ℕ) (least : K * F ≤ t) (most : t < 2 * K * F) where
    abbrev j : ℕ
    j = number_of t

    below : j < K
    below = pieces.number_below K F t wide least most

    -- P falls by the difference of the nodes
    pub one_step : sum_at K F c t ≡ sum_at K F c (t + 1) + (c j - c (j + 1))
    one_step =
        ⊎_elim
        (λ (e : t % F + 1 ≡ F).
        let next = pieces.next_across F t wide e in
        let up : number_of (t + 1) ≡ j + 1 = omega (arith, next.0, pieces.index_least K F t wide least most) in
        step_across (c j) (c (j + 1)) (c (j + 1 + 1)) F (t % F) (steady.falls j below) e
        ∙ ap₂ (λ (i f : ℕ). sum_over F (c i) (c (i + 1)) f + (c j - c (j + 1))) (sym up) (sym next.1))
        (λ (l : t % F + 1 < F).
        let next = pieces.next_inside F t wide l in
        step_inside (c j) (c (j + 1)) F (t % F) l
        ∙ ap₂ (λ (i f : ℕ). sum_over F (c (i - K)) (c (i - K + 1)) f + (c j - c (j + 1))) (sym next.0) (sym next.1))
        (eq-or-lt_of_le {n = t % F + 1} {m = F} (omega (arith, mod-lt t wide)))

    -- by 2AK at most
    pub one_step_most : sum_at K F c t ≤ sum_at K F c (t + 1) + 2 * A * K
    one_step_most = omega (arith, one_step, steady.near j below)

  -- d steps of t, which may end behind the last piece
  pub falls_by : (t d : ℕ) → K * F ≤ t → t + d ≤ 2 * K * F
      → (sum_at K F c (t + d) ≤ sum_at K F c t) × (sum_at K F c t ≤ sum_at K F c (t + d) + d * (2 * A * K))
  falls_by t zero least most =
      let none : t + 0 ≡ t = omega arith in
      rw none (le_refl (sum_at K F c t), omega arith)
  falls_by t (suc d) least most =
      let before = falls_by t d least (omega (arith, most)) in
      let last : t + suc d ≡ t + d + 1 = omega arith in
      let one = one_step (t + d) (omega (arith, least)) (omega (arith, most)) in
      let one_most = one_step_most (t + d) (omega (arith, least)) (omega (arith, most)) in
      rw last (omega (arith, before.0, one), omega (arith, before.1, one_most))

-- and R, the whole ulps of P
module _ {A K : ℕ} {c : ℕ → ℕ} (steady : Steady A K c) (B : ℕ) (units : 0 < A) (steps : 0 < B) (some : 0 < K) where
  abbrev R : ℕ → ℕ
  R = reciprocal_at A B K c

  module _ (t d : ℕ) (least : K * (B * K) ≤ t) (most : t + d ≤ 2 * K * (B * K)) where
    sums : (sum_at K (B * K) c (t + d) ≤ sum_at K (B * K) c t)
        × (sum_at K (B * K) c t ≤ sum_at K (B * K) c (t + d) + d * (2 * A * K))
    sums = falls_by steady (B * K) (mul-pos steps some) t d least most

    -- R never rises with t,
    pub never_rises : R (t + d) ≤ R t
    never_rises = omega (
      arith,
      chopped_more (sum_at K (B * K) c (t + d)) (sum_at K (B * K) c t) 0 (A * (B * K)) (ulp_positive units steps some)
          (omega (arith, sums.0)),
    )

    -- and falls by at most any U of ulps that reach 2d / B,
    pub falls_within : (U : ℕ) → 2 * d ≤ U * B → R t ≤ R (t + d) + U
    falls_within U h =
        chopped_more (sum_at K (B * K) c t) (sum_at K (B * K) c (t + d)) U (A * (B * K)) (ulp_positive units steps some)
        (omega (arith, sums.1, mul-le-mul_right (A * K) h))

    -- so by 2d / B at most, rounded up
    pub falls_limited : R t ≤ R (t + d) + rounded_up (2 * d) B
    falls_limited = falls_within (rounded_up (2 * d) B) (reaches (2 * d) B steps)
