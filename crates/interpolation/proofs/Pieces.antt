-- Where a cut operand t lies: K pieces of width F, the first of them at K × F; i = t / F, j = i - K and f is the rest.
-- Assumes nothing.
use mathlib.Core.Path.{◌≡◌, sym, ap, ◌∙◌}
use Prim.Native.Nat.{ℕ, ◌+◌, ◌-◌, ◌*◌, ◌/◌, ◌%◌, ◌≤◌, ◌<◌}
use native.Mathlib.Nat.{mod-lt, div-add-mod', le-div_iff_mul-le, div-lt_iff_lt-mul}
use native.Mathlib.Omega.{arith}
use lib.Arith.{digits_div, digits_mod}

module _ (K F t : ℕ) (wide : 0 < F) (least : K * F ≤ t) (most : t < 2 * K * F) where
  -- i is from K up to 2 × K
  pub index_least : K ≤ t / F
  index_least = (le-div_iff_mul-le wide).1 least

  pub index_most : t / F < 2 * K
  index_most = (div-lt_iff_lt-mul wide).1 most

  -- j is below K
  pub number_below : t / F - K < K
  number_below = omega (arith, index_least, index_most)

  -- i = K + j
  pub index_number : K + (t / F - K) ≡ t / F
  index_number = omega (arith, index_least)

  -- f is below F
  pub rest_below : t % F < F
  rest_below = mod-lt t wide

  -- t = i × F + f
  pub parts : (K + (t / F - K)) * F + t % F ≡ t
  parts = ap (λ (i : ℕ). i * F + t % F) index_number ∙ div-add-mod' t F

-- where t + 1 lies: beside t in its piece, or at the start of the next one
module _ (F t : ℕ) (wide : 0 < F) where
  next_at : (q r : ℕ) → q * F + r ≡ t + 1 → r < F → ((t + 1) / F ≡ q) × ((t + 1) % F ≡ r)
  next_at q r e l = (
    ap (λ (x : ℕ). x / F) (sym e) ∙ digits_div q {m = F} {r = r} l,
    ap (λ (x : ℕ). x % F) (sym e) ∙ digits_mod q {m = F} {r = r} l,
  )

  pub next_inside : t % F + 1 < F → ((t + 1) / F ≡ t / F) × ((t + 1) % F ≡ t % F + 1)
  next_inside l = next_at (t / F) (t % F + 1) (omega (arith, div-add-mod' t F)) l

  pub next_across : t % F + 1 ≡ F → ((t + 1) / F ≡ t / F + 1) × ((t + 1) % F ≡ 0)
  next_across e = next_at (t / F + 1) 0 (omega (arith, div-add-mod' t F, e)) wide

-- the last of q + 1 pieces of width F, at its last place
module _ (q F t : ℕ) (wide : 0 < F) (last : t + 1 ≡ (q + 1) * F) where
  end : t ≡ q * F + (F - 1)
  end = omega (arith, last)

  pub last_index : t / F ≡ q
  last_index = ap (λ (x : ℕ). x / F) end ∙ digits_div q {m = F} {r = F - 1} (omega arith)

  pub last_rest : t % F ≡ F - 1
  last_rest = ap (λ (x : ℕ). x % F) end ∙ digits_mod q {m = F} {r = F - 1} (omega arith)
