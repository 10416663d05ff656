-- The tail of a byte list bit by bit: the lowest byte with a one at bit b or later has such a bit, and no bit before
-- that byte is one.
-- Assumes nothing.
use mathlib.Core.Path.{◌≡◌, sym, ◌∙◌, ap}
use mathlib.Core.Logic.{⊎_elim}
use mathlib.Core.Bool.{true, false}
use mathlib.Core.List.{List}
use Prim.Native.Nat.{ℕ, zero, suc, ◌+◌, ◌-◌, ◌*◌, ◌/◌, ◌%◌, ◌^◌, ◌≤◌, ◌<◌}
use native.Mathlib.Nat.{mod-one, zero-div, add_comm}
use native.Mathlib.Omega.{arith}
use lib.ListN.{get_or, length}
use lib.Pow.{field, mod-pow-add, mod-mod-pow}
use Rattle.bools.proofs.Bools.{clash, below_or_not}
use Rattle.bools.proofs.Lowest.{lowest_passes, lowest_before}
use Rattle.packing.specs.Packing.{bit_at}
use Rattle.tail.specs.Tail.{has_one_from, first_one_from}
use Rattle.tail.proofs.Laws.{bits_none, none_bits}

-- the lowest m bits of a number make 0: each of them is 0
low_zero : (x m c : ℕ) → x % 2 ^ m ≡ 0 → c < m → x / 2 ^ c % 2 ≡ 0
low_zero x m c e h =
    sym (mod-mod-pow (x / 2 ^ c) (m - 1 - c) 1)
    ∙ ap (λ (y : ℕ). y % 2) (sym (field x (m - 1 - c + 1) c) ∙ ap (λ (n : ℕ). x % 2 ^ n / 2 ^ c) all ∙ ap (λ (y : ℕ). y / 2 ^ c) e ∙ zero-div (2 ^ c))
  where
    all : m - 1 - c + 1 + c ≡ m
    all = omega arith

-- they do not: one of them is 1
low_one : (x m : ℕ) → (x % 2 ^ m ≡ 0 → ⊥) → (c : ℕ) × (c < m) × (x / 2 ^ c % 2 ≡ 1)
low_one x zero f = absurd (f (mod-one x))
low_one x (suc m) f =
    ⊎_elim (λ l. let t = low_one x m (λ e. f (joined e l)) in (t.0, omega (arith, t.1), t.2)) (λ g. (m, omega arith, omega (arith, g)))
    (below_or_not (x / 2 ^ m % 2) 1)
  where
    joined : x % 2 ^ m ≡ 0 → x / 2 ^ m % 2 < 1 → x % 2 ^ suc m ≡ 0
    joined e l =
        ap (λ (n : ℕ). x % 2 ^ n) (next ∙ add_comm m 1)
        ∙ mod-pow-add x 1 m
        ∙ ap (λ (y : ℕ). x / 2 ^ m % 2 * 2 ^ m + y) e
        ∙ ap (λ (y : ℕ). y * 2 ^ m + 0) none
        ∙ omega arith
      where
        next : suc m ≡ m + 1
        next = omega arith

        none : x / 2 ^ m % 2 ≡ 0
        none = omega (arith, l)

module _ (b : ℕ) (s : List ℕ) where
  -- a byte that has no one at bit b or later has zero bits there
  pub none_bit : (c : ℕ) → b ≤ c → has_one_from b s (c / 8) ≡ false → bit_at s c ≡ 0
  none_bit c h e = low_zero (get_or s (c / 8) 0) (8 - (b - 8 * (c / 8))) (7 - c % 8) (none_bits b s (c / 8) e) (omega arith)

  -- and one that has one has a bit that is one there
  pub one_bit : (i : ℕ) → has_one_from b s i ≡ true → (c : ℕ) × (b ≤ c) × (c / 8 ≡ i) × (bit_at s c ≡ 1)
  one_bit i e =
      let t = low_one (get_or s i 0) (8 - (b - 8 * i)) (λ z. clash e (bits_none b s i z)) in
      let c : ℕ = 8 * i + (7 - t.0) in
      let byte : c / 8 ≡ i = omega (arith, t.1) in
      let place : 7 - c % 8 ≡ t.0 = omega (arith, t.1) in
      (c, omega (arith, t.1), byte, ap (λ (x : ℕ). get_or s x 0 / 2 ^ (7 - c % 8) % 2) byte ∙ ap (λ (x : ℕ). get_or s i 0 / 2 ^ x % 2) place ∙ t.2)

  -- so the lowest such byte: no bit before it, from bit b on, is one
  pub before_first : (c : ℕ) → b ≤ c → c < 8 * first_one_from b s → bit_at s c ≡ 0
  before_first c h l = none_bit c h (lowest_before (has_one_from b s) (length s) (c / 8) (omega (arith, l)))

  -- and it has a bit that is
  pub at_first : first_one_from b s < length s → (c : ℕ) × (b ≤ c) × (c / 8 ≡ first_one_from b s) × (bit_at s c ≡ 1)
  at_first h = one_bit (first_one_from b s) (lowest_passes (has_one_from b s) (length s) h)
