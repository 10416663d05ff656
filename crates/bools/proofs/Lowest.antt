-- The laws of the lowest number below n that passes a test.
-- Assumes nothing.
use mathlib.Core.Path.{◌≡◌, refl, ◌∙◌, ap}
use mathlib.Core.Logic.{◌⊎◌, inl, inr, ⊎_elim}
use mathlib.Core.Bool.{Bool, true, false}
use Prim.Native.Nat.{ℕ, zero, suc, ◌≤◌, ◌<◌}
use native.Mathlib.Nat.{le_refl, not-suc-le-zero}
use native.Mathlib.Omega.{arith}
use lib.Dec.{ltb}
use borrow.Author.Tests.{ltb-true, ltb-false}
use Rattle.bools.proofs.Bools.{cases, clash, below_or_not}
use Rattle.bools.specs.Lowest.{lowest}

-- one number more: found already, found now, or not found yet
one_more : (p : ℕ → Bool) (n : ℕ) → ((lowest p n < n) × (lowest p (suc n) ≡ lowest p n)) ⊎ (((n ≤ lowest p n) × (p n ≡ true) × (lowest p (suc n) ≡ n)) ⊎ ((n ≤ lowest p n) × (p n ≡ false) × (lowest p (suc n) ≡ suc n)))
unfolding lowest
one_more p n =
    ⊎_elim
    (λ e. inl (ltb-true (lowest p n) n e, simp e))
    (λ e. inr (⊎_elim
    (λ t. inl (ltb-false (lowest p n) n e, t, simp (e, t)))
    (λ f. inr (ltb-false (lowest p n) n e, f, simp (e, f)))
    (cases (p n))))
    (cases (ltb (lowest p n) n))

pub lowest_le : (p : ℕ → Bool) (n : ℕ) → lowest p n ≤ n
unfolding lowest
lowest_le p zero = le_refl 0
lowest_le p (suc n) =
    ⊎_elim (λ a. omega (arith, a.1)) (λ u. ⊎_elim (λ b. omega (arith, b.2)) (λ d. omega (arith, d.2)) u) (one_more p n)

-- what is found passes
pub lowest_passes : (p : ℕ → Bool) (n : ℕ) → lowest p n < n → p (lowest p n) ≡ true
lowest_passes p zero h = absurd (not-suc-le-zero h)
lowest_passes p (suc n) h =
    ⊎_elim
    (λ a. ap p a.1 ∙ lowest_passes p n a.0)
    (λ u. ⊎_elim (λ b. ap p b.2 ∙ b.1) (λ d. absurd (omega (arith, d.2, h))) u)
    (one_more p n)

-- nothing below it passes
pub lowest_before : (p : ℕ → Bool) (n j : ℕ) → j < lowest p n → p j ≡ false
unfolding lowest
lowest_before p zero j h = absurd (not-suc-le-zero h)
lowest_before p (suc n) j h =
    let before : j < lowest p n → p j ≡ false = lowest_before p n j in
    ⊎_elim
    (λ a. before (omega (arith, a.1)))
    (λ u. ⊎_elim
    (λ b. before (omega (arith, b.0, b.2)))
    (λ d. ⊎_elim
    (λ l. before (omega (arith, d.0)))
    (λ g. ap p (omega (arith, d.2)) ∙ d.1)
    (below_or_not j n))
    u)
    (one_more p n)

-- where none below n passes, it is n
pub lowest_none : (p : ℕ → Bool) (n : ℕ) → ((j : ℕ) → j < n → p j ≡ false) → lowest p n ≡ n
lowest_none p n f =
    ⊎_elim
    (λ l. absurd (clash (lowest_passes p n l) (f (lowest p n) l)))
    (λ g. omega (arith, lowest_le p n))
    (below_or_not (lowest p n) n)

-- the first one that passes is the lowest
pub lowest_is : (p : ℕ → Bool) (n j : ℕ) → j < n → p j ≡ true → ((i : ℕ) → i < j → p i ≡ false) → lowest p n ≡ j
lowest_is p n j h t f =
    ⊎_elim
    (λ l. absurd (clash (lowest_passes p n (omega arith)) (f (lowest p n) l)))
    (λ g. ⊎_elim (λ l. absurd (clash t (lowest_before p n j l))) (λ e. omega arith) (below_or_not j (lowest p n)))
    (below_or_not (lowest p n) j)

-- two tests that agree below n have the same lowest
pub lowest_agrees : (p q : ℕ → Bool) (n : ℕ) → ((j : ℕ) → j < n → p j ≡ q j) → lowest p n ≡ lowest q n
unfolding lowest
lowest_agrees p q zero f = refl
lowest_agrees p q (suc n) f =
    let e : lowest p n ≡ lowest q n = lowest_agrees p q n (λ j h. f j (omega arith)) in
    let d : p n ≡ q n = f n (le_refl (suc n)) in
    rw (e, d)
