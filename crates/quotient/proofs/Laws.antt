-- The laws of a quotient rounded up: the least whole number whose product with the divisor reaches the numerator.
-- Assumes nothing.
use Rattle.std.proofs.Common.{◌≡◌, ℕ, suc, ◌+◌, ◌-◌, ◌*◌, ◌/◌, ◌%◌, ◌^◌, ◌<◌, ◌≤◌, true, ◌&&◌, eqb, ltb, leb, sym, div-lt_iff_lt-mul, mul-le-mul_left, div-mul-le_self, arith, ltb-true, lt-ltb, eq-eqb, eqb-true, le-leb, leb-true}
use mathlib.Core.Bool.{and-eq-true_iff}
use native.Mathlib.Nat.{div-zero, lt-div-mul-add, div-eq_of_lt-le}
use Rattle.bools.proofs.Bools.{same}
use Rattle.quotient.specs.Quotient.{rounded_up}
use Rattle.quotient.specs.Inner.{rounds_up}

-- r, which is p - M modulo 2^64, is below i exactly when p reaches M and passes it by less than i
pub wrapped_test : (r p M i : ℕ) → r < 2 ^ 64 → M + i ≤ 2 ^ 64 → (r + M) % 2 ^ 64 ≡ p → ltb r i ≡ (leb M p && ltb p (M + i))
wrapped_test r p M i fits room wraps =
    same _ _
    (λ t. let below = ltb-true r i t in let e : r + M ≡ p = omega (arith, below) in rw (le-leb M p (omega arith), lt-ltb p (M + i) (omega arith)))
    (λ t. let both = (and-eq-true_iff (leb M p) (ltb p (M + i))).0 t in lt-ltb r i (omega (arith, leb-true M p both.0, ltb-true p (M + i) both.1)))

-- a divisor of 0 gives 0
pub by_zero : (M : ℕ) → rounded_up M 0 ≡ 0
unfolding rounded_up
by_zero M = div-zero (M + 0)

module _ (M i : ℕ) (pos : 0 < i) where
  -- the product reaches the numerator
  pub reaches : M ≤ rounded_up M i * i
  unfolding rounded_up
  reaches = omega (arith, lt-div-mul-add {a = M + (i - 1)} pos)

  -- and passes it by less than the divisor
  pub passes_less : rounded_up M i * i < M + i
  unfolding rounded_up
  passes_less = omega (arith, div-mul-le_self (M + (i - 1)) i)

  -- no smaller number reaches the numerator
  pub least : (c : ℕ) → M ≤ c * i → rounded_up M i ≤ c
  unfolding rounded_up
  least c h =
      let l : (M + (i - 1)) / i < suc c = (div-lt_iff_lt-mul pos).1 (omega arith) in
      omega arith

  -- a number that reaches it and passes it by less than the divisor is the quotient rounded up
  pub unique : (c : ℕ) → M ≤ c * i → c * i < M + i → c ≡ rounded_up M i
  unfolding rounded_up
  unique c low high = sym (div-eq_of_lt-le i {m = M + (i - 1)} (omega arith) (omega arith))

  -- a whole number that misses the numerator by less than the divisor is one too small
  pub one_more : (d : ℕ) → d * i < M → M < d * i + i → rounded_up M i ≡ d + 1
  one_more d low high = sym (unique (d + 1) (omega arith) (omega arith))

  -- the test by a product alone says whether a number is the quotient rounded up
  pub rounds-up : (c : ℕ) → rounds_up M i c ≡ eqb c (rounded_up M i)
  rounds-up c =
      same _ _
      (λ t. let both = (and-eq-true_iff _ _).0 t in eq-eqb _ _ (unique c (leb-true _ _ both.0) (ltb-true _ _ both.1)))
      (λ t. rw (eqb-true c (rounded_up M i) t) (rw (le-leb _ _ reaches, lt-ltb _ _ passes_less)))

-- a number that passes the test is the quotient rounded up, and the divisor is not 0
pub passed : (M i c : ℕ) → rounds_up M i c ≡ true → c ≡ rounded_up M i
passed M i c t =
    let both = (and-eq-true_iff (leb M (c * i)) (ltb (c * i) (M + i))).0 t in
    let low = leb-true M (c * i) both.0 in
    let high = ltb-true (c * i) (M + i) both.1 in
    unique M i (omega (arith, low, high)) c low high

-- an exact quotient is itself
pub exact : (q i : ℕ) → 0 < i → rounded_up (q * i) i ≡ q
exact q i pos = sym (unique (q * i) i pos q (omega arith) (omega arith))

-- a greater divisor gives no greater quotient
pub antitone : (M : ℕ) {i i' : ℕ} → 0 < i → i ≤ i' → rounded_up M i' ≤ rounded_up M i
antitone M {i} {i'} pos h =
    least M i' (omega arith) (rounded_up M i) (omega (arith, reaches M i pos, mul-le-mul_left (rounded_up M i) h))
