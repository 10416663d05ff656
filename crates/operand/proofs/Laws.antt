-- The laws of an operand: when it is normalised, what it is with s fraction bits, and what bits written to its right
-- change.
-- Assumes nothing.
use mathlib.Core.Path.{◌≡◌, sym, ap, ◌∙◌}
use mathlib.Core.Bool.{true, and-eq-true_iff}
use Prim.Native.Nat.{ℕ, zero, suc, ◌+◌, ◌-◌, ◌*◌, ◌/◌, ◌%◌, ◌^◌, ◌≤◌, ◌<◌}
use native.Mathlib.Nat.{mod-lt, mul-le-mul_right, div-mul-le_self, le-div_iff_mul-le, mul-one, mul_assoc, div-one, div-eq_of_lt-le}
use native.Mathlib.Omega.{arith}
use lib.Dec.{eqb, leb, ltb}
use lib.Pow.{pow-add, pow_pos, split, shl-shr, shr-shr, high, field}
use borrow.Author.Tests.{leb-true, ltb-true, eqb-true, le-leb, lt-ltb, eq-eqb}
use Rattle.bools.proofs.Bools.{same}
use Rattle.operand.specs.Operand.{least_bits, most_bits, is_fraction_count, is_normalised, cut_to, cut_operand}

-- n passes its test exactly from 1 to 63
pub count-in : (n : ℕ) → is_fraction_count n ≡ true → (1 ≤ n) × (n ≤ 63)
count-in n e =
    let b = (and-eq-true_iff (leb least_bits n) (leb n most_bits)).0 e in
    (leb-true 1 n b.0, leb-true n 63 b.1)

pub in_count : (n : ℕ) → 1 ≤ n → n ≤ 63 → is_fraction_count n ≡ true
in_count n l h = simp (le-leb 1 n l, le-leb n 63 h)

-- and X exactly from 2^n up to 2^(n+1)
pub normalised_in : (n X : ℕ) → is_normalised n X ≡ true → (2 ^ n ≤ X) × (X < 2 ^ (n + 1))
normalised_in n X e =
    let b = (and-eq-true_iff (leb (2 ^ n) X) (ltb X (2 ^ (n + 1)))).0 e in
    (leb-true (2 ^ n) X b.0, ltb-true X (2 ^ (n + 1)) b.1)

pub in_normalised : (n X : ℕ) → 2 ^ n ≤ X → X < 2 ^ (n + 1) → is_normalised n X ≡ true
in_normalised n X l h = simp (le-leb (2 ^ n) X l, lt-ltb X (2 ^ (n + 1)) h)

-- X / 2^n is 1 from 2^n up to 2^(n+1)
pub high_one : (n X : ℕ) → 2 ^ n ≤ X → X < 2 ^ (n + 1) → X / 2 ^ n ≡ 1
high_one n X l h = div-eq_of_lt-le (2 ^ n) (omega arith) (omega (arith, pow-add 2 n 1))

-- and nowhere else
pub one_high : (n X : ℕ) → X / 2 ^ n ≡ 1 → (2 ^ n ≤ X) × (X < 2 ^ (n + 1))
one_high n X e =
    let s : 1 * 2 ^ n + X % 2 ^ n ≡ X = rw e at (split X n) in
    let r : X % 2 ^ n < 2 ^ n = mod-lt X (pow_pos n) in
    (omega arith, omega (arith, pow-add 2 n 1))

-- so one shift and one comparison tell whether X is normalised
pub normalised_high : (n X : ℕ) → is_normalised n X ≡ eqb (X / 2 ^ n) 1
normalised_high n X =
    same (is_normalised n X) (eqb (X / 2 ^ n) 1)
    (λ t. let b = normalised_in n X t in eq-eqb (X / 2 ^ n) 1 (high_one n X b.0 b.1))
    (λ t. let b = one_high n X (eqb-true (X / 2 ^ n) 1 t) in in_normalised n X b.0 b.1)

-- X, which has n fraction bits, with s of them, for any s
module _ (s n : ℕ) where
  -- where it has as many or more, the others are cut off
  pub cut_long : s ≤ n → (X : ℕ) → cut_to s n X ≡ X / 2 ^ (n - s)
  cut_long enough X =
      ap (λ (e : ℕ). X * 2 ^ e / 2 ^ (n - s)) {x = s - n} {y = 0} (omega arith) ∙ ap (λ (y : ℕ). y / 2 ^ (n - s)) (mul-one X)

  -- where it has as many or fewer, zeros are written to its right
  pub cut_short : n ≤ s → (X : ℕ) → cut_to s n X ≡ X * 2 ^ (s - n)
  cut_short few X =
      ap (λ (e : ℕ). X * 2 ^ (s - n) / 2 ^ e) {x = n - s} {y = 0} (omega arith) ∙ div-one (X * 2 ^ (s - n))

  -- in either case X × 2^(s-n) is it times 2^(n-s), and a rest
  pub cut_split : (X : ℕ) → cut_to s n X * 2 ^ (n - s) + X * 2 ^ (s - n) % 2 ^ (n - s) ≡ X * 2 ^ (s - n)
  cut_split X = split (X * 2 ^ (s - n)) (n - s)

  pub cut_rest : (X : ℕ) → X * 2 ^ (s - n) % 2 ^ (n - s) < 2 ^ (n - s)
  cut_rest X = mod-lt (X * 2 ^ (s - n)) (pow_pos (n - s))

  -- it is normalised with s fraction bits where X is with n
  pub cut_high : (X : ℕ) → cut_to s n X / 2 ^ s ≡ X / 2 ^ n
  cut_high X =
      shr-shr (X * 2 ^ (s - n)) (n - s) s
      ∙ ap (λ (e : ℕ). X * 2 ^ (s - n) / 2 ^ e) {x = n - s + s} {y = s - n + n} (omega arith)
      ∙ sym (shr-shr (X * 2 ^ (s - n)) (s - n) n)
      ∙ ap (λ (y : ℕ). y / 2 ^ n) (shl-shr X (s - n))

  pub cut_range : (X : ℕ) → 2 ^ n ≤ X → X < 2 ^ (n + 1) → (2 ^ s ≤ cut_to s n X) × (cut_to s n X < 2 ^ (s + 1))
  cut_range X l h = one_high s (cut_to s n X) (cut_high X ∙ high_one n X l h)

  -- so it is its leading one and its fraction bits
  pub cut_leading : (X : ℕ) → 2 ^ n ≤ X → X < 2 ^ (n + 1) → 2 ^ s + cut_to s n X % 2 ^ s ≡ cut_to s n X
  cut_leading X l h =
      omega (arith, split (cut_to s n X) s, ap (λ (x : ℕ). x * 2 ^ s) (cut_high X ∙ high_one n X l h))

  -- within W bits, the fraction bits are had by shifting X up as far as n leaves room, and down again as far as s does
  pub cut_shifted : (W X : ℕ) → n ≤ W → s ≤ W → X * 2 ^ (W - n) % 2 ^ W / 2 ^ (W - s) ≡ cut_to s n X % 2 ^ s
  cut_shifted W X a b =
      let all : W ≡ s + (W - s) = omega (arith, b) in
      let room = W - n - (s - n) in
      let up : W - n ≡ (s - n) + room = omega (arith, a, b) in
      let down : W - s ≡ room + (n - s) = omega (arith, a, b) in
      ap (λ (e : ℕ). X * 2 ^ (W - n) % 2 ^ e / 2 ^ (W - s)) all
      ∙ field (X * 2 ^ (W - n)) s (W - s)
      ∙ ap (λ (x : ℕ). x % 2 ^ s)
      (ap (λ (e : ℕ). X * 2 ^ (W - n) / 2 ^ e) down
      ∙ sym (shr-shr (X * 2 ^ (W - n)) room (n - s))
      ∙ ap (λ (x : ℕ). x / 2 ^ (n - s))
      (ap (λ (x : ℕ). x / 2 ^ room) (ap (λ (e : ℕ). X * 2 ^ e) up ∙ ap (λ (x : ℕ). X * x) (pow-add 2 (s - n) room) ∙ sym (mul_assoc X (2 ^ (s - n)) (2 ^ room)))
      ∙ shl-shr (X * 2 ^ (s - n)) room))

  -- the greatest operand is cut to the greatest
  pub cut_greatest : s ≤ n → (X : ℕ) → X + 1 ≡ 2 ^ (n + 1) → cut_to s n X + 1 ≡ 2 ^ (s + 1)
  cut_greatest enough X last =
      let rest : n + 1 ≡ (s + 1) + (n - s) = omega (arith, enough) in
      let whole = last ∙ ap (λ (e : ℕ). 2 ^ e) rest ∙ pow-add 2 (s + 1) (n - s) in
      let S = 2 ^ (n - s) in
      let q = 2 ^ (s + 1) - 1 in
      let more : q + 1 ≡ 2 ^ (s + 1) = omega (arith, pow_pos (s + 1)) in
      let end : X ≡ q * S + (S - 1) = omega (arith, whole, ap (λ (x : ℕ). x * S) more, pow_pos (n - s)) in
      omega (arith, cut_long enough X ∙ ap (λ (x : ℕ). x / S) end ∙ high q (n - s) (omega (arith, pow_pos (n - s))), more)

-- a greater operand is cut to no smaller one
pub cut_ordered : (s n : ℕ) {X X' : ℕ} → X ≤ X' → cut_to s n X ≤ cut_to s n X'
cut_ordered s n {X} {X'} h =
    (le-div_iff_mul-le (pow_pos (n - s))).1 (omega (arith, div-mul-le_self (X * 2 ^ (s - n)) (2 ^ (n - s)), mul-le-mul_right (2 ^ (s - n)) h))

-- the instance of a table: t has 2k + b fraction bits, and is normalised where the operand is
pub cut_normalised : (k b n X : ℕ) → 2 ^ n ≤ X → X < 2 ^ (n + 1) → (2 ^ (2 * k + b) ≤ cut_operand k b n X) × (cut_operand k b n X < 2 ^ (2 * k + (b + 1)))
cut_normalised k b n X l h =
    let one_more : 2 * k + b + 1 ≡ 2 * k + (b + 1) = omega arith in
    rw one_more at (cut_range (2 * k + b) n X l h)

-- b stays below 2^e when d zeros are written to its right, where d is 0, or where e is 0 and so b is
none_lost : (b e d : ℕ) → b < 2 ^ e → (0 < d → e ≡ 0) → b * 2 ^ d < 2 ^ e
none_lost b e zero h f = omega (arith, h)
none_lost b e (suc d) h f =
    let none : b ≡ 0 = omega (arith, h, ap (λ (x : ℕ). 2 ^ x) (f (omega arith))) in
    omega (arith, ap (λ (x : ℕ). x * 2 ^ suc d) none, pow_pos e)

-- of m bits that are written to the right, the first s - n come to stand among the first s fraction bits, or all m
-- where that is less. From n = s on there are none; below it they are zero where b is below 2^(n+m-s)
pub all_behind : (s n m b : ℕ) → s ≤ n → b < 2 ^ m → b < 2 ^ (m - (s - n))
all_behind s n m b enough bits =
    let all : m ≡ m - (s - n) = omega (arith, enough) in
    rw (sym all) bits

pub zeros_before : (s n m b : ℕ) → n ≤ s → b < 2 ^ (n + m - s) → b < 2 ^ (m - (s - n))
zeros_before s n m b few zeros =
    let rest : n + m - s ≡ m - (s - n) = omega (arith, few) in
    rw rest at zeros

-- m bits b written to the right of X
module _ (m X b : ℕ) where
  -- X with s fraction bits does not change where those of the m bits that come to stand among the first s are zero;
  -- they are s - n
  pub cut_longer : (s n : ℕ) → b < 2 ^ (m - (s - n)) → cut_to s (n + m) (X * 2 ^ m + b) ≡ cut_to s n X
  cut_longer s n h =
      let d = s - n in
      let e = m - d in
      let u = s - (n + m) in
      let places : m + u ≡ d + e = omega arith in
      let padded : (X * 2 ^ m + b) * 2 ^ u ≡ X * 2 ^ d * 2 ^ e + b * 2 ^ u =
      omega (arith, ap (λ (x : ℕ). X * x) (sym (pow-add 2 m u) ∙ ap (λ (x : ℕ). 2 ^ x) places ∙ pow-add 2 d e)) in
      ap (λ (x : ℕ). x / 2 ^ (n + m - s)) padded
      ∙ ap (λ (x : ℕ). (X * 2 ^ d * 2 ^ e + b * 2 ^ u) / 2 ^ x) {x = n + m - s} {y = e + (n - s)} (omega arith)
      ∙ sym (shr-shr (X * 2 ^ d * 2 ^ e + b * 2 ^ u) e (n - s))
      ∙ ap (λ (x : ℕ). x / 2 ^ (n - s)) (high (X * 2 ^ d) e (none_lost b e u h (λ p. omega (arith, p))))

  -- nor whether the operand is normalised
  pub normalised_longer : (n : ℕ) → b < 2 ^ m → is_normalised (n + m) (X * 2 ^ m + b) ≡ is_normalised n X
  normalised_longer n h =
      normalised_high (n + m) (X * 2 ^ m + b)
      ∙ ap (λ (y : ℕ). eqb y 1)
      (ap (λ (e : ℕ). (X * 2 ^ m + b) / 2 ^ e) {x = n + m} {y = m + n} (omega arith)
      ∙ sym (shr-shr (X * 2 ^ m + b) m n)
      ∙ ap (λ (y : ℕ). y / 2 ^ n) (high X m h))
      ∙ sym (normalised_high n X)
