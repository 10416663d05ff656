-- Laws of decimal digits: those of a number are digits and stand for it, and how large the value of digits is.
-- Assumes nothing.
use mathlib.Core.Path.{◌≡◌, refl, sym, ◌∙◌}
use mathlib.Core.Bool.{Bool, true, false, cond, ◌&&◌, true≢false}
use mathlib.Core.List.{List, [], ◌∷◌}
use Prim.Native.Nat.{ℕ, zero, suc, ◌+◌, ◌-◌, ◌*◌, ◌/◌, ◌%◌, ◌^◌, ◌≤◌, ◌<◌}
use native.Mathlib.Nat.{pow-suc, mul-le-mul_right}
use native.Mathlib.Omega.{arith}
use borrow.Author.Tests.{lt-ltb, le-leb, leb-true}
use lib.Dec.{leb, ltb, eqb}
use lib.ListN.{length}
use Rattle.std.specs.Prelude.{Some, None, decimal}
use Rattle.std.specs.Fmt.{digits, digits_onto, digit_glyph}
use Rattle.std.specs.Str.{all_ascii_digits}
use Rattle.std.proofs.lemmas.Fmt.{decimal_is_IsNumeral_wide}
use Rattle.std.proofs.lemmas.Str.Parse.{IsNumeralModel, numerals_by_fold, tells_all_ascii_digits}
use Rattle.decimal.specs.Decimal.{is_digits, value_from, decimal_value}
use Rattle.decimal.specs.Reading.{reading}

-- one digit or more are all digits
pub is_all : (s : List ℕ) → is_digits s ≡ true → all_ascii_digits s ≡ true
is_all [] p = refl
is_all (b ∷ s) p = p

-- the last digit of a number, and digits after it
last_digit : (n : ℕ) (s : List ℕ) → all_ascii_digits s ≡ true → is_digits (digit_glyph false (n % 10) ∷ s) ≡ true
last_digit n s e =
    let d = n % 10 in
    rw (lt-ltb d 10 (omega arith), le-leb 48 (48 + d) (omega arith), le-leb (48 + d) 57 (omega arith)) e

either : (x : Bool) (t u : List ℕ) → is_digits t ≡ true → is_digits u ≡ true → is_digits (cond x t u) ≡ true
either true t u p q = p
either false t u p q = q

-- the digits of a number before digits are digits, one at least
digits_before : (k n : ℕ) (s : List ℕ) → all_ascii_digits s ≡ true → is_digits (digits_onto (suc k) 10 false n s) ≡ true
digits_before zero n s e = either (eqb (n / 10) 0) _ _ (last_digit n s e) (last_digit n s e)
digits_before (suc k) n s e =
    let t : List ℕ = digit_glyph false (n % 10) ∷ s in
    let d : is_digits t ≡ true = last_digit n s e in
    either (eqb (n / 10) 0) t _ d (digits_before k (n / 10) t (is_all t d))

-- so are those of every number
pub decimal_digits : (n : ℕ) → is_digits (decimal n) ≡ true
unfolding digits
decimal_digits n = digits_before 63 n [] refl

-- what digits are and stand for, in std's words
in_std : IsNumeralModel (λ s. all_ascii_digits s ≡ true) decimal_value
in_std = numerals_by_fold _ tells_all_ascii_digits value_from (record { empty = λ n. refl; more = λ n c s h. refl })

-- the digits of a number below 10^20 stand for it
pub value-decimal : (n : ℕ) → n < 10 ^ 20 → decimal_value (decimal n) ≡ n
value-decimal n h =
    let d = decimal_is_IsNumeral_wide n (omega arith) in
    in_std.same (decimal n) d.0.1 ∙ d.1

-- digits after v stand for v at least
pub value-from : (v : ℕ) (s : List ℕ) → v ≤ value_from v s
value-from v [] = omega arith
value-from v (b ∷ s) = omega (arith, value-from (v * 10 + (b - 48)) s)

-- the first of several digits
pub digit_first : (b : ℕ) (s : List ℕ) → all_ascii_digits (b ∷ s) ≡ true
    → (48 ≤ b) × (b ≤ 57) × (all_ascii_digits s ≡ true)
digit_first b s p = go (leb 48 b) (leb b 57) refl refl p
  where
    go : (x y : Bool) → leb 48 b ≡ x → leb b 57 ≡ y → (x && y && all_ascii_digits s) ≡ true
        → (48 ≤ b) × (b ≤ 57) × (all_ascii_digits s ≡ true)
    go true true e f q = (leb-true 48 b e, leb-true b 57 f, q)
    go true false e f q = absurd (let z : ◌≡◌ {A = ℕ} 0 1 = cc in omega arith)
    go false y e f q = absurd (let z : ◌≡◌ {A = ℕ} 0 1 = cc in omega arith)

-- the value of d digits after v is below (v + 1) × 10^d
value_within : (v : ℕ) (s : List ℕ) → all_ascii_digits s ≡ true → value_from v s + 1 ≤ (v + 1) * 10 ^ length s
value_within v [] p = omega arith
value_within v (b ∷ s) p =
    let h = digit_first b s p in
    rw pow-suc
    (omega (
      arith,
      value_within (v * 10 + (b - 48)) s h.2,
      mul-le-mul_right {m = v * 10 + (b - 48) + 1} {n = (v + 1) * 10} (10 ^ length s) (omega (arith, h.0, h.1)),
    ))

-- the value of d digits is below 10^d
pub value_below : (s : List ℕ) → all_ascii_digits s ≡ true → decimal_value s < 10 ^ length s
value_below s p = omega (arith, value_within 0 s p)

-- one digit at least
pub is_some : (s : List ℕ) → is_digits s ≡ true → 0 < length s
is_some [] p = absurd (true≢false (sym p))
is_some (b ∷ s) p = omega arith

-- what was read as a number is digits that stand for it
pub reading_number : (s : List ℕ) (v : ℕ) → reading s ≡ Some v → (is_digits s ≡ true) × (decimal_value s ≡ v)
reading_number s v e = go (is_digits s) (ltb (decimal_value s) (2 ^ 64)) refl e
  where
    go : (x y : Bool) → is_digits s ≡ x → cond (x && y) (Some (decimal_value s)) None ≡ Some v
        → (is_digits s ≡ true) × (decimal_value s ≡ v)
    go true true p q = (p, cc)
    go true false p q = absurd (let z : ◌≡◌ {A = ℕ} 0 1 = cc in omega arith)
    go false y p q = absurd (let z : ◌≡◌ {A = ℕ} 0 1 = cc in omega arith)
