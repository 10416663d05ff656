-- Laws of `packed`: its bound, its parts, its digits, and that its digits determine it. For any width w and any word
-- function f.
-- Assumes nothing.
use Rattle.std.proofs.Common.{◌≡◌, ℕ, zero, suc, ◌+◌, ◌-◌, ◌*◌, ◌/◌, ◌%◌, ◌^◌, ◌<◌, sym, refl, ap, ◌∙◌, ap₂, le_refl, add-zero, add-suc, suc-mul, zero-mul, mul-one, div-one, arith, pow_pos, pow-add, shr-shr}
use native.Mathlib.Nat.{le_step, mod-one}
use lib.Arith.{digits_lt}
use lib.Pow.{high, low, mod-pow-add}
use Rattle.packing.specs.Packing.{packed}

-- one word more takes w bits more
pub pow_more : (w n : ℕ) → 2 ^ (suc n * w) ≡ 2 ^ (n * w) * 2 ^ w
pow_more w n = ap (λ (x : ℕ). 2 ^ x) (suc-mul n w) ∙ pow-add 2 (n * w) w

-- n words of w bits make a number of n × w bits
pub packed_lt : (w : ℕ) (f : ℕ → ℕ) (n : ℕ) → ((j : ℕ) → j < n → f j < 2 ^ w) → packed w f n < 2 ^ (n * w)
packed_lt w f zero h = pow_pos (0 * w)
packed_lt w f (suc n) h = rw pow_more (digits_lt (packed_lt w f n (λ j l. h j (le_step l))) (h n (le_refl (suc n))))

-- words that agree make the same number
pub packed_ext : (w : ℕ) (f g : ℕ → ℕ) (n : ℕ) → ((j : ℕ) → j < n → f j ≡ g j) → packed w f n ≡ packed w g n
packed_ext w f g zero h = refl
packed_ext w f g (suc n) h =
    ap₂ (λ (x y : ℕ). x * 2 ^ w + y) (packed_ext w f g n (λ j l. h j (le_step l))) (h n (le_refl (suc n)))

-- words that are 0 make 0
pub packed_zero : (w n : ℕ) → packed w (λ (j : ℕ). 0) n ≡ 0
packed_zero w zero = refl
packed_zero w (suc n) = ap (λ (x : ℕ). x * 2 ^ w + 0) (packed_zero w n) ∙ omega arith

-- the first a words stand before the m others
pub packed_add : (w : ℕ) (f : ℕ → ℕ) (a m : ℕ)
    → packed w f (a + m) ≡ packed w f a * 2 ^ (m * w) + packed w (λ (i : ℕ). f (a + i)) m
packed_add w f a zero =
    ap (packed w f) (add-zero a)
    ∙ sym (add-zero (packed w f a)) ∙ ap (λ (x : ℕ). x + 0) (sym (mul-one (packed w f a)) ∙ ap (λ (x : ℕ). packed w f a * 2 ^ x) (sym (zero-mul w)))
packed_add w f a (suc m) =
    ap (packed w f) (add-suc a m)
    ∙ ap (λ (x : ℕ). x * 2 ^ w + f (a + m)) (packed_add w f a m)
    ∙ step (packed w f a) (2 ^ (m * w)) (packed w (λ (i : ℕ). f (a + i)) m) (2 ^ w) (f (a + m))
    ∙ ap (λ (x : ℕ). packed w f a * x + (packed w (λ (i : ℕ). f (a + i)) m * 2 ^ w + f (a + m))) (sym (pow_more w m))
  where
    step : (p q r s t : ℕ) → (p * q + r) * s + t ≡ p * (q * s) + (r * s + t)
    step p q r s t = omega arith

-- the last m words cut off
pub packed_front : (w : ℕ) (f : ℕ → ℕ) (a m : ℕ) → ((j : ℕ) → j < a + m → f j < 2 ^ w) → packed w f (a + m) / 2 ^ (m * w) ≡ packed w f a
packed_front w f a m h =
    ap (λ (x : ℕ). x / 2 ^ (m * w)) (packed_add w f a m)
    ∙ high (packed w f a) (m * w) (packed_lt w (λ (i : ℕ). f (a + i)) m (λ j l. h (a + j) (omega arith)))

-- the last word
pub packed_last : (w : ℕ) (f : ℕ → ℕ) (n : ℕ) → f n < 2 ^ w → packed w f (suc n) % 2 ^ w ≡ f n
packed_last w f n h = low (packed w f n) w h

-- word j is digit j of the number, counted from the front
pub packed_digit : (w : ℕ) (f : ℕ → ℕ) (n j : ℕ) → ((i : ℕ) → i < n → f i < 2 ^ w) → j < n
    → packed w f n / 2 ^ ((n - 1 - j) * w) % 2 ^ w ≡ f j
packed_digit w f n j h l =
    ap (λ (x : ℕ). packed w f x / 2 ^ ((n - 1 - j) * w) % 2 ^ w) e
    ∙ ap (λ (x : ℕ). x % 2 ^ w) (packed_front w f (suc j) (n - 1 - j) (λ i k. h i (omega arith)))
    ∙ packed_last w f j (h j l)
  where
    e : n ≡ suc j + (n - 1 - j)
    e = omega arith

-- a number is packed of its digits
pub packed_of_digits : (w v n : ℕ) → packed w (λ (j : ℕ). v / 2 ^ ((n - 1 - j) * w) % 2 ^ w) n ≡ v % 2 ^ (n * w)
packed_of_digits w v zero = sym (ap (λ (x : ℕ). v % 2 ^ x) (zero-mul w) ∙ mod-one v)
packed_of_digits w v (suc n) =
    ap₂ (λ (x y : ℕ). x * 2 ^ w + y)
    (packed_ext w (λ (j : ℕ). v / 2 ^ ((suc n - 1 - j) * w) % 2 ^ w) (λ (j : ℕ). v / 2 ^ w / 2 ^ ((n - 1 - j) * w) % 2 ^ w) n shorter
    ∙ packed_of_digits w (v / 2 ^ w) n)
    last
    ∙ sym (mod-pow-add v (n * w) w) ∙ ap (λ (x : ℕ). v % 2 ^ x) (sym (suc-mul n w))
  where
    more : (j : ℕ) → j < n → suc n - 1 - j ≡ suc (n - 1 - j)
    more j l = omega arith

    shorter : (j : ℕ) → j < n → v / 2 ^ ((suc n - 1 - j) * w) % 2 ^ w ≡ v / 2 ^ w / 2 ^ ((n - 1 - j) * w) % 2 ^ w
    shorter j l =
        ap (λ (x : ℕ). v / 2 ^ x % 2 ^ w) (ap (λ (y : ℕ). y * w) (more j l) ∙ omega arith)
        ∙ ap (λ (x : ℕ). x % 2 ^ w) (sym (shr-shr v w ((n - 1 - j) * w)))

    none : suc n - 1 - n ≡ 0
    none = omega arith

    last : v / 2 ^ ((suc n - 1 - n) * w) % 2 ^ w ≡ v % 2 ^ w
    last = ap (λ (x : ℕ). v / 2 ^ x % 2 ^ w) (ap (λ (y : ℕ). y * w) none ∙ zero-mul w) ∙ ap (λ (x : ℕ). x % 2 ^ w) (div-one v)

-- a number whose digits are the words is packed of the words
pub packed_unique : (w : ℕ) (f : ℕ → ℕ) (n v : ℕ) → ((j : ℕ) → j < n → v / 2 ^ ((n - 1 - j) * w) % 2 ^ w ≡ f j)
    → v % 2 ^ (n * w) ≡ packed w f n
packed_unique w f n v h =
    sym (packed_of_digits w v n) ∙ packed_ext w (λ (j : ℕ). v / 2 ^ ((n - 1 - j) * w) % 2 ^ w) f n h
