-- Packed words and their bytes: reading gives back what was packed, and right words determine the bytes.
-- Assumes nothing.
use Rattle.std.proofs.Common.{◌≡◌, ℕ, suc, ◌+◌, ◌-◌, ◌*◌, ◌/◌, ◌%◌, ◌^◌, ◌<◌, ◌≤◌, List, ◌++◌, length, get_or, take, sym, ap, ◌∙◌, subst, ap₂, add-zero, mod-eq_of_lt, arith, shl_lt, shr-shr, shr_lt}
use lib.ListN.{get_or-append}
use lib.Pow.{split, shl-shr}
use Rattle.packing.specs.Packing.{packed, to_bytes, byte_count, fill_bits, packed_bytes, bytes_value, Bytes, word_at}
use Rattle.packing.proofs.Numbers.{packed_lt, packed_digit, packed_unique}
use Rattle.packing.proofs.Bytes.{length-to_bytes, bytes-to_bytes, value_lt, value_to_bytes_exact, to_bytes_value}
use Rattle.packing.proofs.Words.{word_is_digit_below, word_is_digit, word_within, count_holds, count_fill}

-- packed words take their bytes and no more
pub length-packed_bytes : (w : ℕ) (f : ℕ → ℕ) (n : ℕ) → length (packed_bytes w f n) ≡ byte_count w n
length-packed_bytes w f n = length-to_bytes (byte_count w n) (packed w f n * 2 ^ fill_bits w n)

-- and they are bytes
pub bytes-packed_bytes : (w : ℕ) (f : ℕ → ℕ) (n : ℕ) → Bytes (packed_bytes w f n)
bytes-packed_bytes w f n = bytes-to_bytes (byte_count w n) (packed w f n * 2 ^ fill_bits w n)

-- the number that the bytes of packed words make, whatever follows them: the words and the filling
pub value-packed_bytes : (w : ℕ) (f : ℕ → ℕ) (n : ℕ) (t : List ℕ) → ((i : ℕ) → i < n → f i < 2 ^ w)
    → bytes_value (packed_bytes w f n ++ t) 0 (byte_count w n) ≡ packed w f n * 2 ^ fill_bits w n
value-packed_bytes w f n t h =
    value_to_bytes_exact (byte_count w n) (packed w f n * 2 ^ fill_bits w n) t
    (subst (λ (x : ℕ). packed w f n * 2 ^ fill_bits w n < 2 ^ x) (count_fill w n) (shl_lt (n * w) (fill_bits w n) (packed_lt w f n h)))

-- the bits behind word j of n: the filling and the words after it
place : (w n j : ℕ) → j < n → 8 * byte_count w n - (j * w + w) ≡ fill_bits w n + (n - 1 - j) * w
place w n j l = go (n - 1 - j) (omega arith)
  where
    after : (m : ℕ) → n ≡ suc j + m → n * w ≡ j * w + w + m * w
    after m e = ap (λ (x : ℕ). x * w) e ∙ omega arith

    go : (m : ℕ) → n ≡ suc j + m → 8 * byte_count w n - (j * w + w) ≡ fill_bits w n + m * w
    go m e = omega (arith, after m e)

-- reading gives back the word that was packed, whatever follows the bytes
pub packed_word : (w : ℕ) (f : ℕ → ℕ) (n j : ℕ) (t : List ℕ) → 1 ≤ w → ((i : ℕ) → i < n → f i < 2 ^ w) → j < n
    → word_at w (packed_bytes w f n ++ t) j ≡ f j
packed_word w f n j t one h l =
    word_is_digit_below w j (byte_count w n) one (omega (arith, word_within w n j l, count_holds w n)) (packed_bytes w f n ++ t) below
    ∙ ap₂ (λ (x y : ℕ). x / 2 ^ y % 2 ^ w) (value-packed_bytes w f n t h) (place w n j l)
    ∙ ap (λ (x : ℕ). x % 2 ^ w)
    (sym (shr-shr (packed w f n * 2 ^ fill_bits w n) (fill_bits w n) ((n - 1 - j) * w))
    ∙ ap (λ (x : ℕ). x / 2 ^ ((n - 1 - j) * w)) (shl-shr (packed w f n) (fill_bits w n)))
    ∙ packed_digit w f n j h l
  where
    below : (i : ℕ) → i < byte_count w n → get_or (packed_bytes w f n ++ t) i 0 < 256
    below i k =
        subst (λ (x : ℕ). x < 256)
        (sym (get_or-append (packed_bytes w f n) t 0 i (subst (λ (x : ℕ). i < x) (sym (length-packed_bytes w f n)) k)))
        (bytes-packed_bytes w f n i)

-- right words determine the bytes' number up to the filling
pub words_number : (w : ℕ) (f : ℕ → ℕ) (n : ℕ) (s : List ℕ) → 1 ≤ w → Bytes s → ((j : ℕ) → j < n → word_at w s j ≡ f j)
    → bytes_value s 0 (byte_count w n) / 2 ^ fill_bits w n ≡ packed w f n
words_number w f n s one hs h =
    sym (mod-eq_of_lt small) ∙ packed_unique w f n (bytes_value s 0 (byte_count w n) / 2 ^ fill_bits w n) digit
  where
    small : bytes_value s 0 (byte_count w n) / 2 ^ fill_bits w n < 2 ^ (n * w)
    small =
        shr_lt (n * w) (fill_bits w n)
        (subst (λ (x : ℕ). bytes_value s 0 (byte_count w n) < 2 ^ x) (sym (count_fill w n)) (value_lt s 0 (byte_count w n) (λ i l. hs (0 + i))))

    digit : (j : ℕ) → j < n → bytes_value s 0 (byte_count w n) / 2 ^ fill_bits w n / 2 ^ ((n - 1 - j) * w) % 2 ^ w ≡ f j
    digit j l =
        ap (λ (x : ℕ). x % 2 ^ w)
        (shr-shr (bytes_value s 0 (byte_count w n)) (fill_bits w n) ((n - 1 - j) * w)
        ∙ ap (λ (x : ℕ). bytes_value s 0 (byte_count w n) / 2 ^ x) (sym (place w n j l)))
        ∙ sym (word_is_digit w j (byte_count w n) one (omega (arith, word_within w n j l, count_holds w n)) s hs)
        ∙ h j l

-- right words and a zero filling determine the bytes
pub words_front_filled : (w : ℕ) (f : ℕ → ℕ) (n : ℕ) (s : List ℕ) → 1 ≤ w → Bytes s → byte_count w n ≤ length s
    → ((j : ℕ) → j < n → word_at w s j ≡ f j) → bytes_value s 0 (byte_count w n) % 2 ^ fill_bits w n ≡ 0
    → take (byte_count w n) s ≡ packed_bytes w f n
words_front_filled w f n s one hs fits h none =
    sym (to_bytes_value (byte_count w n) s hs fits) ∙ ap (to_bytes (byte_count w n)) whole
  where
    whole : bytes_value s 0 (byte_count w n) ≡ packed w f n * 2 ^ fill_bits w n
    whole =
        sym (split (bytes_value s 0 (byte_count w n)) (fill_bits w n))
        ∙ ap₂ (λ (x y : ℕ). x * 2 ^ fill_bits w n + y) (words_number w f n s one hs h) none
        ∙ add-zero (packed w f n * 2 ^ fill_bits w n)
