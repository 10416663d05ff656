-- Laws of bits: most significant bit first, with no padding. Bit b of word j is bit j × w + b of the bytes.
-- Assumes nothing.
use Rattle.std.proofs.Common.{◌≡◌, ℕ, ◌+◌, ◌-◌, ◌*◌, ◌/◌, ◌%◌, ◌^◌, ◌<◌, ◌≤◌, List, ◌++◌, get_or, sym, ap, ◌∙◌, ap₂, mul-one, arith, pow-add, shr-shr}
use native.Mathlib.Nat.{mul-mod_left}
use lib.Pow.{shl-shr, field, mod-mod-pow}
use Rattle.packing.specs.Packing.{packed, byte_count, fill_bits, packed_bytes, bytes_value, Bytes, first_byte, span_bytes, last_byte, field_at, word_at, bit_at, bit_of_word}
use Rattle.packing.proofs.Bytes.{bytes_append}
use Rattle.packing.proofs.Words.{word_is_digit}
use Rattle.packing.proofs.Image.{bytes-packed_bytes, value-packed_bytes, packed_word}

-- a word of width 1 is a bit
pub word_one : (s : List ℕ) (i : ℕ) → word_at 1 s i ≡ bit_at s i
unfolding word_at field_at
word_one s i =
    ap₂ (λ (x y : ℕ). bytes_value s (first_byte 1 i) x / 2 ^ y % 2) span behind
    ∙ ap (λ (x : ℕ). x / 2 ^ (7 - i % 8) % 2) (drop0 (get_or s (first_byte 1 i + 0) 0) ∙ ap (λ (x : ℕ). get_or s x 0) first)
  where
    span : span_bytes 1 i ≡ 1
    span = omega arith

    behind : 8 * (last_byte 1 i + 1) - (i * 1 + 1) ≡ 7 - i % 8
    behind = omega arith

    first : first_byte 1 i + 0 ≡ i / 8
    first = omega arith

    drop0 : (x : ℕ) → 0 * 2 ^ 8 + x ≡ x
    drop0 x = omega arith

-- bit b of word j is bit j × w + b of the bytes
pub bit-of-word : (w : ℕ) (s : List ℕ) (j b : ℕ) → Bytes s → b < w → bit_of_word w (word_at w s j) b ≡ bit_at s (j * w + b)
bit-of-word w s j b hs l =
    ap (λ (x : ℕ). x / 2 ^ (w - 1 - b) % 2) (word_is_digit w j L (omega arith) (omega arith) s hs)
    ∙ inner (bytes_value s 0 L / 2 ^ (8 * L - (j * w + w)))
    ∙ ap (λ (x : ℕ). x % 2)
    (shr-shr (bytes_value s 0 L) (8 * L - (j * w + w)) (w - 1 - b) ∙ ap (λ (x : ℕ). bytes_value s 0 L / 2 ^ x) same)
    ∙ sym (word_is_digit 1 (j * w + b) L (omega arith) (omega arith) s hs)
    ∙ word_one s (j * w + b)
  where
    -- bytes enough to hold the word
    L : ℕ
    L = j * w + w

    up : w ≡ b + 1 + (w - 1 - b)
    up = omega arith

    inner : (v : ℕ) → v % 2 ^ w / 2 ^ (w - 1 - b) % 2 ≡ v / 2 ^ (w - 1 - b) % 2
    inner v =
        ap (λ (x : ℕ). v % 2 ^ x / 2 ^ (w - 1 - b) % 2) up
        ∙ ap (λ (x : ℕ). x % 2) (field v (b + 1) (w - 1 - b))
        ∙ mod-mod-pow (v / 2 ^ (w - 1 - b)) b 1

    same : 8 * L - (j * w + w) + (w - 1 - b) ≡ 8 * L - ((j * w + b) * 1 + 1)
    same = omega arith

-- a bit of a byte list by the number that its first L bytes make
pub bit_of_value : (s : List ℕ) (i L : ℕ) → Bytes s → i < 8 * L → bit_at s i ≡ bytes_value s 0 L / 2 ^ (8 * L - (i + 1)) % 2
bit_of_value s i L hs l =
    sym (word_one s i) ∙ word_is_digit 1 i L (omega arith) (omega arith) s hs
    ∙ ap (λ (x : ℕ). bytes_value s 0 L / 2 ^ (8 * L - (x + 1)) % 2) (mul-one i)

-- bit j × w + b of packed words is bit b of word j
pub bit_of_packed : (w : ℕ) (f : ℕ → ℕ) (n j b : ℕ) (t : List ℕ) → Bytes t → ((i : ℕ) → i < n → f i < 2 ^ w) → j < n → b < w
    → bit_at (packed_bytes w f n ++ t) (j * w + b) ≡ bit_of_word w (f j) b
bit_of_packed w f n j b t ht h l k =
    sym (bit-of-word w (packed_bytes w f n ++ t) j b (bytes_append (packed_bytes w f n) t (bytes-packed_bytes w f n) ht) k)
    ∙ ap (λ (x : ℕ). bit_of_word w x b) (packed_word w f n j t (omega arith) h l)

-- from the last word to the end of the last byte, packed words have zero bits
pub bit_of_filling : (w : ℕ) (f : ℕ → ℕ) (n i : ℕ) (t : List ℕ) → Bytes t → ((i : ℕ) → i < n → f i < 2 ^ w)
    → n * w ≤ i → i < 8 * byte_count w n → bit_at (packed_bytes w f n ++ t) i ≡ 0
bit_of_filling w f n i t ht h from below =
    bit_of_value (packed_bytes w f n ++ t) i (byte_count w n) (bytes_append (packed_bytes w f n) t (bytes-packed_bytes w f n) ht) below
    ∙ ap (λ (x : ℕ). x / 2 ^ k % 2) (value-packed_bytes w f n t h ∙ ap (λ (x : ℕ). packed w f n * 2 ^ x) up ∙ ap (λ (x : ℕ). packed w f n * x) apart
    ∙ regroup (packed w f n) (2 ^ (i - n * w)) (2 ^ k))
    ∙ ap (λ (x : ℕ). x % 2) (shl-shr (packed w f n * 2 ^ (i - n * w) * 2) k)
    ∙ mul-mod_left (packed w f n * 2 ^ (i - n * w)) 2
  where
    k : ℕ
    k = 8 * byte_count w n - (i + 1)

    up : fill_bits w n ≡ (i - n * w) + 1 + k
    up = omega arith

    apart : 2 ^ ((i - n * w) + 1 + k) ≡ 2 ^ (i - n * w) * 2 * 2 ^ k
    apart = pow-add 2 ((i - n * w) + 1) k ∙ ap (λ (x : ℕ). x * 2 ^ k) (pow-add 2 (i - n * w) 1)

    regroup : (a b c : ℕ) → a * (b * 2 * c) ≡ a * b * 2 * c
    regroup a b c = omega arith
