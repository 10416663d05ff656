-- Laws of `word_at`: those of `field_at` at the places of words; also where the last byte has filling bits.
-- Assumes nothing.
use Rattle.std.proofs.Common.{◌≡◌, ℕ, ◌+◌, ◌-◌, ◌*◌, ◌/◌, ◌%◌, ◌^◌, ◌<◌, ◌≤◌, List, length, get_or, take, ap, ◌∙◌, mul-le-mul_right, arith, get_or-take}
use Rattle.packing.specs.Packing.{byte_count, fill_bits, bytes_value, Bytes, first_byte, last_byte, field_at, word_at}
use Rattle.packing.proofs.Fields.{field_is_digit_below, field_lt, field_local, field_past, pair_high, pair_low}

-- the key law: word j of a byte list is digit j of the number that its first L bytes make
module _ (w j L : ℕ) (one : 1 ≤ w) (within : j * w + w ≤ 8 * L) where
  pub word_is_digit_below : (s : List ℕ) → ((i : ℕ) → i < L → get_or s i 0 < 256)
      → word_at w s j ≡ bytes_value s 0 L / 2 ^ (8 * L - (j * w + w)) % 2 ^ w
  unfolding word_at
  word_is_digit_below s h = field_is_digit_below (j * w) w L one within s h

  pub word_is_digit : (s : List ℕ) → Bytes s → word_at w s j ≡ bytes_value s 0 L / 2 ^ (8 * L - (j * w + w)) % 2 ^ w
  word_is_digit s h = word_is_digit_below s (λ i l. h i)

-- a word of w bits
pub word_lt : (w : ℕ) (s : List ℕ) (j : ℕ) → word_at w s j < 2 ^ w
unfolding word_at
word_lt w s j = field_lt s (j * w) w

-- a word depends on its own bytes alone
pub word_local : (w : ℕ) (s t : List ℕ) (j : ℕ) → 1 ≤ w
    → ((i : ℕ) → first_byte w j ≤ i → i ≤ last_byte w j → get_or s i 0 ≡ get_or t i 0) → word_at w s j ≡ word_at w t j
unfolding word_at
word_local w s t j one h = field_local s t (j * w) w one h

-- past the end of the bytes a word is 0
pub word_past : (w : ℕ) (s : List ℕ) (j : ℕ) → 8 * length s ≤ j * w → word_at w s j ≡ 0
unfolding word_at
word_past w s j h = field_past s (j * w) w h

-- two neighbours, read at once
pub words_high : (w : ℕ) (s : List ℕ) (j : ℕ) → Bytes s → 1 ≤ w → field_at s (j * w) (2 * w) / 2 ^ w ≡ word_at w s j
unfolding word_at
words_high w s j h one = pair_high s (j * w) w h one

pub words_low : (w : ℕ) (s : List ℕ) (j : ℕ) → Bytes s → 1 ≤ w → field_at s (j * w) (2 * w) % 2 ^ w ≡ word_at w s (j + 1)
unfolding word_at
words_low w s j h one = pair_low s (j * w) w h one ∙ ap (λ (b : ℕ). field_at s b w) next
  where
    next : j * w + w ≡ (j + 1) * w
    next = omega arith

-- word j of n ends before the n words do
pub word_within : (w n j : ℕ) → j < n → j * w + w ≤ n * w
word_within w n j l = omega (arith, mul-le-mul_right w l)

-- n words fit their bytes
pub count_holds : (w n : ℕ) → n * w ≤ 8 * byte_count w n
count_holds w n = omega arith

pub count_fill : (w n : ℕ) → n * w + fill_bits w n ≡ 8 * byte_count w n
count_fill w n = omega arith

-- a word's bytes lie within the bytes of n words
pub span_within : (w n j : ℕ) → 1 ≤ w → j < n → last_byte w j < byte_count w n
span_within w n j one l = omega (arith, word_within w n j l)

-- and its first is not behind its last
pub span_ordered : (w j : ℕ) → 1 ≤ w → first_byte w j ≤ last_byte w j
span_ordered w j one = omega arith

-- what follows n bytes does not matter to a word within them
pub word_take : (w n : ℕ) (s : List ℕ) (j : ℕ) → 1 ≤ w → j * w + w ≤ 8 * n → word_at w (take n s) j ≡ word_at w s j
word_take w n s j one within = word_local w (take n s) s j one (λ i a b. get_or-take n s i 0 (omega arith))
