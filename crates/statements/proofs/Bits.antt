-- A word by its bits.
-- Assumes nothing.
use mathlib.Core.Path.{◌≡◌, refl, sym, ◌∙◌, ap}
use mathlib.Core.List.{List}
use Prim.Native.Nat.{ℕ, ◌+◌, ◌-◌, ◌*◌, ◌/◌, ◌%◌, ◌^◌, ◌<◌}
use native.Mathlib.Nat.{mod-eq_of_lt, mul-one}
use native.Mathlib.Omega.{arith}
use Rattle.format.specs.Format.{word_count, word_width}
use Rattle.format.specs.declared.Format.{Format}
use Rattle.packing.specs.Packing.{Bytes, packed, word_at, bit_at}
use Rattle.packing.proofs.Bits.{bit-of-word}
use Rattle.packing.proofs.Numbers.{packed_unique}
use Rattle.packing.proofs.Words.{word_lt, word_within}
use Rattle.image.specs.Image.{word_of}

-- a word is the number that its bits make
word_is_bits : (w : ℕ) (s : List ℕ) (j : ℕ) (f : ℕ → ℕ) → Bytes s → ((b : ℕ) → b < w → bit_at s (j * w + b) ≡ f b) → word_at w s j ≡ packed 1 f w
word_is_bits w s j f bytes e =
    sym (ap (λ (n : ℕ). word_at w s j % 2 ^ n) (mul-one w) ∙ mod-eq_of_lt (word_lt w s j))
    ∙ packed_unique 1 f w (word_at w s j)
    (λ b h. ap (λ (n : ℕ). word_at w s j / 2 ^ n % 2) (mul-one (w - 1 - b)) ∙ bit-of-word w s j b bytes h ∙ e b h)

-- two buffers that agree on every bit of their words have the same words
pub same_words : (F : Format) (s t : List ℕ) → Bytes s → Bytes t → ((b : ℕ) → b < word_count F * word_width F → bit_at s b ≡ bit_at t b)
    → (j : ℕ) → j < word_count F → word_of F s j ≡ word_of F t j
same_words F s t bytes bytes' e j h =
    word_is_bits (word_width F) s j (λ b. bit_at t (j * word_width F + b)) bytes
    (λ b l. e (j * word_width F + b) (omega (arith, l, word_within (word_width F) (word_count F) j h)))
    ∙ sym (word_is_bits (word_width F) t j (λ b. bit_at t (j * word_width F + b)) bytes' (λ b l. refl))
