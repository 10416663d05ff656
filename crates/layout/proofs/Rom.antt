-- A full ROM of a table: its words are the table's and nothing stands behind them; and a buffer of which both are true
-- is one.
-- Assumes nothing.
use mathlib.Core.Path.{◌≡◌, refl, sym, ◌∙◌, ap, ap₂}
use mathlib.Core.Logic.{⊎_elim}
use mathlib.Core.Bool.{Bool, true, false}
use mathlib.Core.List.{List, ◌++◌}
use Prim.Native.Nat.{ℕ, zero, suc, ◌+◌, ◌-◌, ◌*◌, ◌/◌, ◌%◌, ◌^◌, ◌≤◌, ◌<◌}
use native.Mathlib.Nat.{zero-mod}
use native.Mathlib.Omega.{arith}
use lib.ListN.{length, take, drop, get_or, get_or-replicate, length-append, length-drop, take-append-drop}
use lib.Seq.{take_at, get_or-append-add, get_or-drop, ext_get_or}
use Rattle.bools.proofs.Bools.{below_or_not}
use Rattle.bools.specs.Lowest.{lowest}
use Rattle.bools.proofs.Lowest.{lowest_le, lowest_before, lowest_none}
use Rattle.packing.specs.Packing.{Bytes, fill_bits, bytes_value, bit_at}
use Rattle.packing.proofs.Bytes.{value_low}
use Rattle.packing.proofs.Bits.{bit_of_filling}
use Rattle.packing.proofs.Image.{words_front_filled}
use Rattle.tail.specs.Tail.{has_one_from, zeros}
use Rattle.tail.specs.Inner.{cleared_from}
use Rattle.tail.proofs.Laws.{none_bits, byte_zero, none_zero}
use Rattle.tail.proofs.Bits.{one_bit}
use Rattle.tail.proofs.Zeros.{length-zeros, bytes-zeros}
use Rattle.layout.specs.Layout.{Layout, end_of, length_of, image_of, rom_of, word_in, first_past}
use Rattle.layout.proofs.Laws.{Fits, image-length, image_word}

module _ (t : Layout) (n : ℕ) where
  -- it has its n bytes
  pub rom_length : length_of t ≤ n → length (rom_of t n) ≡ n
  rom_length h = length-append (image_of t) (zeros (n - length_of t)) ∙ omega (arith, image-length t, length-zeros (n - length_of t), h)

  -- or more, where the image has more
  pub rom_long : length_of t ≤ length (rom_of t n)
  rom_long = omega (arith, length-append (image_of t) (zeros (n - length_of t)), image-length t)

  -- and starts with the image
  pub rom_front : take (length_of t) (rom_of t n) ≡ image_of t
  rom_front = take_at (image_of t) (zeros (n - length_of t)) (length_of t) (image-length t)

-- where the ones behind the words begin is a byte of the buffer, or its end
pub past_within : (t : Layout) (s : List ℕ) → first_past t s ≤ length s
past_within t s = lowest_le _ (length s)

-- the image over the front of a buffer, and zeros written behind it, make one
pub rom_written : (t : Layout) (s : List ℕ) → length_of t ≤ length s → cleared_from (length_of t) (image_of t ++ drop (length_of t) s) ≡ rom_of t (length s)
rom_written t s h =
    ap₂ (λ (u : List ℕ) (m : ℕ). u ++ zeros (m - length_of t))
    (take_at (image_of t) (drop (length_of t) s) (length_of t) (image-length t))
    (length-append (image_of t) (drop (length_of t) s) ∙ omega (arith, image-length t, length-drop (length_of t) s, h))

-- a byte of the tail of one
pub rom_zero : (t : Layout) (n i : ℕ) → length_of t ≤ i → i < n → get_or (rom_of t n) i 0 ≡ 0
rom_zero t n i h l =
    ap (λ (x : ℕ). get_or (rom_of t n) x 0) there
    ∙ get_or-append-add (image_of t) (zeros (n - length_of t)) (i - length_of t) 0
    ∙ get_or-replicate (n - length_of t) (i - length_of t) 0 0 (omega (arith, h, l))
  where
    there : i ≡ length (image_of t) + (i - length_of t)
    there = omega (arith, image-length t, h)

module _ (t : Layout) (fits : Fits t) where
  -- its words are the table's
  pub rom_word : (n j : ℕ) → j < t.count → word_in t (rom_of t n) j ≡ t.word j
  rom_word n j h = image_word t fits j (zeros (n - length_of t)) h

  -- a buffer whose words are right and behind them has no one is the ROM of its length
  module _ (s : List ℕ) (bytes : Bytes s) (long : length_of t ≤ length s) where
    pub right_rom : ((j : ℕ) → j < t.count → word_in t s j ≡ t.word j) → first_past t s ≡ length s → s ≡ rom_of t (length s)
    right_rom r p =
        sym (take-append-drop (length_of t) s)
        ∙ ap₂ (λ (u v : List ℕ). u ++ v)
        (words_front_filled t.width t.word t.count s fits.one bytes long r (filled (length_of t) refl))
        (ext_get_or 0 (drop (length_of t) s) (zeros (length s - length_of t)) (length-drop (length_of t) s ∙ sym (length-zeros (length s - length_of t))) zero_there)
      where
        none : (i : ℕ) → i < length s → has_one_from (end_of t) s i ≡ false
        none i l = lowest_before (has_one_from (end_of t) s) (length s) i (omega (arith, l, p))

        filled : (L : ℕ) → L ≡ length_of t → bytes_value s 0 L % 2 ^ fill_bits t.width t.count ≡ 0
        filled zero e = zero-mod (2 ^ fill_bits t.width t.count)
        filled (suc m) e =
            value_low s m (fill_bits t.width t.count) (omega arith)
            ∙ ap (λ (x : ℕ). get_or s m 0 % 2 ^ x) same
            ∙ none_bits (end_of t) s m (none m (omega (arith, e, long)))
          where
            same : fill_bits t.width t.count ≡ 8 - (end_of t - 8 * m)
            same = omega (arith, e)

        zero_there : (i : ℕ) → i < length (drop (length_of t) s) → get_or (drop (length_of t) s) i 0 ≡ get_or (zeros (length s - length_of t)) i 0
        zero_there i l =
            let h : i < length s - length_of t = omega (arith, l, length-drop (length_of t) s) in
            get_or-drop (length_of t) s i 0
            ∙ none_zero (end_of t) s (length_of t + i) (omega arith) (bytes (length_of t + i)) (none (length_of t + i) (omega (arith, h)))
            ∙ sym (get_or-replicate (length s - length_of t) i 0 0 h)

  -- and nothing stands behind the words of a ROM: neither in the bits that fill the last byte nor in the bytes after it
  pub rom_past : (n : ℕ) → length_of t ≤ n → first_past t (rom_of t n) ≡ n
  rom_past n h = ap (lowest (has_one_from (end_of t) (rom_of t n))) (rom_length t n h) ∙ lowest_none (has_one_from (end_of t) (rom_of t n)) n none
    where
      filling : (c : ℕ) → end_of t ≤ c → c / 8 < length_of t → bit_at (rom_of t n) c ≡ 0
      filling c from l =
          bit_of_filling t.width t.word t.count c (zeros (n - length_of t)) (bytes-zeros (n - length_of t)) fits.words from (omega (arith, l))

      in_image : (i : ℕ) → i < length_of t → (b : Bool) → has_one_from (end_of t) (rom_of t n) i ≡ b → b ≡ false
      in_image i l true e =
          let c = one_bit (end_of t) (rom_of t n) i e in
          absurd (omega (arith, c.3, filling c.0 c.1 (omega (arith, c.2, l))))
      in_image i l false e = refl

      none : (i : ℕ) → i < n → has_one_from (end_of t) (rom_of t n) i ≡ false
      none i l =
          ⊎_elim (λ b. in_image i b (has_one_from (end_of t) (rom_of t n) i) refl) (λ g. byte_zero (end_of t) (rom_of t n) i (rom_zero t n i g l))
          (below_or_not i (length_of t))
