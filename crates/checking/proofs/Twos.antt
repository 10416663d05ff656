-- Two words in one reading, or one, and how each is judged.
-- Assumes nothing.
use mathlib.Core.Path.{◌≡◌, refl, ap, ◌∙◌}
use mathlib.Core.Bool.{Bool, true, false}
use mathlib.Core.List.{List}
use Prim.Native.Nat.{ℕ, ◌+◌, ◌-◌, ◌*◌, ◌/◌, ◌%◌, ◌^◌, ◌≤◌, ◌<◌}
use native.Mathlib.Omega.{arith}
use lib.Dec.{eqb, ltb}
use lib.Pow.{pow_mono}
use borrow.Author.Tests.{ltb-true, ltb-false, eqb-true, eq-eqb}
use Rattle.bools.proofs.Bools.{clash}
use Rattle.std.specs.Option.{is_none}
use Rattle.nodes.specs.Inner.{judged_word}
use Rattle.nodes.specs.declared.Quotients.{Quotients}
use Rattle.packing.specs.Packing.{Bytes, field_at, word_at}
use Rattle.packing.specs.Inner.{window_at, word_read}
use Rattle.packing.proofs.Words.{word_lt, words_high, words_low}
use Rattle.packing.proofs.Fields.{window_within}
use Rattle.packing.proofs.Reading.{read_there}
use Rattle.layout.specs.Layout.{is_wrong}
use Rattle.image.specs.Inner.{layout_of}
use Rattle.checking.specs.Inner.{AreWords}

-- the bits of a pair of words lie within 64 from the start of the byte of the first one on: two words of up to 28 bits
-- lie so wherever they begin, and of 29 and 30 a pair begins at an even place and at a multiple of 4
pair_within : (w p : ℕ) → w ≤ 30 → 2 * p * w % 8 + 2 * w ≤ 64
pair_within w p narrow = by (ltb 28 w) (eqb w 29) refl refl
  where
    of_29 : (p : ℕ) → 2 * p * 29 % 8 + 2 * 29 ≤ 64
    of_29 p = omega arith

    of_30 : (p : ℕ) → 2 * p * 30 % 8 + 2 * 30 ≤ 64
    of_30 p = omega arith

    by : (a b : Bool) → ltb 28 w ≡ a → eqb w 29 ≡ b → 2 * p * w % 8 + 2 * w ≤ 64
    by false b few e = omega (arith, ltb-false 28 w few)
    by true true many e = rw (eqb-true w 29 e) (of_29 p)
    by true false many e =
        let last : w ≡ 30 = omega (arith, narrow, ltb-true 28 w many, λ (same : w ≡ 29). clash (eq-eqb w 29 same) e) in
        rw last (of_30 p)

module _ {t : Quotients} (p : AreWords t) (s : List ℕ) where
  -- a word has its place in 32 bits
  pub word_fits : (j : ℕ) → word_at t.width s j < 2 ^ 32
  word_fits j = let narrow : t.width ≤ 32 = omega (arith, p.narrow) in omega (arith, word_lt t.width s j, pow_mono narrow)

  -- the bits at the top of a window at a pair are its words
  pub of_window : Bytes s → (pair : ℕ) {both : ℕ} → both ≡ window_at s (2 * pair * t.width) / 2 ^ (64 - 2 * t.width) → both ≡ field_at s (2 * pair * t.width) (2 * t.width)
  of_window bytes pair top = top ∙ window_within s (2 * pair * t.width) (2 * t.width) bytes (pair_within t.width pair p.narrow)

  module _ (bytes : Bytes s) (j : ℕ) {both : ℕ} (read : both ≡ field_at s (j * t.width) (2 * t.width)) where
    pub first_of : both / 2 ^ t.width ≡ word_at t.width s j
    first_of = ap (λ (x : ℕ). x / 2 ^ t.width) read ∙ words_high t.width s j bytes (omega (arith, p.wide))

    pub second_of : both % 2 ^ t.width ≡ word_at t.width s (j + 1)
    second_of = ap (λ (x : ℕ). x % 2 ^ t.width) read ∙ words_low t.width s j bytes (omega (arith, p.wide))

  -- and one word that is read by itself is that
  pub one_of : (j : ℕ) → word_read t.width s j ≡ word_at t.width s j
  one_of j = read_there t.width s j (omega (arith, p.narrow))

  -- whether none is given for word j says whether it is wrong
  pub judged_tells : (j : ℕ) → j < t.count → {word : ℕ} → word ≡ word_at t.width s j → is_none (judged_word t j word) ≡ is_wrong (layout_of t) s j
  judged_tells j h is = ap (λ (w : ℕ). is_none (judged_word t j w)) is ∙ p.judges j (word_at t.width s j) h (word_lt t.width s j)
