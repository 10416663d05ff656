-- What holds of every table whose words have their width, and of a buffer that holds words for it.
-- Assumes nothing.
use mathlib.Core.Path.{◌≡◌, sym, ◌∙◌, ap}
use mathlib.Core.Bool.{false, not}
use mathlib.Core.List.{List, [], ◌++◌, append-nil}
use Prim.Native.Nat.{ℕ, ◌+◌, ◌*◌, ◌^◌, ◌≤◌, ◌<◌}
use native.Mathlib.Omega.{arith}
use lib.Dec.{eqb, lit<}
use lib.ListN.{length, take, drop, length-take, length-drop, take-append-drop}
use borrow.Author.Tests.{eq-eqb, eqb-true, not-false}
use Rattle.bools.proofs.Bools.{clash}
use Rattle.bools.proofs.Lowest.{lowest_passes, lowest_before, lowest_none, lowest_agrees}
use Rattle.packing.specs.Packing.{first_byte, last_byte, span_bytes, bit_at, bit_of_word}
use Rattle.packing.proofs.Image.{length-packed_bytes, packed_word}
use Rattle.packing.proofs.Words.{word_within, word_take, span_within}
use Rattle.packing.proofs.Bits.{bit_of_packed}
use Rattle.layout.specs.Layout.{Layout, end_of, length_of, image_of, word_in, is_wrong, first_wrong, part_of}

-- every word has the width of a word
pub record Fits (t : Layout) : Type 0 where
  pub one : 1 ≤ t.width
  pub words : (j : ℕ) → j < t.count → t.word j < 2 ^ t.width

-- the words take whole bytes, so that no bits fill the last one
abbrev pub Whole : Layout → Type 0
Whole t = 8 * length_of t ≡ end_of t

-- a word is wrong, or it is the table's
module _ (t : Layout) (s : List ℕ) (j : ℕ) where
  pub not_wrong : is_wrong t s j ≡ false → word_in t s j ≡ t.word j
  not_wrong e = eqb-true (word_in t s j) (t.word j) (not-false (eqb (word_in t s j) (t.word j)) e)

  pub right_not_wrong : word_in t s j ≡ t.word j → is_wrong t s j ≡ false
  right_not_wrong e = ap not (eq-eqb (word_in t s j) (t.word j) e)

module _ (t : Layout) where
  -- the image has the image length
  pub image-length : length (image_of t) ≡ length_of t
  image-length = length-packed_bytes t.width t.word t.count

  -- a word ends before the image does
  pub word_inside : (j : ℕ) → j < t.count → j * t.width + t.width ≤ 8 * length_of t
  word_inside j h = omega (arith, word_within t.width t.count j h)

  -- where all words are right, the lowest wrong one is past the last; otherwise it is wrong, and those before it are
  -- right
  pub all_right : (s : List ℕ) → ((j : ℕ) → j < t.count → word_in t s j ≡ t.word j) → first_wrong t s ≡ t.count
  all_right s r = lowest_none (is_wrong t s) t.count (λ j h. right_not_wrong t s j (r j h))

  pub wrong_there : (s : List ℕ) → first_wrong t s < t.count → word_in t s (first_wrong t s) ≡ t.word (first_wrong t s) → ⊥
  wrong_there s h r = clash (lowest_passes (is_wrong t s) t.count h) (right_not_wrong t s (first_wrong t s) r)

  pub right_before : (s : List ℕ) (j : ℕ) → j < first_wrong t s → word_in t s j ≡ t.word j
  right_before s j h = not_wrong t s j (lowest_before (is_wrong t s) t.count j h)

  -- buffers whose words agree have the same lowest wrong word
  pub wrong_agrees : (s s' : List ℕ) → ((j : ℕ) → j < t.count → word_in t s j ≡ word_in t s' j) → first_wrong t s ≡ first_wrong t s'
  wrong_agrees s s' e = lowest_agrees (is_wrong t s) (is_wrong t s') t.count (λ j h. ap (λ (x : ℕ). not (eqb x (t.word j))) (e j h))

module _ (t : Layout) (fits : Fits t) where
  -- the words of the image are the table's, whatever follows it
  pub image_word : (j : ℕ) (u : List ℕ) → j < t.count → word_in t (image_of t ++ u) j ≡ t.word j
  image_word j u h = packed_word t.width t.word t.count j u fits.one fits.words h

  -- bit b of word j is bit j × w + b of the image
  pub image_bit : (j b : ℕ) → j < t.count → b < t.width → bit_at (image_of t) (j * t.width + b) ≡ bit_of_word t.width (t.word j) b
  image_bit j b h l =
      ap (λ (u : List ℕ). bit_at u (j * t.width + b)) (sym (append-nil (image_of t)))
      ∙ bit_of_packed t.width t.word t.count j b [] (λ i. lit< tt) fits.words h l

  -- a word is the same in the image's own bytes, the front of the buffer, and so is the lowest wrong one
  pub own_word : (s : List ℕ) (j : ℕ) → j < t.count → word_in t (take (length_of t) s) j ≡ word_in t s j
  own_word s j h = word_take t.width (length_of t) s j fits.one (word_inside t j h)

  pub own_wrong : (s : List ℕ) → first_wrong t (take (length_of t) s) ≡ first_wrong t s
  own_wrong s = wrong_agrees t (take (length_of t) s) s (own_word s)

  -- a buffer that starts with the image has its words
  pub front_right : (s : List ℕ) → take (length_of t) s ≡ image_of t → (j : ℕ) → j < t.count → word_in t s j ≡ t.word j
  front_right s e j h =
      ap (λ (u : List ℕ). word_in t u j) (sym (take-append-drop (length_of t) s) ∙ ap (λ (u : List ℕ). u ++ drop (length_of t) s) e)
      ∙ image_word j (drop (length_of t) s) h

  -- the bytes of a word lie within a buffer that is long enough, and are as many as hold it
  module _ (s : List ℕ) (j : ℕ) (h : j < t.count) (long : length_of t ≤ length s) where
    pub part_inside : last_byte t.width j < length s
    part_inside = omega (arith, span_within t.width t.count j fits.one h)

    pub part_length : length (part_of t s j) ≡ span_bytes t.width j
    part_length =
        length-take (span_bytes t.width j) (drop (first_byte t.width j) s)
        ∙ omega (arith, length-drop (first_byte t.width j) s, part_inside)
