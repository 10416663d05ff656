-- A table of words, and what a buffer holds of it (docs/SCOPE.md, "The image").
-- Assumes nothing.
use Rattle.std.specs.Prelude.{ℕ, ◌-◌, ◌*◌, Bool, not, List, ◌++◌, eqb, take, drop}
use Rattle.bools.specs.Lowest.{lowest}
use Rattle.packing.specs.Packing.{byte_count, packed_bytes, word_at, first_byte, span_bytes}
use Rattle.tail.specs.Tail.{first_one_from, zeros}

-- a table: how many words it has, how many bits each of them has, and the word at j
pub record Layout : Type 0 where
  pub count : ℕ
  pub width : ℕ
  pub word : ℕ → ℕ

-- where its words end, in bits: they stand one after the other, with no padding
abbrev pub end_of : Layout → ℕ
end_of t = t.count * t.width

-- the bytes of its image
abbrev pub length_of : Layout → ℕ
length_of t = byte_count t.width t.count

-- its image: the words, packed, and zero bits to the end of the last byte
abbrev pub image_of : Layout → List ℕ
image_of t = packed_bytes t.width t.word t.count

-- its full ROM of n bytes, which are as many as the image has or more: the image, and zero bytes to the end
abbrev pub rom_of : Layout → ℕ → List ℕ
rom_of t n = image_of t ++ zeros (n - length_of t)

-- the word that a buffer holds at j
abbrev pub word_in : Layout → List ℕ → ℕ → ℕ
word_in t s j = word_at t.width s j

-- that word is not the table's
abbrev pub is_wrong : Layout → List ℕ → ℕ → Bool
is_wrong t s j = not (eqb (word_in t s j) (t.word j))

-- the lowest j whose word is wrong, and the number of words where none is
abbrev pub first_wrong : Layout → List ℕ → ℕ
first_wrong t s = lowest (is_wrong t s) t.count

-- the lowest byte of a buffer that has a one behind the last word, and the number of its bytes where none has
abbrev pub first_past : Layout → List ℕ → ℕ
first_past t s = first_one_from (end_of t) s

-- the part of a buffer that holds the word at j
abbrev pub part_of : Layout → List ℕ → ℕ → List ℕ
part_of t s j = take (span_bytes t.width j) (drop (first_byte t.width j) s)
