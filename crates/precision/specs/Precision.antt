-- The notion of a precision k (docs/SCOPE.md, "Quantities" and "The image").
-- Assumes nothing.
use Rattle.std.specs.Prelude.{ℕ, ◌+◌, ◌*◌, ◌^◌, Bool, ◌&&◌, List, [], ◌∷◌, map, leb}
use Rattle.packing.specs.Packing.{byte_count}

-- the least precision
abbrev pub least : ℕ
least = 1

-- the greatest precision
abbrev pub greatest : ℕ
greatest = 12

-- k is a precision
abbrev pub in_range : ℕ → Bool
in_range k = leb least k && leb k greatest

-- the bits of one plain word with a table guard bits: w = 2k + a
abbrev pub word_width : ℕ → ℕ → ℕ
word_width k a = 2 * k + a

-- the number of the last node
abbrev pub last_node : ℕ → ℕ
last_node k = 2 ^ k

-- the words of a plain image: one for each node below the last, which has none
abbrev pub word_count : ℕ → ℕ
word_count k = last_node k

-- the bytes of a plain image with two table guard bits, which its words fill: 2^k × (2k + 2) / 8 of them, by
-- `length_eighth` of the page `Construction`
abbrev pub image_length : ℕ → ℕ
image_length k = byte_count (word_width k 2) (word_count k)

-- the same at each precision, from the least to the greatest
abbrev pub image_lengths : List ℕ
image_lengths = map image_length (1 ∷ 2 ∷ 3 ∷ 4 ∷ 5 ∷ 6 ∷ 7 ∷ 8 ∷ 9 ∷ 10 ∷ 11 ∷ 12 ∷ [])

-- the bytes of the longest plain image with two table guard bits
abbrev pub longest_image : ℕ
longest_image = image_length greatest
