-- The printed table (docs/SCOPE.md, "The printed table"), of two table guard bits.
-- Assumes nothing.
use Rattle.std.specs.Prelude.{ℕ, zero, suc, ◌+◌, ◌*◌, ◌^◌, Bool, cond, List, [], ◌∷◌, ◌++◌, leb, eqb, length, unwrap_or}
use Rattle.decimal.specs.Text.{written}
use Rattle.lines.specs.Lines.{line_feed, space, line_reading, field, refused_text}
use Rattle.precision.specs.Precision.{in_range, image_length}
use Rattle.nodes.specs.Nodes.{node, stored_word}

-- the precision that the input requests, in 1 to 9 digits, then one line feed and no more; other input counts as 0
unfoldable pub precision_of : List ℕ → ℕ
precision_of s = unwrap_or (line_reading s 9) 0

-- "-" and a line feed
abbrev pub hyphen_text : List ℕ
hyphen_text = 45 ∷ line_feed ∷ []

-- the last column of node j: its stored word, and a hyphen at node 2^k, whose word is not stored
abbrev pub word_field : ℕ → ℕ → List ℕ
word_field k j = cond (eqb j (2 ^ k)) hyphen_text (field (stored_word k 2 j) line_feed)

-- the line of node j: its number, its value and its word
unfoldable pub line : ℕ → ℕ → List ℕ
line k j = field j space ++ field (node k 2 j) space ++ word_field k j

-- the lines of the first n nodes
unfoldable pub lines : ℕ → ℕ → List ℕ
lines k zero = []
lines k (suc n) = lines k n ++ line k n

-- "precision "
abbrev pub precision_text : List ℕ
precision_text = 112 ∷ 114 ∷ 101 ∷ 99 ∷ 105 ∷ 115 ∷ 105 ∷ 111 ∷ 110 ∷ space ∷ []

-- "bytes "
abbrev pub bytes_text : List ℕ
bytes_text = 98 ∷ 121 ∷ 116 ∷ 101 ∷ 115 ∷ space ∷ []

-- the first line: the precision and the image length
unfoldable pub header : ℕ → List ℕ
header k = precision_text ++ field k space ++ (bytes_text ++ field (image_length k) line_feed)

-- the table of k: its first line and the lines of nodes 0 to 2^k
unfoldable pub table_of : ℕ → List ℕ
table_of k = header k ++ lines k (2 ^ k + 1)

-- the table of k, and the refusal where k is no precision
abbrev pub text_of : ℕ → List ℕ
text_of k = cond (in_range k) (table_of k) (refused_text 1)

-- what is printed for an input: the table of the precision that it requests, and the refusal where that is out of range
unfoldable pub table_text : List ℕ → List ℕ
table_text s = text_of (precision_of s)

-- the room that is asked for before a text is written: 32 bytes for each of 4098 lines
abbrev pub longest_text : ℕ
longest_text = 4098 * 32

-- a buffer has room for every text
abbrev pub has_text_room : List ℕ → Bool
has_text_room s = leb longest_text (length s)

-- a buffer s after printing: the text at its front, and every byte as found where there is no room
unfoldable pub printed : List ℕ → List ℕ → List ℕ
printed input s = cond (has_text_room s) (written s 0 (table_text input)) s

-- how many bytes were written at its front
unfoldable pub printed_length : List ℕ → List ℕ → ℕ
printed_length input s = cond (has_text_room s) (length (table_text input)) 0
