-- The image of a table, and what a buffer holds of it (docs/SCOPE.md, "The image").
-- Assumes nothing.
use Rattle.std.specs.Prelude.{ℕ, List}
use Rattle.format.specs.Format.{precision_of, table_bits, word_width, word_count}
use Rattle.format.specs.declared.Format.{Format}
use Rattle.layout.specs.Layout.{Layout, image_of, word_in}
use Rattle.nodes.specs.Nodes.{stored_in, decode_in}

-- the table of a format. Plain: 2^k words of 2k + a bits, that of node j being c(j) modulo 2^(2k+a). Full: 2^k + 1
-- words of 2k + a + 2 bits, that of node j being c(j)
abbrev pub table_of : Format → Layout
table_of F = record { count = word_count F; width = word_width F; word = stored_in F.form (precision_of F) (table_bits F) }

-- its image
abbrev pub image : Format → List ℕ
image F = image_of (table_of F)

-- the word that a buffer holds for node j
abbrev pub word_of : Format → List ℕ → ℕ → ℕ
word_of F s j = word_in (table_of F) s j

-- what that word stands for; node 2^k has none in plain words, and its value is implied
abbrev pub node_of : Format → List ℕ → ℕ → ℕ
node_of F s j = decode_in F.form (precision_of F) (table_bits F) j (word_of F s j)
