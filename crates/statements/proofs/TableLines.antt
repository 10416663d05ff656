-- Each line of the printed table ends in a line feed and has no other.
-- Assumes nothing.
use mathlib.Core.Path.{refl}
use mathlib.Core.Bool.{Bool, true, false, cond}
use mathlib.Core.List.{[], ◌∷◌, ◌++◌}
use Prim.Native.Nat.{ℕ, ◌^◌}
use lib.Dec.{eqb}
use Rattle.lines.specs.Lines.{line_feed, space, field}
use Rattle.lines.proofs.WholeLines.{IsLine, none_in_both, none_in_literal, none_in_field, line_field, line_after}
use Rattle.precision.specs.Precision.{image_length}
use Rattle.nodes.specs.Nodes.{node, stored_word}
use Rattle.table_text.specs.TableText.{hyphen_text, word_field, line, precision_text, bytes_text, header}

line_word : (k j : ℕ) → IsLine (word_field k j)
line_word k j = go (eqb j (2 ^ k))
  where
    go : (b : Bool) → IsLine (cond b hyphen_text (field (stored_word k 2 j) line_feed))
    go true = (45 ∷ [], refl, none_in_literal (45 ∷ []) refl)
    go false = line_field (stored_word k 2 j)

pub line_of_node : (k j : ℕ) → IsLine (line k j)
unfolding line
line_of_node k j =
    line_after (field j space ++ field (node k 2 j) space) (word_field k j)
    (none_in_both (field j space) (field (node k 2 j) space) (none_in_field j) (none_in_field (node k 2 j)))
    (line_word k j)

pub line_of_header : (k : ℕ) → IsLine (header k)
unfolding header
line_of_header k =
    line_after (precision_text ++ field k space) (bytes_text ++ field (image_length k) line_feed)
    (none_in_both precision_text (field k space) (none_in_literal precision_text refl) (none_in_field k))
    (line_after bytes_text (field (image_length k) line_feed) (none_in_literal bytes_text refl) (line_field (image_length k)))
