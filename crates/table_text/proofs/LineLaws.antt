-- The lines of a table from what the calls give: values and words in range, and one line after the other; which text an
-- input has.
-- Assumes nothing.
use mathlib.Core.Path.{◌≡◌, refl}
use mathlib.Core.Bool.{true, false}
use mathlib.Core.List.{List, [], ◌++◌, append_assoc, append-nil}
use Prim.Native.Nat.{ℕ, ◌+◌, ◌%◌, ◌^◌, ◌<◌}
use native.Mathlib.Numerals.{add-one}
use native.Mathlib.Omega.{arith}
use borrow.Author.Tests.{eq-eqb, ne_eqb}
use Rattle.precision.specs.Precision.{in_range, word_width}
use Rattle.nodes.specs.Nodes.{node}
use Rattle.lines.specs.Lines.{line_feed, space, field, refused_text}
use Rattle.table_text.specs.TableText.{line, lines, header, text_of, hyphen_text, precision_of, table_of, table_text}

-- no line yet, and one line more
pub lines_none : (k : ℕ) → lines k 0 ≡ []
unfolding lines
lines_none k = refl

pub lines_more : (k n : ℕ) → lines k (n + 1) ≡ lines k n ++ line k n
unfolding lines
lines_more k n = rw add-one

-- the first line and the lines of the first n nodes, none yet and one more; with node 2^k they are the table
pub table_none : (k : ℕ) → header k ++ lines k 0 ≡ header k
table_none k = rw lines_none (append-nil (header k))

pub table_more : (k n : ℕ) → header k ++ lines k n ++ line k n ≡ header k ++ lines k (n + 1)
table_more k n = rw lines_more (append_assoc (header k) (lines k n) (line k n))

pub text_in_range : (k : ℕ) → in_range k ≡ true → text_of k ≡ header k ++ lines k (2 ^ k + 1)
unfolding table_of
text_in_range k e = rw e

pub text_out_of_range : (k : ℕ) → in_range k ≡ false → text_of k ≡ refused_text 1
text_out_of_range k e = rw e

module _ (k j : ℕ) where
  -- the line of a node that has a word: the lowest bits of its value
  pub line_word : {c w : ℕ} → j < 2 ^ k → c ≡ node k 2 j → w ≡ c % 2 ^ word_width k 2
      → field j space ++ field c space ++ field w line_feed ≡ line k j
  unfolding line
  line_word {c} {w} h p q = rw (q, p, ne_eqb j (2 ^ k) (omega arith))

  -- the line of the last node
  pub line_last : {c : ℕ} → j ≡ 2 ^ k → c ≡ node k 2 j → field j space ++ field c space ++ hyphen_text ≡ line k j
  unfolding line
  line_last {c} h p = rw (p, eq-eqb j (2 ^ k) h)

-- the text of an input, by whether the precision that it requests is in range
pub text-refused : (s : List ℕ) → in_range (precision_of s) ≡ false → table_text s ≡ refused_text 1
unfolding table_text
text-refused s e = rw e

pub text_table : (s : List ℕ) → in_range (precision_of s) ≡ true → table_text s ≡ table_of (precision_of s)
unfolding table_text
text_table s e = rw e
