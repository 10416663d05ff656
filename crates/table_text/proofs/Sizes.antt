-- How long the pieces of the printed table are, for every precision, and that every text fits its room.
-- Assumes nothing.
use mathlib.Core.Path.{◌≡◌, refl}
use mathlib.Core.Bool.{Bool, true, false, cond}
use mathlib.Core.List.{List, ◌++◌}
use Prim.Native.Nat.{ℕ, zero, suc, ◌+◌, ◌*◌, ◌^◌, ◌≤◌, ◌<◌}
use native.Mathlib.Nat.{mul-le-mul, mod-lt, mul-one}
use native.Mathlib.Omega.{arith}
use borrow.Author.Tests.{leb-true}
use lib.Dec.{leb, eqb}
use lib.ListN.{length, length-append}
use lib.Pow.{pow_pos, pow_mono}
use Rattle.lines.specs.Lines.{line_feed, space, field, refused_text}
use Rattle.lines.proofs.Sizes.{field_most, field_below, refused_most}
use Rattle.precision.specs.Precision.{in_range, word_width, image_length}
use Rattle.precision.proofs.Range.{in-range}
use Rattle.quotient.specs.Quotient.{rounded_up}
use Rattle.quotient.proofs.Laws.{exact, antitone}
use Rattle.nodes.specs.Nodes.{node, stored_word}
use Rattle.table_text.specs.TableText.{word_field, line, lines, header, table_of, table_text, precision_of, longest_text, printed_length, hyphen_text}

-- the table of a precision has at most 4096 words
pub count_most : (k : ℕ) → in_range k ≡ true → 2 ^ k ≤ 4096
count_most k e = pow_mono {i = k} {j = 12} (in-range k e).1

pub columns_most : (j c : ℕ) → j < 2 ^ 64 → c < 2 ^ 64 → length (field j space ++ field c space) ≤ 42
columns_most j c p q = rw length-append (omega (arith, field_most j space p, field_most c space q))

-- a node's value is at most what is divided for it
pub node_below : (k j : ℕ) → in_range k ≡ true → node k 2 j < 10 ^ 12
node_below k j e =
    let top : 2 ^ (3 * k + 3) ≤ 2 ^ 39 = pow_mono {i = 3 * k + 3} {j = 39} (omega (arith, (in-range k e).1)) in
    let n : ℕ = 2 ^ (3 * k + 3) in
    let one : rounded_up n 1 ≡ n = rw mul-one at (exact n 1 (omega arith)) in
    omega (arith, top, one, antitone n {i = 1} {i' = 2 ^ k + j} (omega arith) (omega (arith, pow_pos k)))

word_below : (k j : ℕ) → in_range k ≡ true → stored_word k 2 j < 10 ^ 8
word_below k j e =
    let w : ℕ = word_width k 2 in
    omega (arith, mod-lt (node k 2 j) (pow_pos w), pow_mono {i = w} {j = 26} (omega (arith, (in-range k e).1)))

word_most : (k j : ℕ) → in_range k ≡ true → length (word_field k j) ≤ 9
word_most k j e = go (eqb j (2 ^ k))
  where
    go : (x : Bool) → length (cond x hyphen_text (field (stored_word k 2 j) line_feed)) ≤ 9
    go true = omega arith
    go false =
        let below = word_below k j e in
        field_below 8 (stored_word k 2 j) line_feed (omega arith) below (omega (arith, below))

-- the line of a node has at most 27 bytes
pub line_most : (k j : ℕ) → in_range k ≡ true → j ≤ 2 ^ k → length (line k j) ≤ 27
unfolding line
line_most k j e h =
    rw (length-append, length-append)
    (omega (
      arith,
      field_below 4 j space (omega arith) (omega (arith, count_most k e)) (omega (arith, count_most k e)),
      field_below 12 (node k 2 j) space (omega arith) (node_below k j e) (omega (arith, node_below k j e)),
      word_most k j e,
    ))

-- and the lines of n nodes 27 for each
pub lines_most : (k n : ℕ) → in_range k ≡ true → n ≤ 2 ^ k + 1 → length (lines k n) ≤ 27 * n
unfolding lines
lines_most k zero e h = omega arith
lines_most k (suc n) e h =
    rw length-append (omega (arith, lines_most k n e (omega arith), line_most k n e (omega arith)))

-- the first line has at most 32 bytes
pub header_most : (k : ℕ) → in_range k ≡ true → length (header k) ≤ 32
unfolding header
header_most k e =
    let r = in-range k e in
    let bytes : image_length k < 10 ^ 5 = omega (arith, mul-le-mul (count_most k e) (wide r)) in
    let first = field_below 2 k space (omega arith) (omega (arith, r.1)) (omega (arith, r.1)) in
    let second = field_below 5 (image_length k) line_feed (omega arith) bytes (omega (arith, bytes)) in
    simp length-append (omega (arith, first, second))
  where
    wide : (1 ≤ k) × (k ≤ 12) → word_width k 2 ≤ 26
    wide r = omega (arith, r.1)

-- before the line of any node there is room for 63 bytes more
pub table_before : (k j : ℕ) → in_range k ≡ true → j ≤ 2 ^ k → length (header k ++ lines k j) + 63 ≤ longest_text
table_before k j e h = rw length-append (omega (arith, header_most k e, count_most k e, lines_most k j e (omega arith)))

-- every text fits the room that is asked for
pub text_fits : (s : List ℕ) → length (table_text s) ≤ longest_text
unfolding table_text table_of
text_fits s = go (in_range (precision_of s)) refl
  where
    go : (x : Bool) → in_range (precision_of s) ≡ x
        → length (cond x (table_of (precision_of s)) (refused_text 1)) ≤ longest_text
    go true e =
        let k = precision_of s in
        rw length-append (omega (arith, header_most k e, count_most k e, lines_most k (2 ^ k + 1) e (omega arith)))
    go false e = omega (arith, refused_most 1 (omega arith))

-- so what is printed lies within the buffer
pub printed_within : (input s : List ℕ) {r : ℕ} → r ≡ printed_length input s → r ≤ length s
unfolding printed_length
printed_within input s p = omega (arith, p, go (leb longest_text (length s)) refl)
  where
    go : (x : Bool) → leb longest_text (length s) ≡ x → cond x (length (table_text input)) 0 ≤ length s
    go true e = omega (arith, text_fits input, leb-true longest_text (length s) e)
    go false e = omega arith
