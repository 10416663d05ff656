-- Printed: what the program prints for an input.
--
-- docs/SCOPE.md, "The printed table", has the rules.
-- `table_text` is the definition by which `table_text::print` and `table_text::run` promise their text, and digits are
-- bytes.
-- The text for precision 2 stands in full in specs/Examples.antt.
-- Each clause names the theorems that settle it, which stand on this page.
--
-- 1. Input that is 1 to 9 decimal digits, leading zeros among them, and one line feed asks for the precision that they
--    stand for: digits_request, number_requests.
--    All other input counts as precision 0: request_digits.
-- 2. A precision gets its table, that with two table guard bits: prints_table.
--    That is the first line and the lines of nodes 0 to 2^k.
--    Any other number, and input that is not such a line, gets `refused 1`: prints_refusal, other_input.
--    Numbers are printed in decimal: printed_digits.
-- 3. Each line ends in a line feed: node_line, first_line, refusal_line.
-- 4. The program reads enough of its input, and its buffer is long enough: prefix_settles, text_has_room.
use mathlib.Core.Path.{◌≡◌}
use mathlib.Core.Bool.{true}
use mathlib.Core.List.{List, [], ◌∷◌, ◌++◌, Memᴰ}
use Prim.Native.Nat.{ℕ, ◌+◌, ◌^◌, ◌≤◌, ◌<◌}
use lib.ListN.{length, take}
use Rattle.std.specs.Prelude.{decimal}
use Rattle.decimal.specs.Decimal.{is_digits, decimal_value}
use Rattle.decimal.proofs.Laws.{decimal_digits, value-decimal}
use Rattle.precision.proofs.Range.{range_in}
use Rattle.lines.specs.Lines.{line_feed, refused_text}
use Rattle.lines.proofs.WholeLines.{line_refused}
use Rattle.table_text.specs.TableText.{precision_of, line, lines, header, table_text, longest_text}
use Rattle.table_text.proofs.Sizes.{text_fits}
use Rattle.statements.specs.Terms.{IsPrecision}
use Rattle.statements.proofs.Requested
use Rattle.statements.proofs.TableLines

-- 1 to 9 digits and a line feed request the number that the digits stand for
pub digits_request : (d : List ℕ) → is_digits d ≡ true → length d ≤ 9 → precision_of (d ++ line_feed ∷ []) ≡ decimal_value d
digits_request = Requested.request_of_digits

-- a number below 10^9 in decimal requests that number
pub number_requests : (n : ℕ) → n < 10 ^ 9 → precision_of (decimal n ++ line_feed ∷ []) ≡ n
number_requests = Requested.request_of_number

-- input that does not count as precision 0 is 1 to 9 digits and a line feed, and counts as the number that the digits
-- stand for
pub request_digits : (s : List ℕ) → (precision_of s ≡ 0 → ⊥) → (d : List ℕ) × (is_digits d ≡ true) × (length d ≤ 9) × (s ≡ d ++ line_feed ∷ []) × (precision_of s ≡ decimal_value d)
request_digits = Requested.request_is_digits

-- digits that stand for a precision get the first line and then the lines of nodes 0 to 2^k
pub prints_table : (d : List ℕ) → is_digits d ≡ true → length d ≤ 9 → IsPrecision (decimal_value d)
    → table_text (d ++ line_feed ∷ []) ≡ header (decimal_value d) ++ lines (decimal_value d) (2 ^ decimal_value d + 1)
prints_table d e l p =
    let asks = digits_request d e l in
    rw asks at (Requested.text_in_range (d ++ line_feed ∷ []) (rw asks (range_in (decimal_value d) p.0 p.1)))

-- and digits that stand for another number are refused
pub prints_refusal : (d : List ℕ) → is_digits d ≡ true → length d ≤ 9 → (IsPrecision (decimal_value d) → ⊥) → table_text (d ++ line_feed ∷ []) ≡ refused_text 1
prints_refusal d e l f = Requested.text_out_of_range (d ++ line_feed ∷ []) (rw (digits_request d e l) f)

-- so is input that is not 1 to 9 digits and a line feed
pub other_input : (s : List ℕ) → ((d : List ℕ) → is_digits d ≡ true → length d ≤ 9 → s ≡ d ++ line_feed ∷ [] → ⊥) → table_text s ≡ refused_text 1
other_input = Requested.text_of_other

-- the digits that are printed for a number stand for it
pub printed_digits : (n : ℕ) → n < 10 ^ 20 → (is_digits (decimal n) ≡ true) × (decimal_value (decimal n) ≡ n)
printed_digits n h = (decimal_digits n, value-decimal n h)

-- each printed line ends in a line feed and has no other: the line of a node, the first line, the refusal
pub node_line : (k j : ℕ) → (t : List ℕ) × (line k j ≡ t ++ line_feed ∷ []) × (Memᴰ line_feed t → ⊥)
node_line = TableLines.line_of_node

pub first_line : (k : ℕ) → (t : List ℕ) × (header k ≡ t ++ line_feed ∷ []) × (Memᴰ line_feed t → ⊥)
first_line = TableLines.line_of_header

pub refusal_line : (t : List ℕ) × (refused_text 1 ≡ t ++ line_feed ∷ []) × (Memᴰ line_feed t → ⊥)
refusal_line = line_refused 1

-- eleven bytes settle what is printed, so input longer than any buffer needs no more
pub prefix_settles : (n : ℕ) (s : List ℕ) → 11 ≤ n → table_text (take n s) ≡ table_text s
prefix_settles = Requested.text_of_prefix

-- every text fits the buffer that is asked for
pub text_has_room : (s : List ℕ) → length (table_text s) ≤ longest_text
text_has_room = text_fits
