-- What an input requests, and the text that it is answered with.
-- Assumes nothing.
use mathlib.Core.Path.{◌≡◌, refl, sym, ◌∙◌, ap}
use mathlib.Core.Bool.{true}
use mathlib.Core.List.{List, [], ◌∷◌, ◌++◌}
use Prim.Native.Nat.{ℕ, ◌+◌, ◌^◌, ◌≤◌, ◌<◌}
use native.Mathlib.Nat.{pow-le-pow_right}
use native.Mathlib.Omega.{arith}
use lib.ListN.{length, take}
use Rattle.std.specs.Prelude.{Option, Some, None, decimal}
use Rattle.std.proofs.lemmas.Fmt.{length-decimal-le}
use Rattle.precision.specs.Precision.{in_range}
use Rattle.decimal.specs.Decimal.{is_digits, decimal_value}
use Rattle.decimal.proofs.Laws.{decimal_digits, value-decimal, is_all, value_below}
use Rattle.lines.specs.Lines.{line_feed, line_reading, refused_text}
use Rattle.lines.proofs.ReadLines.{digits_read, read_digits}
use Rattle.table_text.specs.TableText.{precision_of, lines, header, table_of, text_of, table_text}
use Rattle.table_text.proofs.Requests.{request_found, request_prefix}
use Rattle.table_text.proofs.LineLaws.{text-refused, text_table}
use Rattle.statements.specs.Terms.{IsPrecision}
use Rattle.statements.proofs.Iff.{failed, no_precision}

-- the text, by whether the precision is one
pub text_in_range : (s : List ℕ) → in_range (precision_of s) ≡ true → table_text s ≡ header (precision_of s) ++ lines (precision_of s) (2 ^ precision_of s + 1)
unfolding table_of
text_in_range s e = text_table s e

pub text_out_of_range : (s : List ℕ) → (IsPrecision (precision_of s) → ⊥) → table_text s ≡ refused_text 1
text_out_of_range s f = text-refused s (failed (in_range (precision_of s)) ((no_precision (precision_of s)).1 f))

-- digits and a line feed are a request
pub request_of_digits : (d : List ℕ) → is_digits d ≡ true → length d ≤ 9 → precision_of (d ++ line_feed ∷ []) ≡ decimal_value d
request_of_digits d e h =
    let small : decimal_value d < 2 ^ 64 = omega (arith, value_below d (is_all d e), pow-le-pow_right {n = 10} (omega arith) h) in
    request_found (d ++ line_feed ∷ []) (digits_read 9 d e h small)

pub request_of_number : (n : ℕ) → n < 10 ^ 9 → precision_of (decimal n ++ line_feed ∷ []) ≡ n
request_of_number n h =
    request_of_digits (decimal n) (decimal_digits n) (length-decimal-le 9 n (omega arith) h (omega arith)) ∙ value-decimal n (omega arith)

-- and nothing else is one: what counts as another precision than 0 is a request for it
pub request_is_digits : (s : List ℕ) → (precision_of s ≡ 0 → ⊥) → (d : List ℕ) × (is_digits d ≡ true) × (length d ≤ 9) × (s ≡ d ++ line_feed ∷ []) × (precision_of s ≡ decimal_value d)
request_is_digits s f = go (line_reading s 9) refl
  where
    go : (r : Option ℕ) → line_reading s 9 ≡ r → (d : List ℕ) × (is_digits d ≡ true) × (length d ≤ 9) × (s ≡ d ++ line_feed ∷ []) × (precision_of s ≡ decimal_value d)
    go (Some v) e =
        let n = read_digits s 9 v e in
        (n.0, n.1, n.2, n.3, request_found s e ∙ sym n.4)
    go None e = absurd (f (request_found s e))

-- so any other input is refused
pub text_of_other : (s : List ℕ) → ((d : List ℕ) → is_digits d ≡ true → length d ≤ 9 → s ≡ d ++ line_feed ∷ [] → ⊥) → table_text s ≡ refused_text 1
text_of_other s f = go (line_reading s 9) refl
  where
    go : (r : Option ℕ) → line_reading s 9 ≡ r → table_text s ≡ refused_text 1
    go (Some v) e = let n = read_digits s 9 v e in absurd (f n.0 n.1 n.2 n.3)
    go None e = text-refused s (ap in_range (request_found s e))

pub text_of_prefix : (n : ℕ) (s : List ℕ) → 11 ≤ n → table_text (take n s) ≡ table_text s
unfolding table_text
text_of_prefix n s h = ap text_of (request_prefix n s h)
