-- What a run writes: the front that was read settles the text of the whole input, and the text stands at the front of
-- the buffer.
-- Assumes nothing.
use mathlib.Core.Path.{◌≡◌, refl, ap, ◌∙◌, subst}
use mathlib.Core.List.{List}
use Prim.Native.Nat.{ℕ, ◌≤◌}
use borrow.Author.Tests.{le-leb}
use lib.ListN.{length, take}
use lib.Seq.{take_at}
use Rattle.std.specs.Prelude.{Option, Some, None, IfSome, Result, Ok, Err, OnOk}
use Rattle.std.specs.Io.KnownBytes.{Keeps}
use Rattle.std.proofs.KnownBytes.{Appends-kept}
use Rattle.decimal.specs.Text.{written}
use Rattle.streams.specs.Streams.{AppendsFront}
use Rattle.table_text.specs.TableText.{precision_of, text_of, table_text, longest_text, printed, printed_length}
use Rattle.table_text.proofs.Requests.{request_prefix}

-- what holds of t, the text of eleven bytes or more that were read, holds of the text of all that the reader held
module _ (P : List ℕ → Type 0) (got t : List ℕ) (n : ℕ) (enough : 11 ≤ n) (is : t ≡ table_text got) (p : P t) where
  pub settled : (held : Option (List ℕ)) → IfSome held (λ xs. got ≡ take n xs) → IfSome held (λ xs. P (table_text xs))
  unfolding table_text
  settled None h = tt
  settled (Some xs) h = subst P (is ∙ ap text_of (ap precision_of h ∙ request_prefix n xs enough)) p

-- with room, as many bytes as are printed are the text
module _ (input out : List ℕ) (room : longest_text ≤ length out) where
  pub printed_front : {n : ℕ} {s : List ℕ} → n ≡ printed_length input out → s ≡ printed input out
      → take n s ≡ table_text input
  unfolding printed printed_length written
  printed_front p q =
      rw (p, q, le-leb longest_text (length out) room) (take_at (table_text input) _ (length (table_text input)) refl)

-- a flush keeps what was written
pub front_kept : (a b c : Option (List ℕ)) (text : List ℕ) → AppendsFront a b text → Keeps b c → AppendsFront a c text
front_kept a b c text p q = (p.0, Appends-kept a b c _ p.1 q)

-- what holds anyway holds at Ok
pub on_ok : {T E : Type 0} (r : Result T E) {P : Type 0} → P → OnOk r P
on_ok (Ok x) p = p
on_ok (Err e) p = tt
