-- `table_text::print` meets its contract: no room, or the text of the input.
-- Assumes nothing.
use mathlib.Core.Path.{◌≡◌, refl, sym, ◌∙◌}
use mathlib.Core.List.{List}
use Prim.Native.Nat.{ℕ, ◌<◌, ◌≤◌}
use Rattle.std.proofs.Common.{rules}
use native.Mathlib.Omega.{arith}
use borrow.Author.Tests.{le-leb, lt-leb}
use lib.ListN.{length}
use Rattle.decimal.specs.Text.{written}
use Rattle.table_text.specs.TableText.{precision_of, text_of, table_text, longest_text, printed, printed_length}
use Rattle.table_text.proofs.print.Goals as goal

-- without room nothing is printed, and with room the text of the precision that is requested
module _ (input out : List ℕ) where
  nothing : length out < longest_text → (printed_length input out ≡ 0) × (printed input out ≡ out)
  unfolding printed printed_length
  nothing h = rw (lt-leb longest_text (length out) h) (refl, refl)

  text : {k : ℕ} → longest_text ≤ length out → k ≡ precision_of input
      → (printed_length input out ≡ length (text_of k)) × (printed input out ≡ written out 0 (text_of k))
  unfolding printed printed_length table_text
  text h e = rw (le-leb longest_text (length out) h, e) (refl, refl)

pub returns-then-out-lt-LONGEST_TEXT-clause-value : goal.returns-then-out-lt-LONGEST_TEXT-clause-value
returns-then-out-lt-LONGEST_TEXT-clause-value c = sym (nothing c.args.input.now c.args.out.now (omega arith)).0

pub returns-then-out-lt-LONGEST_TEXT-clause-out_after : goal.returns-then-out-lt-LONGEST_TEXT-clause-out_after
returns-then-out-lt-LONGEST_TEXT-clause-out_after c = sym (nothing c.args.input.now c.args.out.now (omega arith)).1

pub returns-clause-value : goal.returns-clause-value
returns-clause-value c =
    omega (arith, c.table.ensures.place, (text c.args.input.now c.args.out.now (omega arith) c.requested.ensures).0)

pub returns-clause-out_after : goal.returns-clause-out_after
returns-clause-out_after c =
    let e = c.table.ensures.bytes ∙ sym (text c.args.input.now c.args.out.now (omega arith) c.requested.ensures).1 in
    rw (← e) (search rules)
