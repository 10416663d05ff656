-- `table_text::table` meets its contract: the refusal, or the first line and, turn by turn, the line of one node more.
-- Assumes nothing.
use mathlib.Core.Path.{◌≡◌, sym, ◌∙◌}
use mathlib.Core.Bool.{true}
use mathlib.Core.List.{◌++◌}
use Prim.Native.Nat.{ℕ, ◌+◌, ◌^◌, ◌≤◌}
use native.Mathlib.Omega.{arith}
use lib.ListN.{length}
use Rattle.std.proofs.Common.{if◌then◌else◌, Some, None}
use Rattle.decimal.proofs.Writing.{puts_room, room_left, wrote_more}
use Rattle.bools.proofs.Bools.{given, not_given}
use Rattle.precision.specs.Precision.{in_range, image_length, word_count}
use Rattle.table_text.specs.TableText.{header, lines, longest_text}
use Rattle.table_text.proofs.Sizes.{table_before}
use Rattle.table_text.proofs.LineLaws.{table_none, table_more, text_in_range, text_out_of_range}
use Rattle.table_text.proofs.table.Goals as goal

-- what is known in a turn: k is a precision, the last node is 2^k, and behind what stands there is room for a line
in_a_turn : (k j : ℕ) {bytes last : ℕ} → Some bytes ≡ (if in_range k then Some (image_length k) else None)
    → Some last ≡ (if in_range k then Some (word_count k) else None) → j ≤ last
    → (in_range k ≡ true) × (last ≡ 2 ^ k) × (length (header k ++ lines k j) + 63 ≤ longest_text)
in_a_turn k j {bytes} {last} p q h =
    let e : in_range k ≡ true = (given (in_range k) (image_length k) bytes p).0 in
    let count : last ≡ 2 ^ k = (given (in_range k) (word_count k) last q).1 in
    (e, count, table_before k j e (omega arith))

pub returns-in_default : goal.returns-in_default
returns-in_default c =
    let fits = c.requires in
    let e = not_given (in_range c.args.k.0) _ (sym c.in_default.is ∙ c.image_length.ensures.value) in
    rw (text_out_of_range c.args.k.0 e) (puts_room (omega arith) c.put_refused.ensures.written)

pub loop-j-init : goal.loop-j-init
unfolding header
loop-j-init c =
    let k = c.args.k.0 in
    let is = sym c.in-Some.is ∙ c.image_length.ensures.value in
    let same : c.in-Some.bytes ≡ image_length k = (given (in_range k) _ _ is).1 in
    rw (table_none k) (rw same at c.header.ensures)

pub line-requires : goal.line-requires
line-requires c =
    let l = c.loop-j in
    let fits = c.requires in
    let is = sym c.in-Some.is ∙ c.image_length.ensures.value in
    let t = in_a_turn c.args.k.0 l.j is (sym c.unwrap-j-end.ensures ∙ c.word_count.ensures) (omega arith) in
    (t.0, omega arith, room_left (omega arith) l.invariant 63 (omega arith))

pub loop-j-preserved : goal.loop-j-preserved
loop-j-preserved c =
    let k = c.args.k.0 in
    let l = c.loop-j in
    let fits = c.requires in
    let is = sym c.in-Some.is ∙ c.image_length.ensures.value in
    let t = in_a_turn k l.j is (sym c.unwrap-j-end.ensures ∙ c.word_count.ensures) (omega arith) in
    rw (table_more k l.j) at (wrote_more (omega arith) l.invariant c.line.ensures)

pub returns-in-Some-2 : goal.returns-in-Some-2
returns-in-Some-2 c =
    let k = c.args.k.0 in
    let l = c.loop-j in
    let fits = c.requires in
    let is = sym c.in-Some.is ∙ c.image_length.ensures.value in
    let t = in_a_turn k l.j is (sym c.unwrap-j-end.ensures ∙ c.word_count.ensures) (omega arith) in
    let last : l.j ≡ 2 ^ k = omega arith in
    rw (text_in_range k t.0, ← last) (rw (table_more k l.j) at (wrote_more (omega arith) l.invariant c.line.ensures))
