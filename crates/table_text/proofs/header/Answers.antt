-- `table_text::header` meets its contract: two titles, each with its number.
-- Assumes nothing.
use native.Mathlib.Omega.{arith}
use lib.ListN.{length-append}
use Rattle.decimal.proofs.Writing.{puts_room, room_left, wrote_more, wrote_then}
use Rattle.lines.specs.Lines.{space, field}
use Rattle.lines.proofs.Sizes.{field_most}
use Rattle.precision.proofs.Range.{in-range}
use Rattle.table_text.specs.TableText.{precision_text}
use Rattle.table_text.proofs.header.Goals as goal

pub returns : goal.returns
returns c =
    let fits = c.requires.1 in
    let most = field_most c.args.k.0 space (omega (arith, in-range c.args.k.0 c.requires.0)) in
    let both = length-append precision_text (field c.args.k.0 space) in
    let title = puts_room (omega arith) c.put_text.ensures in
    let first = wrote_then (omega arith) title (omega arith) c.put.ensures.written in
    let after = room_left (omega arith) first 27 (omega arith) in
    let title-2 = puts_room (omega arith) c.put_text-2.ensures in
    wrote_more (omega arith) first (wrote_then (omega arith) title-2 (omega arith) c.put-2.ensures.written)
