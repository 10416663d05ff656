-- `lines::put_refused` meets its contract: with room the title is written, and the number and a line feed behind it.
-- Assumes nothing.
use native.Mathlib.Omega.{arith}
use Rattle.decimal.proofs.Writing.{room_fits, puts_room, wrote_puts, wrote_then}
use Rattle.lines.proofs.put_refused.Goals as goal

pub returns-clause-written : goal.returns-clause-written
returns-clause-written c =
    let fits = room_fits c.args.text.now _ c.has_room.ensures c.if-not-has_room.false in
    let title = puts_room (omega (arith, fits)) c.put_text.ensures in
    let both = wrote_then (omega (arith, fits)) title (omega (arith, fits)) c.put.ensures.written in
    wrote_puts (omega (arith, fits)) both
