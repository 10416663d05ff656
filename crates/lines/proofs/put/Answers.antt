-- `lines::put` meets its contract: with room the digits are written, and the byte behind them.
-- Assumes nothing.
use native.Mathlib.Omega.{arith}
use Rattle.std.proofs.lemmas.Fmt.{length-decimal-le}
use Rattle.decimal.proofs.Writing.{room_fits, puts_room, wrote_puts, wrote_then}
use Rattle.lines.specs.Lines.{field}
use Rattle.lines.proofs.put.Goals as goal

pub returns-clause-written : goal.returns-clause-written
unfolding field
returns-clause-written c =
    let fits = room_fits c.args.text.now _ c.has_room.ensures c.if-not-has_room.false in
    let most = length-decimal-le 20 c.args.n (omega arith) (omega arith) c.ranges.n.fits in
    let digits = puts_room (omega (arith, fits)) c.put.ensures.written in
    let both = wrote_then (omega (arith, fits, most)) digits (omega (arith, fits, most)) c.put_text.ensures in
    wrote_puts (omega (arith, fits)) both
