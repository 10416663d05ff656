-- `Text::put` meets its contract: std's digits are the digits of the number, and twenty at most.
-- Assumes nothing.
use mathlib.Core.Path.{◌≡◌, ◌∙◌}
use native.Mathlib.Omega.{arith}
use Rattle.std.specs.Prelude.{decimal}
use Rattle.std.proofs.lemmas.Fmt.{length-decimal-le}
use Rattle.decimal.proofs.Writing.{room_fits, puts_room, wrote_puts}
use Rattle.decimal.proofs.text.Text.put.Goals as goal

pub returns-clause-written : goal.returns-clause-written
returns-clause-written c =
    let n = c.args.n in
    let t : c.as_bytes.result.now ≡ decimal n = c.as_bytes.ensures.value ∙ c.format-digits.ensures.text in
    let p = rw t at c.put_text.ensures in
    let fits = room_fits c.args.self.now _ c.has_room.ensures c.if-not-has_room.false in
    let most = length-decimal-le 20 n (omega arith) (omega arith) c.ranges.n.fits in
    wrote_puts (omega (arith, fits)) (puts_room (omega (arith, fits, most)) p)
