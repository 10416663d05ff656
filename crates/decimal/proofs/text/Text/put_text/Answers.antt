-- `Text::put_text` meets its contract: a copy into as many bytes is the text written.
-- Assumes nothing.
use mathlib.Core.Path.{refl}
use native.Mathlib.Omega.{arith}
use Rattle.decimal.proofs.Writing.{room_fits, wrote_puts, copied_written}
use Rattle.decimal.proofs.text.Text.put_text.Goals as goal

pub returns : goal.returns
returns c =
    let s = c.args.self.now in
    let t = c.args.t.now in
    let fits = room_fits s _ c.has_room.ensures c.if-not-has_room.false in
    wrote_puts fits
    record {
      same = refl;
      place = refl;
      bytes = copied_written s.out.now s.at t (omega arith) c.copy_from_slice.ensures.after;
    }
