-- `packing::window_at_the_end` meets its contract: those that are there and zeros behind them, moved up past the bits
-- before and, of the last eight, past the bytes before. Assumes nothing.
use Rattle.std.proofs.Common.{ℕ, ◌+◌, ◌-◌, ◌*◌, ◌/◌, ◌%◌, ◌^◌, length, ap, ◌∙◌, arith}
use Rattle.packing.proofs.Fields.{window_near, window_last}
use Rattle.packing.proofs.window_at_the_end.Goals as goal

pub returns : goal.returns
returns c =
    let a = c.args in
    ap (λ (x : ℕ). (x * 2 ^ (8 * (8 - (length a.s.now - a.from / 8)) + a.from % 8)) % 2 ^ 64) c.gather.ensures
    ∙ window_near a.s.now a.from (omega (arith, c.if-s-first.false)) c.requires

pub returns-then-s-ge8 : goal.returns-then-s-ge8
returns-then-s-ge8 c =
    let a = c.args in
    ap (λ (x : ℕ). (x * 2 ^ (8 * (a.from / 8 - (length a.s.now - 8)) + a.from % 8)) % 2 ^ 64) c.eight.ensures
    ∙ window_last a.s.now a.from (omega (arith, c.if-s-first.false)) c.requires (omega (arith, c.if-s-ge8.true))
