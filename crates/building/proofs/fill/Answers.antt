-- `building::fill` meets its contract: each word has room and is put behind those before it, and the guesses are asked
-- for with doubles that are no NaN.
-- Assumes nothing.
use mathlib.Core.Path.{◌≡◌, ap, ◌∙◌}
use Prim.Native.Nat.{ℕ, ◌-◌, ◌*◌}
use native.Mathlib.Omega.{arith}
use lib.Ieee.{binary64, of_bits}
use Rattle.packing.specs.Writing.{writer_before, bytes_before}
use Rattle.image.specs.Inner.{quotients}
use Rattle.building.proofs.Filling.{filled_none, filled_more, filled_place, filled_can}
use Rattle.building.proofs.Floats.{add_number, whole_number, whole_positive}
use Rattle.building.proofs.fill.Goals as goal

pub loop-i-init : goal.loop-i-init
loop-i-init c =
    let a = c.args in
    (filled_none a.table a.image.now c.start-w.result c.start-w.ensures, whole_number a.table.first)

pub guess-requires : goal.guess-requires
guess-requires c =
    (whole_positive c.args.table.numerator c.requires.above c.requires.exact, c.loop-i.invariant.1)

pub put_word-w-requires : goal.put_word-w-requires
put_word-w-requires c =
    let a = c.args in
    let l = c.loop-i in
    let h = l.invariant.0 in
    record {
      can_fill = (filled_can a.table a.image.now l.image l.w l.i h c.requires, record { from = h.from; upto = omega (arith, c.loop-i-test.true) });
      place_before = filled_place a.table a.image.now l.image l.w l.i h c.requires;
    }

pub loop-i-preserved : goal.loop-i-preserved
unfolding of_bits
loop-i-preserved c =
    let a = c.args in
    let put = c.put_word-w in
    let l = c.loop-i in (
      filled_more a.table a.image.now l.image l.w l.i l.invariant.0 put.new.image put.result (omega (arith, c.loop-i-test.true))
          put.ensures.writer put.ensures.image_after,
      add_number binary64 l.divisor _ l.invariant.1 tt,
    )

pub returns : goal.returns
returns c =
    let a = c.args in
    let t = a.table in
    let l = c.loop-i in
    let h = l.invariant.0 in
    let all : l.i - t.first ≡ t.count = omega (arith, h.from, h.upto, c.loop-i-test.false) in
    record {
      writer = h.writer ∙ ap (writer_before t.width (quotients t)) all;
      bytes = h.bytes ∙ ap (bytes_before t.width (quotients t) a.image.now) all;
      place_after = filled_place t a.image.now l.image l.w l.i h c.requires ∙ ap (λ (n : ℕ). n * t.width) all;
    }
