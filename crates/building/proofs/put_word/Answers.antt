-- `building::put_word` meets its contract: the guess is settled, and the word has room, so that it is put and the place
-- grows by the width.
-- Assumes nothing.
use mathlib.Core.Path.{◌≡◌, ap, ◌∙◌}
use Prim.Native.Nat.{ℕ, ◌+◌, ◌-◌, ◌*◌, ◌%◌, ◌^◌, ◌≤◌}
use native.Mathlib.Nat.{mod-eq_of_lt, mul-le-mul, mul-le-mul_right}
use native.Mathlib.Omega.{arith}
use lib.ListN.{length}
use Rattle.packing.specs.Writing.{taken_in, put_writer, put_leaves}
use Rattle.packing.specs.declared.writing.Writer.{Writer}
use Rattle.packing.proofs.Written.{put_taken}
use Rattle.quotient.specs.Quotient.{rounded_up}
use Rattle.building.proofs.Filling.{more}
use Rattle.building.proofs.put_word.Goals as goal

pub returns : goal.returns
returns c =
    let a = c.args in
    let s = a.image.now in
    let t = a.table in
    let put = c.put in
    let ok = c.requires.can_fill.0 in
    let i = c.requires.can_fill.1 in
    let at = c.requires.place_before in
    let grows = more a.i t.first t.width i.from in
    let upto : a.i + 1 - t.first ≤ t.count = omega (arith, i.from, i.upto) in
    let few : a.i + 1 - t.first ≤ 2 ^ 32 = omega arith in
    let bits : t.numerator % 2 ^ 63 ≡ t.numerator = mod-eq_of_lt (omega (arith, ok.exact)) in
    let word = c.settled.ensures ∙ ap (λ (m : ℕ). rounded_up m a.i) bits in
    let room : a.w.place + t.width ≤ 8 * length s = omega (arith, at, grows, mul-le-mul_right t.width upto, ok.room) in
    let taken = put_taken s a.w t.width (rounded_up t.numerator a.i) ok.wide room in
    let after : put.result ≡ taken_in a.w t.width (rounded_up t.numerator a.i) = put.ensures.value ∙ ap (put_writer s a.w t.width) word ∙ taken.0 in
    record {
      writer = after;
      image_after = put.ensures.image_after ∙ ap (put_leaves s a.w t.width) word ∙ taken.1;
      place_after =
          ap (λ (r : Writer). r.place) after
          ∙ ap (λ (p : ℕ). (p + t.width) % 2 ^ 64) at
          ∙ mod-eq_of_lt (omega (arith, grows, mul-le-mul few ok.wide))
          ∙ grows;
    }
