-- `checking::passed` meets its contract: two words are read at once, and both are right where neither is told to be
-- wrong.
-- Assumes nothing.
use mathlib.Core.Path.{◌≡◌, refl, sym, ap, ◌∙◌}
use mathlib.Core.Bool.{Bool, true, false, ◌||◌}
use mathlib.Core.List.{List}
use Prim.Native.Nat.{ℕ, max, ◌+◌, ◌-◌, ◌*◌, ◌/◌, ◌%◌, ◌^◌, ◌≤◌, ◌<◌}
use native.Mathlib.Nat.{mul-le-mul_right}
use native.Mathlib.Omega.{arith}
use borrow.Author.Count.{below_more}
use Rattle.std.proofs.Common.{length}
use Rattle.std.specs.Option.{is_none}
use Rattle.nodes.specs.Inner.{judged_word}
use Rattle.nodes.specs.declared.Quotients.{Quotients}
use Rattle.packing.specs.Packing.{Bytes, field_at, word_at, byte_count}
use Rattle.packing.specs.Inner.{window_at}
use Rattle.layout.specs.Layout.{is_wrong, length_of}
use Rattle.image.specs.Inner.{layout_of}
use Rattle.checking.specs.Inner.{AreWords, AreRight}
use Rattle.checking.proofs.Told.{none_is}
use Rattle.checking.proofs.Twos.{word_fits, of_window, first_of, second_of, judged_tells}
use Rattle.checking.proofs.passed.Goals as goal

-- where more than the last 16 words are left from word j on, eight bytes are there from its first bit on
left : (w count j n : ℕ) → 4 ≤ w → j < count - 16 → byte_count w count ≤ n → j * w / 8 + 8 ≤ n
left w count j n wide h long =
    let inside : j + 17 ≤ count = omega (arith, h) in
    omega (arith, wide, mul-le-mul_right w inside, long)

-- a turn of the loop: what is read from word j on, and the words above and below in it
module _ (t : Quotients) (p : AreWords t) (s : List ℕ) (bytes : Bytes s) (pair : ℕ) (more : 2 * pair + 1 < t.count) (right : AreRight (layout_of t) s (2 * pair))
    {bit window both : ℕ} (place : bit ≡ 2 * pair * t.width) (there : window ≡ window_at s bit) (top : both ≡ window / 2 ^ (64 - 2 * t.width)) where
  reads : both ≡ field_at s (2 * pair * t.width) (2 * t.width)
  reads = of_window p s bytes pair (top ∙ ap (λ (x : ℕ). x / 2 ^ (64 - 2 * t.width)) (there ∙ ap (window_at s) place))

  -- both words of the turn are there
  below : 2 * pair + 1 < t.count
  below = omega (arith, more)

  module _ {word : ℕ} (high : word ≡ both / 2 ^ t.width) where
    first_word : word ≡ word_at t.width s (2 * pair)
    first_word = high ∙ first_of p s bytes (2 * pair) reads

    first-fits : word < 2 ^ 32
    first-fits = omega (arith, first_word, word_fits p s (2 * pair))

    first_tells : is_none (judged_word t (2 * pair) word) ≡ is_wrong (layout_of t) s (2 * pair)
    first_tells = judged_tells p s (2 * pair) (omega (arith, below)) first_word

    -- where neither is told to be wrong, the words before the next pair are right
    again : {word2 : ℕ} → word2 ≡ both % 2 ^ t.width → is_none (judged_word t (2 * pair) word) ≡ false → is_none (judged_word t (2 * pair + 1) word2) ≡ false
        → AreRight (layout_of t) s (2 * (pair + 1))
    again low ok ok-too i h =
        let second_tells = judged_tells p s (2 * pair + 1) below (low ∙ second_of p s bytes (2 * pair) reads) in
        below_more _ _ (below_more _ _ right (sym first_tells ∙ ok)) (sym second_tells ∙ ok-too) i (omega (arith, h))

-- of neither of two
neither : (a b : Bool) → (a || b) ≡ false → (a ≡ false) × (b ≡ false)
neither false b e = (refl, e)
neither true b e = cc

-- how far the pairs go that are passed: both words of one are there, and more than 64 bits of words from it on
module _ (t : Quotients) (s : List ℕ) (some : 2 ≤ t.count) (wide : 4 ≤ t.width) {room pairs : ℕ} (rest : room ≡ t.count - 16) (most : pairs ≡ max (room / 2) 1) where
  all_there : 2 * pairs ≤ t.count
  all_there = omega (arith, rest, most, some)

  module _ (pair : ℕ) (from : 1 ≤ pair) (upto : pair < pairs) where
    pair_there : 2 * pair + 1 < t.count
    pair_there = omega (arith, all_there, upto)

    window_there : {bit : ℕ} → length_of (layout_of t) ≤ length s → bit ≡ 2 * pair * t.width → bit / 8 + 8 ≤ length s
    window_there long place =
        let before : 2 * pair < t.count - 16 = omega (arith, rest, most, from, upto) in
        omega (arith, place, left t.width t.count (2 * pair) (length s) wide before long)

pub window-requires : goal.window-requires
window-requires c =
    let a = c.args in
    let w = c.requires.words.0 in
    window_there a.table a.image.now w.some w.wide c.saturating_sub.ensures c.max-pairs.ensures c.loop-pair.pair c.loop-pair.invariant.0 c.loop-pair-test.true c.requires.long c.loop-pair.invariant.2

pub overflow_cast-high : goal.overflow_cast-high
overflow_cast-high c =
    let w = c.requires.words.0 in
    let more = pair_there c.args.table c.args.image.now w.some w.wide c.saturating_sub.ensures c.max-pairs.ensures c.loop-pair.pair c.loop-pair.invariant.0 c.loop-pair-test.true in
    record { fits = first-fits c.args.table w c.args.image.now (λ i. omega (arith, c.type_inv.image i)) c.loop-pair.pair more c.loop-pair.invariant.1 c.loop-pair.invariant.2 c.window.ensures c.high-both.ensures c.high.ensures }

pub loop-pair-preserved : goal.loop-pair-preserved
loop-pair-preserved c =
    let w = c.requires.words.0 in
    let more = pair_there c.args.table c.args.image.now w.some w.wide c.saturating_sub.ensures c.max-pairs.ensures c.loop-pair.pair c.loop-pair.invariant.0 c.loop-pair-test.true in
    let both = neither c.is_none-first.result c.is_none-second.result c.if-first-second.false in
    let ok = none_is c.judged.ensures c.is_none-first.ensures both.0 in
    let ok-too = none_is c.judged-in-loop-pair.ensures c.is_none-second.ensures both.1 in (
      omega arith,
      again c.args.table w c.args.image.now (λ i. omega (arith, c.type_inv.image i)) c.loop-pair.pair more c.loop-pair.invariant.1 c.loop-pair.invariant.2 c.window.ensures c.high-both.ensures c.high.ensures c.low.ensures ok ok-too,
      omega (arith, c.loop-pair.invariant.2),
    )

pub returns-then-first-second : goal.returns-then-first-second
returns-then-first-second c =
    let w = c.requires.words.0 in
    let more = pair_there c.args.table c.args.image.now w.some w.wide c.saturating_sub.ensures c.max-pairs.ensures c.loop-pair.pair c.loop-pair.invariant.0 c.loop-pair-test.true in
    (omega (arith, more), c.loop-pair.invariant.1)

pub returns : goal.returns
returns c =
    let w = c.requires.words.0 in (
      all_there c.args.table c.args.image.now w.some w.wide c.saturating_sub.ensures c.max-pairs.ensures,
      λ i h. c.loop-pair.invariant.1 i (omega (arith, h, c.loop-pair-test.false)),
    )
