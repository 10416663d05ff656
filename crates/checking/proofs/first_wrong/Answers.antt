-- `checking::first_wrong` meets its contract: words are judged two by two, but for those that are passed, and the last
-- by itself where their number is odd.
-- Assumes nothing.
use mathlib.Core.Path.{◌≡◌, refl, sym, ◌∙◌}
use mathlib.Core.Bool.{Bool, true, false}
use mathlib.Core.List.{List}
use Prim.Native.Nat.{ℕ, ◌+◌, ◌-◌, ◌*◌, ◌/◌, ◌%◌, ◌^◌, ◌≤◌, ◌<◌}
use native.Mathlib.Omega.{arith}
use borrow.Author.Count.{below_more}
use borrow.Author.Tests.{lt-ltb, le-ltb}
use Rattle.std.proofs.Common.{Some, None, if◌then◌else◌}
use Rattle.std.specs.Option.{is_none}
use Rattle.bools.proofs.Lowest.{lowest_is, lowest_none}
use Rattle.nodes.specs.Inner.{judged_word}
use Rattle.nodes.specs.declared.Quotients.{Quotients}
use Rattle.packing.specs.Inner.{word_read}
use Rattle.layout.specs.Layout.{Layout, is_wrong}
use Rattle.image.specs.Inner.{layout_of}
use Rattle.checking.specs.Inner.{AreWords, AreRight, wrong_of_two, wrong_word}
use Rattle.checking.proofs.Told.{none_is}
use Rattle.checking.proofs.Twos.{word_fits, one_of, judged_tells}
use Rattle.checking.proofs.first_wrong.Goals as goal

module _ (t : Layout) (s : List ℕ) where
  -- where the words before a wrong one are right, it is the lowest
  found : (j : ℕ) → j < t.count → AreRight t s j → is_wrong t s j ≡ true → Some j ≡ wrong_word t s
  found j there right wrong =
      let is = lowest_is (is_wrong t s) t.count j there wrong right in
      rw is (rw (lt-ltb j t.count there) refl)

  -- and where all are right, none is
  none_found : AreRight t s t.count → None ≡ wrong_word t s
  none_found right =
      let is = lowest_none (is_wrong t s) t.count right in
      rw is (rw (le-ltb t.count t.count (omega arith)) refl)

  -- the words before the first
  none_before : AreRight t s 0
  none_before i h = absurd (omega (arith, h))

  -- two words behind right ones: the wrong one of them is the lowest, and where none is they are right too
  module _ (j : ℕ) (right : AreRight t s j) where
    two_found : j + 1 < t.count → {i : ℕ} → Some i ≡ wrong_of_two t s j → Some i ≡ wrong_word t s
    two_found there {i} = by (is_wrong t s j) (is_wrong t s (j + 1)) refl refl
      where
        by : (a b : Bool) → is_wrong t s j ≡ a → is_wrong t s (j + 1) ≡ b → Some i ≡ (if a then Some j else (if b then Some (j + 1) else None)) → Some i ≡ wrong_word t s
        by true b first second e = e ∙ found j (omega (arith, there)) right first
        by false true first second e = e ∙ found (j + 1) there (below_more _ _ right first) second
        by false false first second e = cc

    two_right : None ≡ wrong_of_two t s j → AreRight t s (j + 2)
    two_right = by (is_wrong t s j) (is_wrong t s (j + 1)) refl refl
      where
        by : (a b : Bool) → is_wrong t s j ≡ a → is_wrong t s (j + 1) ≡ b → None ≡ (if a then Some j else (if b then Some (j + 1) else None)) → AreRight t s (j + 2)
        by true b first second e = cc
        by false true first second e = cc
        by false false first second e = λ i h. below_more _ _ (below_more _ _ right first) second i (omega (arith, h))

-- the last word of an odd number, as it is read, behind right ones
module _ (t : Quotients) (p : AreWords t) (s : List ℕ) (right : AreRight (layout_of t) s (t.count - 1)) {word : ℕ} (read : word ≡ word_read t.width s (t.count - 1)) where
  last_there : t.count - 1 < t.count
  last_there = omega (arith, p.some)

  last-fits : word < 2 ^ 32
  last-fits = omega (arith, read, one_of p s (t.count - 1), word_fits p s (t.count - 1))

  last_tells : is_none (judged_word t (t.count - 1) word) ≡ is_wrong (layout_of t) s (t.count - 1)
  last_tells = judged_tells p s (t.count - 1) last_there (read ∙ one_of p s (t.count - 1))

  last_is : is_none (judged_word t (t.count - 1) word) ≡ true → Some (t.count - 1) ≡ wrong_word (layout_of t) s
  last_is none = found (layout_of t) s (t.count - 1) last_there right (sym last_tells ∙ none)

  last_passed : is_none (judged_word t (t.count - 1) word) ≡ false → None ≡ wrong_word (layout_of t) s
  last_passed ok =
      let all = below_more _ _ right (sym last_tells ∙ ok) in
      none_found (layout_of t) s (λ i h. all i (omega (arith, h)))

-- the words before the last of an odd number are those of the pairs
before_last : (t : Quotients) (s : List ℕ) (pair : ℕ) → AreRight (layout_of t) s (2 * pair) → t.count / 2 ≤ pair → (t.count % 2 ≡ 0 → ⊥) → AreRight (layout_of t) s (t.count - 1)
before_last t s pair right over odd i h = right i (omega (arith, h, over, odd))

pub returns-in-Some : goal.returns-in-Some
returns-in-Some c =
    let t = layout_of c.args.table in
    two_found t c.args.image.now 0 (none_before t c.args.image.now) (omega (arith, c.requires.words.some)) (sym c.in-Some.is ∙ c.wrong_of_two.ensures)

pub passed-pair-requires : goal.passed-pair-requires
passed-pair-requires c =
    let t = layout_of c.args.table in
    let first = two_right t c.args.image.now 0 (none_before t c.args.image.now) (sym c.in_default.is ∙ c.wrong_of_two.ensures) in
    record { words = (c.requires.words, first); long = c.requires.long }

pub returns-in-Some-wrong_of_two : goal.returns-in-Some-wrong_of_two
returns-in-Some-wrong_of_two c =
    two_found (layout_of c.args.table) c.args.image.now (2 * c.loop-pair.pair) c.loop-pair.invariant.1 (omega (arith, c.loop-pair-test.true))
    (sym c.in-Some-wrong_of_two.is ∙ c.wrong_of_two-in-loop-pair.ensures)

pub loop-pair-preserved : goal.loop-pair-preserved
loop-pair-preserved c =
    let more = two_right (layout_of c.args.table) c.args.image.now (2 * c.loop-pair.pair) c.loop-pair.invariant.1 (sym c.in_default-wrong_of_two.is ∙ c.wrong_of_two-in-loop-pair.ensures) in
    (omega (arith, c.loop-pair-test.true), λ i h. more i (omega (arith, h)))

pub returns-then-table-eq0 : goal.returns-then-table-eq0
returns-then-table-eq0 c =
    none_found (layout_of c.args.table) c.args.image.now (λ i h. c.loop-pair.invariant.1 i (omega (arith, h, c.loop-pair-test.false, c.if-table-eq0.true)))

pub overflow_cast-word : goal.overflow_cast-word
overflow_cast-word c =
    let t = c.args.table in
    let right = before_last t c.args.image.now c.loop-pair.pair c.loop-pair.invariant.1 (omega (arith, c.loop-pair-test.false)) c.if-table-eq0.false in
    record { fits = last-fits t c.requires.words c.args.image.now right c.word-word.ensures }

pub returns-then-is_none : goal.returns-then-is_none
returns-then-is_none c =
    let t = c.args.table in
    let right = before_last t c.args.image.now c.loop-pair.pair c.loop-pair.invariant.1 (omega (arith, c.loop-pair-test.false)) c.if-table-eq0.false in
    last_is t c.requires.words c.args.image.now right c.word-word.ensures (none_is c.judged.ensures c.is_none.ensures c.if-is_none.true)

pub returns : goal.returns
returns c =
    let t = c.args.table in
    let right = before_last t c.args.image.now c.loop-pair.pair c.loop-pair.invariant.1 (omega (arith, c.loop-pair-test.false)) c.if-table-eq0.false in
    last_passed t c.requires.words c.args.image.now right c.word-word.ensures (none_is c.judged.ensures c.is_none.ensures c.if-is_none.false)
