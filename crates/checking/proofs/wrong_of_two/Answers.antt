-- `checking::wrong_of_two` meets its contract: two words are read at once, and each is judged.
-- Assumes nothing.
use mathlib.Core.Path.{◌≡◌, refl, sym, ap, ◌∙◌}
use mathlib.Core.Bool.{true, false}
use mathlib.Core.List.{List}
use Prim.Native.Nat.{ℕ, ◌+◌, ◌-◌, ◌*◌, ◌/◌, ◌%◌, ◌^◌, ◌<◌}
use native.Mathlib.Omega.{arith}
use Rattle.std.proofs.Common.{Some, None}
use Rattle.std.specs.Option.{is_none}
use Rattle.nodes.specs.Inner.{judged_word}
use Rattle.nodes.specs.declared.Quotients.{Quotients}
use Rattle.packing.specs.Packing.{Bytes, field_at, word_at}
use Rattle.packing.specs.Inner.{window_at}
use Rattle.layout.specs.Layout.{is_wrong}
use Rattle.image.specs.Inner.{layout_of}
use Rattle.checking.specs.Inner.{AreWords, wrong_of_two}
use Rattle.checking.proofs.Told.{none_is}
use Rattle.checking.proofs.Twos.{word_fits, of_window, first_of, second_of, judged_tells}
use Rattle.checking.proofs.wrong_of_two.Goals as goal

module _ (t : Quotients) (p : AreWords t) (s : List ℕ) (bytes : Bytes s) (pair : ℕ) (there : pair < t.count / 2) {window both : ℕ} (there-too : window ≡ window_at s (2 * pair * t.width)) (top : both ≡ window / 2 ^ (64 - 2 * t.width)) where
  reads : both ≡ field_at s (2 * pair * t.width) (2 * t.width)
  reads = of_window p s bytes pair (top ∙ ap (λ (x : ℕ). x / 2 ^ (64 - 2 * t.width)) there-too)

  below : 2 * pair + 1 < t.count
  below = omega (arith, there)

  module _ {word : ℕ} (high : word ≡ both / 2 ^ t.width) where
    first_word : word ≡ word_at t.width s (2 * pair)
    first_word = high ∙ first_of p s bytes (2 * pair) reads

    first-fits : word < 2 ^ 32
    first-fits = omega (arith, first_word, word_fits p s (2 * pair))

    first_tells : is_none (judged_word t (2 * pair) word) ≡ is_wrong (layout_of t) s (2 * pair)
    first_tells = judged_tells p s (2 * pair) (omega (arith, below)) first_word

    first_is : is_none (judged_word t (2 * pair) word) ≡ true → Some (2 * pair) ≡ wrong_of_two (layout_of t) s (2 * pair)
    first_is none =
        let wrong : is_wrong (layout_of t) s (2 * pair) ≡ true = sym first_tells ∙ none in
        rw wrong refl

    -- behind the first, which is right
    module _ (passed : is_none (judged_word t (2 * pair) word) ≡ false) {word2 : ℕ} (low : word2 ≡ both % 2 ^ t.width) where
      right : is_wrong (layout_of t) s (2 * pair) ≡ false
      right = sym first_tells ∙ passed

      second_tells : is_none (judged_word t (2 * pair + 1) word2) ≡ is_wrong (layout_of t) s (2 * pair + 1)
      second_tells = judged_tells p s (2 * pair + 1) below (low ∙ second_of p s bytes (2 * pair) reads)

      second_is : is_none (judged_word t (2 * pair + 1) word2) ≡ true → Some (2 * pair + 1) ≡ wrong_of_two (layout_of t) s (2 * pair)
      second_is none =
          let wrong : is_wrong (layout_of t) s (2 * pair + 1) ≡ true = sym second_tells ∙ none in
          rw (right, wrong) refl

      none_wrong : is_none (judged_word t (2 * pair + 1) word2) ≡ false → None ≡ wrong_of_two (layout_of t) s (2 * pair)
      none_wrong ok =
          let right-too : is_wrong (layout_of t) s (2 * pair + 1) ≡ false = sym second_tells ∙ ok in
          rw (right, right-too) refl

pub overflow_cast-high : goal.overflow_cast-high
overflow_cast-high c =
    record { fits = first-fits c.args.table c.requires.0 c.args.image.now (λ i. omega (arith, c.type_inv.image i)) c.args.pair c.requires.1 c.window.ensures c.high-both.ensures c.high.ensures }

pub returns-then-is_none : goal.returns-then-is_none
returns-then-is_none c =
    let none = none_is c.judged.ensures c.is_none.ensures c.if-is_none.true in
    first_is c.args.table c.requires.0 c.args.image.now (λ i. omega (arith, c.type_inv.image i)) c.args.pair c.requires.1 c.window.ensures c.high-both.ensures c.high.ensures none

pub returns-then-is_none-2 : goal.returns-then-is_none-2
returns-then-is_none-2 c =
    let ok = none_is c.judged.ensures c.is_none.ensures c.if-is_none.false in
    let none = none_is c.judged-2.ensures c.is_none-2.ensures c.if-is_none-2.true in
    second_is c.args.table c.requires.0 c.args.image.now (λ i. omega (arith, c.type_inv.image i)) c.args.pair c.requires.1 c.window.ensures c.high-both.ensures c.high.ensures ok c.low.ensures none

pub returns : goal.returns
returns c =
    let ok = none_is c.judged.ensures c.is_none.ensures c.if-is_none.false in
    let ok-too = none_is c.judged-2.ensures c.is_none-2.ensures c.if-is_none-2.false in
    none_wrong c.args.table c.requires.0 c.args.image.now (λ i. omega (arith, c.type_inv.image i)) c.args.pair c.requires.1 c.window.ensures c.high-both.ensures c.high.ensures ok c.low.ensures ok-too
