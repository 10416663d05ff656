-- `checking::by_words` meets its contract: a broken limit, the lowest wrong word, the lowest byte with a one behind the
-- words, or none of them.
-- Assumes nothing.
use mathlib.Core.Path.{◌≡◌, sym, ◌∙◌, ap}
use mathlib.Core.Bool.{false, not}
use mathlib.Core.List.{List}
use Prim.Native.Nat.{ℕ, ◌*◌, ◌^◌, ◌≤◌, ◌<◌}
use native.Mathlib.Omega.{arith}
use lib.Pow.{pow_mono}
use lib.ListN.{length}
use lib.Dec.{ltb, eqb}
use borrow.Author.Tests.{ltb-true, ltb-false}
use Rattle.std.proofs.Common.{if◌then◌else◌, Some, None}
use Rattle.std.specs.Option.{is_none}
use Rattle.bools.proofs.Bools.{given, not_given}
use Rattle.format.specs.Format.{precision_of, table_bits, word_count, word_width}
use Rattle.format.specs.declared.Format.{Format}
use Rattle.format.proofs.Laws.{width_least, width_most, count_least}
use Rattle.nodes.specs.Inner.{quotients_of, judged_word}
use Rattle.nodes.specs.declared.Quotients.{Quotients}
use Rattle.nodes.proofs.Forms.{judged_wrong}
use Rattle.tail.specs.Tail.{first_one_in}
use Rattle.tail.proofs.Laws.{one_found, none_found}
use Rattle.answers.specs.Refusal.{served, some_applies}
use Rattle.answers.specs.Answer.{refused}
use Rattle.answers.specs.declared.Refused.TheVariants.{Word, Tail}
use Rattle.layout.specs.Layout.{Layout, length_of, end_of, first_wrong}
use Rattle.image.specs.Image.{table_of}
use Rattle.image.specs.Refusals.{limits}
use Rattle.image.specs.Calls.{check_outcome}
use Rattle.image.specs.Inner.{front_of, layout_of}
use Rattle.image.proofs.Checks.{check_wrong, check_past, check_none}
use Rattle.image.proofs.Laws.{own_layout}
use Rattle.image.proofs.Limits.{ImageKept, limit_clear, clear_kept}
use Rattle.image.proofs.OwnBytes.{own_bytes, own_length, own_wrong}
use Rattle.checking.specs.Inner.{AreWords, wrong_word}
use Rattle.checking.proofs.by_words.Goals as goal

-- the words of a table are such as are checked
are_words : (F : Format) (s : List ℕ) → ImageKept F s → AreWords (quotients_of F)
are_words F s kept =
    record {
      some = omega (arith, pow_mono kept.low, count_least F.form (precision_of F));
      wide = omega (arith, kept.low, kept.guard.table_least, width_least F.form (precision_of F) (table_bits F));
      narrow = omega (arith, kept.high, kept.guard.table_most, width_most F.form (precision_of F) (table_bits F));
      judges = judges;
    }
  where
    judges : (j word : ℕ) → j < word_count F → word < 2 ^ word_width F → is_none (judged_word (quotients_of F) j word) ≡ not (eqb word ((layout_of (quotients_of F)).word j))
    judges j word h l = judged_wrong F kept.high kept.guard.table_most j word h l ∙ ap (λ (l : Layout). not (eqb word (l.word j))) (sym (own_layout F))

-- behind the test of the limits, t being the table of the format
module _ (F : Format) (s : List ℕ) (t : Quotients) (clear : some_applies (limits F (length s)) ≡ false) (table : t ≡ quotients_of F) where
  are_checked : AreWords t
  are_checked = rw table (are_words F s (clear_kept F s clear))

  -- the image's own bytes are as many as it has
  own_long : {bytes : List ℕ} → bytes ≡ own_bytes F s → length_of (layout_of t) ≤ length bytes
  own_long own = rw (own, table) (omega (arith, own_length F s (clear_kept F s clear)))

  -- the lowest wrong word of the image's own bytes is that of the buffer
  wrong_is : {bytes : List ℕ} → bytes ≡ own_bytes F s → wrong_word (layout_of t) bytes ≡ wrong_word (table_of F) s
  wrong_is own =
      rw (own, table)
      (ap (λ (l : Layout). wrong_word l (own_bytes F s)) (own_layout F)
      ∙ ap (λ (i : ℕ). if ltb i (word_count F) then Some i else None) (own_wrong F s (clear_kept F s clear)))

  word_wrong : {j : ℕ} → Some j ≡ wrong_word (table_of F) s → refused (Word j) ≡ check_outcome F s
  word_wrong {j} e =
      let f = given (ltb (first_wrong (table_of F) s) (word_count F)) (first_wrong (table_of F) s) j e in
      ap (λ (i : ℕ). refused (Word i)) f.1 ∙ sym (check_wrong F s clear (ltb-true (first_wrong (table_of F) s) (word_count F) f.0))

  -- behind the test of the words all of them are right, and the byte that is found is the lowest with a one behind them
  module _ (none : None ≡ wrong_word (table_of F) s) where
    right : word_count F ≤ first_wrong (table_of F) s
    right = ltb-false (first_wrong (table_of F) s) (word_count F) (not_given (ltb (first_wrong (table_of F) s) (word_count F)) (first_wrong (table_of F) s) none)

    behind : first_one_in (t.count * t.width) s ≡ first_one_in (end_of (table_of F)) s
    behind = ap (λ (q : Quotients). first_one_in (q.count * q.width) s) table

    tail_wrong : {past : ℕ} → Some past ≡ first_one_in (t.count * t.width) s → refused (Tail past) ≡ check_outcome F s
    tail_wrong {past} e =
        let f = one_found (end_of (table_of F)) s past (e ∙ behind) in
        ap (λ (i : ℕ). refused (Tail i)) f.0 ∙ sym (check_past F s clear right (omega (arith, f.0, f.1)))

    none_wrong : None ≡ first_one_in (t.count * t.width) s → served 0 ≡ check_outcome F s
    none_wrong e = sym (check_none F s clear right (none_found (end_of (table_of F)) s (e ∙ behind)))

pub first_wrong-requires : goal.first_wrong-requires
first_wrong-requires c =
    let s = c.args.image.now in
    let clear = limit_clear c.args.format s c.in_ok-table.ensures.refusals in
    record {
      words = are_checked c.args.format s c.in_ok-table.table clear c.in_ok-table.ensures.numbers;
      long = own_long c.args.format s c.in_ok-table.table clear c.in_ok-table.ensures.numbers (c.own_bytes.ensures.bytes ∙ ap (λ (q : Quotients). front_of q s) c.in_ok-table.ensures.numbers);
    }

-- a word is wrong
pub returns-in-Some : goal.returns-in-Some
returns-in-Some c =
    let F = c.args.format in
    let s = c.args.image.now in
    let clear = limit_clear F s c.in_ok-table.ensures.refusals in
    let table = c.in_ok-table.ensures.numbers in
    word_wrong F s c.in_ok-table.table clear table (sym c.in-Some.is ∙ c.first_wrong.ensures ∙ wrong_is F s c.in_ok-table.table clear table (c.own_bytes.ensures.bytes ∙ ap (λ (q : Quotients). front_of q s) c.in_ok-table.ensures.numbers))

-- a bit behind the words is one
pub returns-in-Some-first_one : goal.returns-in-Some-first_one
returns-in-Some-first_one c =
    let F = c.args.format in
    let s = c.args.image.now in
    let clear = limit_clear F s c.in_ok-table.ensures.refusals in
    let table = c.in_ok-table.ensures.numbers in
    let none = sym c.in_default.is ∙ c.first_wrong.ensures ∙ wrong_is F s c.in_ok-table.table clear table (c.own_bytes.ensures.bytes ∙ ap (λ (q : Quotients). front_of q s) c.in_ok-table.ensures.numbers) in
    tail_wrong F s c.in_ok-table.table clear table none (sym c.in-Some-first_one.is ∙ c.first_one.ensures)

-- nothing is wrong
pub returns : goal.returns
returns c =
    let F = c.args.format in
    let s = c.args.image.now in
    let clear = limit_clear F s c.in_ok-table.ensures.refusals in
    let table = c.in_ok-table.ensures.numbers in
    let none = sym c.in_default.is ∙ c.first_wrong.ensures ∙ wrong_is F s c.in_ok-table.table clear table (c.own_bytes.ensures.bytes ∙ ap (λ (q : Quotients). front_of q s) c.in_ok-table.ensures.numbers) in
    none_wrong F s c.in_ok-table.table clear table none (sym c.in_default-first_one.is ∙ c.first_one.ensures)
