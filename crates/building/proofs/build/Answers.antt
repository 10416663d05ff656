-- `building::build` meets its contract: a broken limit leaves all as found, and otherwise the buffer is filled with the
-- words of the nodes, and zeros behind them.
-- Assumes nothing.
use mathlib.Core.Path.{◌≡◌, sym, ◌∙◌, ap, ap₂}
use mathlib.Core.Bool.{false, cond}
use mathlib.Core.List.{List, [], ◌++◌}
use Prim.Native.Nat.{ℕ, ◌+◌, ◌*◌, ◌^◌, ◌≤◌}
use native.Mathlib.Nat.{mul-le-mul}
use native.Mathlib.Omega.{arith}
use lib.ListN.{length, drop}
use lib.Pow.{pow_mono, pow_pos}
use lib.Dec.{eqb}
use Rattle.format.specs.Format.{precision_of, table_bits}
use Rattle.format.specs.declared.Format.{Format}
use Rattle.format.proofs.Laws.{width_most, count_most}
use Rattle.packing.specs.Packing.{bytes_taken}
use Rattle.packing.specs.Writing.{finish_leaves, writer_before, bytes_before}
use Rattle.packing.proofs.Written.{words_finished}
use Rattle.answers.specs.Refusal.{Outcome, some_applies}
use Rattle.nodes.specs.Inner.{quotients_of}
use Rattle.nodes.specs.declared.Quotients.{Quotients}
use Rattle.tail.specs.Inner.{cleared_from}
use Rattle.layout.specs.Layout.{Layout, image_of, length_of, rom_of}
use Rattle.layout.proofs.Rom.{rom_written}
use Rattle.image.specs.Image.{table_of}
use Rattle.image.specs.Refusals.{limits}
use Rattle.image.specs.Calls.{check_outcome}
use Rattle.image.specs.Inner.{quotients, layout_of}
use Rattle.image.proofs.Given.{built_passes}
use Rattle.image.proofs.Laws.{own_layout}
use Rattle.image.proofs.Limits.{ImageKept, limit_passes, limit_clear, clear_kept}
use Rattle.building.specs.Inner.{CanFill}
use Rattle.building.proofs.build.Goals as goal

-- behind the test of the limits the words of the table can be put
can-fill : (F : Format) (s : List ℕ) → ImageKept F s → CanFill (quotients_of F) (length s)
can-fill F s ok =
    record {
      wide = omega (arith, ok.high, ok.guard.table_most, width_most F.form (precision_of F) (table_bits F));
      few = omega (arith, pow_mono ok.high, count_most F.form (precision_of F));
      above = pow_pos (3 * precision_of F + (table_bits F + 1));
      exact = pow_mono high;
      room = ok.long;
    }
  where
    high : 3 * precision_of F + (table_bits F + 1) ≤ 53
    high = omega (arith, ok.high, ok.guard.table_most)

pub fill-w-requires : goal.fill-w-requires
fill-w-requires c =
    let F = c.args.format in
    let s = c.args.image.now in
    rw (c.in_ok-table.ensures.numbers) (can-fill F s (clear_kept F s (limit_clear F s c.in_ok-table.ensures.refusals)))

-- what the builder leaves of s by its answer
abbrev leaves : Format → List ℕ → Outcome → List ℕ
leaves F s o = cond (eqb o.number 0) (rom_of (table_of F) (length s)) s

-- the words as they stand behind the last put
finished : (t : Quotients) (s : List ℕ) → CanFill t (length s)
    → finish_leaves (bytes_before t.width (quotients t) s t.count) (writer_before t.width (quotients t) t.count)
    ≡ image_of (layout_of t) ++ drop (length_of (layout_of t)) s
finished t s ok = words_finished t.width (quotients t) s t.count ok.wide (omega (arith, mul-le-mul few ok.wide)) ok.room
  where
    few : t.count ≤ 2 ^ 32
    few = omega (arith, ok.few)

pub returns : goal.returns
returns c =
    let F = c.args.format in
    let s = c.args.image.now in
    let t = c.in_ok-table.table in
    let clear : some_applies (limits F (length s)) ≡ false = limit_clear F s c.in_ok-table.ensures.refusals in
    let ok : ImageKept F s = clear_kept F s clear in
    let table : t ≡ quotients_of F = c.in_ok-table.ensures.numbers in
    let past : c.finish-past.result ≡ length_of (layout_of t) = c.finish-past.ensures.value ∙ ap bytes_taken c.fill-w.ensures.place_after in
    let words = c.finish-past.ensures.image_after ∙ ap₂ finish_leaves c.fill-w.ensures.bytes c.fill-w.ensures.writer in
    let left =
    c.clear.ensures
    ∙ ap₂ cleared_from past (words ∙ finished t s (rw table (can-fill F s ok)))
    ∙ ap (λ (t : Quotients). cleared_from (length_of (layout_of t)) (image_of (layout_of t) ++ drop (length_of (layout_of t)) s)) table
    ∙ ap (λ (l : Layout). cleared_from (length_of l) (image_of l ++ drop (length_of l) s)) (own_layout F)
    ∙ rom_written (table_of F) s ok.long
    ∙ sym (ap (leaves F s) (limit_passes F s [] 0 clear)) in
    record {
      value = c.in_ok-table.ensures.refusals;
      image_after = left;
      passes = ap (check_outcome F) left ∙ built_passes F s (sym (ap (λ (o : Outcome). o.number) c.in_ok-table.ensures.refusals));
    }
