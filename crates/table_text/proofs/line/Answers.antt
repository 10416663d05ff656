-- `table_text::line` meets its contract: two columns, and the word or the hyphen after them.
-- Assumes nothing.
use mathlib.Core.Path.{◌≡◌, sym, ap, ◌∙◌}
use mathlib.Core.Bool.{◌&&◌}
use Prim.Native.Nat.{◌^◌, ◌<◌}
use lib.Dec.{leb}
use native.Mathlib.Omega.{arith}
use Rattle.decimal.proofs.Writing.{puts_room, wrote_then}
use Rattle.units.specs.declared.TableUnits.{TableUnits}
use Rattle.bools.proofs.Bools.{given}
use Rattle.precision.specs.Precision.{in_range}
use Rattle.nodes.specs.Nodes.{node}
use Rattle.lines.specs.Lines.{space}
use Rattle.lines.proofs.Sizes.{field_most}
use Rattle.table_text.proofs.Sizes.{node_below, columns_most}
use Rattle.table_text.proofs.LineLaws.{line_word, line_last}
use Rattle.table_text.proofs.line.Goals as goal

pub returns-then-j-unwrap : goal.returns-then-j-unwrap
returns-then-j-unwrap c =
    let k = c.args.k.0 in
    let j = c.args.j in
    let fits = c.requires.2 in
    let count : c.unwrap.result ≡ 2 ^ k = (given (in_range k) _ _ (sym c.unwrap.ensures ∙ c.word_count.ensures)).1 in
    let units = (given (in_range k && leb j (2 ^ k)) _ _ (sym c.unwrap-c.ensures ∙ c.value.ensures)).1 in
    let value : c.unwrap-c.result.0 ≡ node k 2 j = ap (λ (v : TableUnits). v.0) units in
    let small : j < 2 ^ 64 = omega (arith, c.ranges.j.fits) in
    let most = field_most j space small in
    let both = columns_most j c.unwrap-c.result.0 small (omega (arith, value, node_below k j c.requires.0)) in
    let first = puts_room (omega arith) c.put.ensures.written in
    let columns = wrote_then (omega arith) first (omega arith) c.put-2.ensures.written in
    rw (← line_word k j (omega arith) value (rw c.word_width.ensures at c.low.ensures))
    (wrote_then (omega arith) columns (omega arith) c.put-then-j-unwrap.ensures.written)

pub returns-else-j-unwrap : goal.returns-else-j-unwrap
returns-else-j-unwrap c =
    let k = c.args.k.0 in
    let j = c.args.j in
    let fits = c.requires.2 in
    let count : c.unwrap.result ≡ 2 ^ k = (given (in_range k) _ _ (sym c.unwrap.ensures ∙ c.word_count.ensures)).1 in
    let units = (given (in_range k && leb j (2 ^ k)) _ _ (sym c.unwrap-c.ensures ∙ c.value.ensures)).1 in
    let value : c.unwrap-c.result.0 ≡ node k 2 j = ap (λ (v : TableUnits). v.0) units in
    let small : j < 2 ^ 64 = omega (arith, c.ranges.j.fits) in
    let most = field_most j space small in
    let both = columns_most j c.unwrap-c.result.0 small (omega (arith, value, node_below k j c.requires.0)) in
    let first = puts_room (omega arith) c.put.ensures.written in
    let columns = wrote_then (omega arith) first (omega arith) c.put-2.ensures.written in
    rw (← line_last k j (omega arith) value) (wrote_then (omega arith) columns (omega arith) c.put_text.ensures)
