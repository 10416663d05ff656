-- The loop of `table_text::table`: the first line and the lines of the first j nodes are written.
-- Assumes nothing.
use mathlib.Core.List.{◌++◌}
use Rattle.decimal.specs.Inner.{Wrote}
use Rattle.table_text.specs.TableText.{header, lines}
use Rattle.table_text.proofs.table.Given as goal

abbrev pub invariant-loop-j : goal.invariant-loop-j
invariant-loop-j l = Wrote l.fn.text (header l.k.0 ++ lines l.k.0 l.j) l.text
