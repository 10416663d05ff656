-- `table_text::answer` meets its contract: with room, as many bytes as are printed are the text.
-- Assumes nothing.
use mathlib.Core.Path.{sym}
use native.Mathlib.Omega.{arith}
use lib.Seq.{length-take-le}
use Rattle.table_text.proofs.Sizes.{printed_within}
use Rattle.table_text.proofs.Runs.{printed_front}
use Rattle.table_text.proofs.answer.Goals as goal

pub slice_bounds-result-end : goal.slice_bounds-result-end
slice_bounds-result-end c =
    let p = c.print-length in
    sym (length-take-le p.result p.new.out (omega (arith, printed_within _ _ p.ensures.value, p.auto.out)))

pub returns : goal.returns
returns c = printed_front _ _ c.requires c.print-length.ensures.value c.print-length.ensures.out_after
