-- `table_text::requested` meets its contract: a number of at most 9 digits has its place in 32 bits.
-- Assumes nothing.
use mathlib.Core.Path.{sym, ◌∙◌}
use native.Mathlib.Omega.{arith}
use Rattle.table_text.proofs.Requests.{request_found, request_fits}
use Rattle.table_text.proofs.requested.Goals as goal

pub overflow_cast-result : goal.overflow_cast-result
overflow_cast-result c =
    let s = c.args.input.now in
    omega (arith, c.unwrap_or-k.ensures ∙ sym (request_found s (sym c.read.ensures)), request_fits s)

pub returns : goal.returns
returns c = c.unwrap_or-k.ensures ∙ sym (request_found c.args.input.now (sym c.read.ensures))
