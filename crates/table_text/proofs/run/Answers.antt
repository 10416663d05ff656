-- `table_text::run` meets its contract: the bytes that were read settle the text, and of that text a front or all was
-- written.
-- Assumes nothing.
use native.Mathlib.Omega.{arith}
use Rattle.std.specs.Io.KnownBytes.{Appends}
use Rattle.std.proofs.KnownBytes.{Appends-kept}
use Rattle.streams.specs.Streams.{AppendsFront}
use Rattle.table_text.proofs.Runs.{settled, front_kept, on_ok}
use Rattle.table_text.proofs.run.Goals as goal

pub returns-in_err-write_text-clause-front : goal.returns-in_err-write_text-clause-front
returns-in_err-write_text-clause-front g c =
    let enough = c.read_front.auto.buffer in
    let front = c.write_text.ensures.front in
    settled (AppendsFront _ _) _ _ _ (omega (arith, enough)) c.answer.ensures front _ c.in_ok-got.ensures.front

pub returns-clause-ok : goal.returns-clause-ok
returns-clause-ok g c =
    let enough = c.read_front.auto.buffer in
    let all = Appends-kept _ _ _ _ c.in_ok-write_text.ensures.ok c.flush.ensures.bytes in
    on_ok c.flush.result
    (settled (Appends _ _) _ _ _ (omega (arith, enough)) c.answer.ensures all _ c.in_ok-got.ensures.front)

pub returns-clause-front : goal.returns-clause-front
returns-clause-front g c =
    let enough = c.read_front.auto.buffer in
    let front = front_kept _ _ _ _ c.write_text.ensures.front c.flush.ensures.bytes in
    settled (AppendsFront _ _) _ _ _ (omega (arith, enough)) c.answer.ensures front _ c.in_ok-got.ensures.front
