-- `inverting::reciprocal` meets its contract: in each arm the format is the same, and what is given is R.
-- Assumes nothing.
use mathlib.Core.Path.{sym, ap, ◌∙◌}
use Rattle.format.specs.declared.Format.{Format}
use Rattle.format.proofs.Laws.{is_usual, is_same}
use Rattle.interpolation.specs.Calls.{reciprocal_outcome}
use Rattle.inverting.proofs.Given.{ok_right, ok_within}
use Rattle.inverting.proofs.reciprocal.Goals as goal

pub returns-in-Plain : goal.returns-in-Plain
returns-in-Plain c =
    let a = c.args in
    let same = is_usual a.format _ (sym c.are_usual.ensures.value ∙ c.if-are_usual.true) c.in-Plain.is in
    let answer =
    c.of_operand.ensures ∙ ap (λ (F : Format). reciprocal_outcome F a.image.now a.operand.n a.operand.x) same in
    record {
      outcome = answer;
      value = ok_right a.format a.image.now a.operand.n a.operand.x _ answer;
      within_ulp = ok_within a.format a.image.now a.operand.n a.operand.x _ answer;
    }

pub returns-in-Full : goal.returns-in-Full
returns-in-Full c =
    let a = c.args in
    let same = is_usual a.format _ (sym c.are_usual.ensures.value ∙ c.if-are_usual.true) c.in-Full.is in
    let answer =
    c.of_operand-in-Full.ensures ∙ ap (λ (F : Format). reciprocal_outcome F a.image.now a.operand.n a.operand.x) same in
    record {
      outcome = answer;
      value = ok_right a.format a.image.now a.operand.n a.operand.x _ answer;
      within_ulp = ok_within a.format a.image.now a.operand.n a.operand.x _ answer;
    }

pub returns-in-Plain-form : goal.returns-in-Plain-form
returns-in-Plain-form c =
    let a = c.args in
    let same = c.in_form.ensures ∙ is_same a.format c.in-Plain-form.is in
    let answer =
    c.by_nodes.ensures ∙ ap (λ (F : Format). reciprocal_outcome F a.image.now a.operand.n a.operand.x) same in
    record {
      outcome = answer;
      value = ok_right a.format a.image.now a.operand.n a.operand.x _ answer;
      within_ulp = ok_within a.format a.image.now a.operand.n a.operand.x _ answer;
    }

pub returns-in-Full-form : goal.returns-in-Full-form
returns-in-Full-form c =
    let a = c.args in
    let same = c.in_form-in-Full-form.ensures ∙ is_same a.format c.in-Full-form.is in
    let answer =
    c.by_nodes-in-Full-form.ensures
    ∙ ap (λ (F : Format). reciprocal_outcome F a.image.now a.operand.n a.operand.x) same in
    record {
      outcome = answer;
      value = ok_right a.format a.image.now a.operand.n a.operand.x _ answer;
      within_ulp = ok_within a.format a.image.now a.operand.n a.operand.x _ answer;
    }
