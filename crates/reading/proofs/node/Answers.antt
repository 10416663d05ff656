-- `reading::node` meets its contract: in each arm the format is the same. Assumes nothing.
use mathlib.Core.Path.{◌≡◌, sym, ap, ◌∙◌}
use mathlib.Core.List.{List}
use Prim.Native.Nat.{ℕ}
use Rattle.std.proofs.Common.{Result}
use Rattle.units.specs.declared.TableUnits.{TableUnits}
use Rattle.format.specs.declared.Format.{Format}
use Rattle.format.proofs.Laws.{is_usual, is_same}
use Rattle.answers.specs.Answer.{outcome_of_node}
use Rattle.answers.specs.declared.Refused.{Refused}
use Rattle.image.specs.Calls.{node_outcome}
use Rattle.image.proofs.Given.{node_gives}
use Rattle.reading.proofs.node.Goals as goal

-- the answer by a format that is the same, and what it gives
module _ (F : Format) (s : List ℕ) (j : ℕ) (r : Result TableUnits Refused) {F' : Format} (answer : outcome_of_node r ≡ node_outcome F' s j) (same : F' ≡ F) where
  answers : outcome_of_node r ≡ node_outcome F s j
  answers = answer ∙ ap (λ (F : Format). node_outcome F s j) same

pub returns-in-Plain : goal.returns-in-Plain
returns-in-Plain c =
    let a = c.args in
    let e = answers a.format a.image.now a.j _ c.by_word.ensures (c.plain.ensures ∙ is_usual a.format _ (sym c.are_usual.ensures.value ∙ c.if-are_usual.true) c.in-Plain.is) in
    record { outcome = e; value = node_gives a.format a.image.now a.j _ e }

pub returns-in-Full : goal.returns-in-Full
returns-in-Full c =
    let a = c.args in
    let e = answers a.format a.image.now a.j _ c.by_word-in-Full.ensures (c.full.ensures ∙ is_usual a.format _ (sym c.are_usual.ensures.value ∙ c.if-are_usual.true) c.in-Full.is) in
    record { outcome = e; value = node_gives a.format a.image.now a.j _ e }

pub returns-in-Plain-form : goal.returns-in-Plain-form
returns-in-Plain-form c =
    let a = c.args in
    let e = answers a.format a.image.now a.j _ c.by_word-in-Plain-form.ensures (c.in_form.ensures ∙ is_same a.format c.in-Plain-form.is) in
    record { outcome = e; value = node_gives a.format a.image.now a.j _ e }

pub returns-in-Full-form : goal.returns-in-Full-form
returns-in-Full-form c =
    let a = c.args in
    let e = answers a.format a.image.now a.j _ c.by_word-in-Full-form.ensures (c.in_form-in-Full-form.ensures ∙ is_same a.format c.in-Full-form.is) in
    record { outcome = e; value = node_gives a.format a.image.now a.j _ e }
