-- `checking::check` meets its contract: in each arm the format is that of the form, with the usual guard bits.
-- Assumes nothing.
use mathlib.Core.Path.{◌≡◌, sym, ap, ◌∙◌}
use mathlib.Core.List.{List}
use Prim.Native.Nat.{ℕ}
use native.Mathlib.Omega.{arith}
use Rattle.std.proofs.Common.{Result}
use Rattle.format.specs.declared.Format.{Format}
use Rattle.format.proofs.Laws.{is_usual}
use Rattle.answers.specs.Answer.{outcome_of_done}
use Rattle.answers.specs.declared.Refused.{Refused}
use Rattle.image.specs.Calls.{check_outcome}
use Rattle.image.proofs.Given.{check_passes}
use Rattle.checking.proofs.check.Goals as goal

-- the answer by a format that is the same
answers : (F : Format) (s : List ℕ) (r : Result (Unit {0}) Refused) {F' : Format} → outcome_of_done r ≡ check_outcome F' s → F' ≡ F → outcome_of_done r ≡ check_outcome F s
answers F s r answer same = answer ∙ ap (λ (F : Format). check_outcome F s) same

pub returns-then-not-are_usual-clause-passes : goal.returns-then-not-are_usual-clause-passes
returns-then-not-are_usual-clause-passes c = check_passes c.args.format c.args.image.now (λ i. omega (arith, c.type_inv.image i)) _ c.by_words.ensures

pub returns-in-Plain : goal.returns-in-Plain
returns-in-Plain c =
    let a = c.args in
    let e = answers a.format a.image.now _ c.by_words-in-Plain.ensures (c.plain.ensures ∙ is_usual a.format _ (sym c.are_usual.ensures.value ∙ c.if-not-are_usual.false) c.in-Plain.is) in
    record { outcome = e; passes = check_passes a.format a.image.now (λ i. omega (arith, c.type_inv.image i)) _ e }

pub returns-in-Full : goal.returns-in-Full
returns-in-Full c =
    let a = c.args in
    let e = answers a.format a.image.now _ c.by_words-in-Full.ensures (c.full.ensures ∙ is_usual a.format _ (sym c.are_usual.ensures.value ∙ c.if-not-are_usual.false) c.in-Full.is) in
    record { outcome = e; passes = check_passes a.format a.image.now (λ i. omega (arith, c.type_inv.image i)) _ e }
