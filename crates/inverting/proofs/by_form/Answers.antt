-- `inverting::by_form` meets its contract: plain words are answered by the precision. Assumes nothing.
use mathlib.Core.Path.{sym, ap, ◌∙◌}
use Prim.Native.Nat.{◌+◌, ◌%◌, ◌^◌}
use Rattle.format.specs.Format.{usual}
use Rattle.format.specs.declared.Form.{Form}
use Rattle.inverting.specs.Inner.{both_in, ends_outcome}
use Rattle.inverting.proofs.by_form.Goals as goal

pub returns-in-Plain : goal.returns-in-Plain
returns-in-Plain c =
    let a = c.args in
    c.by_precision.ensures
    ∙ ap (λ (f : Form). ends_outcome (usual f a.k.0) (both_in (usual f a.k.0) a.window) a.j (a.kept % 2 ^ (a.k.0 + 3)))
    (sym c.in-Plain.is)

pub returns-in-Full : goal.returns-in-Full
returns-in-Full c =
    let a = c.args in
    c.by_ends.ensures
    ∙ ap (λ (f : Form). ends_outcome (usual f a.k.0) (both_in (usual f a.k.0) a.window) a.j (a.kept % 2 ^ (a.k.0 + 3)))
    (sym c.in-Full.is)
