-- `packing::field` meets its contract: a window holds the bits at its top. Assumes nothing.
use Rattle.std.proofs.Common.{ℕ, ◌-◌, ◌/◌, ◌^◌, sym, ap, ◌∙◌, arith}
use Rattle.packing.specs.Packing.{Bytes}
use Rattle.packing.specs.Inner.{window_at}
use Rattle.packing.proofs.Fields.{window_field}
use Rattle.packing.proofs.Reading.{field_there}
use Rattle.packing.proofs.field.Goals as goal

pub returns-clause-value : goal.returns-clause-value
returns-clause-value c =
    let a = c.args in
    let bytes : Bytes a.s.now = λ i. omega (arith, c.type_inv.s i) in
    c.high.ensures
    ∙ ap (λ (e : ℕ). c.window.result / 2 ^ e) {y = 64 - a.width} (omega arith)
    ∙ ap (λ (x : ℕ). x / 2 ^ (64 - a.width)) (c.window.ensures ∙ ap (window_at a.s.now) {y = a.from} (omega arith))
    ∙ window_field a.s.now a.from a.width bytes (omega (arith, c.if-width-gt-WIDEST.false))
    ∙ sym (field_there a.s.now a.from a.width (omega (arith, c.if-width-gt-WIDEST.false)))
