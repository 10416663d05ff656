-- What a test for none tells of what a call gave.
-- Assumes nothing.
use mathlib.Core.Path.{◌≡◌, refl, ap, ◌∙◌}
use mathlib.Core.Bool.{Bool, true, false, not}
use Rattle.std.proofs.Common.{Option}
use Rattle.std.specs.Option.{is_some, is_none}

pub none_is : {A : Type 0} {o o' : Option A} {b d : Bool} → o ≡ o' → is_some o ≡ not b → b ≡ d → is_none o' ≡ d
none_is {d = d} e tells is = rw e at (ap not tells ∙ ap (λ (b : Bool). not (not b)) is ∙ twice d)
  where
    twice : (b : Bool) → not (not b) ≡ b
    twice true = refl
    twice false = refl
