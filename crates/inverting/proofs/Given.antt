-- What a reciprocal is that is given, said of the answer as the code has it.
-- Assumes nothing.
use mathlib.Core.Path.{◌≡◌, sym, ap}
use mathlib.Core.List.{List}
use Prim.Native.Nat.{ℕ}
use Rattle.std.proofs.Common.{Result, Ok, Err, IfOk}
use Rattle.units.specs.declared.Ulps.{Ulps}
use Rattle.format.specs.Format.{precision_of, table_bits, input_bits}
use Rattle.format.specs.declared.Format.{Format}
use Rattle.answers.specs.Refusal.{Outcome}
use Rattle.answers.specs.Answer.{outcome_of_reciprocal}
use Rattle.answers.specs.declared.Refused.{Refused}
use Rattle.interpolation.specs.Reciprocal.{reciprocal, IsWithinUlp}
use Rattle.interpolation.specs.Calls.{reciprocal_outcome}
use Rattle.interpolation.proofs.Given.{given_right, given_within}

-- a value with what the outcome promises of a value
ok_has : (P : ℕ → Type 0) (o : Outcome) → (o.number ≡ 0 → P o.value) → (r : Result Ulps Refused)
    → outcome_of_reciprocal r ≡ o → IfOk r (λ R. P R.0)
ok_has P o h (Ok R) e = rw (ap (λ (o : Outcome). o.value) e) (h (sym (ap (λ (o : Outcome). o.number) e)))
ok_has P o h (Err why) e = tt

module _ (F : Format) (s : List ℕ) (n X : ℕ) (r : Result Ulps Refused)
    (answer : outcome_of_reciprocal r ≡ reciprocal_outcome F s n X) where
  -- it is R
  pub ok_right : IfOk r (λ R. R.0 ≡ reciprocal (precision_of F) (table_bits F) (input_bits F) n X)
  ok_right = ok_has (λ R. R ≡ reciprocal (precision_of F) (table_bits F) (input_bits F) n X)
      (reciprocal_outcome F s n X) (given_right F s n X) r answer

  -- and within an ulp
  pub ok_within : IfOk r (λ R. IsWithinUlp (precision_of F) n X R.0)
  ok_within = ok_has (IsWithinUlp (precision_of F) n X) (reciprocal_outcome F s n X) (given_within F s n X) r answer
