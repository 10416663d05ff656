-- An answer is settled by its number, its place and its value: two answers that agree in these are the same.
-- Assumes nothing.
use mathlib.Core.Path.{◌≡◌, refl, sym, ap, ap₂, ◌∙◌}
use mathlib.Core.Bool.{cond}
use Prim.Native.Nat.{ℕ}
use lib.Dec.{eqb}
use Rattle.std.proofs.Common.{Result, Ok, Err}
use Rattle.answers.specs.Refusal.{Outcome}
use Rattle.answers.specs.Answer.{number_of, place_of, refused, outcome_of}
use Rattle.answers.specs.declared.Refused.{Refused}
use Rattle.answers.specs.declared.Refused.TheVariants.{Precision, GuardBits, Length, Node, FractionBits, Operand}
use Rattle.answers.specs.declared.Refused.TheVariants.{Word, Tail}
use Rattle.answers.proofs.Earlier.{has_number}

-- a reason by its number and place
abbrev reason_of : ℕ → ℕ → Refused
reason_of n p = cond (eqb n 1) Precision (cond (eqb n 18) GuardBits (cond (eqb n 2) Length (cond (eqb n 3) Node (cond (eqb n 4) FractionBits (cond (eqb n 5) Operand (cond (eqb n 6) (Word p) (Tail p)))))))

again : (why : Refused) → reason_of (number_of why) (place_of why) ≡ why
again Precision = refl
again GuardBits = refl
again Length = refl
again Node = refl
again FractionBits = refl
again Operand = refl
again (Word j) = refl
again (Tail at) = refl

same_reason : (why why' : Refused) → refused why ≡ refused why' → why ≡ why'
same_reason why why' e = sym (again why) ∙ ap₂ reason_of (ap (λ (o : Outcome). o.number) e) (ap (λ (o : Outcome). o.place) e) ∙ again why'

-- where values that count alike are the same
module _ {T : Type 0} (count : T → ℕ) (counts : (v w : T) → count v ≡ count w → v ≡ w) where
  pub same_answer : (a b : Result T Refused) → outcome_of count a ≡ outcome_of count b → a ≡ b
  same_answer (Ok v) (Ok w) e = ap Ok (counts v w (ap (λ (o : Outcome). o.value) e))
  same_answer (Ok v) (Err why) e = absurd (has_number why (sym (ap (λ (o : Outcome). o.number) e)))
  same_answer (Err why) (Ok v) e = absurd (has_number why (ap (λ (o : Outcome). o.number) e))
  same_answer (Err why) (Err why') e = ap Err (same_reason why why' e)
