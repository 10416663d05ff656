-- Refusals that are tested before the others: what they answer alone is the answer of the whole list where one of them
-- applies, and where none does the others decide. To a call that is served none of them applies.
-- Assumes nothing.
use mathlib.Core.Path.{◌≡◌, refl, sym, ◌∙◌, ap}
use mathlib.Core.Logic.{◌↔◌}
use mathlib.Core.Bool.{Bool, true, false, cond, not, ◌||◌, true≢false}
use mathlib.Core.List.{List, [], ◌∷◌, ◌++◌}
use Prim.Native.Nat.{ℕ}
use lib.Dec.{T, eqb}
use Rattle.std.proofs.Common.{Result, Ok, Err, IsOk}
use Rattle.bools.proofs.Bools.{both}
use Rattle.answers.specs.Refusal.{Refusal, Outcome, outcome, turned_back, served, some_applies}
use Rattle.answers.specs.Answer.{number_of, outcome_of}
use Rattle.answers.specs.declared.Refused.{Refused}
use Rattle.answers.specs.declared.Refused.TheVariants.{Precision, GuardBits, Length, Node, FractionBits, Operand}
use Rattle.answers.specs.declared.Refused.TheVariants.{Word, Tail}
use Rattle.answers.proofs.Order.{apart, numbered}

-- no refusal has number 0
pub has_number : (why : Refused) → number_of why ≡ 0 → ⊥
has_number Precision e = apart 1 0 tt e
has_number GuardBits e = apart 18 0 tt e
has_number Length e = apart 2 0 tt e
has_number Node e = apart 3 0 tt e
has_number FractionBits e = apart 4 0 tt e
has_number Operand e = apart 5 0 tt e
has_number (Word j) e = apart 6 0 tt e
has_number (Tail at) e = apart 7 0 tt e

module _ (rs : List Refusal) (v : ℕ) where
  refuses_of : (r : Refusal) (o p q : Outcome) (b : Bool) → (q ≡ o → q ≡ p) → q ≡ cond b (turned_back r) o → q ≡ cond b (turned_back r) p
  refuses_of r o p q true rest e = e
  refuses_of r o p q false rest e = rest e

  -- an answer with a number that the earlier ones give alone is that of all
  pub earlier_refuses : (fs : List Refusal) (o : Outcome) → (o.number ≡ 0 → ⊥) → o ≡ outcome fs 0 → o ≡ outcome (fs ++ rs) v
  earlier_refuses [] o h e = absurd (h (ap (λ (p : Outcome). p.number) e))
  earlier_refuses (r ∷ fs) o h e = refuses_of r (outcome fs 0) (outcome (fs ++ rs) v) o r.applies (earlier_refuses fs o h) e

  passes_of : (r : Refusal) (o q : Outcome) (b a : Bool) → (a ≡ false → o ≡ q) → (b || a) ≡ false → cond b (turned_back r) o ≡ q
  passes_of r o q true a rest e = absurd (true≢false e)
  passes_of r o q false a rest e = rest e

  -- where none of them applies the later ones decide
  pub earlier_passes : (fs : List Refusal) → some_applies fs ≡ false → outcome (fs ++ rs) v ≡ outcome rs v
  earlier_passes [] e = refl
  earlier_passes (r ∷ fs) e = passes_of r (outcome (fs ++ rs) v) (outcome rs v) r.applies (some_applies fs) (earlier_passes fs) e

decides_of : (r : Refusal) (o p : Outcome) (b a : Bool) → (a ≡ true → o ≡ p) → (b || a) ≡ true → cond b (turned_back r) o ≡ cond b (turned_back r) p
decides_of r o p true a rest e = refl
decides_of r o p false a rest e = rest e

-- where one of them applies they decide alone, whatever the later ones are
pub earlier_decides : (fs rs : List Refusal) (v : ℕ) → some_applies fs ≡ true → outcome (fs ++ rs) v ≡ outcome fs 0
earlier_decides [] rs v e = absurd (true≢false (sym e))
earlier_decides (r ∷ fs) rs v e = decides_of r (outcome (fs ++ rs) v) (outcome fs 0) r.applies (some_applies fs) (earlier_decides fs rs v) e

serves_of : (r : Refusal) (o : Outcome) (b a : Bool) → T (not (eqb r.number 0)) → (o.number ≡ 0 → a ≡ false) → (cond b (turned_back r) o).number ≡ 0 → (b || a) ≡ false
serves_of r o true a n rest e = absurd (apart r.number 0 n e)
serves_of r o false a n rest e = rest e

-- to a call that is served none of its refusals applies
pub none_applies : (rs : List Refusal) (v : ℕ) → T (numbered rs) → (outcome rs v).number ≡ 0 → some_applies rs ≡ false
none_applies [] v t e = refl
none_applies (r ∷ rs) v t e =
    let all = both (not (eqb r.number 0)) (numbered rs) t in
    serves_of r (outcome rs v) r.applies (some_applies rs) all.0 (none_applies rs v all.1) e

-- nor does one of those that alone would serve it
pub earlier_clear : (fs : List Refusal) → T (numbered fs) → served 0 ≡ outcome fs 0 → some_applies fs ≡ false
earlier_clear fs t e = none_applies fs 0 t (sym (ap (λ (o : Outcome). o.number) e))

none_of : (b a : Bool) → (b || a) ≡ false → (b ≡ false) × (a ≡ false)
none_of true a e = absurd (true≢false e)
none_of false a e = (refl, e)

-- where none applies neither does the first of them, nor one of those after it
pub earlier_none : (r : Refusal) (fs : List Refusal) → some_applies (r ∷ fs) ≡ false → (r.applies ≡ false) × (some_applies fs ≡ false)
earlier_none r fs = none_of r.applies (some_applies fs)

-- where none of two lists applies, none of either does
pub neither_applies : (fs rs : List Refusal) → some_applies (fs ++ rs) ≡ false → (some_applies fs ≡ false) × (some_applies rs ≡ false)
neither_applies [] rs e = (refl, e)
neither_applies (r ∷ fs) rs e =
    let first = earlier_none r (fs ++ rs) e in
    let rest = neither_applies fs rs first.1 in
    (rw first.0 rest.0, rest.1)

-- a call is served exactly where its answer is a value
pub is_served : {A : Type 0} (count : A → ℕ) (r : Result A Refused) {o : Outcome} → outcome_of count r ≡ o → IsOk r ↔ (o.number ≡ 0)
is_served count (Ok v) e = (λ ok. sym (ap (λ (o : Outcome). o.number) e), λ n. refl)
is_served count (Err why) e = (λ ok. cc, λ n. absurd (has_number why (ap (λ (o : Outcome). o.number) e ∙ n)))
