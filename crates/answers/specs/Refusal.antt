-- Refusals and their order (docs/SCOPE.md, "Turned back, in checking order").
-- Assumes nothing.
use Rattle.std.specs.Prelude.{ℕ, Bool, false, cond, ◌||◌, List, [], ◌∷◌, eqb}

-- a refusal: whether it applies, its number, and its place
pub record Refusal : Type 0 where
  pub applies : Bool
  pub number : ℕ
  pub place : ℕ

-- number, place and value of an answer
pub record Outcome : Type 0 where
  pub number : ℕ
  pub place : ℕ
  pub value : ℕ

-- turned back by a refusal: its number and place, and the value 0
abbrev pub turned_back : Refusal → Outcome
turned_back r = record { number = r.number; place = r.place; value = 0 }

-- served: number 0, place 0 and the value
abbrev pub served : ℕ → Outcome
served v = record { number = 0; place = 0; value = v }

-- the first refusal of the list that applies turns the call back; where none does it is served with v
abbrev pub outcome : List Refusal → ℕ → Outcome
outcome [] v = served v
outcome (r ∷ rs) v = cond r.applies (turned_back r) (outcome rs v)

-- one of the list applies
abbrev pub some_applies : List Refusal → Bool
some_applies [] = false
some_applies (r ∷ rs) = r.applies || some_applies rs

-- n is one of the list of numbers
abbrev pub is_one_of : ℕ → List ℕ → Bool
is_one_of n [] = false
is_one_of n (m ∷ ms) = eqb n m || is_one_of n ms
