-- What the order of a list of refusals means for the number, the place and the value of an answer, for any list.
-- Assumes nothing.
use mathlib.Core.Path.{◌≡◌, refl, sym}
use mathlib.Core.Logic.{◌↔◌, ◌⊎◌, inl, inr, ⊎_elim}
use mathlib.Core.Bool.{Bool, true, false, cond, not, ◌&&◌, ◌||◌}
use mathlib.Core.List.{List, [], ◌∷◌}
use Prim.Native.Nat.{ℕ}
use lib.Dec.{T, eqb, eqb→eq, eqb_refl, T_not}
use Rattle.bools.proofs.Bools.{both}
use Rattle.answers.specs.Refusal.{Refusal, Outcome, outcome, turned_back, is_one_of}

-- a refusal that applies turns the call back
pub applied : (r : Refusal) (rs : List Refusal) (v : ℕ) → r.applies ≡ true → outcome (r ∷ rs) v ≡ turned_back r
applied r rs v e = rw e refl

-- and one that does not leaves it to those after it
pub passed : (r : Refusal) (rs : List Refusal) (v : ℕ) → r.applies ≡ false → outcome (r ∷ rs) v ≡ outcome rs v
passed r rs v e = rw e refl

-- n is neither 0 nor the number of a refusal in the list
abbrev pub avoids : ℕ → List Refusal → Bool
avoids n [] = not (eqb n 0)
avoids n (r ∷ rs) = not (eqb n r.number) && avoids n rs

-- each refusal of the list has a number other than 0
abbrev pub numbered : List Refusal → Bool
numbered [] = true
numbered (r ∷ rs) = not (eqb r.number 0) && numbered rs

-- each refusal of the list has place 0, but for those with a number among ms
abbrev pub placed_at : List ℕ → List Refusal → Bool
placed_at ms [] = true
placed_at ms (r ∷ rs) = (is_one_of r.number ms || eqb r.place 0) && placed_at ms rs

-- n is none of ms
abbrev pub NoneOf : ℕ → List ℕ → Type 0
NoneOf n [] = Unit {0}
NoneOf n (m ∷ ms) = (n ≡ m → ⊥) × NoneOf n ms

-- two numbers that a test tells apart are not equal
pub apart : (m n : ℕ) → T (not (eqb m n)) → m ≡ n → ⊥
apart m n t e = T_not (eqb m n) t (rw e (eqb_refl n))

-- what holds of both arms holds of the choice
chosen : (P : Outcome → Type 0) (b : Bool) (x y : Outcome) → P x → P y → P (cond b x y)
chosen P true x y p q = p
chosen P false x y p q = q

-- an answer never has a number that its refusals avoid
pub avoided : (n : ℕ) (rs : List Refusal) (v : ℕ) → T (avoids n rs) → (outcome rs v).number ≡ n → ⊥
avoided n [] v t = λ e. apart n 0 t (sym e)
avoided n (r ∷ rs) v t =
    chosen (λ o. o.number ≡ n → ⊥) r.applies (turned_back r) (outcome rs v)
    (λ e. apart n r.number (both (not (eqb n r.number)) (avoids n rs) t).0 (sym e))
    (avoided n rs v (both (not (eqb n r.number)) (avoids n rs) t).1)

first_of : (b : Bool) (x y : Outcome) (n : ℕ) → x.number ≡ n → (y.number ≡ n → ⊥) → ((cond b x y).number ≡ n) ↔ T b
first_of true x y n e f = (λ h. tt, λ t. e)
first_of false x y n e f = (λ h. f h, λ t. absurd t)

-- the number is that of the first refusal exactly when this one applies
pub first : (r : Refusal) (rs : List Refusal) (v : ℕ) → T (avoids r.number rs) → ((outcome (r ∷ rs) v).number ≡ r.number) ↔ T r.applies
first r rs v t = first_of r.applies (turned_back r) (outcome rs v) r.number refl (avoided r.number rs v t)

later_of : (b : Bool) (x y : Outcome) (n : ℕ) → (x.number ≡ n → ⊥) → ((cond b x y).number ≡ n) ↔ (T (not b) × (y.number ≡ n))
later_of true x y n f = (λ h. absurd (f h), λ t. absurd t.0)
later_of false x y n f = (λ h. (tt, h), λ t. t.1)

-- the number is another one exactly when the first refusal does not apply and those after it give that number
pub later : (n : ℕ) (r : Refusal) (rs : List Refusal) (v : ℕ) → T (not (eqb r.number n)) → ((outcome (r ∷ rs) v).number ≡ n) ↔ (T (not r.applies) × ((outcome rs v).number ≡ n))
later n r rs v t = later_of r.applies (turned_back r) (outcome rs v) n (apart r.number n t)

shared_of : (b : Bool) (x y : Outcome) (n : ℕ) → x.number ≡ n → ((cond b x y).number ≡ n) ↔ (T b ⊎ (y.number ≡ n))
shared_of true x y n e = (λ h. inl tt, λ u. e)
shared_of false x y n e = (λ h. inr h, λ u. ⊎_elim (λ t. absurd t) (λ h. h) u)

-- where refusals after the first may have its number too, it is the answer's exactly when the first applies or those
-- after it give it
pub shared : (r : Refusal) (rs : List Refusal) (v : ℕ) → ((outcome (r ∷ rs) v).number ≡ r.number) ↔ (T r.applies ⊎ ((outcome rs v).number ≡ r.number))
shared r rs v = shared_of r.applies (turned_back r) (outcome rs v) r.number refl

-- each refusal of the list has a number among ms
abbrev pub among : List ℕ → List Refusal → Bool
among ms [] = true
among ms (r ∷ rs) = is_one_of r.number ms && among ms rs

-- an answer's number is one of any list that has 0 and the numbers of its refusals
pub listed : (ms : List ℕ) (rs : List Refusal) (v : ℕ) → T (is_one_of 0 ms) → T (among ms rs) → T (is_one_of (outcome rs v).number ms)
listed ms [] v z t = z
listed ms (r ∷ rs) v z t =
    let all = both (is_one_of r.number ms) (among ms rs) t in
    chosen (λ o. T (is_one_of o.number ms)) r.applies (turned_back r) (outcome rs v) all.0 (listed ms rs v z all.1)

-- a call that is turned back has the value 0
pub refused_value : (rs : List Refusal) (v : ℕ) → ((outcome rs v).number ≡ 0 → ⊥) → (outcome rs v).value ≡ 0
refused_value [] v = λ f. absurd (f refl)
refused_value (r ∷ rs) v =
    chosen (λ o. (o.number ≡ 0 → ⊥) → o.value ≡ 0) r.applies (turned_back r) (outcome rs v) (λ f. refl) (refused_value rs v)

-- a call that gives 0 has the value 0 in any case
pub value_of_0 : (rs : List Refusal) → (outcome rs 0).value ≡ 0
value_of_0 [] = refl
value_of_0 (r ∷ rs) = chosen (λ o. o.value ≡ 0) r.applies (turned_back r) (outcome rs 0) refl (value_of_0 rs)

-- a served call has place 0 and its value
pub served_value : (rs : List Refusal) (v : ℕ) → T (numbered rs) → (outcome rs v).number ≡ 0 → ((outcome rs v).place ≡ 0) × ((outcome rs v).value ≡ v)
served_value [] v t = λ e. (refl, refl)
served_value (r ∷ rs) v t =
    chosen (λ o. o.number ≡ 0 → (o.place ≡ 0) × (o.value ≡ v)) r.applies (turned_back r) (outcome rs v)
    (λ e. absurd (apart r.number 0 (both (not (eqb r.number 0)) (numbered rs) t).0 e))
    (served_value rs v (both (not (eqb r.number 0)) (numbered rs) t).1)

or_apart : (a b : Bool) → T (a || b) → (T a → ⊥) → T b
or_apart true b t f = absurd (f tt)
or_apart false b t f = t

not_one_of : (n : ℕ) (ms : List ℕ) → NoneOf n ms → T (is_one_of n ms) → ⊥
not_one_of n [] f t = t
not_one_of n (m ∷ ms) f t = not_one_of n ms f.1 (or_apart (eqb n m) (is_one_of n ms) t (λ h. f.0 (eqb→eq n m h)))

-- the place is 0 but under the numbers at which refusals carry places
pub placed : (ms : List ℕ) (rs : List Refusal) (v : ℕ) → T (placed_at ms rs) → NoneOf (outcome rs v).number ms → (outcome rs v).place ≡ 0
placed ms [] v t = λ f. refl
placed ms (r ∷ rs) v t =
    let all = both (is_one_of r.number ms || eqb r.place 0) (placed_at ms rs) t in
    chosen (λ o. NoneOf o.number ms → o.place ≡ 0) r.applies (turned_back r) (outcome rs v)
    (λ f. eqb→eq r.place 0 (or_apart (is_one_of r.number ms) (eqb r.place 0) all.0 (not_one_of r.number ms f)))
    (placed ms rs v all.1)
