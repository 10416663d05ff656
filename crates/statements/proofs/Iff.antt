-- Tests as the facts that they stand for, and joined equivalences.
-- Assumes nothing.
use mathlib.Core.Path.{◌≡◌, refl}
use mathlib.Core.Logic.{◌↔◌, ◌⊎◌, inl, inr, ⊎_elim}
use mathlib.Core.Bool.{Bool, true, false, not, ◌&&◌}
use mathlib.Core.List.{List}
use Prim.Native.Nat.{ℕ, ◌^◌, ◌≤◌, ◌<◌}
use native.Mathlib.Omega.{arith}
use lib.ListN.{length}
use lib.Dec.{T, ltb, ltb→lt, lt→ltb, nltb→le, not_T}
use lib.Arith.{le→nltb}
use borrow.Author.Tests.{lt-ltb}
use Rattle.bools.proofs.Bools.{clash, below_or_not}
use Rattle.precision.specs.Precision.{in_range}
use Rattle.precision.proofs.Range.{in-range, range_in}
use Rattle.format.specs.GuardBits.{guards_in}
use Rattle.format.specs.Format.{precision_of, word_count, is_offered}
use Rattle.format.specs.declared.Format.{Format}
use Rattle.format.specs.declared.guard_bits.GuardBits.{GuardBits}
use Rattle.format.proofs.Range.{InRange, guards-in, in_guards}
use Rattle.format.proofs.Laws.{count_most}
use Rattle.tail.proofs.Bits.{before_first, at_first}
use Rattle.layout.specs.Layout.{end_of, is_wrong, first_wrong, first_past}
use Rattle.layout.proofs.Laws.{not_wrong, right_not_wrong, all_right, wrong_there, right_before}
use Rattle.image.specs.Image.{table_of}
use Rattle.operand.specs.Operand.{is_fraction_count, is_normalised}
use Rattle.operand.proofs.Laws.{count-in, in_count, normalised_in, in_normalised}
use Rattle.statements.specs.Terms.{IsPrecision, AreGuardBits, IsOffered, IsRightAt, IsSetPast, IsTailZero, IsFractionCount, IsNormalised}

pub joined : {A B C : Type 0} → A ↔ B → B ↔ C → A ↔ C
joined f g = (λ a. g.0 (f.0 a), λ c. f.1 (g.1 c))

pub same : {A : Type 0} → A ↔ A
same = (λ a. a, λ a. a)

pub both : {A B C D : Type 0} → A ↔ C → B ↔ D → (A × B) ↔ (C × D)
both f g = (λ t. (f.0 t.0, g.0 t.1), λ t. (f.1 t.0, g.1 t.1))

-- of what is not
pub none : {A B : Type 0} → A ↔ B → (A → ⊥) ↔ (B → ⊥)
none f = (λ n b. n (f.1 b), λ n a. n (f.0 a))

-- under a fact that both sides share
pub under : {A B C : Type 0} → (A → B ↔ C) → (A × B) ↔ (A × C)
under f = (λ t. (t.0, (f t.0).0 t.1), λ t. (t.0, (f t.0).1 t.1))

pub either : {A B C D : Type 0} → A ↔ C → B ↔ D → (A ⊎ B) ↔ (C ⊎ D)
either f g = (⊎_elim (λ a. inl (f.0 a)) (λ b. inr (g.0 b)), ⊎_elim (λ c. inl (f.1 c)) (λ d. inr (g.1 d)))

-- nested pairs as one row
pub row3 : {A B C : Type 0} → (A × (B × C)) ↔ (A × B × C)
row3 = (λ t. (t.0, t.1.0, t.1.1), λ t. (t.0, (t.1, t.2)))

pub row4 : {A B C D : Type 0} → (A × (B × (C × D))) ↔ (A × B × C × D)
row4 = (λ t. (t.0, t.1.0, t.1.1.0, t.1.1.1), λ t. (t.0, (t.1, (t.2, t.3))))

pub row5 : {A B C D E : Type 0} → (A × (B × (C × (D × E)))) ↔ (A × B × C × D × E)
row5 = (λ t. (t.0, t.1.0, t.1.1.0, t.1.1.1.0, t.1.1.1.1), λ t. (t.0, (t.1, (t.2, (t.3, t.4)))))

pub row6 : {A B C D E F : Type 0} → (A × (B × (C × (D × (E × F))))) ↔ (A × B × C × D × E × F)
row6 = (λ t. (t.0, t.1.0, t.1.1.0, t.1.1.1.0, t.1.1.1.1.0, t.1.1.1.1.1), λ t. (t.0, (t.1, (t.2, (t.3, (t.4, t.5))))))

-- the usual guard bits can be ordered
pub usual_guards : AreGuardBits 2 3
usual_guards = (omega arith, omega arith, omega arith, omega arith)

-- so a row that begins with the ranges of a format that has them says no more than its precision's
pub usual2 : {P B : Type 0} → ((P × AreGuardBits 2 3) × B) ↔ (P × B)
usual2 = (λ t. (t.0.0, t.1), λ t. ((t.0, usual_guards), t.1))

pub usual3 : {P B C : Type 0} → ((P × AreGuardBits 2 3) × B × C) ↔ (P × B × C)
usual3 = (λ t. (t.0.0, t.1, t.2), λ t. ((t.0, usual_guards), t.1, t.2))

pub usual4 : {P B C D : Type 0} → ((P × AreGuardBits 2 3) × B × C × D) ↔ (P × B × C × D)
usual4 = (λ t. (t.0.0, t.1, t.2, t.3), λ t. ((t.0, usual_guards), t.1, t.2, t.3))

pub usual5 : {P B C D E : Type 0} → ((P × AreGuardBits 2 3) × B × C × D × E) ↔ (P × B × C × D × E)
usual5 = (λ t. (t.0.0, t.1, t.2, t.3, t.4), λ t. ((t.0, usual_guards), t.1, t.2, t.3, t.4))

pub usual6 : {P B C D E F : Type 0} → ((P × AreGuardBits 2 3) × B × C × D × E × F) ↔ (P × B × C × D × E × F)
usual6 = (λ t. (t.0.0, t.1, t.2, t.3, t.4, t.5), λ t. ((t.0, usual_guards), t.1, t.2, t.3, t.4, t.5))

-- a test that passed, as an equation, and the other way round
pub passed : (b : Bool) → T b → b ≡ true
passed true t = refl
passed false t = absurd t

pub failed : (b : Bool) → T (not b) → b ≡ false
failed true t = absurd t
failed false t = refl

passes : (b : Bool) → b ≡ true → T b
passes b e = rw e tt

-- the test of a limit, as the fact that it stands for: where the limit is kept, and where it is broken
pub kept : (b : Bool) {A : Type 0} → (b ≡ true → A) → (A → b ≡ true) → T (not (not b)) ↔ A
kept true to from = (λ t. to refl, λ a. tt)
kept false to from = (λ t. absurd t, λ a. clash (from a) refl)

pub broken : (b : Bool) {A : Type 0} → (b ≡ true → A) → (A → b ≡ true) → T (not b) ↔ (A → ⊥)
broken true to from = (λ t. absurd t, λ f. f (to refl))
broken false to from = (λ t a. clash (from a) refl, λ f. tt)

-- k is a precision
pub is_precision : (k : ℕ) → T (not (not (in_range k))) ↔ IsPrecision k
is_precision k = kept (in_range k) (in-range k) (λ p. range_in k p.0 p.1)

pub no_precision : (k : ℕ) → T (not (in_range k)) ↔ (IsPrecision k → ⊥)
no_precision k = broken (in_range k) (in-range k) (λ p. range_in k p.0 p.1)

-- a and b are guard bits that can be ordered; by order alone, so that a term with other limits is refused with a number
-- at which it is wrong
guards_told : (g : GuardBits) → guards_in g ≡ true → AreGuardBits g.table g.input
guards_told g e =
    let r = guards-in g e in
    (omega (arith, r.table_least), omega (arith, r.table_most), omega (arith, r.input_least), omega (arith, r.input_most))

pub guards_of : (g : GuardBits) → AreGuardBits g.table g.input → InRange g
guards_of g t =
    record { table_least = omega (arith, t.0); table_most = omega (arith, t.1); input_least = omega (arith, t.2); input_most = omega (arith, t.3) }

pub are_guards : (g : GuardBits) → T (not (not (guards_in g))) ↔ AreGuardBits g.table g.input
are_guards g = kept (guards_in g) (guards_told g) (λ t. in_guards g (guards_of g t))

pub no_guards : (g : GuardBits) → T (not (guards_in g)) ↔ (AreGuardBits g.table g.input → ⊥)
no_guards g = broken (guards_in g) (guards_told g) (λ t. in_guards g (guards_of g t))

-- a format can be ordered, by its test
pub is_told : (F : Format) → IsOffered F → is_offered F ≡ true
is_told F o = rw (range_in (precision_of F) o.0.0 o.0.1, in_guards F.guard_bits (guards_of F.guard_bits o.1))

pub not_told : (F : Format) → (IsOffered F → ⊥) → is_offered F ≡ false
not_told F f = by (in_range (precision_of F)) (guards_in F.guard_bits) refl refl
  where
    by : (x y : Bool) → in_range (precision_of F) ≡ x → guards_in F.guard_bits ≡ y → x && y ≡ false
    by true true e d = absurd (f (in-range (precision_of F) e, guards_told F.guard_bits d))
    by true false e d = refl
    by false y e d = refl

-- n is a count of fraction bits
pub is_count : (n : ℕ) → T (not (not (is_fraction_count n))) ↔ IsFractionCount n
is_count n = kept (is_fraction_count n) (count-in n) (λ c. in_count n c.0 c.1)

pub no_count : (n : ℕ) → T (not (is_fraction_count n)) ↔ (IsFractionCount n → ⊥)
no_count n = broken (is_fraction_count n) (count-in n) (λ c. in_count n c.0 c.1)

-- X is normalised
pub is-normalised : (n X : ℕ) → T (not (not (is_normalised n X))) ↔ IsNormalised n X
is-normalised n X = kept (is_normalised n X) (normalised_in n X) (λ o. in_normalised n X o.0 o.1)

pub not_normalised : (n X : ℕ) → T (not (is_normalised n X)) ↔ (IsNormalised n X → ⊥)
not_normalised n X = broken (is_normalised n X) (normalised_in n X) (λ o. in_normalised n X o.0 o.1)

-- orders
pub is_below : (a b : ℕ) → T (ltb a b) ↔ (a < b)
is_below a b = (ltb→lt a b, lt→ltb a b)

pub not_below : (a b : ℕ) → T (not (ltb a b)) ↔ (b ≤ a)
not_below a b = (nltb→le a b, le→nltb a b)

-- a node that has a word is in the table
pub in_table : (F : Format) (j : ℕ) → j < word_count F → j ≤ 2 ^ precision_of F
in_table F j h = omega (arith, h, count_most F.form (precision_of F))

-- the word of node j is read and is wrong
pub wrong_word : (F : Format) (s : List ℕ) (j : ℕ) → T (ltb j (word_count F) && is_wrong (table_of F) s j) ↔ ((j < word_count F) × (IsRightAt F s j → ⊥))
wrong_word F s j = (to (ltb j (word_count F)) (is_wrong (table_of F) s j) refl refl, from)
  where
    to : (a b : Bool) → ltb j (word_count F) ≡ a → is_wrong (table_of F) s j ≡ b → T (a && b) → (j < word_count F) × (IsRightAt F s j → ⊥)
    to true true e d t = (ltb→lt j (word_count F) (passes (ltb j (word_count F)) e), λ r. clash d (right_not_wrong (table_of F) s j r))
    to true false e d t = absurd t
    to false b e d t = absurd t

    by : (b : Bool) → is_wrong (table_of F) s j ≡ b → (IsRightAt F s j → ⊥) → T b
    by true e f = tt
    by false e f = f (not_wrong (table_of F) s j e)

    from : (j < word_count F) × (IsRightAt F s j → ⊥) → T (ltb j (word_count F) && is_wrong (table_of F) s j)
    from t = rw (lt-ltb j (word_count F) t.0) (by (is_wrong (table_of F) s j) refl t.1)

pub no_wrong_word : (F : Format) (s : List ℕ) (j : ℕ) → T (not (ltb j (word_count F) && is_wrong (table_of F) s j)) ↔ (j < word_count F → IsRightAt F s j)
no_wrong_word F s j = (to, from)
  where
    by : (b : Bool) → is_wrong (table_of F) s j ≡ b → T (not b) → IsRightAt F s j
    by true e t = absurd t
    by false e t = not_wrong (table_of F) s j e

    to : T (not (ltb j (word_count F) && is_wrong (table_of F) s j)) → j < word_count F → IsRightAt F s j
    to t h = by (is_wrong (table_of F) s j) refl (rw (lt-ltb j (word_count F) h) at t)

    from : (j < word_count F → IsRightAt F s j) → T (not (ltb j (word_count F) && is_wrong (table_of F) s j))
    from f = not_T (ltb j (word_count F) && is_wrong (table_of F) s j) (λ t. let w = (wrong_word F s j).0 t in w.1 (f w.0))

-- the same as equations
pub read_wrong : (F : Format) (s : List ℕ) (j : ℕ) → j < word_count F → (IsRightAt F s j → ⊥) → (ltb j (word_count F) && is_wrong (table_of F) s j) ≡ true
read_wrong F s j h f = passed (ltb j (word_count F) && is_wrong (table_of F) s j) ((wrong_word F s j).1 (h, f))

pub read_right : (F : Format) (s : List ℕ) (j : ℕ) → (j < word_count F → IsRightAt F s j) → (ltb j (word_count F) && is_wrong (table_of F) s j) ≡ false
read_right F s j f = failed (ltb j (word_count F) && is_wrong (table_of F) s j) ((no_wrong_word F s j).1 f)

-- some word of the image is wrong, and none is
pub some_wrong : (F : Format) (s : List ℕ) → T (ltb (first_wrong (table_of F) s) (word_count F)) ↔ ((j : ℕ) × (j < word_count F) × (IsRightAt F s j → ⊥))
some_wrong F s = (to, from)
  where
    to : T (ltb (first_wrong (table_of F) s) (word_count F)) → (j : ℕ) × (j < word_count F) × (IsRightAt F s j → ⊥)
    to t =
        let h = ltb→lt (first_wrong (table_of F) s) (word_count F) t in
        (first_wrong (table_of F) s, h, wrong_there (table_of F) s h)

    from : (j : ℕ) × (j < word_count F) × (IsRightAt F s j → ⊥) → T (ltb (first_wrong (table_of F) s) (word_count F))
    from w =
        not_not (ltb (first_wrong (table_of F) s) (word_count F))
        (λ t. w.2 (right_before (table_of F) s w.0 (omega (arith, w.1, nltb→le (first_wrong (table_of F) s) (word_count F) t))))
      where
        not_not : (b : Bool) → (T (not b) → ⊥) → T b
        not_not true f = tt
        not_not false f = absurd (f tt)

pub none_wrong : (F : Format) (s : List ℕ) → T (not (ltb (first_wrong (table_of F) s) (word_count F))) ↔ ((j : ℕ) → j < word_count F → IsRightAt F s j)
none_wrong F s = (to, from)
  where
    to : T (not (ltb (first_wrong (table_of F) s) (word_count F))) → (j : ℕ) → j < word_count F → IsRightAt F s j
    to t j h = right_before (table_of F) s j (omega (arith, h, nltb→le (first_wrong (table_of F) s) (word_count F) t))

    from : ((j : ℕ) → j < word_count F → IsRightAt F s j) → T (not (ltb (first_wrong (table_of F) s) (word_count F)))
    from f = le→nltb (first_wrong (table_of F) s) (word_count F) (omega (arith, all_right (table_of F) s f))

-- where no bit behind the last word is one, the lowest byte with such a one is past the last; by order alone, so that a
-- term that passes some of these bits is refused with a number at which it is wrong
pub zero_past : (F : Format) (s : List ℕ) → IsTailZero F s → length s ≤ first_past (table_of F) s
zero_past F s z =
    ⊎_elim (λ l. let b = at_first (end_of (table_of F)) s l in absurd (omega (arith, b.3, z b.0 (omega (arith, b.1)) (omega (arith, l, b.2)))))
    (λ g. g) (below_or_not (first_past (table_of F) s) (length s))

-- some byte has a one behind the last word, and none has
module _ (F : Format) (s : List ℕ) where
  pub some_past : T (ltb (first_past (table_of F) s) (length s)) ↔ ((i : ℕ) × IsSetPast F s i)
  some_past = (to, from)
    where
      to : T (ltb (first_past (table_of F) s) (length s)) → (i : ℕ) × IsSetPast F s i
      to t =
          let h = ltb→lt (first_past (table_of F) s) (length s) t in
          (first_past (table_of F) s, (h, at_first (end_of (table_of F)) s h))

      from : (i : ℕ) × IsSetPast F s i → T (ltb (first_past (table_of F) s) (length s))
      from w =
          let b = w.1.1 in
          lt→ltb (first_past (table_of F) s) (length s)
          (⊎_elim (λ l. l) (λ g. absurd (omega (arith, b.3, before_first (end_of (table_of F)) s b.0 b.1 (omega (arith, g, b.2, w.1.0)))))
          (below_or_not (first_past (table_of F) s) (length s)))

  pub none_past : T (not (ltb (first_past (table_of F) s) (length s))) ↔ IsTailZero F s
  none_past = (to, from)
    where
      to : T (not (ltb (first_past (table_of F) s) (length s))) → IsTailZero F s
      to t b h l = before_first (end_of (table_of F)) s b h (omega (arith, l, nltb→le (first_past (table_of F) s) (length s) t))

      from : IsTailZero F s → T (not (ltb (first_past (table_of F) s) (length s)))
      from z = le→nltb (first_past (table_of F) s) (length s) (zero_past F s z)
