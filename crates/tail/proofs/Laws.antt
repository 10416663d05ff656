-- What holds of the bits of a byte list from bit b on, byte by byte, and of bytes that are zero.
-- Assumes nothing.
use mathlib.Core.Path.{◌≡◌, sym, ◌∙◌, ap}
use mathlib.Core.Logic.{⊎_elim}
use mathlib.Core.Bool.{true, false, not}
use mathlib.Core.List.{List}
use Prim.Native.Nat.{ℕ, ◌+◌, ◌-◌, ◌*◌, ◌%◌, ◌^◌, ◌≤◌, ◌<◌}
use native.Mathlib.Nat.{mod-eq_of_lt, mod-one, zero-mod}
use native.Mathlib.Omega.{arith}
use lib.Dec.{eqb, ltb}
use lib.ListN.{length, get_or}
use borrow.Author.Tests.{eq-eqb, ne_eqb, eqb-true, ltb-true, ltb-false, lt-ltb, le-ltb, not-false}
use Rattle.std.specs.Prelude.{Some, None}
use Rattle.bools.proofs.Bools.{clash, below_or_not, given, not_given}
use Rattle.bools.proofs.Lowest.{lowest_is, lowest_none}
use Rattle.tail.specs.Tail.{bits_from, has_one_from, first_one_from, first_one_in}
use Rattle.tail.specs.Inner.{IsZero}

module _ (b : ℕ) (s : List ℕ) (i : ℕ) where
  -- a byte has a one among these bits, or they make 0
  pub bits_none : bits_from b s i ≡ 0 → has_one_from b s i ≡ false
  bits_none e = ap not (eq-eqb (bits_from b s i) 0 e)

  pub none_bits : has_one_from b s i ≡ false → bits_from b s i ≡ 0
  none_bits e = eqb-true (bits_from b s i) 0 (not-false (eqb (bits_from b s i) 0) e)

  pub bits_one : (bits_from b s i ≡ 0 → ⊥) → has_one_from b s i ≡ true
  bits_one f = ap not (ne_eqb (bits_from b s i) 0 f)

  -- a byte that ends before bit b has none of them
  pub byte_before : 8 * i + 8 ≤ b → has_one_from b s i ≡ false
  byte_before h = bits_none (ap (λ (m : ℕ). get_or s i 0 % 2 ^ m) none ∙ mod-one (get_or s i 0))
    where
      none : 8 - (b - 8 * i) ≡ 0
      none = omega arith

  -- and one that starts there or later has all eight
  pub byte_from : b ≤ 8 * i → bits_from b s i ≡ get_or s i 0 % 256
  byte_from h = ap (λ (m : ℕ). get_or s i 0 % 2 ^ m) all
    where
      all : 8 - (b - 8 * i) ≡ 8
      all = omega arith

  byte_whole : b ≤ 8 * i → get_or s i 0 < 256 → bits_from b s i ≡ get_or s i 0
  byte_whole h l = byte_from h ∙ mod-eq_of_lt l

  -- a zero byte has no ones at all
  pub byte_zero : get_or s i 0 ≡ 0 → has_one_from b s i ≡ false
  byte_zero e = bits_none (ap (λ (x : ℕ). x % 2 ^ (8 - (b - 8 * i))) e ∙ zero-mod (2 ^ (8 - (b - 8 * i))))

  -- so a byte behind bit b is zero exactly where it has none
  pub none_zero : b ≤ 8 * i → get_or s i 0 < 256 → has_one_from b s i ≡ false → get_or s i 0 ≡ 0
  none_zero h l e = sym (byte_whole h l) ∙ none_bits e

  -- a byte that is set, not zero, has a one, and the other way round
  pub set_one : b ≤ 8 * i → get_or s i 0 < 256 → (get_or s i 0 ≡ 0 → ⊥) → has_one_from b s i ≡ true
  set_one h l f = bits_one (λ e. f (sym (byte_whole h l) ∙ e))

  pub one_set : has_one_from b s i ≡ true → get_or s i 0 ≡ 0 → ⊥
  one_set t e = clash t (byte_zero e)

-- zero bytes, and then zero bytes
module _ (s : List ℕ) (a b : ℕ) where
  pub zero_none : b ≤ a → IsZero s a b
  zero_none h i f l = absurd (omega (arith, h, f, l))

  pub zero_then : (c : ℕ) → IsZero s a b → IsZero s b c → IsZero s a c
  zero_then c z y i f h = ⊎_elim (λ l. z i f l) (λ g. y i g h) (below_or_not i b)

  pub zero_next : IsZero s a b → get_or s b 0 ≡ 0 → IsZero s a (b + 1)
  zero_next z e = zero_then (b + 1) z (λ i f h. ap (λ (x : ℕ). get_or s x 0) (here i f h) ∙ e)
    where
      here : (i : ℕ) → b ≤ i → i < b + 1 → i ≡ b
      here i f h = omega (arith, f, h)

-- the lowest byte with a one at bit b or later, where one has such a one and where none has
module _ (b : ℕ) (s : List ℕ) where
  pub one_is : (at : ℕ) → at < length s → has_one_from b s at ≡ true → ((i : ℕ) → i < at → has_one_from b s i ≡ false) → Some at ≡ first_one_in b s
  one_is at h t f = let first = lowest_is (has_one_from b s) (length s) at h t f in simp (first, lt-ltb at (length s) h)

  pub one_nowhere : ((i : ℕ) → i < length s → has_one_from b s i ≡ false) → None ≡ first_one_in b s
  one_nowhere f = let first = lowest_none (has_one_from b s) (length s) f in simp (first, le-ltb (length s) (length s) (omega arith))

  -- one that is found is the lowest, and stands in the list
  pub one_found : (at : ℕ) → Some at ≡ first_one_in b s → (at ≡ first_one_from b s) × (at < length s)
  one_found at e =
      let t = given (ltb (first_one_from b s) (length s)) (first_one_from b s) at e in
      (t.1, omega (arith, t.1, ltb-true (first_one_from b s) (length s) t.0))

  -- and where none is found there is none
  pub none_found : None ≡ first_one_in b s → length s ≤ first_one_from b s
  none_found e =
      ltb-false (first_one_from b s) (length s) (not_given (ltb (first_one_from b s) (length s)) (first_one_from b s) e)
