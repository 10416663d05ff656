-- What reading a line finds, by its cases; which lines hold a number; and that `most` + 2 bytes settle it.
-- Assumes nothing.
use mathlib.Core.Path.{◌≡◌, refl, sym, ap, ◌∙◌}
use mathlib.Core.Bool.{Bool, true, false, cond, ◌&&◌}
use mathlib.Core.List.{List, [], ◌∷◌, ◌++◌}
use Prim.Native.Nat.{ℕ, suc, ◌+◌, ◌-◌, ◌^◌, ◌≤◌, ◌<◌}
use native.Mathlib.Nat.{pow-le-pow_right}
use native.Mathlib.Omega.{arith}
use borrow.Author.Tests.{le-leb, lt-leb, lt-ltb, eq-eqb, ne_eqb, leb-true, leb-false, eqb-true}
use lib.Dec.{leb, eqb}
use lib.ListN.{length, take, get_or, length-append}
use lib.Seq.{take_all, take-suc, take_at, get_or_at, length-take-le}
use Rattle.std.specs.Prelude.{Some, None}
use Rattle.decimal.specs.Decimal.{is_digits, decimal_value}
use Rattle.decimal.specs.Reading.{reading}
use Rattle.decimal.proofs.Laws.{reading_number, is_all, is_some, value_below}
use Rattle.lines.specs.Lines.{line_feed, body, line_reading}

module _ (s : List ℕ) (most : ℕ) where
  -- more bytes before the last, and another byte at the end
  pub read_long : most + 1 < length s → line_reading s most ≡ None
  unfolding line_reading
  read_long h = rw (lt-leb (length s) (most + 1) h)

  pub read_open : (get_or s (length s - 1) 0 ≡ line_feed → ⊥) → line_reading s most ≡ None
  unfolding line_reading
  read_open h = rw (ne_eqb (get_or s (length s - 1) 0) line_feed h) (other (leb (length s) (most + 1)))
    where
      other : (t : Bool) → cond (t && false) (reading (body s)) None ≡ None
      other true = refl
      other false = refl

  -- neither
  pub read_ended : length s ≤ most + 1 → get_or s (length s - 1) 0 ≡ line_feed → line_reading s most ≡ reading (body s)
  unfolding line_reading
  read_ended fits h = rw (le-leb (length s) (most + 1) fits, eq-eqb (get_or s (length s - 1) 0) line_feed h)

-- no byte at all
pub read_none : (s : List ℕ) (most : ℕ) → length s ≡ 0 → line_reading s most ≡ None
read_none [] most h = read_open [] most (λ e. omega (arith, e))
read_none (b ∷ s) most h = absurd (omega arith)

-- 1 to `most` digits that stand for a number below 2^64, and a line feed, are read as that number
pub digits_read : (most : ℕ) (d : List ℕ) → is_digits d ≡ true → length d ≤ most → decimal_value d < 2 ^ 64
    → line_reading (d ++ line_feed ∷ []) most ≡ Some (decimal_value d)
digits_read most d e h v =
    let n : length (d ++ line_feed ∷ []) ≡ length d + 1 = length-append d (line_feed ∷ []) in
    let m : length (d ++ line_feed ∷ []) - 1 ≡ length d = omega (arith, n) in
    read_ended (d ++ line_feed ∷ []) most (omega (arith, n)) (get_or_at d line_feed [] 0 (length (d ++ line_feed ∷ []) - 1) (sym m))
    ∙ ap reading (take_at d (line_feed ∷ []) (length (d ++ line_feed ∷ []) - 1) (sym m))
    ∙ rw (e, lt-ltb (decimal_value d) (2 ^ 64) v)

-- and nothing else is read as a number
pub read_digits : (s : List ℕ) (most v : ℕ) → line_reading s most ≡ Some v
    → (d : List ℕ) × (is_digits d ≡ true) × (length d ≤ most) × (s ≡ d ++ line_feed ∷ []) × (decimal_value d ≡ v)
unfolding line_reading
read_digits s most v e = go (leb (length s) (most + 1)) (eqb (get_or s (length s - 1) 0) line_feed) refl refl e
  where
    within : length (body s) ≡ length s - 1
    within = length-take-le (length s - 1) s (omega arith)

    go : (x y : Bool) → leb (length s) (most + 1) ≡ x → eqb (get_or s (length s - 1) 0) line_feed ≡ y
        → cond (x && y) (reading (body s)) None ≡ Some v
        → (d : List ℕ) × (is_digits d ≡ true) × (length d ≤ most) × (s ≡ d ++ line_feed ∷ []) × (decimal_value d ≡ v)
    go true true p q r =
        let n = reading_number (body s) v r in
        let some = is_some (body s) n.0 in
        let whole : s ≡ body s ++ line_feed ∷ [] =
        sym (take_all (suc (length s - 1)) s (omega (arith, within)))
        ∙ take-suc s (length s - 1) 0 (omega (arith, within))
        ∙ ap (λ (b : ℕ). body s ++ b ∷ []) (eqb-true (get_or s (length s - 1) 0) line_feed q) in
        (body s, n.0, omega (arith, within, leb-true (length s) (most + 1) p), whole, n.1)
    go true false p q r = absurd (let z : ◌≡◌ {A = ℕ} 0 1 = cc in omega arith)
    go false y p q r = absurd (let z : ◌≡◌ {A = ℕ} 0 1 = cc in omega arith)

-- so it has no more than `most` digits
pub read_below : (s : List ℕ) (most v : ℕ) → line_reading s most ≡ Some v → v < 10 ^ most
read_below s most v e =
    let r = read_digits s most v e in
    omega (arith, r.4, value_below r.0 (is_all r.0 r.1), pow-le-pow_right {n = 10} (omega arith) r.2)

-- `most` + 2 bytes or more of a text are read as all of it is
pub read_prefix : (n most : ℕ) (s : List ℕ) → most + 2 ≤ n → line_reading (take n s) most ≡ line_reading s most
read_prefix n most s h = go (leb (length s) n) refl
  where
    go : (x : Bool) → leb (length s) n ≡ x → line_reading (take n s) most ≡ line_reading s most
    go true e = ap (λ (t : List ℕ). line_reading t most) (take_all n s (leb-true (length s) n e))
    go false e =
        let l : n < length s = leb-false (length s) n e in
        read_long (take n s) most (rw (length-take-le n s (omega arith)) (omega arith))
        ∙ sym (read_long s most (omega arith))

-- what settles each way out of `lines::read`
pub ruleset line_cases = (read_none, read_long, read_open, read_ended, length-take-le)
