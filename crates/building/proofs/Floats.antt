-- What is known of the doubles by which quotients are guessed: none of them is a NaN.
-- Assumes nothing.
use mathlib.Core.Path.{sym, subst}
use mathlib.Core.Bool.{Bool, true, false, not, ◌&&◌, cond, beq}
use Prim.Native.Nat.{ℕ, zero, suc, ◌+◌, ◌-◌, ◌*◌, ◌^◌, ◌≤◌, ◌<◌}
use native.Mathlib.Omega.{arith}
use lib.Dec.{T, eqb, ltb, ltb→lt}
use lib.IntN.{pos}
use lib.Ieee.{Float, nan, inf, fin, Format, binary64, prec, emax, low, unlike, up, down, odd, units, round, sum, add, div, of_int, is_nan}
use lib.Ieee.Back.{round_whole}
use lib.Ieee.Positive.{positive, positive_of_value}
use lib.Ieee.Scale.{finite}
use borrow.Author.Tests.{ne_eqb}

-- a number or an infinity
abbrev pub Number : Float → Type 0
Number x = T (not (is_nan x))

-- either of two
either : (t : Bool) (x y : Float) → Number x → Number y → Number (cond t x y)
either true x y p q = p
either false x y p q = q

odd_number : (d : ℕ) (s : Bool) (q k l : ℕ) → Number (odd d s q k l)
unfolding odd is_nan
odd_number d s zero k l = tt
odd_number d s (suc q) k l = tt

units_number : (f : Format) (s : Bool) (q k : ℕ) → Number (units f s q k)
unfolding units is_nan
units_number f s q k =
    either (ltb (q * 2 ^ k) (2 ^ (low f + suc (emax f)))) (odd (suc (prec f)) s q k (low f)) (inf s) (odd_number (suc (prec f)) s q k (low f)) tt

-- what is rounded is a number or an infinity
round_number : (f : Format) (s : Bool) (n d : ℕ) → Number (round f s n d)
unfolding round
round_number f s n d = units_number f s _ _

sum_number : (f : Format) (s : Bool) (a : ℕ) (t : Bool) (b c : ℕ) → Number (sum f s a t b c)
unfolding sum
sum_number f s a t b c =
    either (beq s t) (round f s (a + b) c) (cond (ltb a b) (round f t (b - a) c) (round f (s && ltb b a) (a - b) c))
    (round_number f s (a + b) c)
    (either (ltb a b) (round f t (b - a) c) (round f (s && ltb b a) (a - b) c) (round_number f t (b - a) c) (round_number f (s && ltb b a) (a - b) c))

-- so is a sum with a finite number
pub add_number : (f : Format) (x y : Float) → Number x → T (finite y) → Number (add f x y)
unfolding add is_nan
add_number f nan y p q = absurd p
add_number f (inf s) nan p q = absurd q
add_number f (inf s) (inf t) p q = absurd q
add_number f (inf s) (fin t n d) p q = tt
add_number f (fin s m e) nan p q = absurd q
add_number f (fin s m e) (inf t) p q = absurd q
add_number f (fin s m e) (fin t n d) p q = sum_number f s _ t _ _

-- and the quotient of a finite number above zero by anything but a NaN
pub div_number : (f : Format) (x y : Float) → T (positive x) → Number y → Number (div f x y)
unfolding div is_nan
div_number f nan y p q = absurd p
div_number f (inf s) y p q = absurd p
div_number f (fin true m e) y p q = absurd p
div_number f (fin false m e) nan p q = absurd q
div_number f (fin false m e) (inf t) p q = tt
div_number f (fin false m e) (fin t n d) p q =
    either (eqb n 0) (cond (eqb m 0) nan (inf (unlike false t))) (round f (unlike false t) (m * up e * down d) (n * up d * down e))
    (subst (λ (b : Bool). Number (cond b nan (inf (unlike false t)))) (sym (ne_eqb m 0 (λ z. omega (arith, z, ltb→lt 0 m p)))) tt)
    (round_number f (unlike false t) (m * up e * down d) (n * up d * down e))

-- a whole number as a double
pub whole_number : (n : ℕ) → Number (of_int binary64 (pos n))
unfolding of_int
whole_number n = round_number binary64 false n 1

pub whole_positive : (n : ℕ) → 0 < n → n ≤ 2 ^ 53 → T (positive (of_int binary64 (pos n)))
unfolding of_int
whole_positive n above h = positive_of_value (round binary64 false n 1) n 1 (round_whole binary64 false n h) above
