-- `tail::first_one` meets its contract: where the bits begin inside a byte, that byte is looked at by itself, and those
-- behind it by `first_set`; else all of them by `first_set`.
-- Assumes nothing.
use mathlib.Core.Path.{◌≡◌, sym, ap, ◌∙◌}
use mathlib.Core.Logic.{⊎_elim}
use mathlib.Core.Bool.{false, not}
use mathlib.Core.List.{List}
use Prim.Native.Nat.{ℕ, ◌+◌, ◌-◌, ◌*◌, ◌/◌, ◌%◌, ◌^◌, ◌≤◌, ◌<◌}
use native.Mathlib.Omega.{arith}
use lib.Dec.{eqb, ltb}
use lib.ListN.{length, get_or}
use borrow.Author.Tests.{ltb-true, ltb-false}
use Rattle.std.specs.Prelude.{Some, None, if◌then◌else◌}
use Rattle.bools.proofs.Bools.{below_or_not}
use Rattle.bools.proofs.Lowest.{lowest_agrees}
use Rattle.tail.specs.Tail.{bits_from, has_one_from, first_one_in}
use Rattle.tail.proofs.Laws.{bits_none, bits_one, byte_before, byte_from, one_is, one_nowhere}
use Rattle.tail.proofs.first_one.Goals as goal

module _ (b : ℕ) (s : List ℕ) where
  -- the bytes before that of bit b have none of the bits
  before : (i : ℕ) → i < b / 8 → has_one_from b s i ≡ false
  before i h = byte_before b s i (omega (arith, h))

  -- that byte has its lowest ones
  here : get_or s (b / 8) 0 % 2 ^ (8 - b % 8) ≡ bits_from b s (b / 8)
  here = ap (λ (m : ℕ). get_or s (b / 8) 0 % 2 ^ m) same
    where
      same : 8 - b % 8 ≡ 8 - (b - 8 * (b / 8))
      same = omega arith

  -- where it has no one it may be passed
  pass : bits_from b s (b / 8) ≡ 0 → first_one_in (8 * (b / 8 + 1)) s ≡ first_one_in b s
  pass e =
      ap (λ (n : ℕ). if ltb n (length s) then Some n else None)
      (lowest_agrees (has_one_from (8 * (b / 8 + 1)) s) (has_one_from b s) (length s) agrees)
    where
      none : (i : ℕ) → i < b / 8 + 1 → has_one_from b s i ≡ false
      none i h =
          ⊎_elim (λ l. before i l) (λ g. ap (has_one_from b s) (there g) ∙ bits_none b s (b / 8) e) (below_or_not i (b / 8))
        where
          there : b / 8 ≤ i → i ≡ b / 8
          there g = omega (arith, g, h)

      agrees : (i : ℕ) → i < length s → has_one_from (8 * (b / 8 + 1)) s i ≡ has_one_from b s i
      agrees i h =
          ⊎_elim (λ l. byte_before (8 * (b / 8 + 1)) s i (omega (arith, l)) ∙ sym (none i l))
          (λ g. ap (λ (x : ℕ). not (eqb x 0)) (byte_from (8 * (b / 8 + 1)) s i (omega (arith, g)) ∙ sym (byte_from b s i (omega (arith, g)))))
          (below_or_not i (b / 8 + 1))

-- they begin behind the last byte
pub returns-in_err-byte : goal.returns-in_err-byte
returns-in_err-byte c =
    let a = c.args in
    let past : length a.s.now ≤ a.bit / 8 = ltb-false (a.bit / 8) (length a.s.now) (sym c.in_err-byte.ensures.lookup.0) in
    c.from_residual.ensures ∙ one_nowhere a.bit a.s.now (λ i h. before a.bit a.s.now i (omega (arith, h, past)))

pub returns : goal.returns
returns c =
    let a = c.args in
    let byte = c.in_ok-byte.ensures.lookup.3.1 0 in
    let low = c.low.ensures ∙ ap (λ (x : ℕ). x % 2 ^ (8 - a.bit % 8)) byte ∙ here a.bit a.s.now in
    c.first_set-2.ensures ∙ pass a.bit a.s.now (sym low ∙ c.if-low-ne0.false)

pub returns-then-low-ne0 : goal.returns-then-low-ne0
returns-then-low-ne0 c =
    let a = c.args in
    let look = c.in_ok-byte.ensures.lookup in
    let low = c.low.ensures ∙ ap (λ (x : ℕ). x % 2 ^ (8 - a.bit % 8)) (look.3.1 0) ∙ here a.bit a.s.now in
    one_is a.bit a.s.now (a.bit / 8) (ltb-true (a.bit / 8) (length a.s.now) (sym look.0))
    (bits_one a.bit a.s.now (a.bit / 8) (λ e. c.if-low-ne0.true (low ∙ e)))
    (before a.bit a.s.now)
