-- `inverting::by_precision` meets its contract: in each arm the precision is the number that is handed on.
-- Assumes nothing.
use mathlib.Core.Path.{◌≡◌, sym, ap, ◌∙◌}
use Prim.Native.Nat.{ℕ, ◌+◌, ◌%◌, ◌^◌}
use Rattle.std.proofs.Common.{Result}
use Rattle.units.specs.declared.Ulps.{Ulps}
use Rattle.format.specs.Format.{plain_of}
use Rattle.answers.specs.Answer.{outcome_of_reciprocal}
use Rattle.answers.specs.declared.Refused.{Refused}
use Rattle.inverting.specs.Inner.{both_in, ends_outcome}
use Rattle.inverting.proofs.by_precision.Goals as goal

-- in the arm of the number i, what is answered for it is answered for the precision k
answer : (k i j window kept : ℕ) (code : Result Ulps Refused) → k ≡ i
    → outcome_of_reciprocal code ≡ ends_outcome (plain_of i) (both_in (plain_of i) window) j (kept % 2 ^ (i + 3))
    → outcome_of_reciprocal code ≡ ends_outcome (plain_of k) (both_in (plain_of k) window) j (kept % 2 ^ (k + 3))
answer k i j window kept code same e =
    e ∙ ap (λ (i : ℕ). ends_outcome (plain_of i) (both_in (plain_of i) window) j (kept % 2 ^ (i + 3))) (sym same)

pub returns-in-1 : goal.returns-in-1
returns-in-1 c = answer c.args.k.0 1 c.args.j c.args.window c.args.kept c.by_ends.result c.in-1.is c.by_ends.ensures

pub returns-in-2 : goal.returns-in-2
returns-in-2 c = answer c.args.k.0 2 c.args.j c.args.window c.args.kept c.by_ends-in-2.result c.in-2.is
    c.by_ends-in-2.ensures

pub returns-in-3 : goal.returns-in-3
returns-in-3 c = answer c.args.k.0 3 c.args.j c.args.window c.args.kept c.by_ends-in-3.result c.in-3.is
    c.by_ends-in-3.ensures

pub returns-in-4 : goal.returns-in-4
returns-in-4 c = answer c.args.k.0 4 c.args.j c.args.window c.args.kept c.by_ends-in-4.result c.in-4.is
    c.by_ends-in-4.ensures

pub returns-in-5 : goal.returns-in-5
returns-in-5 c = answer c.args.k.0 5 c.args.j c.args.window c.args.kept c.by_ends-in-5.result c.in-5.is
    c.by_ends-in-5.ensures

pub returns-in-6 : goal.returns-in-6
returns-in-6 c = answer c.args.k.0 6 c.args.j c.args.window c.args.kept c.by_ends-in-6.result c.in-6.is
    c.by_ends-in-6.ensures

pub returns-in-7 : goal.returns-in-7
returns-in-7 c = answer c.args.k.0 7 c.args.j c.args.window c.args.kept c.by_ends-in-7.result c.in-7.is
    c.by_ends-in-7.ensures

pub returns-in-8 : goal.returns-in-8
returns-in-8 c = answer c.args.k.0 8 c.args.j c.args.window c.args.kept c.by_ends-in-8.result c.in-8.is
    c.by_ends-in-8.ensures

pub returns-in-9 : goal.returns-in-9
returns-in-9 c = answer c.args.k.0 9 c.args.j c.args.window c.args.kept c.by_ends-in-9.result c.in-9.is
    c.by_ends-in-9.ensures

pub returns-in-10 : goal.returns-in-10
returns-in-10 c = answer c.args.k.0 10 c.args.j c.args.window c.args.kept c.by_ends-in-10.result c.in-10.is
    c.by_ends-in-10.ensures

pub returns-in-11 : goal.returns-in-11
returns-in-11 c = answer c.args.k.0 11 c.args.j c.args.window c.args.kept c.by_ends-in-11.result c.in-11.is
    c.by_ends-in-11.ensures

pub returns-in-12 : goal.returns-in-12
returns-in-12 c = answer c.args.k.0 12 c.args.j c.args.window c.args.kept c.by_ends-in-12.result c.in-12.is
    c.by_ends-in-12.ensures
