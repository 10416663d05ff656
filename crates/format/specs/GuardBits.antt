-- Guard bits (docs/SCOPE.md, "Quantities"): a node has a table guard bits behind its last place that is an ulp, and of
-- an operand b input guard bits are looked at beyond 2k.
-- Assumes nothing.
use Rattle.std.specs.Prelude.{ℕ, Bool, ◌&&◌, leb, eqb}
use Rattle.format.specs.declared.guard_bits.GuardBits.{GuardBits}

-- the least and the greatest a
abbrev pub least_table : ℕ
least_table = 2

abbrev pub greatest_table : ℕ
greatest_table = 4

-- the least and the greatest b
abbrev pub least_input : ℕ
least_input = 3

abbrev pub greatest_input : ℕ
greatest_input = 5

-- a and b
abbrev pub guard_bits : ℕ → ℕ → GuardBits
guard_bits a b = record { table = a; input = b }

-- a is from 2 to 4 and b from 3 to 5
abbrev pub guards_in : GuardBits → Bool
guards_in g =
    (leb least_table g.table && leb g.table greatest_table)
    && (leb least_input g.input && leb g.input greatest_input)

-- the usual guard bits: a is 2 and b is 3
abbrev pub are_usual : GuardBits → Bool
are_usual g = eqb g.table 2 && eqb g.input 3
