-- The refusals of an operand (docs/SCOPE.md, "Turned back, in checking order").
-- Assumes nothing.
use Rattle.std.specs.Prelude.{ℕ, not, List, [], ◌∷◌}
use Rattle.answers.specs.Refusal.{Refusal}
use Rattle.operand.specs.Operand.{is_fraction_count, is_normalised}

-- 4: n is below 1 or above 63
abbrev pub fraction_refusal : ℕ → Refusal
fraction_refusal n = record { applies = not (is_fraction_count n); number = 4; place = 0 }

-- 5: X is not from 2^n to 2^(n+1) - 1
abbrev pub operand_refusal : ℕ → ℕ → Refusal
operand_refusal n X = record { applies = not (is_normalised n X); number = 5; place = 0 }

-- 4 and 5, in checking order
abbrev pub operand_refusals : ℕ → ℕ → List Refusal
operand_refusals n X = fraction_refusal n ∷ operand_refusal n X ∷ []
