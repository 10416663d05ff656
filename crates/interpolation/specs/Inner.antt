-- What only inner promises cite: an operand that is cut already, by its fraction bits, and the answer to it.
-- Assumes nothing.
use Rattle.std.specs.Prelude.{ℕ, ◌+◌, ◌*◌, ◌^◌, List}
use Rattle.format.specs.declared.Format.{Format}
use Rattle.answers.specs.Refusal.{Outcome, outcome}
use Rattle.interpolation.specs.Reciprocal.{read_reciprocal}
use Rattle.interpolation.specs.Calls.{cut_refusals}

-- t, by its 2k + b fraction bits as one number: its leading one stands before them
abbrev pub cut_of : ℕ → ℕ → ℕ → ℕ
cut_of k b bits = 2 ^ (2 * k + b) + bits

-- what a cut operand t is answered with, where format and buffer keep their limits
abbrev pub cut_outcome : Format → List ℕ → ℕ → Outcome
cut_outcome F s t = outcome (cut_refusals F s t) (read_reciprocal F s t)
