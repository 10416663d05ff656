-- A quotient rounded up to a whole number (docs/SCOPE.md, "Construction of the nodes").
-- Assumes nothing.
use Rattle.std.specs.Prelude.{ℕ, ◌+◌, ◌-◌, ◌/◌}

-- M / i rounded up to a whole number; 0 where i is 0
unfoldable pub rounded_up : ℕ → ℕ → ℕ
rounded_up M i = (M + (i - 1)) / i
