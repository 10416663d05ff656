-- What only inner promises cite: what the builder needs to know of a table and of the buffer that it is lent.
-- Assumes nothing.
use Rattle.std.specs.Prelude.{ℕ, ◌+◌, ◌^◌, ◌≤◌, ◌<◌}
use Rattle.layout.specs.Layout.{length_of}
use Rattle.nodes.specs.declared.Quotients.{Quotients}
use Rattle.image.specs.Inner.{layout_of}

-- n bytes can be filled with the words of t: they can be put and have room, their divisors have 32 bits, and a double
-- holds the numerator, which is not 0
pub record CanFill (t : Quotients) (n : ℕ) : Type 0 where
  pub wide : t.width ≤ 32
  pub few : t.first + t.count < 2 ^ 32
  pub above : 0 < t.numerator
  pub exact : t.numerator ≤ 2 ^ 53
  pub room : length_of (layout_of t) ≤ n

-- i is the divisor of one of its words
pub record IsDivisor (t : Quotients) (i : ℕ) : Type 0 where
  pub from : t.first ≤ i
  pub upto : i < t.first + t.count
