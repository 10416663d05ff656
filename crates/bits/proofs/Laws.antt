-- Powers that have their place in 64 bits.
-- Assumes nothing.
use mathlib.Core.Path.{◌≡◌}
use Prim.Native.Nat.{ℕ, ◌^◌, ◌<◌}
use borrow.Author.Tests.{lt-ltb}
use Rattle.bits.specs.Inner.{power_or_0}

-- below 64 it is the power itself
pub power_fits : (n : ℕ) → n < 64 → power_or_0 n ≡ 2 ^ n
power_fits n h = simp (lt-ltb n 64 h)
