-- `bits::low` meets its contract: what is left when the high bits are taken away.
-- Assumes nothing.
use mathlib.Core.Path.{sym}
use native.Mathlib.Nat.{mod-eq_of_lt}
use lib.Pow.{pow_mono}
use native.Mathlib.Omega.{arith}
use Rattle.bits.proofs.low.Goals as goal

pub returns-then-count-ge64 : goal.returns-then-count-ge64
returns-then-count-ge64 c = sym (mod-eq_of_lt (omega (arith, pow_mono {i = 64} {j = c.args.count} (omega arith))))
