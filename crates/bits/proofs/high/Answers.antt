-- `bits::high` meets its contract: a number of 64 bits has nothing above them.
-- Assumes nothing.
use mathlib.Core.Path.{sym}
use native.Mathlib.Nat.{div-eq_of_lt}
use lib.Pow.{pow_mono}
use native.Mathlib.Omega.{arith}
use Rattle.bits.proofs.high.Goals as goal

pub returns-then-count-ge64 : goal.returns-then-count-ge64
returns-then-count-ge64 c = sym (div-eq_of_lt (omega (arith, pow_mono {i = 64} {j = c.args.count} (omega arith))))
