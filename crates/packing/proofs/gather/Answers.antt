-- `packing::gather` meets its contract: behind fewer than eight bytes a byte more has its place in 64 bits. Assumes
-- nothing.
use Rattle.std.proofs.Common.{◌-◌, arith}
use Rattle.packing.specs.Packing.{Bytes}
use Rattle.packing.proofs.Bytes.{value_lt_56}
use Rattle.packing.proofs.gather.Goals as goal

pub overflow_mul-value : goal.overflow_mul-value
overflow_mul-value c =
    let bytes : Bytes c.args.s.now = λ i. omega (arith, c.type_inv.s i) in
    omega (arith, c.loop-at.invariant.1, value_lt_56 c.args.s.now c.args.first (c.loop-at.at - c.args.first) bytes (omega arith))

pub overflow_add-value : goal.overflow_add-value
overflow_add-value c =
    let bytes : Bytes c.args.s.now = λ i. omega (arith, c.type_inv.s i) in
    omega (arith, c.loop-at.invariant.1, value_lt_56 c.args.s.now c.args.first (c.loop-at.at - c.args.first) bytes (omega arith), bytes c.loop-at.at)
