-- The loop of `packing::gather`: the value is that of the bytes passed. Assumes nothing.
use Rattle.std.proofs.Common.{◌≡◌, ◌-◌, ◌≤◌}
use Rattle.packing.specs.Packing.{bytes_value}
use Rattle.packing.proofs.gather.Given as goal

abbrev pub invariant-loop-at : goal.invariant-loop-at
invariant-loop-at l = (l.first ≤ l.at) × (l.value ≡ bytes_value l.s l.first (l.at - l.first))
