-- Lists of zeros: how long they are, that they are bytes, and one more of them at the front of a list.
-- Assumes nothing.
use mathlib.Core.Path.{◌≡◌, ◌∙◌, ap}
use mathlib.Core.List.{List, ◌++◌}
use Prim.Native.Nat.{ℕ, zero, suc, ◌+◌, ◌<◌}
use native.Mathlib.Omega.{arith}
use lib.ListN.{length, drop, set, length-replicate, replicate-append-replicate}
use Rattle.packing.specs.Packing.{Bytes}
use Rattle.packing.proofs.Storing.{write_next}
use Rattle.tail.specs.Tail.{zeros}

pub length-zeros : (n : ℕ) → length (zeros n) ≡ n
length-zeros n = length-replicate n 0

-- zeros are bytes
pub bytes-zeros : (n : ℕ) → Bytes (zeros n)
bytes-zeros zero i = omega arith
bytes-zeros (suc n) zero = omega arith
bytes-zeros (suc n) (suc i) = bytes-zeros n i

-- n zeros in place of the first n of a list, and the next one
pub zeros_next : (n : ℕ) (s : List ℕ) → n < length s → set (zeros n ++ drop n s) n 0 ≡ zeros (n + 1) ++ drop (n + 1) s
zeros_next n s h =
    write_next (zeros n) s n 0 (length-zeros n) h ∙ ap (λ (l : List ℕ). l ++ drop (n + 1) s) (replicate-append-replicate n 1 0)
