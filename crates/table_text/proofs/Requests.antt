-- What an input requests, by what reading it as a line finds, that it fits 32 bits, and that eleven bytes of it settle
-- it.
-- Assumes nothing.
use mathlib.Core.Path.{◌≡◌, refl, ap}
use mathlib.Core.List.{List}
use Prim.Native.Nat.{ℕ, ◌^◌, ◌≤◌, ◌<◌}
use native.Mathlib.Omega.{arith}
use lib.ListN.{take}
use Rattle.std.specs.Prelude.{Option, Some, None, unwrap_or}
use Rattle.lines.specs.Lines.{line_reading}
use Rattle.lines.proofs.ReadLines.{read_below, read_prefix}
use Rattle.table_text.specs.TableText.{precision_of}

pub request_found : (s : List ℕ) {r : Option ℕ} → line_reading s 9 ≡ r → precision_of s ≡ unwrap_or r 0
unfolding precision_of
request_found s e = ap (λ (r : Option ℕ). unwrap_or r 0) e

pub request_fits : (s : List ℕ) → precision_of s < 2 ^ 32
unfolding precision_of
request_fits s = go (line_reading s 9) refl
  where
    go : (r : Option ℕ) → line_reading s 9 ≡ r → unwrap_or r 0 < 2 ^ 32
    go (Some v) e = omega (arith, read_below s 9 v e)
    go None e = omega arith

-- eleven bytes or more of an input request what all of it requests
pub request_prefix : (n : ℕ) (s : List ℕ) → 11 ≤ n → precision_of (take n s) ≡ precision_of s
unfolding precision_of
request_prefix n s h = ap (λ (r : Option ℕ). unwrap_or r 0) (read_prefix n 9 s h)
