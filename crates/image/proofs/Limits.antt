-- What the limits of a format and the buffer mean for every list of refusals that begins with them.
-- Assumes nothing.
use mathlib.Core.Path.{◌≡◌}
use mathlib.Core.Bool.{false}
use mathlib.Core.List.{List, [], ◌∷◌, ◌++◌}
use Prim.Native.Nat.{ℕ, ◌≤◌}
use lib.ListN.{length}
use borrow.Author.Tests.{ltb-false, le-ltb, not-false}
use Rattle.precision.specs.Precision.{in_range}
use Rattle.precision.proofs.Range.{in-range, range_in}
use Rattle.format.specs.GuardBits.{guards_in}
use Rattle.format.specs.Format.{precision_of, image_length}
use Rattle.format.specs.declared.Format.{Format}
use Rattle.format.proofs.Range.{InRange, guards-in, in_guards}
use Rattle.answers.specs.Refusal.{Refusal, outcome, served, some_applies}
use Rattle.answers.proofs.Earlier.{earlier_passes, earlier_clear, earlier_none}
use Rattle.layout.specs.Refusals.{length_refusal}
use Rattle.image.specs.Image.{table_of}
use Rattle.nodes.specs.Refusals.{precision_refusal, guard_refusal}
use Rattle.image.specs.Refusals.{limits}

-- the limits are kept: precision and guard bits are in their ranges, and the buffer is long enough
pub record ImageKept (F : Format) (s : List ℕ) : Type 0 where
  pub low : 1 ≤ precision_of F
  pub high : precision_of F ≤ 12
  pub guard : InRange F.guard_bits
  pub long : image_length F ≤ length s

module _ (F : Format) (s : List ℕ) where
  -- where all are kept the later refusals decide
  pub limit_passes : (rs : List Refusal) (v : ℕ) → some_applies (limits F (length s)) ≡ false → outcome (limits F (length s) ++ rs) v ≡ outcome rs v
  limit_passes rs v = earlier_passes rs v (limits F (length s))

  -- they are where these alone would serve the call
  pub limit_clear : served 0 ≡ outcome (limits F (length s)) 0 → some_applies (limits F (length s)) ≡ false
  limit_clear = earlier_clear (limits F (length s)) tt

  -- precision and guard bits are in range and the buffer is long enough
  pub clear_kept : some_applies (limits F (length s)) ≡ false → ImageKept F s
  clear_kept e =
      let first = earlier_none (precision_refusal (precision_of F)) (guard_refusal F.guard_bits ∷ length_refusal (table_of F) (length s) ∷ []) e in
      let second = earlier_none (guard_refusal F.guard_bits) (length_refusal (table_of F) (length s) ∷ []) first.1 in
      let third = earlier_none (length_refusal (table_of F) (length s)) [] second.1 in
      let range = in-range (precision_of F) (not-false (in_range (precision_of F)) first.0) in
      record {
        low = range.0;
        high = range.1;
        guard = guards-in F.guard_bits (not-false (guards_in F.guard_bits) second.0);
        long = ltb-false (length s) (image_length F) third.0;
      }

  -- and the other way round
  pub kept_clear : ImageKept F s → some_applies (limits F (length s)) ≡ false
  kept_clear ok = rw (range_in (precision_of F) ok.low ok.high, in_guards F.guard_bits ok.guard, le-ltb (length s) (image_length F) ok.long)

  pub limit_none : 1 ≤ precision_of F → precision_of F ≤ 12 → InRange F.guard_bits → image_length F ≤ length s → some_applies (limits F (length s)) ≡ false
  limit_none low high guard long = kept_clear (record { low = low; high = high; guard = guard; long = long })
