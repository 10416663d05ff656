-- The fraction bits of an operand that were kept, as one number: they are those of t.
-- Assumes nothing.
use mathlib.Core.Path.{◌≡◌, refl, ap, ◌∙◌}
use Prim.Native.Nat.{ℕ, ◌+◌, ◌*◌, ◌%◌, ◌^◌, ◌≤◌, ◌<◌}
use native.Mathlib.Nat.{mod-lt}
use lib.Pow.{pow_pos}
use borrow.Author.Tests.{le-leb}
use Rattle.operand.specs.Operand.{cut_operand}
use Rattle.operand.specs.Inner.{cut_fraction}
use Rattle.operand.proofs.Laws.{cut_leading}
use Rattle.operand.proofs.Limits.{OperandKept}
use Rattle.interpolation.specs.Inner.{cut_of}

module _ (k b n X bits : ℕ) (o : OperandKept n X) (few : 2 * k + b ≤ 63)
    (cut : bits ≡ cut_fraction (2 * k + b) n X) where
  are_bits : bits ≡ cut_operand k b n X % 2 ^ (2 * k + b)
  are_bits = cut ∙ rw (le-leb n 63 o.high, le-leb (2 * k + b) 63 few) refl

  -- t is its leading one and these
  pub whole : cut_of k b bits ≡ cut_operand k b n X
  whole = ap (cut_of k b) are_bits ∙ cut_leading (2 * k + b) n X o.least o.below

  pub bits-below : bits < 2 ^ (2 * k + b)
  bits-below = rw are_bits (mod-lt (cut_operand k b n X) (pow_pos (2 * k + b)))
