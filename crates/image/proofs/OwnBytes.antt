-- The image's own bytes: where the limits are kept they are as many as the image has, and hold the words that the
-- buffer holds.
-- Assumes nothing.
use mathlib.Core.Path.{◌≡◌, refl, ap, ◌∙◌}
use mathlib.Core.List.{List}
use Prim.Native.Nat.{ℕ, ◌<◌}
use native.Mathlib.Omega.{arith}
use lib.ListN.{length, take, length-take}
use Rattle.format.specs.Format.{word_count, image_length}
use Rattle.format.specs.declared.Format.{Format}
use Rattle.packing.specs.Packing.{Bytes}
use Rattle.packing.proofs.Bytes.{bytes_take}
use Rattle.layout.specs.Layout.{first_wrong}
use Rattle.layout.proofs.Laws as layouts
use Rattle.image.specs.Image.{table_of, word_of}
use Rattle.image.proofs.Laws.{table_fits, has_bits}
use Rattle.image.proofs.Limits.{ImageKept}

-- those of a format
abbrev pub own_bytes : Format → List ℕ → List ℕ
own_bytes F s = take (image_length F) s

module _ (F : Format) (s : List ℕ) (kept : ImageKept F s) where
  pub own_taken : own_bytes F s ≡ take (image_length F) s
  own_taken = refl

  pub own_length : length (own_bytes F s) ≡ image_length F
  own_length = ap length own_taken ∙ length-take (image_length F) s ∙ omega (arith, kept.long)

  -- they are bytes where the buffer's are
  pub own-bytes : Bytes s → Bytes (own_bytes F s)
  own-bytes h = rw own_taken (bytes_take (image_length F) s h)

  -- a word is the same, and so is the lowest wrong one
  pub own_word : (j : ℕ) → j < word_count F → word_of F (own_bytes F s) j ≡ word_of F s j
  own_word j h = ap (λ (u : List ℕ). word_of F u j) own_taken ∙ layouts.own_word (table_of F) (table_fits F (has_bits F kept.guard)) s j h

  pub own_wrong : first_wrong (table_of F) (own_bytes F s) ≡ first_wrong (table_of F) s
  own_wrong = ap (first_wrong (table_of F)) own_taken ∙ layouts.own_wrong (table_of F) (table_fits F (has_bits F kept.guard)) s
