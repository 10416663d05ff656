-- The part of a buffer in which a word stands: from its first byte to its last.
-- Assumes nothing.
use mathlib.Core.Path.{◌≡◌, ap, ◌∙◌}
use mathlib.Core.List.{List}
use Prim.Native.Nat.{ℕ, ◌<◌}
use lib.ListN.{length}
use borrow.Author.Tests.{lt-ltb}
use Rattle.format.specs.Format.{word_width, word_count}
use Rattle.format.specs.declared.Format.{Format}
use Rattle.packing.specs.Packing.{first_byte, span_bytes}
use Rattle.layout.specs.Layout.{part_of}
use Rattle.layout.proofs.Laws.{part_length}
use Rattle.image.specs.Image.{table_of}
use Rattle.image.specs.Calls.{shown_part, shown_from, shown_count}
use Rattle.image.proofs.Laws.{table_fits, has_bits}
use Rattle.image.proofs.Limits.{ImageKept, kept_clear}

module _ (F : Format) (s : List ℕ) (j : ℕ) where
  -- a word that there is: its part is shown, from its first byte to its last
  module _ (kept : ImageKept F s) (h : j < word_count F) where
    pub shown-part : shown_part F s j ≡ part_of (table_of F) s j
    shown-part = rw (kept_clear F s kept, lt-ltb j (word_count F) h)

    pub shown-from : shown_from F s j ≡ first_byte (word_width F) j
    shown-from = rw (kept_clear F s kept, lt-ltb j (word_count F) h)

    pub shown-count : shown_count F s j ≡ span_bytes (word_width F) j
    shown-count = ap length shown-part ∙ part_length (table_of F) (table_fits F (has_bits F kept.guard)) s j h kept.long
