-- The answer of the check where the limits are kept: the lowest wrong word first, then the lowest byte with a one
-- behind the words, then none.
-- Assumes nothing.
use mathlib.Core.Path.{◌≡◌, ◌∙◌}
use mathlib.Core.Bool.{false}
use mathlib.Core.List.{List, [], ◌∷◌}
use Prim.Native.Nat.{ℕ, ◌≤◌, ◌<◌}
use lib.ListN.{length}
use borrow.Author.Tests.{lt-ltb, le-ltb}
use Rattle.format.specs.Format.{word_count}
use Rattle.format.specs.declared.Format.{Format}
use Rattle.answers.specs.Refusal.{outcome, served, some_applies}
use Rattle.answers.proofs.Order.{applied, passed}
use Rattle.layout.specs.Layout.{first_wrong, first_past}
use Rattle.layout.specs.Refusals.{image_refusal, tail_refusal}
use Rattle.image.specs.Image.{table_of}
use Rattle.image.specs.Refusals.{limits}
use Rattle.image.specs.Calls.{check_outcome}
use Rattle.image.proofs.Limits.{limit_passes}

module _ (F : Format) (s : List ℕ) (limit : some_applies (limits F (length s)) ≡ false) where
  decides : check_outcome F s ≡ outcome (image_refusal (table_of F) s ∷ tail_refusal (table_of F) s ∷ []) 0
  decides = limit_passes F s (image_refusal (table_of F) s ∷ tail_refusal (table_of F) s ∷ []) 0 limit

  -- a word is wrong, whatever the tail holds
  pub check_wrong : first_wrong (table_of F) s < word_count F → check_outcome F s ≡ record { number = 6; place = first_wrong (table_of F) s; value = 0 }
  check_wrong h = decides ∙ applied (image_refusal (table_of F) s) (tail_refusal (table_of F) s ∷ []) 0 (lt-ltb (first_wrong (table_of F) s) (word_count F) h)

  -- the words are right
  module _ (right : word_count F ≤ first_wrong (table_of F) s) where
    behind : check_outcome F s ≡ outcome (tail_refusal (table_of F) s ∷ []) 0
    behind = decides ∙ passed (image_refusal (table_of F) s) (tail_refusal (table_of F) s ∷ []) 0 (le-ltb (first_wrong (table_of F) s) (word_count F) right)

    pub check_past : first_past (table_of F) s < length s → check_outcome F s ≡ record { number = 7; place = first_past (table_of F) s; value = 0 }
    check_past h = behind ∙ applied (tail_refusal (table_of F) s) [] 0 (lt-ltb (first_past (table_of F) s) (length s) h)

    pub check_none : length s ≤ first_past (table_of F) s → check_outcome F s ≡ served 0
    check_none h = behind ∙ passed (tail_refusal (table_of F) s) [] 0 (le-ltb (first_past (table_of F) s) (length s) h)
