-- The refusals that follow from a table of words (docs/SCOPE.md, "Turned back, in checking order").
-- Assumes nothing.
use Rattle.std.specs.Prelude.{ℕ, ◌&&◌, List, ltb, length}
use Rattle.answers.specs.Refusal.{Refusal}
use Rattle.layout.specs.Layout.{Layout, length_of, is_wrong, first_wrong, first_past}

-- 2: the buffer, of n bytes, is shorter than the image
abbrev pub length_refusal : Layout → ℕ → Refusal
length_refusal t n = record { applies = ltb n (length_of t); number = 2; place = 0 }

-- 6 where every word is read: one of them is wrong, the place being the lowest
abbrev pub image_refusal : Layout → List ℕ → Refusal
image_refusal t s = record { applies = ltb (first_wrong t s) t.count; number = 6; place = first_wrong t s }

-- 6 where the word at j alone is read, and none where there is no such word
abbrev pub word_refusal : Layout → List ℕ → ℕ → Refusal
word_refusal t s j = record { applies = ltb j t.count && is_wrong t s j; number = 6; place = j }

-- 7: a bit behind the last word is one, the place being the lowest byte with such a bit
abbrev pub tail_refusal : Layout → List ℕ → Refusal
tail_refusal t s = record { applies = ltb (first_past t s) (length s); number = 7; place = first_past t s }
