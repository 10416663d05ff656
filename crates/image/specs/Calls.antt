-- What the builder, the check and the reading of an image answer, and what the builder leaves in the lent buffer.
-- Assumes nothing.
use Rattle.std.specs.Prelude.{◌≡◌, ℕ, Bool, true, cond, not, ◌||◌, List, [], ◌∷◌, ◌++◌, ltb, eqb, length}
use Rattle.format.specs.Format.{precision_of, word_count, word_width, is_offered}
use Rattle.format.specs.declared.Format.{Format}
use Rattle.packing.specs.Packing.{first_byte}
use Rattle.answers.specs.Refusal.{Refusal, Outcome, outcome, some_applies}
use Rattle.layout.specs.Layout.{rom_of, part_of}
use Rattle.layout.specs.Refusals.{image_refusal, word_refusal, tail_refusal}
use Rattle.image.specs.Image.{table_of, node_of}
use Rattle.image.specs.Refusals.{node_refusal, limits}

-- the refusals of the builder, in checking order: 1, 18 and 2
abbrev pub build_refusals : Format → List ℕ → List Refusal
build_refusals F s = limits F (length s)

-- the builder's answer; it gives 0
abbrev pub build_outcome : Format → List ℕ → Outcome
build_outcome F s = outcome (build_refusals F s) 0

-- the buffer after the builder: a full ROM of its length, and as found where the call is turned back
abbrev pub build_leaves : Format → List ℕ → List ℕ
build_leaves F s = cond (eqb (build_outcome F s).number 0) (rom_of (table_of F) (length s)) s

-- the refusals of the check, in checking order: 1, 18, 2, 6 and 7
abbrev pub check_refusals : Format → List ℕ → List Refusal
check_refusals F s = limits F (length s) ++ image_refusal (table_of F) s ∷ tail_refusal (table_of F) s ∷ []

-- the check's answer; it gives 0
abbrev pub check_outcome : Format → List ℕ → Outcome
check_outcome F s = outcome (check_refusals F s) 0

-- a full ROM: a format that can be ordered, and a buffer that is its image and zeros to the end; it is then long enough
-- for the image
abbrev pub IsFullRom : Format → List ℕ → Type 0
IsFullRom F s = (is_offered F ≡ true) × (s ≡ rom_of (table_of F) (length s))

-- the refusals of reading node j, in checking order: 1, 18, 2, 3 and 6; a plain table has no word of node 2^k, which
-- never gives 6
abbrev pub node_refusals : Format → List ℕ → ℕ → List Refusal
node_refusals F s j = limits F (length s) ++ node_refusal (precision_of F) j ∷ word_refusal (table_of F) s j ∷ []

-- the answer of reading node j; it gives the node as its word is decoded, in table units
abbrev pub node_outcome : Format → List ℕ → ℕ → Outcome
node_outcome F s j = outcome (node_refusals F s j) (node_of F s j)

-- no bytes are shown: 1, 18 or 2 applies or node j has no word; j is then above 2^k - 1 in plain words, above 2^k in
-- full ones
abbrev pub is_hidden : Format → List ℕ → ℕ → Bool
is_hidden F s j = some_applies (limits F (length s)) || not (ltb j (word_count F))

-- the bytes of the word of node j, or an empty part
abbrev pub shown_part : Format → List ℕ → ℕ → List ℕ
shown_part F s j = cond (is_hidden F s j) [] (part_of (table_of F) s j)

-- the byte of the buffer at which that part stands; an empty part stands at the front
abbrev pub shown_from : Format → List ℕ → ℕ → ℕ
shown_from F s j = cond (is_hidden F s j) 0 (first_byte (word_width F) j)

-- how many bytes it has
abbrev pub shown_count : Format → List ℕ → ℕ → ℕ
shown_count F s j = length (shown_part F s j)
