-- The refusals of the calls on an image that do not follow from its layout alone (docs/SCOPE.md, "Turned back, in
-- checking order").
-- Assumes nothing.
use Rattle.std.specs.Prelude.{ℕ, List, [], ◌∷◌, ◌++◌, ltb}
use Rattle.precision.specs.Precision.{last_node}
use Rattle.format.specs.declared.Format.{Format}
use Rattle.answers.specs.Refusal.{Refusal}
use Rattle.layout.specs.Refusals.{length_refusal}
use Rattle.nodes.specs.Refusals.{table_refusals}
use Rattle.image.specs.Image.{table_of}

-- 3: the node number is above 2^k
abbrev pub node_refusal : ℕ → ℕ → Refusal
node_refusal k j = record { applies = ltb (last_node k) j; number = 3; place = 0 }

-- 1, 18 and 2, which every call on an image tests first, for a buffer of n bytes
abbrev pub limits : Format → ℕ → List Refusal
limits F n = table_refusals F ++ length_refusal (table_of F) n ∷ []
