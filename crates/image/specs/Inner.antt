-- What only inner promises cite: the image's own bytes, what they give for a node, and a table whose words are
-- quotients.
-- Assumes nothing.
use Rattle.std.specs.Prelude.{ℕ, ◌+◌, ◌%◌, ◌^◌, cond, List, Option, Some, eqb, take}
use Rattle.units.specs.declared.TableUnits.{TableUnits}
use Rattle.packing.specs.Packing.{byte_count}
use Rattle.packing.specs.Inner.{word_read}
use Rattle.layout.specs.Layout.{Layout}
use Rattle.quotient.specs.Quotient.{rounded_up}
use Rattle.nodes.specs.Inner.{judged_word}
use Rattle.nodes.specs.declared.Quotients.{Quotients}

-- the image's own bytes, the front of the buffer, as many as the words of a table take; all of it where that is shorter
abbrev pub front_of : Quotients → List ℕ → List ℕ
front_of q s = take (byte_count q.width q.count) s

-- the quotient of word j, rounded up
abbrev pub quotients : Quotients → ℕ → ℕ
quotients q j = rounded_up q.numerator (q.first + j)

-- the table whose words are their lowest bits
abbrev pub layout_of : Quotients → Layout
layout_of q = record { count = q.count; width = q.width; word = λ (j : ℕ). quotients q j % 2 ^ q.width }

-- the value of node j of a table by the word that the image's own bytes have for it, of which the lowest 32 bits count,
-- where that passes; the node behind the last word is the leading one
abbrev pub node_in_bytes : Quotients → List ℕ → ℕ → Option TableUnits
node_in_bytes q own j = cond (eqb j q.count) (Some (record { 0 = q.lead })) (judged_word q j (word_read q.width own j % 2 ^ 32))
