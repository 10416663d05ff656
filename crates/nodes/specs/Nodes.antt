-- The nodes, their words and how a word is decoded, of precision k with a table guard bits
-- (docs/SCOPE.md, "Construction of the nodes" and "The image"; Das Sarma and Matula, Algorithm 1).
-- Assumes nothing.
use Rattle.std.specs.Prelude.{ℕ, ◌+◌, ◌*◌, ◌%◌, ◌^◌, cond, ◌&&◌, Option, Some, None, leb, eqb}
use Rattle.units.specs.declared.TableUnits.{TableUnits}
use Rattle.precision.specs.Precision.{word_width, last_node, in_range}
use Rattle.format.specs.declared.Form.{Form}
use Rattle.format.specs.declared.Form.TheVariants.{Plain, Full}
use Rattle.quotient.specs.Quotient.{rounded_up}

-- what is divided to give a node
abbrev pub numerator : ℕ → ℕ → ℕ
numerator k a = 2 ^ (3 * k + (a + 1))

-- c(j), in table units: 2^(3k+a+1) / i rounded up to a whole number, with i = 2^k + j
abbrev pub node : ℕ → ℕ → ℕ → ℕ
node k a j = rounded_up (numerator k a) (2 ^ k + j)

-- the leading one that a plain word leaves out: 2^w, with w = 2k + a
abbrev pub leading_one : ℕ → ℕ → ℕ
leading_one k a = 2 ^ word_width k a

-- the plain word that is stored for node j: c(j) modulo 2^(2k+a)
abbrev pub stored_word : ℕ → ℕ → ℕ → ℕ
stored_word k a j = node k a j % leading_one k a

-- the value that a word stands for at node j under a leading one that is not stored, to which the word is added; but a
-- zero word at node 0 means twice the leading one
abbrev pub decode_under : ℕ → ℕ → ℕ → ℕ
decode_under lead j word = cond (eqb j 0 && eqb word 0) (2 * lead) (lead + word)

-- the value of node j by its plain word; the last node has none, and its value is implied whatever word is given, the
-- leading one 2^(2k+a)
abbrev pub decode : ℕ → ℕ → ℕ → ℕ → ℕ
decode k a j word = cond (eqb j (last_node k)) (leading_one k a) (decode_under (leading_one k a) j word)

-- the word that is stored for node j in a form: the plain one, or c(j) itself
abbrev pub stored_in : Form → ℕ → ℕ → ℕ → ℕ
stored_in Plain k a j = stored_word k a j
stored_in Full k a j = node k a j

-- the value of node j by its word in a form: a full word is the value
abbrev pub decode_in : Form → ℕ → ℕ → ℕ → ℕ → ℕ
decode_in Plain k a j word = decode k a j word
decode_in Full k a j word = word

-- c(j) with two table guard bits, as the constant list and the printed table have it, where k is a precision and j is
-- from 0 to 2^k
abbrev pub node_in_table : ℕ → ℕ → Option TableUnits
node_in_table k j = cond (in_range k && leb j (last_node k)) (Some (record { 0 = node k 2 j })) None

-- the same as a number, and elsewhere 0, which no node is
abbrev pub node_or_0 : ℕ → ℕ → ℕ
node_or_0 k j = cond (in_range k && leb j (last_node k)) (node k 2 j) 0
