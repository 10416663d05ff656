-- The words of the nodes in every form, and how they are decoded and judged, at every k and with any number of table
-- guard bits. Plain words are those of `Nodes`; a full word is the node itself, which is decoded and judged under no
-- leading one.
-- Assumes nothing.
use mathlib.Core.Path.{◌≡◌, refl, sym, ap, ◌∙◌}
use mathlib.Core.Bool.{Bool, true, false, cond, not}
use Prim.Native.Nat.{ℕ, zero, suc, ◌+◌, ◌*◌, ◌%◌, ◌^◌, ◌≤◌, ◌<◌}
use native.Mathlib.Nat.{mod-lt, mod-eq_of_lt}
use native.Mathlib.Omega.{arith}
use lib.Dec.{eqb}
use lib.Pow.{pow_pos, pow-lt, pow_mono}
use Rattle.std.proofs.Common.{Option, Some, None}
use Rattle.std.specs.Option.{is_none}
use Rattle.units.specs.declared.TableUnits.{TableUnits}
use borrow.Author.Tests.{ne_eqb}
use Rattle.precision.specs.Precision.{word_width}
use Rattle.format.specs.Format.{precision_of, table_bits, width_in, count_in, word_width as width_of, word_count}
use Rattle.format.specs.declared.Format.{Format}
use Rattle.format.proofs.Laws.{count_most}
use Rattle.format.specs.declared.Form.{Form}
use Rattle.format.specs.declared.Form.TheVariants.{Plain, Full}
use Rattle.quotient.specs.Inner.{rounds_up}
use Rattle.quotient.proofs.Laws.{rounds-up}
use Rattle.nodes.specs.Nodes.{numerator, node, stored_in, decode_under, decode_in}
use Rattle.nodes.specs.Inner.{lead_in, quotients_of, judged_word}
use Rattle.nodes.proofs.Nodes.{node_most, numerator_whole, decode_last, decode_before, decode_right, decode_most, word_judged}

-- under no leading one a word stands for itself
pub under_none : (j word : ℕ) → decode_under 0 j word ≡ word
under_none zero zero = refl
under_none zero (suc w) = rw (ne_eqb (suc w) 0 (λ e. omega (arith, e))) (omega arith)
under_none (suc j) word = rw (ne_eqb (suc j) 0 (λ e. omega (arith, e))) (omega arith)

-- a node has its place in a full word
pub node_fits : (k a j : ℕ) → node k a j < 2 ^ (2 * k + (a + 2))
node_fits k a j =
    let more : 2 * k + (a + 1) < 2 * k + (a + 2) = omega arith in
    omega (arith, node_most k a j, pow-lt more)

-- a word has its width
pub stored_lt : (f : Form) (k a j : ℕ) → stored_in f k a j < 2 ^ width_in f k a
stored_lt Plain k a j = mod-lt (node k a j) (pow_pos (word_width k a))
stored_lt Full k a j = node_fits k a j

-- and is the lowest bits of the node
pub stored_low : (f : Form) (k a j : ℕ) → node k a j % 2 ^ width_in f k a ≡ stored_in f k a j
stored_low Plain k a j = refl
stored_low Full k a j = mod-eq_of_lt (node_fits k a j)

-- what a word stands for has at most 2k + a + 2 bits
pub decoded_most : (f : Form) (k a j word : ℕ) → word < 2 ^ width_in f k a → decode_under (lead_in f k a) j word ≤ 2 ^ (2 * k + (a + 2))
decoded_most Plain k a j word l =
    let more : 2 * k + (a + 1) ≤ 2 * k + (a + 2) = omega arith in
    omega (arith, decode_most k a j word l, pow_mono more)
decoded_most Full k a j word l = omega (arith, under_none j word, l)

-- a word that there is, of node j
module _ (k a j word : ℕ) where
  -- it is decoded under the leading one of the form
  pub decoded_under : (f : Form) → j < count_in f k → decode_in f k a j word ≡ decode_under (lead_in f k a) j word
  decoded_under Plain h = decode_before k a j word h
  decoded_under Full h = sym (under_none j word)

  -- it stands for the node where it is right
  pub decoded_right : (f : Form) → j < count_in f k → word ≡ stored_in f k a j → decode_in f k a j word ≡ node k a j
  decoded_right Plain h e = decode_right k a j word h e
  decoded_right Full h e = e

  -- and the test by a product says whether it is
  pub judged : (f : Form) → j < count_in f k → word < 2 ^ width_in f k a → rounds_up (numerator k a) (2 ^ k + j) (decode_under (lead_in f k a) j word) ≡ eqb word (stored_in f k a j)
  judged Plain h l = word_judged k a j word h l
  judged Full h l =
      ap (rounds_up (numerator k a) (2 ^ k + j)) (under_none j word)
      ∙ rounds-up (numerator k a) (2 ^ k + j) (omega (arith, pow_pos k)) word

  -- a node with no word is the last one, whose value is implied
  pub decoded_last : (f : Form) → count_in f k ≤ j → j ≤ 2 ^ k → decode_in f k a j word ≡ node k a j
  decoded_last Plain h l =
      let same : j ≡ 2 ^ k = omega (arith, h, l) in
      ap (λ (i : ℕ). decode_in Plain k a i word) same ∙ decode_last k a word ∙ ap (node k a) (sym same)
  decoded_last Full h l = absurd (omega (arith, h, l))

-- a value where a test passes
abbrev pub given_where : Bool → ℕ → Option TableUnits
given_where b c = cond b (Some (record { 0 = c })) None

-- and none exactly where it fails
none_given : (b : Bool) (c : ℕ) → is_none (given_where b c) ≡ not b
none_given true c = refl
none_given false c = refl

-- the words of a table as code judges them
module _ (F : Format) where
  abbrev k : ℕ
  k = precision_of F

  abbrev a : ℕ
  a = table_bits F

  -- what a word stands for
  abbrev pub stands_for : ℕ → ℕ → ℕ
  stands_for j word = decode_under (lead_in F.form k a) j word

  -- what code gives for a word is what it stands for, where the test passes it: all bits of divisor and value count
  pub judged_is : k ≤ 12 → a ≤ 4 → (j word : ℕ) → j ≤ 2 ^ k → word < 2 ^ width_of F
      → judged_word (quotients_of F) j word ≡ given_where (rounds_up (numerator k a) (2 ^ k + j) (stands_for j word)) (stands_for j word)
  judged_is h g j word in-table l =
      let wide : 2 * k + (a + 2) ≤ 30 = omega arith in
      let divisor : 2 ^ k + j < 2 ^ 32 = omega (arith, pow_mono h) in
      let value : stands_for j word < 2 ^ 32 = omega (arith, decoded_most F.form k a j word l, pow_mono wide) in
      rw (numerator_whole k a h g, mod-eq_of_lt divisor, mod-eq_of_lt value) refl

  -- so none is given exactly where the word is wrong
  pub judged_wrong : k ≤ 12 → a ≤ 4 → (j word : ℕ) → j < word_count F → word < 2 ^ width_of F → is_none (judged_word (quotients_of F) j word) ≡ not (eqb word (stored_in F.form k a j))
  judged_wrong h g j word there l =
      ap is_none (judged_is h g j word (omega (arith, there, count_most F.form k)) l)
      ∙ none_given (rounds_up (numerator k a) (2 ^ k + j) (stands_for j word)) (stands_for j word)
      ∙ ap not (judged k a j word F.form there l)
