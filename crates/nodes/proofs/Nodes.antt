-- The laws of the nodes, of their words and of decoding, at every k and with any number of table guard bits.
-- Assumes nothing.
use mathlib.Core.Path.{◌≡◌, refl, sym, ap, ◌∙◌}
use mathlib.Core.Bool.{true, false, and-false}
use Prim.Native.Nat.{ℕ, ◌+◌, ◌-◌, ◌*◌, ◌%◌, ◌^◌, ◌≤◌, ◌<◌}
use native.Mathlib.Nat.{mod-eq_of_lt}
use native.Mathlib.Omega.{arith}
use lib.Dec.{eqb}
use lib.Pow.{pow_pos, pow-lt}
use borrow.Author.Tests.{eq-eqb, ne_eqb, eqb-true, le-leb, lt-leb}
use Rattle.std.proofs.Common.{Some}
use Rattle.precision.specs.Precision.{word_width, in_range}
use Rattle.quotient.specs.Quotient.{rounded_up}
use Rattle.quotient.specs.Inner.{numerator_bits, rounds_up}
use Rattle.quotient.proofs.Laws.{antitone, rounds-up}
use Rattle.nodes.specs.Nodes.{numerator, node, leading_one, stored_word, decode_under, decode, node_or_0, node_in_table}
use Rattle.nodes.proofs.Laws as laws
use Rattle.nodes.proofs.Laws.{Shape, node_at}
use Rattle.nodes.proofs.Powers as powers
use Rattle.nodes.proofs.Powers.{double, step, step_wide}

module _ (k a : ℕ) where
  shape : Shape (2 ^ (2 * k + a)) (2 ^ k)
  shape = powers.shape k a

  -- node j over plain numbers
  pub node_is : (j : ℕ) → node k a j ≡ node_at (2 ^ (2 * k + a)) (2 ^ k) j
  node_is j = ap (λ (M : ℕ). rounded_up M (2 ^ k + j)) (powers.numerator k a)

  -- the double of the leading one
  pub lead_double : 2 * 2 ^ (2 * k + a) ≡ 2 ^ (2 * k + (a + 1))
  lead_double = sym (double (2 * k + a)) ∙ ap (λ (n : ℕ). 2 ^ n) {x = 2 * k + a + 1} {y = 2 * k + (a + 1)} (omega arith)

  -- node 0 is 2^(2k+a+1)
  pub node_first : node k a 0 ≡ 2 ^ (2 * k + (a + 1))
  node_first = node_is 0 ∙ laws.first shape ∙ lead_double

  -- node 2^k is 2^(2k+a)
  pub node_last : node k a (2 ^ k) ≡ 2 ^ (2 * k + a)
  node_last = node_is (2 ^ k) ∙ laws.last shape

  -- a node before node 2^k is above 2^(2k+a)
  pub node_above : (j : ℕ) → j < 2 ^ k → 2 ^ (2 * k + a) < node k a j
  node_above j h = rw node_is (laws.above shape j h)

  -- a node after node 0 is below 2^(2k+a+1)
  pub node_below : (j : ℕ) → 0 < j → node k a j < 2 ^ (2 * k + (a + 1))
  node_below j h =
      rw (node_is, ← lead_double) (laws.below shape j h)

  -- each node is below the one before it
  pub node_falls : (j : ℕ) → j < 2 ^ k → node k a (j + 1) < node k a j
  node_falls j h =
      rw (node_is j, node_is (j + 1)) (laws.falls shape j h)

  -- a later node is no greater
  pub node_ordered : {i j : ℕ} → i ≤ j → node k a j ≤ node k a i
  node_ordered {i} {j} h = antitone (2 ^ (3 * k + (a + 1))) {i = 2 ^ k + i} {i' = 2 ^ k + j} (omega (arith, pow_pos k)) (omega arith)

  -- and none is greater than node 0
  pub node_most : (j : ℕ) → node k a j ≤ 2 ^ (2 * k + (a + 1))
  node_most j = omega (arith, node_first, node_ordered {i = 0} {j = j} (omega arith))

  -- neighbours differ by less than 2^(k+a+1) (Das Sarma and Matula, Lemma 1)
  pub node_near : (j : ℕ) → node k a j < node k a (j + 1) + 2 ^ (k + (a + 1))
  node_near j =
      rw (node_is j, node_is (j + 1))
      (laws.near shape (2 ^ (k + (a + 1))) (step k a) (step_wide k a) j)

  -- the word of node 0 is zero
  pub stored_word_first : stored_word k a 0 ≡ 0
  stored_word_first = rw node_is (laws.word_first shape)

  -- the word of a node between is what the node has above the leading one
  pub stored_word_between : (j : ℕ) → 0 < j → j < 2 ^ k → stored_word k a j ≡ node k a j - 2 ^ (2 * k + a)
  stored_word_between j h l =
      rw node_is (laws.word_between shape j h l)

  -- node 2^k needs no word
  pub decode_last : (word : ℕ) → decode k a (2 ^ k) word ≡ node k a (2 ^ k)
  decode_last word = rw (eq-eqb (2 ^ k) (2 ^ k) refl) (sym node_last)

  -- before node 2^k a word decodes below the leading one
  pub decode_before : (j word : ℕ) → j < 2 ^ k → decode k a j word ≡ decode_under (2 ^ word_width k a) j word
  decode_before j word h = rw (ne_eqb j (2 ^ k) (λ e. omega (arith, e)))

  -- a right word decodes to the node
  pub decode_right : (j word : ℕ) → j < 2 ^ k → word ≡ stored_word k a j → decode k a j word ≡ node k a j
  decode_right j word h e =
      decode_before j word h
      ∙ laws.right_decodes shape j word h (e ∙ ap (λ (c : ℕ). c % 2 ^ (2 * k + a)) (node_is j))
      ∙ sym (node_is j)

  -- what a word stands for has at most 2k + a + 1 bits and one more
  pub decode_most : (j word : ℕ) → word < 2 ^ word_width k a → decode_under (leading_one k a) j word ≤ 2 ^ (2 * k + (a + 1))
  decode_most j word l = rw (← lead_double) (laws.decode_le (2 ^ (2 * k + a)) j word l)

  -- all of the numerator counts
  pub numerator_whole : k ≤ 12 → a ≤ 4 → numerator_bits (numerator k a) ≡ numerator k a
  numerator_whole h l = let few : 3 * k + (a + 1) < 63 = omega arith in mod-eq_of_lt (pow-lt few)

  -- the test by a product says whether a word is the node's
  pub word_judged : (j word : ℕ) → j < 2 ^ k → word < 2 ^ word_width k a → rounds_up (numerator k a) (2 ^ k + j) (decode_under (leading_one k a) j word) ≡ eqb word (stored_word k a j)
  word_judged j word h l = rw (powers.numerator k a) (laws.judges shape j word h l)

  -- and passes zero bits behind the last word for the last node
  pub last_judged : rounds_up (numerator k a) (2 ^ k + 2 ^ k) (decode_under (leading_one k a) (2 ^ k) 0) ≡ true
  last_judged = rw (powers.numerator k a) (laws.judges_last shape)

  -- what passes at node j is the node
  pub passed_is_node : (j c : ℕ) → rounds_up (numerator k a) (2 ^ k + j) c ≡ true → c ≡ node k a j
  passed_is_node j c e =
      let some : 0 < 2 ^ k + j = omega (arith, pow_pos k) in
      eqb-true c (node k a j) (sym (rounds-up (numerator k a) (2 ^ k + j) some c) ∙ e)

-- nodes with two table guard bits stand where k is a precision and j is in the table, and nowhere else
pub node_there : (k : ℕ) → in_range k ≡ true → (j : ℕ) → j ≤ 2 ^ k → node_or_0 k j ≡ node k 2 j
node_there k r j h = rw (r, le-leb j (2 ^ k) h)

pub node_given : (k : ℕ) → in_range k ≡ true → (j : ℕ) → j ≤ 2 ^ k → node_in_table k j ≡ Some (record { 0 = node k 2 j })
node_given k r j h = rw (r, le-leb j (2 ^ k) h)

pub node_past : (k : ℕ) → (j : ℕ) → 2 ^ k < j → node_or_0 k j ≡ 0
node_past k j h = rw (lt-leb j (2 ^ k) h, and-false)

pub no_node : (k : ℕ) → in_range k ≡ false → (j : ℕ) → node_or_0 k j ≡ 0
no_node k r j = rw r
