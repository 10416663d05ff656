-- `inverting::by_ends` meets its contract: the upper word is decoded and judged for node j, then the lower one for
-- node j + 1, and R is interpolated between them.
-- Assumes nothing.
use mathlib.Core.Path.{◌≡◌, refl, sym, ap, ap₂, ◌∙◌}
use mathlib.Core.Bool.{true}
use Prim.Native.Nat.{ℕ, ◌+◌, ◌-◌, ◌*◌, ◌/◌, ◌%◌, ◌^◌, ◌≤◌, ◌<◌}
use native.Mathlib.Nat.{mod-lt}
use native.Mathlib.Omega.{arith}
use lib.Pow.{pow_mono, pow_pos}
use Rattle.std.proofs.Common.{Some}
use Rattle.units.specs.declared.TableUnits.{TableUnits}
use Rattle.bools.proofs.Bools.{given, not_given}
use Rattle.format.specs.Format.{usual, word_width}
use Rattle.format.specs.declared.Form.{Form}
use Rattle.format.specs.declared.Format.{Format}
use Rattle.format.proofs.Laws.{width_most}
use Rattle.nodes.specs.Nodes.{node}
use Rattle.nodes.specs.Inner.{quotients_of, judged_word}
use Rattle.nodes.specs.declared.Quotients.{Quotients}
use Rattle.nodes.proofs.Nodes.{node_most, node_ordered, passed_is_node}
use Rattle.nodes.proofs.Forms.{judged_is, given_where}
use Rattle.answers.specs.Refusal.{served}
use Rattle.interpolation.specs.Algorithm.{product_sum, chopped}
use Rattle.interpolation.proofs.Cut.{product_most}
use Rattle.inverting.specs.Inner.{IsPiece, IsPieceOf, both_in, lower_end, upper_end, passes, ends_outcome}
use Rattle.inverting.proofs.Ends.{word_above}
use Rattle.inverting.proofs.by_ends.Goals as goal

-- the format, the node, the window and the table
module _ (form : Form) (k : ℕ) (j window : ℕ) (p : IsPieceOf k j) (fits : window < 2 ^ 64) {q : Quotients}
    (table : q ≡ quotients_of (usual form k)) where
  abbrev F : Format
  F = usual form k

  -- both words
  abbrev both : ℕ
  both = both_in F window

  -- the number x that the code has is that of both
  module _ {x : ℕ} (have : x ≡ window / 2 ^ (64 - 2 * q.width)) where
    is_both : x ≡ both
    is_both = have ∙ ap (λ (t : Quotients). window / 2 ^ (64 - 2 * t.width)) table

    -- so y is each word of it, of at most 28 bits
    module _ {y : ℕ} where
      first_word : y ≡ x / 2 ^ q.width → y ≡ both / 2 ^ word_width F
      first_word e = e ∙ ap₂ (λ (a : ℕ) (t : Quotients). a / 2 ^ t.width) is_both table

      second_word : y ≡ x % 2 ^ q.width → y ≡ both % 2 ^ word_width F
      second_word e = e ∙ ap₂ (λ (a : ℕ) (t : Quotients). a % 2 ^ t.width) is_both table

      first-fits : y ≡ x / 2 ^ q.width → y < 2 ^ 32
      first-fits e =
          let top : word_width F ≤ 28 = omega (arith, p.high, width_most form k 2) in
          let narrow : 2 ^ word_width F ≤ 2 ^ 28 = pow_mono top in
          omega (arith, first_word e, word_above form k window p.high fits, narrow)

      -- what is given for the first is its value where that passes, and so for the second
      lower : y ≡ x / 2 ^ q.width
          → judged_word q j y ≡ given_where (passes k 2 j (lower_end F both j)) (lower_end F both j)
      lower e =
          ap₂ (λ (t : Quotients) (w : ℕ). judged_word t j w) table (first_word e)
          ∙ judged_is F p.high (omega arith) j (both / 2 ^ word_width F) (omega (arith, p.below))
          (word_above form k window p.high fits)

      upper : y ≡ x % 2 ^ q.width
          → judged_word q (j + 1) y ≡ given_where (passes k 2 (j + 1) (upper_end F both j)) (upper_end F both j)
      upper e =
          ap₂ (λ (t : Quotients) (w : ℕ). judged_word t (j + 1) w) table (second_word e)
          ∙ judged_is F p.high (omega arith) (j + 1) (both % 2 ^ word_width F) (omega (arith, p.below))
          (mod-lt both (pow_pos (word_width F)))

  -- where both are given, they are the ends, and the nodes, which fall from the one to the other
  module _ {a b : ℕ} (low : (passes k 2 j (lower_end F both j) ≡ true) × (lower_end F both j ≡ a))
      (high : (passes k 2 (j + 1) (upper_end F both j) ≡ true) × (upper_end F both j ≡ b)) where
    low-is-node : a ≡ node k 2 j
    low-is-node = sym low.1 ∙ passed_is_node k 2 j (lower_end F both j) low.0

    high-is-node : b ≡ node k 2 (j + 1)
    high-is-node = sym high.1 ∙ passed_is_node k 2 (j + 1) (upper_end F both j) high.0

    falling : b ≤ a
    falling = omega (arith, low-is-node, high-is-node, node_ordered k 2 {i = j} {j = j + 1} (omega arith))

    -- the product of the first by the width of a piece has few bits
    product : a * 2 ^ (k + 3) ≤ 2 ^ 42
    product =
        let top : 3 * k + 6 ≤ 42 = omega (arith, p.high) in
        omega (arith, product_most k 2 3 a (omega (arith, low-is-node, node_most k 2 j)), pow_mono top)

    module _ (kept : ℕ) {f : ℕ} (is-f : f ≡ kept % 2 ^ (k + 3)) where
      is_piece : IsPiece a b f (k + 3)
      is_piece =
          record {
            small = omega (arith, p.high);
            fits = omega (arith, product);
            falls = falling;
            inside = omega (arith, is-f, mod-lt kept (pow_pos (k + 3)));
          }

      -- and R is interpolated between them
      served_R : {R : ℕ} → R ≡ chopped k 2 3 (product_sum k 3 a b f)
          → served R ≡ ends_outcome F both j (kept % 2 ^ (k + 3))
      served_R e =
          ap served
          (e ∙ ap₂ (λ (x y : ℕ). chopped k 2 3 (product_sum k 3 x y f)) (sym low.1) (sym high.1)
          ∙ ap (λ (x : ℕ). chopped k 2 3 (product_sum k 3 (lower_end F both j) (upper_end F both j) x)) is-f)
          ∙ rw (low.0, high.0)

pub overflow_cast-high : goal.overflow_cast-high
overflow_cast-high c =
    let a = c.args in
    record {
      fits = first-fits a.form a.k.0 a.j a.window c.requires (omega arith)
          (c.in_ok-table.ensures.numbers ∙ ap quotients_of c.usual.ensures) c.high-both.ensures c.high.ensures;
    }

-- the first word is judged first
pub returns-in_default : goal.returns-in_default
returns-in_default c =
    let a = c.args in
    let both = both_in (usual a.form a.k.0) a.window in
    let low = lower a.form a.k.0 a.j a.window c.requires (omega arith)
    (c.in_ok-table.ensures.numbers ∙ ap quotients_of c.usual.ensures) c.high-both.ensures c.high.ensures in
    let fails = not_given (passes a.k.0 2 a.j (lower_end (usual a.form a.k.0) both a.j)) _
    (sym c.in_default.is ∙ c.judged.ensures ∙ low) in
    rw fails refl

-- and then the second
pub returns-in_default-judged : goal.returns-in_default-judged
returns-in_default-judged c =
    let a = c.args in
    let both = both_in (usual a.form a.k.0) a.window in
    let table = c.in_ok-table.ensures.numbers ∙ ap quotients_of c.usual.ensures in
    let low = lower a.form a.k.0 a.j a.window c.requires (omega arith) table c.high-both.ensures c.high.ensures in
    let high = upper a.form a.k.0 a.j a.window c.requires (omega arith) table c.high-both.ensures c.low.ensures in
    let passed = (given (passes a.k.0 2 a.j (lower_end (usual a.form a.k.0) both a.j)) _ _
    (sym c.in-Some.is ∙ c.judged.ensures ∙ low)).0 in
    let fails = not_given (passes a.k.0 2 (a.j + 1) (upper_end (usual a.form a.k.0) both a.j)) _
    (sym c.in_default-judged.is ∙ c.judged-2.ensures ∙ high) in
    rw (passed, fails) refl

-- behind both tests
module _ (form : Form) (k : ℕ) (j window : ℕ) (p : IsPieceOf k j) (fits : window < 2 ^ 64) {q : Quotients}
    (table : q ≡ quotients_of (usual form k)) {x y y' : ℕ} {a b : TableUnits}
    (have : x ≡ window / 2 ^ (64 - 2 * q.width)) (first : y ≡ x / 2 ^ q.width) (second : y' ≡ x % 2 ^ q.width)
    (told : Some a ≡ judged_word q j y) (told-too : Some b ≡ judged_word q (j + 1) y') where
  low_end : (passes k 2 j (lower_end (usual form k) (both_in (usual form k) window) j) ≡ true)
      × (lower_end (usual form k) (both_in (usual form k) window) j ≡ a.0)
  low_end =
      let s = given (passes k 2 j (lower_end (usual form k) (both_in (usual form k) window) j)) _ _
      (told ∙ lower form k j window p fits table have first) in
      (s.0, ap (λ (c : TableUnits). c.0) (sym s.1))

  high_end : (passes k 2 (j + 1) (upper_end (usual form k) (both_in (usual form k) window) j) ≡ true)
      × (upper_end (usual form k) (both_in (usual form k) window) j ≡ b.0)
  high_end =
      let s = given (passes k 2 (j + 1) (upper_end (usual form k) (both_in (usual form k) window) j)) _ _
      (told-too ∙ upper form k j window p fits table have second) in
      (s.0, ap (λ (c : TableUnits). c.0) (sym s.1))

pub interpolated-requires : goal.interpolated-requires
interpolated-requires c =
    let a = c.args in
    let table = c.in_ok-table.ensures.numbers ∙ ap quotients_of c.usual.ensures in
    let told = sym c.in-Some.is ∙ c.judged.ensures in
    let told-too = sym c.in-Some-judged.is ∙ c.judged-2.ensures in
    is_piece a.form a.k.0 a.j a.window c.requires (omega arith) table
    (low_end a.form a.k.0 a.j a.window c.requires (omega arith) table c.high-both.ensures c.high.ensures
    c.low.ensures told told-too)
    (high_end a.form a.k.0 a.j a.window c.requires (omega arith) table c.high-both.ensures c.high.ensures c.low.ensures
    told told-too) a.kept c.low-2.ensures

pub returns : goal.returns
returns c =
    let a = c.args in
    let table = c.in_ok-table.ensures.numbers ∙ ap quotients_of c.usual.ensures in
    let told = sym c.in-Some.is ∙ c.judged.ensures in
    let told-too = sym c.in-Some-judged.is ∙ c.judged-2.ensures in
    served_R a.form a.k.0 a.j a.window c.requires (omega arith) table
    (low_end a.form a.k.0 a.j a.window c.requires (omega arith) table c.high-both.ensures c.high.ensures
    c.low.ensures told told-too)
    (high_end a.form a.k.0 a.j a.window c.requires (omega arith) table c.high-both.ensures c.high.ensures c.low.ensures
    told told-too) a.kept c.low-2.ensures c.interpolated.ensures
