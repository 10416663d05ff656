-- `inverting::by_nodes` meets its contract: the limits, the word of node j, that of node j + 1, and R between what
-- they stand for.
-- Assumes nothing.
use mathlib.Core.Path.{◌≡◌, refl, sym, ap, ap₂, ◌∙◌}
use mathlib.Core.Bool.{Bool, true, false}
use mathlib.Core.List.{List}
use Prim.Native.Nat.{ℕ, ◌+◌, ◌*◌, ◌/◌, ◌%◌, ◌^◌, ◌≤◌, ◌<◌}
use native.Mathlib.Nat.{mod-lt, le_of_lt}
use native.Mathlib.Omega.{arith}
use lib.ListN.{length}
use lib.Pow.{pow_mono, pow_pos}
use Rattle.std.proofs.Common.{Option, Some, None}
use Rattle.units.specs.declared.TableUnits.{TableUnits}
use Rattle.format.specs.Format.{precision_of, table_bits, input_bits}
use Rattle.format.specs.declared.Format.{Format}
use Rattle.answers.specs.Refusal.{served, some_applies}
use Rattle.nodes.specs.Nodes.{node}
use Rattle.nodes.specs.Inner.{quotients_of}
use Rattle.nodes.specs.declared.Quotients.{Quotients}
use Rattle.nodes.proofs.Nodes.{node_most, node_ordered}
use Rattle.layout.specs.Refusals.{word_refusal}
use Rattle.image.specs.Image.{table_of, node_of}
use Rattle.image.specs.Refusals.{limits}
use Rattle.image.specs.Inner.{front_of, node_in_bytes}
use Rattle.image.proofs.Limits.{ImageKept, limit_clear, clear_kept}
use Rattle.image.proofs.Judging.{right_node}
use Rattle.image.proofs.Reading.{given_node, own_node}
use Rattle.image.proofs.OwnBytes.{own_bytes}
use Rattle.operand.specs.Operand.{cut_operand}
use Rattle.operand.specs.Refusals.{operand_refusals}
use Rattle.operand.specs.Inner.{cut_fraction}
use Rattle.operand.proofs.Laws.{cut_normalised}
use Rattle.operand.proofs.Limits.{OperandKept, operand_clear, operand_kept}
use Rattle.interpolation.specs.Algorithm.{node_number, fraction, sum_over}
use Rattle.interpolation.specs.Calls.{reciprocal_outcome}
use Rattle.interpolation.specs.Inner.{cut_of}
use Rattle.interpolation.proofs.Cut.{cut_number_below, bits_number, bits_fraction, product_most}
use Rattle.interpolation.proofs.Answers.{first-wrong, next_wrong, none_wrong, answer_of_cut}
use Rattle.inverting.specs.Inner.{IsPiece}
use Rattle.inverting.proofs.CutBits.{whole}
use Rattle.inverting.proofs.by_nodes.Goals as goal

-- none is given exactly where the word is wrong
none_is : (F : Format) (s : List ℕ) (j : ℕ) (wrong : Bool) → None ≡ given_node F s j wrong → wrong ≡ true
none_is F s j true e = refl
none_is F s j false e = cc

some_is : (F : Format) (s : List ℕ) (j : ℕ) {c : TableUnits} (wrong : Bool) → Some c ≡ given_node F s j wrong
    → (wrong ≡ false) × (c ≡ record { 0 = node_of F s j })
some_is F s j true e = cc
some_is F s j false e = (refl, cc)

-- behind the tests of the limits
module _ (F : Format) (s : List ℕ) (n X : ℕ) (clear : some_applies (limits F (length s)) ≡ false)
    (clear-too : some_applies (operand_refusals n X) ≡ false) where
  abbrev k : ℕ
  k = precision_of F

  abbrev a : ℕ
  a = table_bits F

  abbrev b : ℕ
  b = input_bits F

  abbrev t : ℕ
  t = cut_operand k b n X

  kept : ImageKept F s
  kept = clear_kept F s clear

  operand : OperandKept n X
  operand = operand_kept n X clear-too

  -- the bits that are kept, and what the code has of them
  module _ {bits : ℕ} (cut : bits ≡ cut_fraction (k + (k + b)) n X) where
    of_t : bits ≡ cut_fraction (2 * k + b) n X
    of_t = cut ∙ ap (λ (e : ℕ). cut_fraction e n X) {x = k + (k + b)} {y = 2 * k + b} (omega arith)

    all : cut_of k b bits ≡ t
    all = whole k b n X bits operand (omega (arith, kept.high, kept.guard.input_most)) of_t

    module _ {j : ℕ} (high : j ≡ bits / 2 ^ (k + b)) where
      is_number : j ≡ node_number k b t
      is_number = high ∙ sym (bits_number k b bits) ∙ ap (node_number k b) all

      below : node_number k b t < 2 ^ k
      below = let range = cut_normalised k b n X operand.least operand.below in cut_number_below k b t range.0 range.1

      -- what the table gives for the nodes at both ends
      module _ {q : Quotients} {own : List ℕ} (table : q ≡ quotients_of F) (is-own : own ≡ own_bytes F s) where
        at_lower : {o : Option TableUnits} → o ≡ node_in_bytes q own j
            → o ≡ given_node F s (node_number k b t) (word_refusal (table_of F) s (node_number k b t)).applies
        at_lower e =
            e ∙ ap₂ (λ (q : Quotients) (l : List ℕ). node_in_bytes q l j) table is-own
            ∙ ap (node_in_bytes (quotients_of F) (own_bytes F s)) is_number
            ∙ own_node F s (node_number k b t) kept (le_of_lt below)

        at_upper : {o : Option TableUnits} → o ≡ node_in_bytes q own (j + 1)
            → o ≡ given_node F s (node_number k b t + 1) (word_refusal (table_of F) s (node_number k b t + 1)).applies
        at_upper e =
            e ∙ ap₂ (λ (q : Quotients) (l : List ℕ). node_in_bytes q l (j + 1)) table is-own
            ∙ ap (λ (i : ℕ). node_in_bytes (quotients_of F) (own_bytes F s) (i + 1)) is_number
            ∙ own_node F s (node_number k b t + 1) kept (omega (arith, below))

        -- none for the first
        refused_lower : None ≡ node_in_bytes q own j
            → record { number = 6; place = j; value = 0 } ≡ reciprocal_outcome F s n X
        refused_lower e =
            ap (λ (i : ℕ). record { number = 6; place = i; value = 0 }) is_number
            ∙ sym (first-wrong F s t (none_is F s (node_number k b t) _ (at_lower e)))
            ∙ answer_of_cut F s n X clear clear-too

        module _ {c : TableUnits} (lower : Some c ≡ node_in_bytes q own j) where
          first : ((word_refusal (table_of F) s (node_number k b t)).applies ≡ false)
              × (c ≡ record { 0 = node_of F s (node_number k b t) })
          first = some_is F s (node_number k b t) _ (at_lower lower)

          -- none for the second
          refused_upper : None ≡ node_in_bytes q own (j + 1)
              → record { number = 6; place = j + 1; value = 0 } ≡ reciprocal_outcome F s n X
          refused_upper e =
              ap (λ (i : ℕ). record { number = 6; place = i + 1; value = 0 }) is_number
              ∙ sym (next_wrong F s t first.0 (none_is F s (node_number k b t + 1) _ (at_upper e)))
              ∙ answer_of_cut F s n X clear clear-too

          -- both are given
          module _ {c' : TableUnits} (upper : Some c' ≡ node_in_bytes q own (j + 1)) where
            second : ((word_refusal (table_of F) s (node_number k b t + 1)).applies ≡ false)
                × (c' ≡ record { 0 = node_of F s (node_number k b t + 1) })
            second = some_is F s (node_number k b t + 1) _ (at_upper upper)

            low-is : c.0 ≡ node k a (node_number k b t)
            low-is = ap (λ (c : TableUnits). c.0) first.1 ∙ right_node F s (node_number k b t) (le_of_lt below) first.0

            high-is : c'.0 ≡ node k a (node_number k b t + 1)
            high-is = ap (λ (c : TableUnits). c.0) second.1
                ∙ right_node F s (node_number k b t + 1) (omega (arith, below)) second.0

            product : c.0 * 2 ^ (k + b) ≤ 2 ^ 46
            product =
                let top : 3 * k + (a + b + 1) ≤ 46 =
                omega (arith, kept.high, kept.guard.table_most, kept.guard.input_most) in
                omega (
                  arith,
                  product_most k a b c.0 (omega (arith, low-is, node_most k a (node_number k b t))),
                  pow_mono top,
                )

            module _ {f : ℕ} (low : f ≡ bits % 2 ^ (k + b)) where
              is_piece : IsPiece c.0 c'.0 f (k + b)
              is_piece =
                  record {
                    small = omega (arith, kept.high, kept.guard.input_most);
                    fits = omega (arith, product);
                    falls = omega (
                      arith,
                      low-is,
                      high-is,
                      node_ordered k a {i = node_number k b t} {j = node_number k b t + 1} (omega arith),
                    );
                    inside = omega (arith, low, mod-lt bits (pow_pos (k + b)));
                  }

              is_fraction : f ≡ fraction k b t
              is_fraction = low ∙ sym (bits_fraction k b bits) ∙ ap (fraction k b) all

              served_R : {R : ℕ} → R ≡ sum_over (2 ^ (k + b)) c.0 c'.0 f / 2 ^ (k + b + a)
                  → served R ≡ reciprocal_outcome F s n X
              served_R e =
                  ap served
                  (e
                  ∙ ap (λ (x : ℕ). sum_over (2 ^ (k + b)) c.0 c'.0 f / 2 ^ x) {x = k + b + a} {y = k + (a + b)}
                  (omega arith)
                  ∙ ap₂ (λ (x y : TableUnits). sum_over (2 ^ (k + b)) x.0 y.0 f / 2 ^ (k + (a + b))) first.1 second.1
                  ∙ ap (λ (x : ℕ). sum_over (2 ^ (k + b)) (node_of F s (node_number k b t))
                  (node_of F s (node_number k b t + 1)) x / 2 ^ (k + (a + b))) is_fraction)
                  ∙ sym (none_wrong F s t first.0 second.0)
                  ∙ answer_of_cut F s n X clear clear-too

pub returns-in_default : goal.returns-in_default
returns-in_default c =
    let a = c.args in
    let s = a.image.now in
    refused_lower a.format s a.operand.n a.operand.x (limit_clear a.format s c.in_ok-table.ensures.refusals)
    (operand_clear a.operand.n a.operand.x c.in_ok-limits.ensures.value)
    c.cut-kept.ensures c.high-j.ensures c.in_ok-table.ensures.numbers
    (c.own_bytes-own.ensures.bytes ∙ ap (λ (q : Quotients). front_of q s) c.in_ok-table.ensures.numbers)
    (sym c.in_default.is ∙ c.node.ensures)

pub returns-in_default-node : goal.returns-in_default-node
returns-in_default-node c =
    let a = c.args in
    let s = a.image.now in
    refused_upper a.format s a.operand.n a.operand.x (limit_clear a.format s c.in_ok-table.ensures.refusals)
    (operand_clear a.operand.n a.operand.x c.in_ok-limits.ensures.value)
    c.cut-kept.ensures c.high-j.ensures c.in_ok-table.ensures.numbers
    (c.own_bytes-own.ensures.bytes ∙ ap (λ (q : Quotients). front_of q s) c.in_ok-table.ensures.numbers)
    (sym c.in-Some.is ∙ c.node.ensures) (sym c.in_default-node.is ∙ c.node-2.ensures)

pub returns : goal.returns
returns c =
    let a = c.args in
    let s = a.image.now in
    served_R a.format s a.operand.n a.operand.x (limit_clear a.format s c.in_ok-table.ensures.refusals)
    (operand_clear a.operand.n a.operand.x c.in_ok-limits.ensures.value)
    c.cut-kept.ensures c.high-j.ensures c.in_ok-table.ensures.numbers
    (c.own_bytes-own.ensures.bytes ∙ ap (λ (q : Quotients). front_of q s) c.in_ok-table.ensures.numbers)
    (sym c.in-Some.is ∙ c.node.ensures) (sym c.in-Some-node.is ∙ c.node-2.ensures) c.low.ensures
    c.interpolated.ensures

pub interpolated-requires : goal.interpolated-requires
interpolated-requires c =
    let a = c.args in
    let s = a.image.now in
    is_piece a.format s a.operand.n a.operand.x (limit_clear a.format s c.in_ok-table.ensures.refusals)
    (operand_clear a.operand.n a.operand.x c.in_ok-limits.ensures.value)
    c.cut-kept.ensures c.high-j.ensures c.in_ok-table.ensures.numbers
    (c.own_bytes-own.ensures.bytes ∙ ap (λ (q : Quotients). front_of q s) c.in_ok-table.ensures.numbers)
    (sym c.in-Some.is ∙ c.node.ensures) (sym c.in-Some-node.is ∙ c.node-2.ensures) c.low.ensures
