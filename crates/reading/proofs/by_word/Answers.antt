-- `reading::by_word` meets its contract: each refusal in its order; a node is what its word stands for, judged by a
-- product, and implied where it has none.
-- Assumes nothing.
use mathlib.Core.Path.{◌≡◌, refl, sym, ◌∙◌, ap, ap₂}
use mathlib.Core.Bool.{Bool, true, false}
use mathlib.Core.List.{List, [], ◌∷◌}
use Prim.Native.Nat.{ℕ, ◌≤◌, ◌^◌}
use native.Mathlib.Omega.{arith}
use lib.ListN.{length}
use Rattle.std.proofs.Common.{Option}
use Rattle.std.specs.Option.{ok_or}
use Rattle.units.specs.declared.TableUnits.{TableUnits}
use Rattle.format.specs.Format.{precision_of}
use Rattle.format.specs.declared.Format.{Format}
use Rattle.answers.specs.Refusal.{outcome, some_applies}
use Rattle.answers.specs.Answer.{outcome_of_node}
use Rattle.answers.specs.declared.Refused.TheVariants.{Word}
use Rattle.nodes.specs.Inner.{quotients_of}
use Rattle.nodes.specs.declared.Quotients.{Quotients}
use Rattle.layout.specs.Refusals.{word_refusal}
use Rattle.image.specs.Image.{table_of, node_of}
use Rattle.image.specs.Refusals.{node_refusal, limits}
use Rattle.image.specs.Calls.{node_outcome}
use Rattle.image.specs.Inner.{front_of, node_in_bytes}
use Rattle.image.proofs.Limits.{limit_passes, limit_clear, clear_kept}
use Rattle.image.proofs.Judging.{node_refused, node_served}
use Rattle.image.proofs.Reading.{given_node, own_node}
use Rattle.image.proofs.OwnBytes.{own_bytes}
use Rattle.reading.proofs.by_word.Goals as goal

-- behind the tests the limits are kept, t is the table of the format, and node j is in it
module _ (F : Format) (j : ℕ) (s : List ℕ) (t : Quotients) (clear : some_applies (limits F (length s)) ≡ false) (table : t ≡ quotients_of F) (past : j ≤ t.first) where
  in-table : j ≤ 2 ^ precision_of F
  in-table = omega (arith, past, ap (λ (q : Quotients). q.first) table)

  -- what is given is by the word that the buffer has
  given : {own : List ℕ} {o : Option TableUnits} → own ≡ own_bytes F s → o ≡ node_in_bytes t own j → o ≡ given_node F s j (word_refusal (table_of F) s j).applies
  given is-own e = e ∙ ap₂ (λ (q : Quotients) (l : List ℕ). node_in_bytes q l j) table is-own ∙ own_node F s j (clear_kept F s clear) in-table

  -- so it answers what the refusals after the limits do
  answers : outcome_of_node (ok_or (given_node F s j (word_refusal (table_of F) s j).applies) (Word j)) ≡ node_outcome F s j
  answers = by (word_refusal (table_of F) s j).applies refl ∙ sym (limit_passes F s (node_refusal (precision_of F) j ∷ word_refusal (table_of F) s j ∷ []) (node_of F s j) clear)
    where
      by : (b : Bool) → (word_refusal (table_of F) s j).applies ≡ b
          → outcome_of_node (ok_or (given_node F s j b) (Word j)) ≡ outcome (node_refusal (precision_of F) j ∷ word_refusal (table_of F) s j ∷ []) (node_of F s j)
      by true e = sym (node_refused F s j (node_of F s j) in-table e)
      by false e = sym (node_served F s j (node_of F s j) in-table e)

pub returns : goal.returns
returns c =
    let a = c.args in
    let s = a.image.now in
    let clear = limit_clear a.format s c.in_ok-table.ensures.refusals in
    let table = c.in_ok-table.ensures.numbers in
    ap outcome_of_node
    (c.ok_or.ensures.value
    ∙ ap (λ o. ok_or o (Word a.j)) (given a.format a.j s c.in_ok-table.table clear table c.if-table-j.false (c.own_bytes.ensures.bytes ∙ ap (λ (q : Quotients). front_of q s) table) c.node.ensures))
    ∙ answers a.format a.j s c.in_ok-table.table clear table c.if-table-j.false
