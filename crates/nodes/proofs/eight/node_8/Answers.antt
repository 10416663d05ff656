-- `nodes::node_8` meets its contract: the table's entries are the nodes of precision 8, by one test over the whole
-- table.
-- Assumes nothing.
use mathlib.Core.Path.{refl, ap}
use Prim.Native.Nat.{ℕ}
use native.Mathlib.Omega.{arith}
use borrow.Author.Rules.{rules}
use Rattle.std.proofs.Common.{Some}
use Rattle.constant_lists.proofs.List.{read, entry}
use Rattle.quotient.specs.Quotient.{rounded_up}
use Rattle.nodes.specs.Nodes.{node}
use Rattle.nodes.proofs.Nodes.{node_given}
use Rattle.nodes.proofs.eight.node_8.Goals as goal

pub returns-then-j-gt256-clause-list : goal.returns-then-j-gt256-clause-list
unfolding rounded_up
returns-then-j-gt256-clause-list c = λ i h. rw read (entry (node 8 2) _ i h refl)

pub returns-clause-list : goal.returns-clause-list
unfolding rounded_up
returns-clause-list c = λ i h. rw read (entry (node 8 2) _ i h refl)

pub returns-clause-value : goal.returns-clause-value
unfolding rounded_up
returns-clause-value c =
    let j = c.args.j in
    rw (c.wide.ensures, node_given 8 refl j (omega arith)) (ap (λ (n : ℕ). Some (record { 0 = n })) (rw read (entry (node 8 2) _ j (search rules) refl)))
