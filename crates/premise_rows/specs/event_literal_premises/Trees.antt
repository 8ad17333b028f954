-- One latch in two circuits which make something else of it.
use Rattle.std.specs.Prelude.{◌≡◌, ℕ, false, [], ◌∷◌, None, Some}
use Rattle.event_nodes.specs.Nodes.{IsEventGraph}
use Rattle.edbf_unfold.specs.event_literals.Known.{IsKnownAt, IsEnableLit}
use Rattle.premise_rows.specs.event_literal_premises.Chained.{where_a, where_no_a, at_chain, latch_q}

-- q at the root, and what q of the other circuit takes over at the child by its class, with itself read as 0, have one tree: each literal of that is
-- the one of q. Both functions of either enable at that child have one tree: each literal of the enable is e.
pub record EqualTreesMeetPremises : Type 0 where
  pub graph : IsEventGraph at_chain
  pub q_is : IsKnownAt where_a at_chain None 2 [] 10
  pub taken_is : IsKnownAt where_no_a at_chain (Some (2, false)) 4 (1 ∷ []) 10
  pub one_tree : q_is.tree ≡ taken_is.tree
  pub one_literal : (x : ℕ) (k : IsKnownAt where_no_a at_chain (Some (2, false)) 4 (1 ∷ []) x) → q_is.tree ≡ k.tree → 10 ≡ x
  pub left_lit : IsEnableLit where_a at_chain (1 ∷ []) latch_q 6
  pub right_lit : IsEnableLit where_no_a at_chain (1 ∷ []) latch_q 6
  pub low_tree : left_lit.low.tree ≡ right_lit.low.tree
  pub high_tree : left_lit.high.tree ≡ right_lit.high.tree
  pub one_enable : (x : ℕ) (k : IsEnableLit where_no_a at_chain (1 ∷ []) latch_q x) → left_lit.low.tree ≡ k.low.tree → left_lit.high.tree ≡ k.high.tree → 6 ≡ x
