-- The premises on equal trees are met.
use Rattle.std.proofs.Common.{false, [], ◌∷◌, None, Some, refl, arith}
use Rattle.std.specs.Prelude.{codes}
use Rattle.circuit_theory.specs.Frame.{EventUnfolds}
use Rattle.event_nodes.specs.aig.Graph.{flip}
use Rattle.edbf_unfold.specs.event_literals.Known.{IsKnownAt, IsEnableLit}
use Rattle.event_nodes.specs.aig.Rules.{simple_and}
use Rattle.edbf_unfold.specs.event_literals.ShortOr.{IsShortOr, short_and, one_and, under, restricted, with_sign, is_conjunct, operands, node_operands}
use Rattle.edbf_unfold.proofs.EventLiterals.{one_literal, one_enable_literal}
use Rattle.call_rows.specs.circuit_samples.event_samples.Samples.{load_cover}
use Rattle.premise_rows.specs.event_literal_premises.Chained.{where_a, where_no_a, at_chain, chain_nodes, latch_q}
use Rattle.premise_rows.specs.event_literal_premises.Trees.{EqualTreesMeetPremises}
use Rattle.premise_rows.proofs.event_literal_premises.ChainLits.{chain_kept, a_low, a_high}
use Rattle.premise_rows.proofs.event_literal_premises.ChainSide as chain
use Rattle.premise_rows.proofs.event_literal_premises.Chains.{of_a, of_no_a}

-- e is the enable of q
e_is : IsShortOr chain_nodes 10 (flip 15) 6
unfolding flip simple_and short_and one_and under restricted with_sign is_conjunct operands node_operands
e_is = (7, refl, refl)

abbrev q_known : IsKnownAt where_a at_chain None 2 [] 10
q_known = record {
  tree = chain.q_tree load_cover false (1 ∷ []);
  unfolds =
      EventUnfolds.held {name = codes "q"} {next = 4} (chain.q_is of_a) tt
      (chain.q_enabled of_a)
      (chain.q_next of_a false (1 ∷ []));
  builds = a_low;
  within = omega arith;
}

abbrev left_lit : IsEnableLit where_a at_chain (1 ∷ []) latch_q 6
left_lit = chain.q_lit of_a 10 15 a_low a_high (omega arith) (omega arith) e_is

abbrev right_lit : IsEnableLit where_no_a at_chain (1 ∷ []) latch_q 6
right_lit = chain.q_lit of_no_a 10 15 a_low a_high (omega arith) (omega arith) e_is

pub equal_trees_meet_premises : EqualTreesMeetPremises
equal_trees_meet_premises = record {
  graph = chain_kept;
  q_is = q_known;
  taken_is = right_lit.low;
  one_tree = refl;
  one_literal = λ x k same. one_literal where_a where_no_a at_chain None (Some (2, false)) 2 4 [] (1 ∷ []) 10 x chain_kept q_known k same;
  left_lit = left_lit;
  right_lit = right_lit;
  low_tree = refl;
  high_tree = refl;
  one_enable = λ x k low high. one_enable_literal where_a where_no_a at_chain (1 ∷ []) (1 ∷ []) latch_q latch_q 6 x chain_kept left_lit k low high;
}
