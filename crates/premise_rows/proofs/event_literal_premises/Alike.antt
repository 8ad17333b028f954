-- The premises on enables that are the same are met.
use Rattle.std.proofs.Common.{◌≡◌, ◌≢◌, ◌∙◌, true, false, [], refl, sym, arith}
use Rattle.circuit_theory.specs.Joined.{Left, Right}
use Rattle.event_nodes.specs.aig.Graph.{Grows, flip}
use Rattle.event_nodes.specs.aig.Rules.{simple_and}
use Rattle.event_nodes.specs.aig.Values.{value, lit_bit, node_bits, bits_from}
use Rattle.event_nodes.proofs.aig.Meaning.{value-grows}
use Rattle.edbf_unfold.specs.Care.{IsCareLit}
use Rattle.edbf_unfold.specs.event_literals.Known.{IsEnableLit}
use Rattle.edbf_unfold.specs.event_literals.ShortOr.{short_and, one_and, under, restricted, with_sign, is_conjunct, operands, node_operands}
use Rattle.edbf_unfold.specs.class_queries.Enables.{IsEnableFunction, AsksEnables, IsSame}
use Rattle.edbf_unfold.specs.class_queries.Laws.{AreKept}
use Rattle.edbf_unfold.proofs.CareMeaning.{care_value}
use Rattle.edbf_unfold.proofs.EventLiterals.{enable_value}
use Rattle.edbf_unfold.proofs.class_queries.Meaning.{lits_are_functions, equal_law}
use Rattle.premise_rows.specs.event_pair_premises.Held.{held_nodes}
use Rattle.premise_rows.specs.event_literal_premises.Chained.{where_a, where_a_too, at_chain, chain_nodes, p_enable, latch_p}
use Rattle.premise_rows.specs.event_literal_premises.Alike.{both_where_a, AlikeEnablesMeetPremises}
use Rattle.premise_rows.proofs.event_pair_premises.HeldPair.{same as held_same}
use Rattle.premise_rows.proofs.event_literal_premises.ChainLits.{chain_kept, a_low, a_high, not_low, not_high, p_a_low, p_a_high, p_too_low, p_too_high}
use Rattle.premise_rows.proofs.event_literal_premises.ChainSide as chain
use Rattle.premise_rows.proofs.event_literal_premises.Chains.{two_kept, of_a, of_a_too}

kept : AreKept where_a where_a_too at_chain
kept = two_kept of_a of_a_too

pub left_lit : IsEnableLit where_a at_chain [] latch_p 10
unfolding flip simple_and short_and one_and under restricted with_sign is_conjunct operands node_operands
left_lit = chain.p_lit of_a 18 21 10 p_a_low p_a_high (omega arith) (omega arith) (omega arith) (11, refl, refl)

pub left_care : IsCareLit where_a at_chain p_enable 6
unfolding flip simple_and short_and one_and under restricted with_sign is_conjunct operands node_operands
left_care = chain.p_care of_a 10 15 a_low a_high (omega arith) (omega arith) (7, refl, refl)

right_lit : IsEnableLit where_a_too at_chain [] latch_p 13
unfolding flip simple_and short_and one_and under restricted with_sign is_conjunct operands node_operands
right_lit = chain.p_lit of_a_too 22 25 13 p_too_low p_too_high (omega arith) (omega arith) (omega arith) (12, refl, refl)

right_care : IsCareLit where_a_too at_chain p_enable 6
unfolding flip simple_and short_and one_and under restricted with_sign is_conjunct operands node_operands
right_care = chain.p_care of_a_too 12 17 not_low not_high (omega arith) (omega arith) (7, refl, refl)

left_is : IsEnableFunction both_where_a at_chain (Left 3) 10 6
left_is = (lits_are_functions where_a where_a_too at_chain kept).0 1 latch_p 10 6 refl (chain.p_enabled of_a) left_lit left_care

right_is : IsEnableFunction both_where_a at_chain (Right 3) 13 6
right_is = (lits_are_functions where_a where_a_too at_chain kept).1 1 latch_p 13 6 refl (chain.p_enabled of_a_too) right_lit right_care

asks : AsksEnables both_where_a at_chain (Left 3) (Right 3) 10 13 6
unfolding simple_and
asks = record { left_care = 6; right_care = 6; left_is = left_is; right_is = right_is; both = refl }

grown : Grows held_nodes chain_nodes
grown = (_, refl)

-- as in the graph of the outputs g
same : IsSame at_chain 10 13 6
same a h =
    value-grows held_nodes chain_nodes grown a 10 (omega arith)
    ∙ (held_same a (sym (value-grows held_nodes chain_nodes grown a 6 (omega arith)) ∙ h) ∙ sym (value-grows held_nodes chain_nodes grown a 13 (omega arith)))

differ : false ≡ true → ⊥
differ e = cc

elsewhere : value chain_nodes (λ v. false) 10 ≢ value chain_nodes (λ v. false) 13
unfolding value node_bits bits_from lit_bit
elsewhere e = differ e

pub alike_enables_meet_premises : AlikeEnablesMeetPremises
alike_enables_meet_premises = record {
  kept = kept;
  left_at = refl;
  right_at = refl;
  left_enabled = chain.p_enabled of_a;
  right_enabled = chain.p_enabled of_a_too;
  left_lit = left_lit;
  right_lit = right_lit;
  left_care = left_care;
  right_care = right_care;
  takes = λ v p h. refl;
  enable_is =
      enable_value where_a at_chain [] 1 latch_p 10 kept.left_sound chain_kept refl (chain.p_enabled of_a) left_lit (λ i node. true) (λ v. true)
      (λ v p h. refl);
  care_is = (care_value where_a at_chain 6 kept.left_sound kept.left chain_kept (λ i node. true) (λ v. true) (λ v p h. refl)).1 1 latch_p refl (chain.p_enabled of_a) left_care;
  left_is = left_is;
  right_is = right_is;
  asks = asks;
  same = same;
  elsewhere = elsewhere;
  equal = equal_law where_a where_a_too at_chain kept (Left 3) (Right 3) 10 13 6 asks same;
}
