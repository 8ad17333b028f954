-- The premises on enables that differ, and on one that is 1 wherever it has care, are met.
use Rattle.std.proofs.Common.{◌≡◌, ◌∙◌, true, false, [], refl, sym, arith}
use Rattle.circuit_theory.specs.Joined.{Left, Right}
use Rattle.event_nodes.specs.aig.Graph.{flip}
use Rattle.event_nodes.specs.aig.Rules.{simple_and}
use Rattle.event_nodes.specs.aig.Values.{value, lit_bit, node_bits, bits_from}
use Rattle.event_nodes.proofs.aig.CoverMeaning.{value-one}
use Rattle.edbf_unfold.specs.Care.{IsCareLit}
use Rattle.edbf_unfold.specs.event_literals.Known.{IsEnableLit}
use Rattle.edbf_unfold.specs.event_literals.ShortOr.{short_and, one_and, under, restricted, with_sign, is_conjunct, operands, node_operands}
use Rattle.edbf_unfold.specs.class_queries.Enables.{IsEnableFunction, AsksEnables, IsSame, Distinguishes}
use Rattle.edbf_unfold.specs.class_queries.Laws.{AreKept}
use Rattle.edbf_unfold.proofs.class_queries.Meaning.{lits_are_functions, apart_law, always_law, off_law}
use Rattle.premise_rows.specs.event_literal_premises.Chained.{where_a, where_not_a, where_loaded, at_chain, chain_nodes, e_alone, p_enable, latch_p}
use Rattle.premise_rows.specs.event_literal_premises.Unlike.{both_unlike, UnlikeEnablesMeetPremises, both_where_loaded, AlwaysMeetsPremises}
use Rattle.premise_rows.proofs.event_literal_premises.Alike.{left_lit, left_care}
use Rattle.premise_rows.proofs.event_literal_premises.ChainLits.{chain_kept, not_low, not_high, one_low, one_high, p_not_low, p_not_high, p_one_low, p_one_high}
use Rattle.premise_rows.proofs.event_literal_premises.ChainSide as chain
use Rattle.premise_rows.proofs.event_literal_premises.Chains.{two_kept, of_a, of_not_a, of_one}

kept : AreKept where_a where_not_a at_chain
kept = two_kept of_a of_not_a

right_lit : IsEnableLit where_not_a at_chain [] latch_p 12
unfolding flip simple_and short_and one_and under restricted with_sign is_conjunct operands node_operands
right_lit = chain.p_lit of_not_a 26 29 12 p_not_low p_not_high (omega arith) (omega arith) (omega arith) (13, refl, refl)

right_care : IsCareLit where_not_a at_chain p_enable 6
unfolding flip simple_and short_and one_and under restricted with_sign is_conjunct operands node_operands
right_care = chain.p_care of_not_a 12 17 not_low not_high (omega arith) (omega arith) (7, refl, refl)

left_is : IsEnableFunction both_unlike at_chain (Left 3) 10 6
left_is = (lits_are_functions where_a where_not_a at_chain kept).0 1 latch_p 10 6 refl (chain.p_enabled of_a) left_lit left_care

right_is : IsEnableFunction both_unlike at_chain (Right 3) 12 6
right_is = (lits_are_functions where_a where_not_a at_chain kept).1 1 latch_p 12 6 refl (chain.p_enabled of_not_a) right_lit right_care

asks : AsksEnables both_unlike at_chain (Left 3) (Right 3) 10 12 6
unfolding simple_and
asks = record { left_care = 6; right_care = 6; left_is = left_is; right_is = right_is; both = refl }

differ : false ≡ true → ⊥
differ e = cc

distinguishes : Distinguishes at_chain 10 12 6 e_alone
unfolding value node_bits bits_from lit_bit
distinguishes = record { cared = refl; differ = differ }

from_always : Distinguishes at_chain 10 1 6 e_alone
unfolding value node_bits bits_from lit_bit
from_always = record { cared = refl; differ = differ }

pub unlike_enables_meet_premises : UnlikeEnablesMeetPremises
unlike_enables_meet_premises = record {
  kept = kept;
  left_is = left_is;
  asks = asks;
  distinguishes = distinguishes;
  differ = apart_law where_a where_not_a at_chain kept (Left 3) (Right 3) 10 12 6 e_alone asks distinguishes;
  from_always = from_always;
  off = off_law where_a where_not_a at_chain kept (Left 3) 10 6 e_alone left_is from_always;
}

loaded_kept : AreKept where_a where_loaded at_chain
loaded_kept = two_kept of_a of_one

loaded_lit : IsEnableLit where_loaded at_chain [] latch_p 6
unfolding flip simple_and short_and one_and under restricted with_sign is_conjunct operands node_operands
loaded_lit = chain.p_lit of_one 30 33 6 p_one_low p_one_high (omega arith) (omega arith) (omega arith) (7, refl, refl)

loaded_care : IsCareLit where_loaded at_chain p_enable 6
unfolding flip simple_and short_and one_and under restricted with_sign is_conjunct operands node_operands
loaded_care = chain.p_care of_one 6 1 one_low one_high (omega arith) (omega arith) (7, refl, refl)

loaded_is : IsEnableFunction both_where_loaded at_chain (Right 3) 6 6
loaded_is = (lits_are_functions where_a where_loaded at_chain loaded_kept).1 1 latch_p 6 6 refl (chain.p_enabled of_one) loaded_lit loaded_care

same : IsSame at_chain 6 1 6
same a h = h ∙ sym (value-one chain_nodes chain_kept.is_graph a)

elsewhere : value chain_nodes (λ v. false) 6 ≡ false
unfolding value node_bits bits_from lit_bit
elsewhere = refl

pub always_meets_premises : AlwaysMeetsPremises
always_meets_premises = record {
  kept = loaded_kept;
  is = loaded_is;
  same = same;
  elsewhere = elsewhere;
  always = always_law where_a where_loaded at_chain loaded_kept (Right 3) 6 6 loaded_is same;
}
