-- The enables of p in two circuits, by q and by its complement: they are the same wherever q loaded.
use Rattle.std.specs.Prelude.{◌≡◌, ◌≢◌, ◌↔◌, ℕ, true, false, [], Some, slice_get}
use Rattle.circuit_theory.specs.Classes.{EnableCare, EnablesEqual}
use Rattle.circuit_theory.specs.Frame.{EventSide, IsEnable}
use Rattle.circuit_theory.specs.Joined.{Either, Left, Right}
use Rattle.event_nodes.specs.aig.Values.{value}
use Rattle.event_nodes.specs.View.{Enabled, side_of}
use Rattle.edbf_unfold.specs.Care.{IsCareLit}
use Rattle.edbf_unfold.specs.Laws.{TakesFrame}
use Rattle.edbf_unfold.specs.event_literals.Known.{IsEnableLit}
use Rattle.edbf_unfold.specs.class_queries.Enables.{both_of, IsEnableFunction, AsksEnables, IsSame}
use Rattle.edbf_unfold.specs.class_queries.Laws.{AreKept}
use Rattle.premise_rows.specs.event_literal_premises.Chained.{where_a, where_a_too, at_chain, chain_nodes, p_enable, latch_p}

abbrev pub both_where_a : EventSide (Either ℕ ℕ)
both_where_a = both_of where_a where_a_too

-- Unfolding gives the literals of both enables, and one of their cares: e at the child. So these are the enables and the care, as in the frame in
-- which all is 1; they are so side by side, too. The literals differ where all is 0, but are the same wherever the care holds: the enables are equal.
pub record AlikeEnablesMeetPremises : Type 0 where
  pub kept : AreKept where_a where_a_too at_chain
  pub left_at : slice_get where_a.net.latches 1 ≡ Some latch_p
  pub right_at : slice_get where_a_too.net.latches 1 ≡ Some latch_p
  pub left_enabled : Enabled where_a 3
  pub right_enabled : Enabled where_a_too 3
  pub left_lit : IsEnableLit where_a at_chain [] latch_p 10
  pub right_lit : IsEnableLit where_a_too at_chain [] latch_p 13
  pub left_care : IsCareLit where_a at_chain p_enable 6
  pub right_care : IsCareLit where_a_too at_chain p_enable 6
  pub takes : TakesFrame at_chain (λ i node. true) (λ v. true)
  pub enable_is : IsEnable (side_of where_a) (Enabled where_a) (λ i node. true) 3 [] (value chain_nodes (λ v. true) 10)
  pub care_is : (value chain_nodes (λ v. true) 6 ≡ true) ↔ EnableCare (side_of where_a) (λ i node. true) 3
  pub left_is : IsEnableFunction both_where_a at_chain (Left 3) 10 6
  pub right_is : IsEnableFunction both_where_a at_chain (Right 3) 13 6
  pub asks : AsksEnables both_where_a at_chain (Left 3) (Right 3) 10 13 6
  pub same : IsSame at_chain 10 13 6
  pub elsewhere : value chain_nodes (λ v. false) 10 ≢ value chain_nodes (λ v. false) 13
  pub equal : EnablesEqual both_where_a (Left 3) (Right 3)
