-- Two latches that load under one input are given class 1.
use Rattle.std.proofs.Common.{◌≡◌, ℕ, List, [], ◌∷◌, refl, arith, inl, inr}
use Rattle.std.specs.Prelude.{codes}
use Rattle.std.proofs.lemmas.List.Elements.{All-from_recursion}
use Rattle.circuit_theory.specs.Circuit.{IsLatch}
use Rattle.circuit_theory.specs.Depth.{LatchesHaveDepths}
use Rattle.circuit_theory.specs.Joined.{Either, Left, Right}
use Rattle.circuit_theory.specs.Run.{IsEnabled}
use Rattle.circuit_theory.specs.Classes.{IsLatchOrder}
use Rattle.circuit_theory.specs.EventTotals.{IsMapSoFar}
use Rattle.circuit_laws.specs.event_laws.ClassSteps.{IsFirstFit}
use Rattle.event_nodes.specs.View.{IsEventCircuit}
use Rattle.class_search.specs.event_order.Order.{IsTagOrder}
use Rattle.class_search.specs.class_fits.class_joining.Joining.{HasJoined}
use Rattle.class_search.proofs.class_fits.class_joining.Giving.{class_given}
use Rattle.call_rows.specs.circuit_samples.event_samples.Samples.{load_cover, load_not_cover}
use Rattle.call_rows.proofs.circuit_samples.Each.{each_latch}
use Rattle.call_rows.proofs.circuit_samples.event_samples.HoldCells.{IsHold}
use Rattle.call_rows.proofs.circuit_samples.event_samples.Opened.{holds_load, loads_load, holds_not, loads_not}
use Rattle.premise_rows.specs.event_pair_premises.Held.{loads_a, loads_not_a}
use Rattle.premise_rows.specs.event_class_premises.ClassMap.{a_of, b_of, so_far, a_tag, b_tag, ClassMapMeetsPremises}
use Rattle.premise_rows.specs.event_class_premises.Totals.{q_latch}
use Rattle.premise_rows.proofs.event_pair_premises.HeldPair.{kept, whole, single, number_once, depths, left_depths, right_depths, left_latch, latch_order}
use Rattle.premise_rows.proofs.event_class_premises.Pairs as pair

pub right_latch : IsLatch whole (codes "q") (Right 2) (Right 3)
right_latch = (5, omega arith, refl)

-- whatever classes they have
module _ (j k : ℕ) where
  abbrev pub left_hold : IsHold (so_far j k) (Left 2) (Left 3)
  left_hold = record { e = Left 0; a = Left 1; i = 0; j = 1; load = load_cover; gate = (0, omega arith, refl); e_is = inl (refl, refl); a_is = inr (inl (refl, refl)); holds = holds_load; loads = loads_load }

  abbrev pub right_hold : IsHold (so_far j k) (Right 2) (Right 3)
  right_hold = record { e = Right 0; a = Right 1; i = 0; j = 1; load = load_not_cover; gate = (3, omega arith, refl); e_is = inr (inr (inl (refl, refl))); a_is = inr (inr (inr (inl (refl, refl)))); holds = holds_not; loads = loads_not }

  pub all_hold : (name : List ℕ) (u next : Either ℕ ℕ) → IsLatch whole name u next → IsHold (so_far j k) u next
  all_hold name u next latch = each_latch (λ m v to. IsHold (so_far j k) v to) whole.equations (left_hold, (right_hold, tt)) name u next latch

  pub order : IsLatchOrder (so_far j k) (Left 2 ∷ Right 2 ∷ [])
  order = record { all = latch_order.all; enabled = latch_order.enabled; in_order = latch_order.in_order }

  pub all_depths : LatchesHaveDepths (so_far j k).circuit (IsEnabled (so_far j k).circuit)
  all_depths = depths

pub left_circuit : (k : ℕ) → IsEventCircuit (a_of k)
left_circuit k = record { marks = kept.left.marks; each_order = refl; order_once = kept.left.order_once; each_class = refl }

pub right_circuit : (k : ℕ) → IsEventCircuit (b_of k)
right_circuit k = record { marks = kept.right.marks; each_order = refl; order_once = kept.right.order_once; each_class = refl }

pub begins : IsMapSoFar (so_far 0 0) [] (Left 2 ∷ Right 2 ∷ [])
begins = pair.map_none (so_far 0 0) single number_once (left_hold 0 0) (right_hold 0 0) left_latch right_latch (all_hold 0 0) (order 0 0)

founds : IsFirstFit (so_far 0 0) [] (Left 2) 1
founds = pair.founds_first (so_far 0 0) single number_once (left_hold 0 0) (right_hold 0 0) left_latch right_latch (all_hold 0 0) (order 0 0)

pub goes_on : IsMapSoFar (so_far 1 0) (Left 2 ∷ []) (Right 2 ∷ [])
goes_on = pair.map_one (so_far 1 0) single number_once (left_hold 1 0) (right_hold 1 0) left_latch right_latch (all_hold 1 0) (order 1 0) refl

pub joins : IsFirstFit (so_far 1 0) (Left 2 ∷ []) (Right 2) 1
joins = pair.joins_first (so_far 1 0) single number_once (left_hold 1 0) (right_hold 1 0) left_latch right_latch (all_hold 1 0) (order 1 0) refl

ends : IsMapSoFar (so_far 1 1) (Left 2 ∷ Right 2 ∷ []) []
ends = pair.map_two (so_far 1 1) single number_once (left_hold 1 1) (right_hold 1 1) left_latch right_latch (all_hold 1 1) (order 1 1) refl refl refl

founded : HasJoined (a_of 0) (b_of 0) (a_of 1) (b_of 0) [] (Right 2 ∷ []) (Left 2) 1
founded = (class_given (a_of 0) (b_of 0) kept.left_sound kept.right_sound (left_circuit 0) (right_circuit 0) depths [] (Right 2 ∷ []) 0 1 q_latch).0 refl begins founds

pub joined : HasJoined (a_of 1) (b_of 0) (a_of 1) (b_of 1) (Left 2 ∷ []) [] (Right 2) 1
joined = (class_given (a_of 1) (b_of 0) kept.left_sound kept.right_sound (left_circuit 1) (right_circuit 0) depths (Left 2 ∷ []) [] 0 1 q_latch).1 refl goes_on joins

tag_order : IsTagOrder loads_a.net loads_not_a.net (a_tag ∷ b_tag ∷ [])
tag_order left right class = record { all = latch_order.all; enabled = latch_order.enabled; in_order = latch_order.in_order }

pub class_map_meets_premises : ClassMapMeetsPremises
class_map_meets_premises = record {
  left_sound = kept.left_sound;
  right_sound = kept.right_sound;
  left_depths = left_depths;
  right_depths = right_depths;
  depths = all_depths;
  left_circuit = left_circuit;
  right_circuit = right_circuit;
  order = tag_order;
  left_none = All-from_recursion (λ (k : ℕ). k ≡ 0) (0 ∷ []) (refl, tt);
  right_none = All-from_recursion (λ (k : ℕ). k ≡ 0) (0 ∷ []) (refl, tt);
  begins = begins;
  founds = founds;
  founded = founded;
  goes_on = goes_on;
  joins = joins;
  joined = joined;
  ends = ends;
}
