-- Under a light assumption two circuits of one output, in which no latch reads another one and no cycle is left, are not too large.
use Rattle.std.proofs.Common.{◌≡◌, ◌∙◌, ℕ, ◌<◌, ◌≤◌, List, [], ◌∷◌, ◌++◌, length, map, Option, Some, None, refl, sym, ap, subst, arith, inl, inr}
use Rattle.std.specs.Prelude.{◌⊎◌}
use Rattle.std.specs.List.{filter_map}
use Rattle.circuit_theory.specs.declared.Mode.TheVariants.{Event}
use Rattle.circuit_theory.specs.Agree.{IsMinimalCut, place_named}
use Rattle.circuit_theory.specs.Circuit.{Circuit, Named}
use Rattle.circuit_theory.specs.Depth.{HasCycle, without}
use Rattle.circuit_theory.specs.Run.{IsEnabled}
use Rattle.circuit_theory.proofs.Lists.{length-map}
use Rattle.flat_net.specs.View.{NetView, circuit_of}
use Rattle.sec_base.specs.declared.settings.Settings.{Settings}
use Rattle.witness_report.specs.declared.witness.PairName.TheVariants as pair
use Rattle.sec_setup.specs.declared.ports.pairs.SignalPair.{SignalPair}
use Rattle.sec_setup.specs.ports.Pairs.{named_pairs, pair_called, places_of}
use Rattle.assume_laws.specs.declared.assume_shape.shape.ShapeFault.{ShapeFault}
use Rattle.assume_laws.specs.declared.assume_shape.shape.ShapeFault.TheVariants as fault
use Rattle.edbf_unfold.specs.class_queries.Enables.{class_map}
use Rattle.job_check.specs.check_meaning.event_meaning.Heavy.{IsTooLargeForEvents, PairsAreOver}
use Rattle.plain_check.specs.under_base.Met.{IsMet}
use Rattle.job_check.specs.check_meaning.event_texts.Compared.{StopsAtPairs}
use Rattle.premise_rows.proofs.event_premises.Comparing.{left_events, right_events}
use Rattle.premise_rows.proofs.event_premises.Within.{IsShallowNet, depths, few_latches, latches, shallow}
use Rattle.premise_rows.proofs.event_assume_rows.Nodes.{not_over}

few_kept : {X Y : Type 0} (f : X → Option Y) (xs : List X) → length xs ≤ 1 → length (filter_map f xs ++ []) ≤ 1
few_kept f [] few = omega arith
few_kept {X} {Y} f (x ∷ []) few = by (f x)
  where
    by : (y : Option Y) → length (filter_map (λ (z : X). y) (x ∷ []) ++ []) ≤ 1
    by None = omega arith
    by (Some y) = omega arith
few_kept f (x ∷ y ∷ xs) few = absurd (omega (arith, few))

few_pairs : (c d : Circuit ℕ) → length c.outputs ≤ 1 → length (named_pairs [] c d) ≤ 1
few_pairs c d few = few_kept (λ (o : Named ℕ). pair_called (pair.Output o.name) (Some o.place) (place_named d.outputs o.name)) c.outputs few

module _ (a b : NetView) (left : IsShallowNet a) (right : IsShallowNet b) (left_acyclic : (removed : List (List ℕ)) → HasCycle (circuit_of a) (IsEnabled (circuit_of a)) removed → ⊥)
    (right_acyclic : (removed : List (List ℕ)) → HasCycle (circuit_of b) (IsEnabled (circuit_of b)) removed → ⊥) (one : length (circuit_of a).outputs ≤ 1) (s : Settings) where
  -- no latch is cut open
  none_cut : (names : List (List ℕ)) → IsMinimalCut Event (circuit_of a) (circuit_of b) names → [] ≡ names
  none_cut [] m = refl
  none_cut (name ∷ names) m = absurd (by (m.needed 0 (omega arith)))
    where
      by : HasCycle (circuit_of a) (IsEnabled (circuit_of a)) (without (name ∷ names) 0) ⊎ HasCycle (circuit_of b) (IsEnabled (circuit_of b)) (without (name ∷ names) 0) → ⊥
      by (inl h) = left_acyclic (without (name ∷ names) 0) h
      by (inr h) = right_acyclic (without (name ∷ names) 0) h

  -- so there is no pair but that of the output
  one_pair : (pairs : List SignalPair) (names : List (List ℕ)) → [] ≡ names → map places_of pairs ≡ named_pairs names (circuit_of a) (circuit_of b) → length pairs ≤ 1
  one_pair pairs names none listed =
      let few : length (named_pairs [] (circuit_of a) (circuit_of b)) ≤ 1 = few_pairs (circuit_of a) (circuit_of b) one in
      let here : length (named_pairs names (circuit_of a) (circuit_of b)) ≤ 1 = subst (λ (ns : List (List ℕ)). length (named_pairs ns (circuit_of a) (circuit_of b)) ≤ 1) none few in
      let same : length pairs ≡ length (named_pairs names (circuit_of a) (circuit_of b)) = sym (length-map places_of pairs) ∙ ap length listed in
      omega (arith, here, same)

  not_heavy : (weight : ℕ) → weight < 10 → StopsAtPairs a b s.expose (PairsAreOver weight) → ⊥
  not_heavy weight light h =
      let m = left_events a b left right s h.names h.left h.right h.reached in
      let k = right_events a b left right s h.names h.left h.right h.reached in
      not_over _ (latches h.left h.right m k) (shallow h.left h.right m k) (depths h.left h.right m k) (few_latches h.left h.right m k) (h.left.order ++ h.right.order) (class_map h.left h.right) weight h.pairs light
      (one_pair h.pairs h.names (none_cut h.names h.reached.circuits.minimal) h.listed) h.stops.1

  pub not_too_large : (c : NetView) → ((met : IsMet a b c) → met.assumed.weight < 10) → (f : ShapeFault) → IsTooLargeForEvents a b c s f → ⊥
  not_too_large c light fault.TooLarge (met, over) = not_heavy met.assumed.weight (light met) over
  not_too_large c light (fault.Latch name) h = h
  not_too_large c light (fault.Outputs count) h = h
  not_too_large c light (fault.Input name) h = h
