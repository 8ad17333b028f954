-- Where all pairs of a setup are equal, both nets agree.
use Rattle.std.proofs.Common.{◌∙◌, ℕ, Bool, List, length, sym, ap, subst}
use Rattle.std.specs.List.{Contains}
use Rattle.circuit_theory.proofs.Lists.{Contains-map_from}
use Rattle.flat_net.specs.Comparable.{IsComparable}
use Rattle.flat_net.specs.Cut.{IsCutCircuit}
use Rattle.flat_net.specs.Sound.{IsSound}
use Rattle.flat_net.specs.View.{NetView, circuit_of}
use Rattle.flat_net.proofs.Nets.{sound_is_net, sound_names}
use Rattle.sec_setup.specs.ports.Pairs.{NamedPair, places_of}
use Rattle.outcome_fits.proofs.plain_meaning.CutPairs.{one_output, pair_listed}
use Rattle.event_nodes.specs.View.{EventCircuitView}
use Rattle.event_comparison.specs.Agreement.{AreAllPairs, AreCutFrom}
use Rattle.event_form.specs.event_agreement.pair_events.View.{EventsView}
use Rattle.event_setup.specs.declared.setup.EventSetup.{EventSetup}
use Rattle.event_setup.specs.Setup.{IsEventSetupOf}
use Rattle.event_check.specs.event_answers.Laws.{EqualSetupsAgree, HaveClassesGiven}

module _ (a b : NetView) (sa : IsSound a) (sb : IsSound b) (expose : Bool) (s : EventSetup) (is : IsEventSetupOf a b expose s) where
  cut_from : (e : EventsView) → HaveClassesGiven s e → AreCutFrom s.exposed (circuit_of a) (circuit_of b) e.left e.right
  cut_from e given = record {
    left_size = length a.drivers;
    right_size = length b.drivers;
    left_net = sound_is_net a sa;
    right_net = sound_is_net b sb;
    left_names = sound_names a sa;
    right_names = sound_names b sb;
    minimal = is.minimal;
    left_cut = subst (λ (x : EventCircuitView). IsCutCircuit s.exposed (circuit_of a) (circuit_of x.net)) (sym given.left) is.are_cut.left_circuit;
    right_cut = subst (λ (x : EventCircuitView). IsCutCircuit s.exposed (circuit_of b) (circuit_of x.net)) (sym given.right) is.are_cut.right_circuit;
  }

  all_pairs : IsComparable b → AreAllPairs s.exposed (circuit_of a) (circuit_of b) s.pairs
  all_pairs comparable p q pair =
      let x = pair_listed s.exposed (circuit_of a) (circuit_of b) (sound_is_net a sa).single (sound_is_net b sb).single (sound_names a sa) (sound_names b sb) (one_output b comparable.distinct) p q pair in
      let y = Contains-map_from places_of s.pairs x.0 (subst (λ (ps : List (NamedPair ℕ ℕ)). Contains ps x.0) (sym is.pairs) x.1) in
      (y.0, y.1, ap (λ (z : NamedPair ℕ ℕ). z.left) y.2 ∙ x.2, ap (λ (z : NamedPair ℕ ℕ). z.right) y.2 ∙ x.3)

pub setups_agree : EqualSetupsAgree
setups_agree a b expose s e sa sb comparable is given =
    let cuts = cut_from a b sa sb expose s is e given in
    let pairs = all_pairs a b sa sb expose s is comparable in
    (cuts, pairs, λ agree. agree.onward s.exposed (circuit_of a) (circuit_of b) cuts pairs)
