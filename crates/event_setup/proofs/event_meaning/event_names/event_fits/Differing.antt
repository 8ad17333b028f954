-- A sequence that is told makes its pair differ in all runs of the cut circuits, and where nothing is exposed of the circuits themselves.
use Rattle.std.proofs.Common.{◌≡◌, ◌∙◌, ◌+◌, ◌<◌, ℕ, Bool, true, false, List, [], ◌∷◌, length, sym, subst, arith, inl, inr}
use Rattle.std.specs.Prelude.{◌⊎◌}
use Rattle.std.specs.List.{All, Contains}
use Rattle.circuit_theory.specs.Agree.{cut}
use Rattle.circuit_theory.specs.Circuit.{Circuit, Equation, Named, Holds, Carries, IsLatch}
use Rattle.circuit_theory.specs.Run.{IsRun}
use Rattle.circuit_theory.specs.Sequence.{sequence_rows}
use Rattle.circuit_laws.proofs.Onward.{cut_input, cut_run}
use Rattle.flat_net.specs.Cut.{IsCutCircuit}
use Rattle.flat_net.specs.View.{NetView, circuit_of}
use Rattle.flat_net.proofs.Nets.{sound_is_net, sound_names}
use Rattle.sec_setup.specs.declared.ports.pairs.SignalPair.{SignalPair}
use Rattle.sec_setup.specs.ports.Pairs.{named_pairs, places_of}
use Rattle.plain_check.specs.under_base.compare_base.Cuts.{columns_of, is_cut}
use Rattle.witness_report.specs.declared.stimulus.Stimulus.{Stimulus}
use Rattle.witness_report.specs.declared.witness.PairName.{PairName}
use Rattle.witness_report.specs.declared.witness.Witness.{Witness}
use Rattle.witness_report.specs.Shown.{Obeys, ArePlacesOf, MakesDiffer, MakesCutsDiffer}
use Rattle.circuit_theory.specs.Fits.{MakesDiffer as HaveValues}
use Rattle.plain_check.proofs.under_base.compare_base.CutPairs.{IsOutputPair, IsNextPair, listed_is, listed_places}
use Rattle.event_nodes.specs.View.{EventCircuitView}
use Rattle.event_setup.specs.event_meaning.event_names.event_fits.Circuits.{AreEventCircuits, AreNets}
use Rattle.event_setup.proofs.read_inputs.Places.{IsShown, listed_shown}
use Rattle.event_setup.proofs.read_inputs.Reading.{value_shows}

-- a run of the cut circuit is one of the cut net's circuit, and obeys what it obeyed
module _ (names : List (List ℕ)) (c : Circuit ℕ) (n : NetView) (is : IsCutCircuit names c (circuit_of n)) where
  run_there : (size : ℕ) (run : ℕ → ℕ → Bool) → IsRun (cut names c) size run → IsRun (circuit_of n) size run
  run_there size run r = record {
    meets = λ t below. subst (λ (es : List (Equation ℕ)). All (Holds (run t)) es) (sym is.equations) (r.meets t below);
    carries = λ t below. subst (λ (es : List (Equation ℕ)). All (Carries (run t) (run (t + 1))) es) (sym is.equations) (r.carries t below);
  }

  obeys_there : (stimulus : Stimulus) (size : ℕ) (run : ℕ → ℕ → Bool) → Obeys (cut names c) stimulus size run → Obeys (circuit_of n) stimulus size run
  obeys_there stimulus size run obeys t i row name bit p below row_is bit_is name_is input =
      obeys t i row name bit p below row_is bit_is name_is (subst (λ (ms : List (Named ℕ)). Contains ms (record { name = name; place = p })) is.inputs input)

  shown_there : (p : ℕ) → IsShown (cut names c) p → IsShown (circuit_of n) p
  shown_there p h = (h.0, subst (λ (os : List (Named ℕ)). Contains os (record { name = h.0; place = p })) (sym is.outputs) h.1)

-- nothing is exposed where no latch is cut open
none_exposed : (names : List (List ℕ)) → is_cut names ≡ false → (name : List ℕ) → Contains names name → ⊥
none_exposed [] e name h = omega (arith, h.1)
none_exposed (n ∷ names) e name h = wrong e
  where
    wrong : true ≡ false → ⊥
    wrong q = cc

-- where nothing is exposed, a run that obeys a sequence does so as a run of the cut circuit
obeys_cut : (names : List (List ℕ)) (c : Circuit ℕ) → ((name : List ℕ) → Contains names name → ⊥) → (stimulus : Stimulus) (n : ℕ) (run : ℕ → ℕ → Bool) → Obeys c stimulus n run → Obeys (cut names c) stimulus n run
obeys_cut names c none stimulus n run obeys t i row name bit p h row_is bit_is name_is input = obeys t i row name bit p h row_is bit_is name_is (own (cut_input names c name p input))
  where
    own : Contains c.inputs (record { name = name; place = p }) ⊎ (Contains names name × ((next : ℕ) × IsLatch c name p next)) → Contains c.inputs (record { name = name; place = p })
    own (inl k) = k
    own (inr l) = absurd (none name l.0)

module _ (a b : NetView) (expose : Bool) (names : List (List ℕ)) (left right : EventCircuitView) (nets : AreNets a b) (k : AreEventCircuits a b expose names left right) (place : SignalPair) (listed : Contains (named_pairs names (circuit_of a) (circuit_of b)) (places_of place))
    (w : Witness) (named : w.pair ≡ place.name) (columns_are : w.stimulus.names ≡ columns_of a b names) (shifts : ℕ → ℕ → Bool) (rows : w.stimulus.rows ≡ sequence_rows w.cycle shifts (length (columns_of a b names)))
    (differ : HaveValues (circuit_of left.net) (circuit_of right.net) left.order right.order place.left.0 place.right.0 w.stimulus.rows w.cycle w.left w.right) where
  abbrev left_circuit : Circuit ℕ
  left_circuit = cut names (circuit_of a)

  abbrev right_circuit : Circuit ℕ
  right_circuit = cut names (circuit_of b)

  shown : IsShown left_circuit place.left.0 × IsShown right_circuit place.right.0
  shown = listed_shown names (circuit_of a) (circuit_of b) (sound_is_net a nets.left).single (sound_is_net b nets.right).single (sound_names a nets.left) (sound_names b nets.right) (places_of place) listed

  left_shows : (n : ℕ) (run : ℕ → ℕ → Bool) → w.cycle < n → IsRun left_circuit n run → Obeys left_circuit w.stimulus n run → run w.cycle place.left.0 ≡ w.left
  left_shows n run below is_run obeys =
      let is = k.are_cut.left_circuit in
      value_shows left.net k.left_ready.sound (columns_of a b names) left.order right.order k.left_columns run w columns_are shifts rows n below
      (run_there names (circuit_of a) left.net is n run is_run) (obeys_there names (circuit_of a) left.net is w.stimulus n run obeys) place.left.0 w.left
      (inr (inr (shown_there names (circuit_of a) left.net is place.left.0 shown.0))) (λ size other is_other low takes. differ.left_is size other is_other low takes)

  right_shows : (n : ℕ) (run : ℕ → ℕ → Bool) → w.cycle < n → IsRun right_circuit n run → Obeys right_circuit w.stimulus n run → run w.cycle place.right.0 ≡ w.right
  right_shows n run below is_run obeys =
      let is = k.are_cut.right_circuit in
      value_shows right.net k.right_ready.sound (columns_of a b names) right.order left.order k.right_columns run w columns_are shifts rows n below
      (run_there names (circuit_of b) right.net is n run is_run) (obeys_there names (circuit_of b) right.net is w.stimulus n run obeys) place.right.0 w.right
      (inr (inr (shown_there names (circuit_of b) right.net is place.right.0 shown.1))) (λ size other is_other low takes. differ.right_is size other is_other low takes)

  -- the pair of the cut circuits differs
  pub cuts_differ : MakesCutsDiffer names (circuit_of a) (circuit_of b) w
  cuts_differ = record {
    left_place = place.left.0;
    right_place = place.right.0;
    places = subst (λ (n : PairName). ArePlacesOf (circuit_of a) (circuit_of b) n place.left.0 place.right.0) (sym named) (listed_places names (circuit_of a) (circuit_of b) (places_of place) listed);
    differ = differ.differ;
    left_shows = left_shows;
    right_shows = right_shows;
  }

  -- where no latch is cut open, it is a pair of outputs, and the runs of the circuits are those of the cut circuits
  module _ (uncut : is_cut names ≡ false) where
    nothing : (name : List ℕ) → Contains names name → ⊥
    nothing = none_exposed names uncut

    outputs : IsOutputPair (circuit_of a) (circuit_of b) (places_of place)
    outputs = go (listed_is names (circuit_of a) (circuit_of b) (places_of place) listed)
      where
        go : IsOutputPair (circuit_of a) (circuit_of b) (places_of place) ⊎ IsNextPair names (circuit_of a) (circuit_of b) (places_of place) → IsOutputPair (circuit_of a) (circuit_of b) (places_of place)
        go (inl x) = x
        go (inr x) = absurd (nothing x.name x.exposed)

    pub circuits_differ : MakesDiffer (circuit_of a) (circuit_of b) w
    circuits_differ = record {
      name = outputs.name;
      left_place = place.left.0;
      right_place = place.right.0;
      named = named ∙ outputs.called;
      left_output = outputs.left_output;
      right_output = outputs.right_output;
      differ = differ.differ;
      left_shows = λ n run below is_run obeys. left_shows n run below (cut_run names (circuit_of a) n n run (omega arith) is_run) (obeys_cut names (circuit_of a) nothing w.stimulus n run obeys);
      right_shows = λ n run below is_run obeys. right_shows n run below (cut_run names (circuit_of b) n n run (omega arith) is_run) (obeys_cut names (circuit_of b) nothing w.stimulus n run obeys);
    }
