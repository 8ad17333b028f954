-- What it says of two circuits that all pairs are equal.
use Rattle.std.specs.Prelude.{◌≡◌, ℕ, List, [], Contains}
use Rattle.circuit_theory.specs.declared.Mode.TheVariants.{Event}
use Rattle.circuit_theory.specs.Agree.{IsPair, Agree, AgreeOnward, IsMinimalCut}
use Rattle.circuit_theory.specs.Circuit.{Circuit}
use Rattle.circuit_theory.specs.Net.{IsNet, HasDistinctNames}
use Rattle.flat_net.specs.Cut.{IsCutCircuit}
use Rattle.flat_net.specs.View.{circuit_of}
use Rattle.event_nodes.specs.View.{EventCircuitView}
use Rattle.sec_setup.specs.declared.ports.pairs.SignalPair.{SignalPair}

-- the pairs are all that are compared where the latches of these names are exposed
abbrev pub AreAllPairs : List (List ℕ) → Circuit ℕ → Circuit ℕ → List SignalPair → Type 0
AreAllPairs names c d pairs = (p q : ℕ) → IsPair names c d p q → (x : SignalPair) × Contains pairs x × (x.left.0 ≡ p) × (x.right.0 ≡ q)

-- both are what two circuits are once the latches of these names, a minimal cut, are cut open
pub record AreCutFrom (names : List (List ℕ)) (c d : Circuit ℕ) (a b : EventCircuitView) : Type 0 where
  pub left_size : ℕ
  pub right_size : ℕ
  pub left_net : IsNet c left_size
  pub right_net : IsNet d right_size
  pub left_names : HasDistinctNames c
  pub right_names : HasDistinctNames d
  pub minimal : IsMinimalCut Event c d names
  pub left_cut : IsCutCircuit names c (circuit_of a.net)
  pub right_cut : IsCutCircuit names d (circuit_of b.net)

-- Where the pairs are those of all outputs, the circuits agree in the event mode. Where they are all pairs of two circuits of which a minimal cut is
-- exposed, those two agree in the event mode, and agree onward.
pub record CircuitsAgree (a b : EventCircuitView) (pairs : List SignalPair) : Type 0 where
  pub agree : AreAllPairs [] (circuit_of a.net) (circuit_of b.net) pairs → Agree Event (circuit_of a.net) (circuit_of b.net)
  pub onward : (names : List (List ℕ)) (c d : Circuit ℕ) → AreCutFrom names c d a b → AreAllPairs names c d pairs → Agree Event c d × AgreeOnward Event names c d
