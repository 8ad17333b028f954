-- A circuit over the names of its signals.
use Rattle.std.specs.Prelude.{◌≡◌, ℕ, ◌<◌, List, [], ◌∷◌, length, slice_get, Some, refl, codes}
use Rattle.circuit_theory.specs.Circuit.{Circuit, Latch, IsSingleDriven}
use Rattle.blif_read.specs.Design.{Place, top}
use Rattle.flat_net.specs.Sound.{IsSound}
use Rattle.flat_net.specs.View.{NetView, circuit_of}
use Rattle.net_assembly.specs.net_alike.FlatCircuit.{IsFlatCircuit}
use Rattle.net_assembly.specs.net_alike.Moved.{circuit_over, IsPortless}

-- the circuit over the places that have these names and lie in no instance
abbrev pub named_circuit : (ℕ → List ℕ) → Circuit ℕ → Circuit Place
named_circuit name c = circuit_over (λ p. top (name p)) c

-- each signal has the name of the place at which it is driven
abbrev pub HasNames : NetView → (ℕ → ℕ) → (ℕ → List ℕ) → Type 0
HasNames net origin name = (s : ℕ) → s < length net.drivers → slice_get net.names s ≡ Some (name (origin s))

-- A net of a circuit without ports, whose signals have the names of their places, is a net of the circuit over these names, whose
-- places are driven once.
abbrev pub NamesArePlaces : Type 0
NamesArePlaces = (d : Circuit ℕ) (net : NetView) (name : ℕ → List ℕ) (origin signal : ℕ → ℕ) → IsPortless d → IsSound net →
    IsFlatCircuit d (circuit_of net) (length net.drivers) (λ p. ⊥) origin signal → HasNames net origin name →
    IsSingleDriven (named_circuit name d) × ((signal_at : Place → ℕ) × IsFlatCircuit (named_circuit name d) (circuit_of net) (length net.drivers) (λ p. ⊥) (λ s. top (name (origin s))) signal_at)

-- a latch that takes over an input
two_names : named_circuit (λ p. codes "q") (record { inputs = []; outputs = record { name = codes "y"; place = 2 } ∷ []; equations = Latch (codes "q") 2 2 ∷ []; starts = [] })
    ≡ record { inputs = []; outputs = record { name = codes "y"; place = top (codes "q") } ∷ []; equations = Latch (codes "q") (top (codes "q")) (top (codes "q")) ∷ []; starts = [] }
two_names = refl
