-- What follows for an assumption's function at a place.
use Rattle.std.specs.Prelude.{◌≡◌, ◌↔◌, ℕ, Bool, true, List}
use Rattle.aig.specs.declared.node.Node.{Node}
use Rattle.aig.specs.Graph.{IsGraph, Grows}
use Rattle.aig.specs.Values.{value}
use Rattle.flat_net.specs.View.{NetView, circuit_of}
use Rattle.cbf_unfold.specs.declared.unfold_places.signal_function.Unfolded.{Unfolded}
use Rattle.cbf_unfold.specs.Laws.{TakesBits}
use Rattle.cbf_unfold.specs.unfold_places.Reach.{Adds}
use Rattle.assume_laws.specs.Assume.{IsAssumption, RowMeets}
use Rattle.assume_queries.specs.assume_functions.Functions.{IsAssumedAt}

-- The literal of an assumption at a place is 1 exactly where the row there meets the assumption.
abbrev pub AssumedMeets : Type 0
AssumedMeets = (n : NetView) (order : List ℕ) (s size place : ℕ) (g : List Node) (places : List (ℕ × ℕ)) (u : Unfolded) →
    IsAssumption (record { circuit = circuit_of n; order = order; output = s }) size → IsAssumedAt n order s place g places u →
    (bits : ℕ → ℕ → Bool) (a : ℕ → Bool) → TakesBits places bits a → (value g a u.lit.0 ≡ true) ↔ RowMeets (record { circuit = circuit_of n; order = order; output = s }) (λ i. bits i place)

-- It stays so while the graph and the table grow.
abbrev pub AssumedLater : Type 0
AssumedLater = (n : NetView) (order : List ℕ) (s place : ℕ) (g h : List Node) (places more : List (ℕ × ℕ)) (u : Unfolded) → IsGraph h →
    Grows g h → Adds (λ p. Unit {0}) places more → IsAssumedAt n order s place g places u → IsAssumedAt n order s place h more u
