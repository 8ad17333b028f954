-- What event functions of two circuits are where both stand side by side. Each law is the contract of a function of this crate.
use Rattle.std.specs.Prelude.{◌≡◌, ℕ, ◌⊎◌, ◌↔◌, Bool, List, Contains}
use Rattle.circuit_theory.specs.Joined.{Either, Left, Right}
use Rattle.circuit_theory.specs.Tree.{tree_value}
use Rattle.circuit_theory.specs.Frame.{EventSide, ConeLatches}
use Rattle.class_search.specs.aig.Values.{value}
use Rattle.event_nodes.specs.Nodes.{EventGraphView, IsEventGraph, GrowsEvents}
use Rattle.event_nodes.specs.View.{EventCircuitView}
use Rattle.event_nodes.specs.Visited.{HoldsNodes}
use Rattle.event_classes.specs.declared.event_functions.signals.SignalFunction.{SignalFunction}
use Rattle.event_classes.specs.event_functions.Functions.{IsFunctionOf, signal_start}
use Rattle.edbf_unfold.specs.Laws.{TakesFrame}
use Rattle.edbf_unfold.specs.class_queries.Enables.{both_of}
use Rattle.edbf_unfold.specs.class_queries.Laws.{AreKept}
use Rattle.event_form.specs.event_agreement.event_pairs.Functions.{IsEventFunction, AreNodesOf}

-- The function that a circuit's unfolding gives for a signal is the signal's event function where both circuits stand side by side.
abbrev pub SignalsAreFunctions : Type 0
SignalsAreFunctions = (a b : EventCircuitView) (w : EventGraphView) → AreKept a b w →
    ((p : ℕ) (r : SignalFunction) → IsFunctionOf a w p r → HoldsNodes a w.children (signal_start p) → IsEventFunction (both_of a b) w (Left p) r)
    × ((q : ℕ) (r : SignalFunction) → IsFunctionOf b w q r → HoldsNodes b w.children (signal_start q) → IsEventFunction (both_of a b) w (Right q) r)

-- It goes on to be that while the event graph grows.
abbrev pub EventFunctionsGrow : Type 0
EventFunctionsGrow = (s : EventSide (Either ℕ ℕ)) (w x : EventGraphView) (p : Either ℕ ℕ) (r : SignalFunction) → IsEventGraph w → IsEventGraph x → GrowsEvents w x → IsEventFunction s w p r → IsEventFunction s x p r

-- Functions of one tree have one literal.
abbrev pub EqualFunctionsOneLiteral : Type 0
EqualFunctionsOneLiteral = (s : EventSide (Either ℕ ℕ)) (w : EventGraphView) (p q : Either ℕ ℕ) (f g : SignalFunction) → IsEventGraph w → (k : IsEventFunction s w p f) (l : IsEventFunction s w q g) → k.tree ≡ l.tree → f.value.0 ≡ g.value.0

-- In each frame the value's literal has the value of the tree.
abbrev pub ValueIsTree : Type 0
ValueIsTree = (s : EventSide (Either ℕ ℕ)) (w : EventGraphView) (p : Either ℕ ℕ) (r : SignalFunction) → IsEventGraph w → (k : IsEventFunction s w p r) (bits : ℕ → List ℕ → Bool) (a : ℕ → Bool) → TakesFrame w bits a → value w.graph a r.value.0 ≡ tree_value bits k.tree

-- The event nodes of a pair are those that either of its functions reaches.
abbrev pub PairNodesAreNodes : Type 0
PairNodesAreNodes = (s : EventSide (Either ℕ ℕ)) (children : List (ℕ × ℕ)) (p q : Either ℕ ℕ) (left right both : List ℕ) → AreNodesOf s (ConeLatches s.circuit p) children left → AreNodesOf s (ConeLatches s.circuit q) children right →
    ((k : ℕ) → Contains both k ↔ (Contains left k ⊎ Contains right k)) → AreNodesOf s (λ v. ConeLatches s.circuit p v ⊎ ConeLatches s.circuit q v) children both
