-- What follows for the literals of event trees.
use Rattle.std.specs.Prelude.{◌≡◌, ◌↔◌, ℕ, Bool, true, List, Option, Some, None, slice_get}
use Rattle.circuit_theory.specs.Tree.{tree_value}
use Rattle.circuit_theory.specs.Frame.{IsEnable, ConeLatches, HasCare}
use Rattle.circuit_theory.specs.Classes.{EnableCare}
use Rattle.edbf_unfold.specs.event_literals.LatchAt.{LatchAt}
use Rattle.edbf_unfold.specs.event_literals.Sound.{IsSound}
use Rattle.edbf_unfold.specs.event_literals.View.{circuit_of}
use Rattle.event_nodes.specs.Values.{value}
use Rattle.event_nodes.specs.Nodes.{EventGraphView, IsEventGraph, GrowsEvents, named_places}
use Rattle.event_nodes.specs.View.{EventCircuitView, IsEventCircuit, side_of, Enabled}
use Rattle.edbf_unfold.specs.event_literals.Known.{IsKnownAt, IsEnableLit}
use Rattle.edbf_unfold.specs.Care.{IsCareLit}

-- the assignment of the variables is the frame's
abbrev pub TakesFrame : EventGraphView → (ℕ → List ℕ → Bool) → (ℕ → Bool) → Type 0
TakesFrame w bits a = (v : ℕ) (p : ℕ × List ℕ) → slice_get (named_places w) v ≡ Some p → a v ≡ bits p.0 p.1

-- Equal trees have one literal in one event graph, whichever circuits they are of.
abbrev pub EqualEventTreesOneLiteral : Type 0
EqualEventTreesOneLiteral = (e f : EventCircuitView) (w : EventGraphView) (put other : Option (ℕ × Bool)) (p q : ℕ) (path way : List ℕ) (x y : ℕ) → IsEventGraph w →
    (k : IsKnownAt e w put p path x) (l : IsKnownAt f w other q way y) → k.tree ≡ l.tree → x ≡ y

-- So have enables whose two functions have equal trees.
abbrev pub EqualEnablesOneLiteral : Type 0
EqualEnablesOneLiteral = (e f : EventCircuitView) (w : EventGraphView) (path other : List ℕ) (l m : LatchAt) (x y : ℕ) → IsEventGraph w → (k : IsEnableLit e w path l x) (n : IsEnableLit f w other m y) → k.low.tree ≡ n.low.tree → k.high.tree ≡ n.high.tree → x ≡ y

-- The literal has in each frame the value of its tree.
abbrev pub LiteralIsTree : Type 0
LiteralIsTree = (e : EventCircuitView) (w : EventGraphView) (put : Option (ℕ × Bool)) (p : ℕ) (path : List ℕ) (x : ℕ) → IsEventGraph w → (k : IsKnownAt e w put p path x) → (bits : ℕ → List ℕ → Bool) (a : ℕ → Bool) → TakesFrame w bits a →
    value w.graph a x ≡ tree_value bits k.tree

-- The literal of an enabled latch's enable has in each frame the enable's value at its path.
abbrev pub EnableLiteralIsEnable : Type 0
EnableLiteralIsEnable = (e : EventCircuitView) (w : EventGraphView) (path : List ℕ) (j : ℕ) (l : LatchAt) (x : ℕ) → IsSound e.net → IsEventGraph w → slice_get e.net.latches j ≡ Some l → Enabled e l.out.0 → IsEnableLit e w path l x →
    (bits : ℕ → List ℕ → Bool) (a : ℕ → Bool) → TakesFrame w bits a → IsEnable (side_of e) (Enabled e) bits l.out.0 path (value w.graph a x)

-- The literal of the care of what a signal reaches is 1 in exactly the frames with care for the signal, and that of the care of what an
-- enabled latch takes over, the latch left out, in exactly those with care for the latch's enable.
abbrev pub CareLiteralIsCare : Type 0
CareLiteralIsCare = (e : EventCircuitView) (w : EventGraphView) (lit : ℕ) → IsSound e.net → IsEventCircuit e → IsEventGraph w → (bits : ℕ → List ℕ → Bool) (a : ℕ → Bool) → TakesFrame w bits a →
    ((s : ℕ) → IsCareLit e w (record { place = s; left_out = None }) lit → (value w.graph a lit ≡ true) ↔ HasCare (side_of e) (Enabled e) (ConeLatches (circuit_of e.net) s) bits)
    × ((j : ℕ) (l : LatchAt) → slice_get e.net.latches j ≡ Some l → Enabled e l.out.0 → IsCareLit e w (record { place = l.next.0; left_out = Some l.out.0 }) lit → (value w.graph a lit ≡ true) ↔ EnableCare (side_of e) bits l.out.0)

-- A literal goes on to be right while the event graph grows.
abbrev pub KnownLater : Type 0
KnownLater = (e : EventCircuitView) (w v : EventGraphView) (put : Option (ℕ × Bool)) (p : ℕ) (path : List ℕ) (x : ℕ) → IsEventGraph w → GrowsEvents w v → IsKnownAt e w put p path x → IsKnownAt e v put p path x
