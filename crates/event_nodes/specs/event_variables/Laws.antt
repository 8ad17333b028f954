-- What visited inputs are. Each law is the contract of a function of this crate.
use Rattle.std.specs.Prelude.{◌≡◌, ◌⊎◌, ℕ, Bool, List, [], ◌∷◌, Some, None, slice_get, All}
use Rattle.circuit_theory.specs.Tree.{Tree}
use Rattle.circuit_theory.specs.EventFrames.{IsCareTree, IsEnableTree, AreNodeVariables}
use Rattle.circuit_theory.specs.EventSizes.{Start}
use Rattle.circuit_theory.specs.Frame.{EventSide, EventUnfolds, ConeLatches, ConeOthers}
use Rattle.circuit_theory.specs.Run.{IsEnabled}
use Rattle.flat_net.specs.declared.parts.LatchAt.{LatchAt}
use Rattle.flat_net.specs.Sound.{IsSound}
use Rattle.event_nodes.specs.Nodes.{EventGraphView, IsEventGraph}
use Rattle.event_nodes.specs.View.{EventCircuitView, IsEventCircuit, side_of, Enabled}
use Rattle.event_nodes.specs.Visited.{IsVisitedPair, HoldsVisits}
use Rattle.event_nodes.specs.event_variables.Variables.{variables_of}
use Rattle.event_nodes.specs.event_variables.Inputs.{AreInputsOf, AreVisitedInputs}

-- a tree of a signal's function or of its care
abbrev pub IsSignalTree : {P : Type 0} → EventSide P → P → Tree (List ℕ) → Type 0
IsSignalTree s p tree = EventUnfolds s (IsEnabled s.circuit) None p [] tree ⊎ IsCareTree s (ConeLatches s.circuit p) tree

-- a tree of a latch's enable or of its care
abbrev pub IsEnableCareTree : {P : Type 0} → EventSide P → P → Tree (List ℕ) → Type 0
IsEnableCareTree s u tree = IsEnableTree s u tree ⊎ IsCareTree s (ConeOthers s.circuit (IsEnabled s.circuit) u) tree

-- The variables of exactly the places that a start visits are those of the inputs that it visits.
abbrev pub VisitedInputsAreInputs : Type 0
VisitedInputsAreInputs = (e : EventCircuitView) (w : EventGraphView) (x : Start ℕ) (places : List (ℕ × ℕ)) (vars : List ℕ) → IsSound e.net → IsEventGraph w → All (IsVisitedPair e w.children (x ∷ [])) places → HoldsVisits e w.children x places → AreInputsOf e w places vars →
    AreVisitedInputs e w x vars

-- The inputs that a signal visits are the variables of its function and of its care, where it has one.
abbrev pub SignalInputsAreVariables : Type 0
SignalInputsAreVariables = (e : EventCircuitView) (w : EventGraphView) (p : ℕ) (vars : List ℕ) (tree : Tree (List ℕ)) → IsSound e.net → IsEventCircuit e → EventUnfolds (side_of e) (Enabled e) None p [] tree → AreVisitedInputs e w (record { place = p; left_out = None }) vars →
    AreNodeVariables (IsSignalTree (side_of e) p) (variables_of w vars)

-- The inputs that the enable of an enabled latch visits are the variables of the enable and of its care.
abbrev pub EnableInputsAreVariables : Type 0
EnableInputsAreVariables = (e : EventCircuitView) (w : EventGraphView) (j : ℕ) (l : LatchAt) (bit : Bool) (vars : List ℕ) (tree : Tree (List ℕ)) → IsSound e.net → IsEventCircuit e → slice_get e.net.latches j ≡ Some l → Enabled e l.out.0 →
    EventUnfolds (side_of e) (Enabled e) (Some (l.out.0, bit)) l.next.0 [] tree → AreVisitedInputs e w (record { place = l.next.0; left_out = Some l.out.0 }) vars → AreNodeVariables (IsEnableCareTree (side_of e) l.out.0) (variables_of w vars)
