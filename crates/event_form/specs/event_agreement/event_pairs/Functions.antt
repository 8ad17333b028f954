-- Event functions of signals of two circuits that stand side by side.
use Rattle.std.specs.Prelude.{◌≡◌, ◌↔◌, ℕ, ◌*◌, ◌<◌, ◌≤◌, Bool, true, List, [], length, None, Contains}
use Rattle.circuit_theory.specs.Run.{IsEnabled}
use Rattle.circuit_theory.specs.Tree.{Tree}
use Rattle.circuit_theory.specs.EventFits.{ReachesAlways}
use Rattle.circuit_theory.specs.EventFrames.{AreNodeVariables}
use Rattle.circuit_theory.specs.Frame.{EventSide, EventUnfolds, ConeLatches, HasCare, IsNode}
use Rattle.class_search.specs.aig.Builds.{Builds}
use Rattle.class_search.specs.aig.Values.{value}
use Rattle.event_nodes.specs.Nodes.{EventGraphView, named_places, path_of}
use Rattle.class_search.specs.event_variables.Variables.{variables_of, AreInOrder}
use Rattle.class_search.specs.event_variables.Laws.{IsSignalTree}
use Rattle.event_classes.specs.declared.event_functions.signals.SignalFunction.{SignalFunction}
use Rattle.event_classes.specs.event_functions.Laws.{AreCovered}
use Rattle.edbf_unfold.specs.Laws.{TakesFrame}

-- the numbers are exactly those of the event nodes that are reached from these latches, all of which were made
pub record AreNodesOf {P : Type 0} (s : EventSide P) (start : P → Type 0) (children : List (ℕ × ℕ)) (nodes : List ℕ) : Type 0 where
  pub exactly : (k : ℕ) → Contains nodes k ↔ ((k ≤ length children) × IsNode s (IsEnabled s.circuit) start (path_of children k))
  pub made : (path : List ℕ) → IsNode s (IsEnabled s.circuit) start path → (k : ℕ) × (k ≤ length children) × (path_of children k ≡ path)

-- The literals, the variables and the event nodes are those of the place's event function: the first literal is that of its tree, the
-- second is 1 in exactly the frames with care; the variables are those of its tree and of the trees of its care, in their order.
pub record IsEventFunction {P : Type 0} (s : EventSide P) (w : EventGraphView) (p : P) (r : SignalFunction) : Type 0 where
  pub tree : Tree (List ℕ)
  pub unfolds : EventUnfolds s (IsEnabled s.circuit) None p [] tree
  pub builds : Builds w.graph (named_places w) tree r.value.0
  pub value_within : r.value.0 < 2 * length w.graph
  pub care_within : r.care.0 < 2 * length w.graph
  pub care_is : (bits : ℕ → List ℕ → Bool) (a : ℕ → Bool) → TakesFrame w bits a → (value w.graph a r.care.0 ≡ true) ↔ HasCare s (IsEnabled s.circuit) (ConeLatches s.circuit p) bits
  pub in_order : AreInOrder w r.vars
  pub are_variables : AreNodeVariables (IsSignalTree s p) (variables_of w r.vars)
  pub covers : AreCovered w r.vars r.value.0 r.care.0
  pub nodes : AreNodesOf s (ConeLatches s.circuit p) w.children r.nodes
  pub only_is : (r.only_always ≡ true) ↔ ReachesAlways s p
