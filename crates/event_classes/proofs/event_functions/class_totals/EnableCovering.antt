-- The variables of an enable's function are all that its value reads.
use Rattle.std.proofs.Common.{◌≡◌, ◌∙◌, ℕ, List, [], sym, ap, subst}
use Rattle.std.specs.List.{Contains}
use Rattle.circuit_theory.specs.EventSizes.{Start}
use Rattle.circuit_theory.specs.Frame.{EventUnfolds}
use Rattle.event_nodes.specs.event_variables.flat_net.LatchAt.{LatchAt}
use Rattle.event_nodes.specs.event_variables.flat_net.Sound.{IsSound}
use Rattle.event_nodes.specs.Nodes.{EventGraphView, IsEventGraph}
use Rattle.event_nodes.specs.View.{EventCircuitView, IsEventCircuit, side_of, Enabled}
use Rattle.event_nodes.specs.event_variables.Inputs.{AreVisitedInputs}
use Rattle.aig.proofs.Supports.{Supports}
use Rattle.event_nodes.proofs.event_variables.Leaves.{put_latch}
use Rattle.event_nodes.proofs.event_variables.Meaning.{own_leaf}
use Rattle.edbf_unfold.specs.event_literals.event_walk.Walk.{enable_start}
use Rattle.edbf_unfold.specs.event_literals.Known.{IsEnableLit}
use Rattle.event_classes.proofs.event_functions.Covering.{enable_supports}

module _ (e : EventCircuitView) (w : EventGraphView) (x : Start ℕ) (vars : List ℕ) (sound : IsSound e.net) (circuit : IsEventCircuit e) (is : IsEventGraph w) (are : AreVisitedInputs e w x vars) where
  -- what the start's own enable reads
  pub own_enable_supports : (l : LatchAt) (lit : ℕ) → x ≡ enable_start l → IsEnableLit e w [] l lit → Supports w.graph is.is_graph (Contains vars) lit
  own_enable_supports l lit same k =
      enable_supports e w x vars sound circuit is are [] l lit
      (λ put tree bit put_is unfolds y leaf. own_leaf e w x vars sound circuit are put tree (ap put_latch put_is ∙ ap (λ (z : Start ℕ). z.left_out) (sym same)) (subst (λ (z : Start ℕ). EventUnfolds (side_of e) (Enabled e) put z.place [] tree) (sym same) unfolds) y leaf) k
