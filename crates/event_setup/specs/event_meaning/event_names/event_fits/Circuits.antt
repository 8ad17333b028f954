-- The circuits that are compared in the event form.
use Rattle.std.specs.Prelude.{◌≡◌, ℕ, Bool, false, List, [], map}
use Rattle.circuit_theory.specs.declared.Mode.TheVariants.{Event}
use Rattle.circuit_theory.specs.Agree.{IsMinimalCut}
use Rattle.flat_net.specs.declared.parts.Port.{Port}
use Rattle.flat_net.specs.Sound.{IsSound}
use Rattle.flat_net.specs.View.{NetView, circuit_of}
use Rattle.base_tables.specs.Table.{AreDistinct}
use Rattle.plain_check.specs.under_base.compare_base.Cuts.{AreCutAt, columns_of}
use Rattle.event_setup.specs.read_inputs.Setup.{AreColumns}
use Rattle.event_nodes.specs.View.{EventCircuitView, IsEventCircuit}
use Rattle.event_setup.specs.Choosing.{HaveNoCycles}
use Rattle.event_setup.specs.Recovered.{AreKnown}
use Rattle.event_setup.specs.Setup.{HaveDepths}

-- both nets are sound, and their outputs have distinct names
pub record AreNets (a b : NetView) : Type 0 where
  pub left : IsSound a
  pub right : IsSound b
  pub left_distinct : AreDistinct (map (λ (p : Port). p.name) a.outputs)
  pub right_distinct : AreDistinct (map (λ (p : Port). p.name) b.outputs)

-- a net whose enabled latches are marked, and in which no cycle of latches is left but self-edges of these
pub record IsReadyCircuit (e : EventCircuitView) : Type 0 where
  pub sound : IsSound e.net
  pub marked : IsEventCircuit e
  pub depths : HaveDepths e.net

-- Both nets with the latches of these names cut out, a minimal cut, of which there is none where no latch is to be cut open. Their inputs are
-- numbered by the columns.
pub record AreEventCircuits (a b : NetView) (expose : Bool) (names : List (List ℕ)) (left right : EventCircuitView) : Type 0 where
  pub minimal : IsMinimalCut Event (circuit_of a) (circuit_of b) names
  pub closed : expose ≡ false → names ≡ []
  pub are_cut : AreCutAt a b names left.net right.net
  pub left_ready : IsReadyCircuit left
  pub right_ready : IsReadyCircuit right
  pub left_columns : AreColumns left.net (columns_of a b names) left.order right.order
  pub right_columns : AreColumns right.net (columns_of a b names) right.order left.order

-- These circuits are reached: it is known which latches are enabled, and no cycle is refused.
pub record AreReached (a b : NetView) (expose : Bool) (names : List (List ℕ)) (left right : EventCircuitView) : Type 0 where
  pub left_known : AreKnown a
  pub right_known : AreKnown b
  pub no_cycles : HaveNoCycles a b expose
  pub circuits : AreEventCircuits a b expose names left right
