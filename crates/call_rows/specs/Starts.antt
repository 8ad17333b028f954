-- Circuits that are given classes.
use Rattle.std.specs.Prelude.{◌≡◌, All}
use Rattle.circuit_theory.specs.Depth.{LatchesHaveDepths}
use Rattle.flat_net.specs.View.{circuit_of}
use Rattle.event_nodes.specs.View.{EventCircuitView, Enabled}

-- no cycle of latches is left but the self-edges of enabled ones, and all latches are of class 0
pub record IsStart (e : EventCircuitView) : Type 0 where
  pub depths : LatchesHaveDepths (circuit_of e.net) (Enabled e)
  pub none : All (λ k. k ≡ 0) e.classes
