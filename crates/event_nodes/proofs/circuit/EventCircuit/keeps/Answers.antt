-- What each circuit keeps is its invariant.
use Rattle.std.proofs.Common.{subst}
use Rattle.circuit_theory.specs.Depth.{LatchesHaveDepths}
use Rattle.flat_net.specs.Sound.{IsSound}
use Rattle.flat_net.specs.View.{circuit_of}
use Rattle.event_nodes.specs.View.{EventCircuitView, IsEventCircuit, Enabled}
use Rattle.event_nodes.proofs.Depths.{latches_have}
use Rattle.event_nodes.proofs.circuit.EventCircuit.keeps.Goals as goal

pub returns-clause-circuit : goal.returns-clause-circuit
returns-clause-circuit c = subst IsEventCircuit c.self.view_is c.self.invariant.0

pub returns-clause-sound : goal.returns-clause-sound
returns-clause-sound c = subst (λ (e : EventCircuitView). IsSound e.net) c.self.view_is c.keeps.ensures.sound

pub returns-clause-depths : goal.returns-clause-depths
returns-clause-depths c = subst (λ (e : EventCircuitView). LatchesHaveDepths (circuit_of e.net) (Enabled e)) c.self.view_is (latches_have c.self.inside.net c.keeps.ensures.sound c.self.inside.depths c.self.invariant.1)
