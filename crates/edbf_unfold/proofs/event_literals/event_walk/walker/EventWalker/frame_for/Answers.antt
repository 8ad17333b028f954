-- A signal that isn't known to avoid the latch stays in its frame.
use Rattle.std.proofs.Common.{refl, subst, inl, inr}
use Rattle.event_nodes.specs.View.{EventCircuitView}
use Rattle.edbf_unfold.specs.event_literals.event_walk.Ready.{IsFreeOf, IsBoundTo}
use Rattle.edbf_unfold.proofs.event_literals.event_walk.walker.EventWalker.frame_for.Goals as goal

pub returns-then-avoids : goal.returns-then-avoids
returns-then-avoids c = inr (subst (λ (e : EventCircuitView). IsFreeOf e.net c.args.put c.args.fanin.0) c.circuit.ensures (c.avoids.ensures.yes c.if-avoids.true), refl)

pub returns-else-avoids : goal.returns-else-avoids
returns-else-avoids c = inl (refl, subst (λ (e : EventCircuitView). IsBoundTo e.net c.args.put c.args.fanin.0) c.circuit.ensures (c.avoids.ensures.no c.if-avoids.false))
