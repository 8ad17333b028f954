use Rattle.std.proofs.Common.{◌≡◌, ◌<◌, ℕ, slice_get, Some, take}
use Rattle.std.specs.List.{sum_by}
use Rattle.edbf_unfold.specs.declared.event_literals.event_walk.frames.Step.{Step}
use Rattle.edbf_unfold.specs.event_literals.Known.{AreKnown, IsMet, IsLater}
use Rattle.event_nodes.specs.flat_net.Weights.{weight_at}
use Rattle.edbf_unfold.proofs.event_literals.builder.EventBuilder.build.Given as goal

abbrev pub invariant-loop-step : goal.invariant-loop-step
invariant-loop-step l = record {
  known : AreKnown l.self.circuit l.events l.self.frames l.self.memo;
  met : (j : ℕ) (q : Step) → j < l.step-index → slice_get l.plan j ≡ Some q → IsMet l.self.memo (q.frame, q.signal);
  later : IsLater l.initial.self l.self l.initial.events l.events (sum_by (λ (p : Step). weight_at l.initial.self.circuit.net p.signal) (take l.step-index l.plan));
}
