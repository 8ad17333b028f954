use Rattle.std.proofs.Common.{◌≡◌, drop}
use Rattle.std.specs.List.{list_any}
use Rattle.std.specs.Prelude.{◌==◌}
use Rattle.elaborate.proofs.scope.has_step.Given as goal

abbrev pub invariant-loop-step : goal.invariant-loop-step
invariant-loop-step l = list_any (λ s. s.model == l.model) l.steps ≡ list_any (λ s. s.model == l.model) (drop l.step-index l.steps)
