use Rattle.std.specs.Prelude.{ℕ, ◌<◌, ◌≤◌}
use Rattle.event_form.specs.event_agreement.pair_events.View.{side_of_both}
use Rattle.event_settles.specs.Idle.{MayLoad}
use Rattle.event_settles.proofs.idle.first_idle.Given as goal

abbrev pub invariant-loop-class : goal.invariant-loop-class
invariant-loop-class l = (k : ℕ) → 0 < k → k ≤ l.class → MayLoad (side_of_both l.events) l.conflicts k
