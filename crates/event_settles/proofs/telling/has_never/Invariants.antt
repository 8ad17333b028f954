use Rattle.std.specs.Prelude.{All, take}
use Rattle.event_settles.specs.Idle.{IsNotNever}
use Rattle.event_settles.proofs.telling.has_never.Given as goal

abbrev pub invariant-loop-care : goal.invariant-loop-care
invariant-loop-care l = All IsNotNever (take l.care-index l.cares)
