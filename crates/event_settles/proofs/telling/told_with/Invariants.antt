use Rattle.std.specs.List.{AllZip}
use Rattle.event_settles.specs.Idle.{ToldWith}
use Rattle.event_settles.proofs.telling.told_with.Given as goal

abbrev pub invariant-loop-care : goal.invariant-loop-care
invariant-loop-care l = AllZip (ToldWith l.idle) l.yielded l.told
