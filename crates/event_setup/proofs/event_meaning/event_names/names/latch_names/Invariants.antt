use Rattle.std.proofs.Common.{◌≡◌, map, take}
use Rattle.flat_net.specs.declared.parts.LatchAt.{LatchAt}
use Rattle.event_setup.proofs.event_meaning.event_names.names.latch_names.Given as goal

abbrev pub invariant-loop-latch : goal.invariant-loop-latch
invariant-loop-latch l = l.names ≡ map (λ (x : LatchAt). x.name) (take l.latch-index l.latch-items)
