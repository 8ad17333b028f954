use Rattle.std.specs.Prelude.{◌≡◌, map, take}
use Rattle.job_known.specs.Known.{known_at_first}
use Rattle.job_known.proofs.course.known_at_first.Given as goal

abbrev pub invariant-loop-latch : goal.invariant-loop-latch
invariant-loop-latch l = l.known.items ≡ map known_at_first (take l.latch-index l.latches)
