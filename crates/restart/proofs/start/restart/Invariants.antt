use Rattle.std.proofs.Common.{◌≡◌, take}
use Rattle.restart.specs.Behind.{begun}
use Rattle.restart.proofs.start.restart.Given as goal

abbrev pub invariant-loop-j : goal.invariant-loop-j
invariant-loop-j l = l.net ≡ begun l.initial.net (take l.j l.known)
