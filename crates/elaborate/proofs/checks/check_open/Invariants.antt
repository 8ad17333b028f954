use Rattle.std.proofs.Common.{◌≡◌, drop}
use Rattle.elaborate.specs.Walking.{first_outside}
use Rattle.elaborate.proofs.checks.check_open.Given as goal

abbrev pub invariant-loop-name : goal.invariant-loop-name
invariant-loop-name l = first_outside l.seen l.names ≡ first_outside l.seen (drop l.name-index l.names)
