use Rattle.std.proofs.Common.{◌≡◌, ◌==◌, map, take}
use Rattle.circuit_report.proofs.sim_report.checks.bits_of.Given as goal

abbrev pub invariant-loop-digit : goal.invariant-loop-digit
invariant-loop-digit l = l.bits ≡ map (λ digit. digit == 49) (take l.digit-index l.digits)
