use Rattle.std.proofs.Common.{◌≡◌, ◌==◌, ◌||◌, drop}
use Rattle.std.specs.List.{list_all}
use Rattle.circuit_report.proofs.sim_report.checks.are_digits.Given as goal

abbrev pub invariant-loop-digit : goal.invariant-loop-digit
invariant-loop-digit l = list_all (λ digit. (digit == 48) || (digit == 49)) l.word ≡ list_all (λ digit. (digit == 48) || (digit == 49)) (drop l.digit-index l.word)
