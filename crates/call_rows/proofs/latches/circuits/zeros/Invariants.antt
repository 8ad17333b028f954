use Rattle.std.proofs.Common.{◌≡◌, length}
use Rattle.std.specs.List.{All}
use Rattle.call_rows.proofs.latches.circuits.zeros.Given as goal

abbrev pub invariant-loop : goal.invariant-loop
invariant-loop l = (length l.made ≡ l.counter) × All (λ k. k ≡ 0) l.made
