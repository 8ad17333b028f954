use Rattle.std.proofs.Common.{◌≡◌, drop}
use Rattle.std.specs.List.{list_all}
use Rattle.std.specs.Prelude.{◌==◌}
use Rattle.aiger_read.proofs.aiger_records.header.are_zeros.Given as goal

abbrev pub invariant-loop-n : goal.invariant-loop-n
invariant-loop-n l = list_all (λ n. n == 0) l.numbers ≡ list_all (λ n. n == 0) (drop l.n-index l.numbers)
