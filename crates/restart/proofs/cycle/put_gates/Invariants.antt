use Rattle.std.proofs.Common.{ℕ, Bool, List, Option}
use Rattle.restart.specs.Cycle.{HasInputs, HasLatches}
use Rattle.restart.proofs.Bits.{GatesBelow}
use Rattle.restart.proofs.cycle.put_gates.Given as goal

abbrev pub invariant-loop-j : goal.invariant-loop-j
invariant-loop-j l =
    ((columns : List ℕ) (row : List Bool) → HasInputs l.net columns row l.initial.values → HasInputs l.net columns row l.values)
    × ((latches : List (Option Bool)) → HasLatches l.net latches l.initial.values → HasLatches l.net latches l.values) × GatesBelow l.net l.values l.j
