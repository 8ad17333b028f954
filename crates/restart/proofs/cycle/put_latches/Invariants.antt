use Rattle.std.proofs.Common.{ℕ, Bool, List}
use Rattle.restart.specs.Cycle.{HasInputs}
use Rattle.restart.proofs.Bits.{LatchesBelow}
use Rattle.restart.proofs.cycle.put_latches.Given as goal

abbrev pub invariant-loop-j : goal.invariant-loop-j
invariant-loop-j l =
    ((columns : List ℕ) (row : List Bool) → HasInputs l.net columns row l.initial.values → HasInputs l.net columns row l.values) × LatchesBelow l.net l.latches l.values l.j
