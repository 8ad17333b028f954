use Rattle.std.proofs.Common.{◌≡◌, ◌-◌, length, drop}
use Rattle.circuit_theory.specs.Query.{bits_of}
use Rattle.aig.specs.lane_eval.root_classes.Rows.{HasBits}
use Rattle.aig.proofs.lane_eval.root_classes.narrow.assign.Given as goal

abbrev pub invariant-loop-k : goal.invariant-loop-k
invariant-loop-k l = record {
  rest : drop l.k (bits_of l.number (length l.vars)) ≡ bits_of l.rest (length l.vars - l.k);
  bits : HasBits l.vars (bits_of l.number (length l.vars)) l.k l.assignment;
}
