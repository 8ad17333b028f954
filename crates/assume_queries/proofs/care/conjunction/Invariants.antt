use Rattle.std.proofs.Common.{◌+◌, ◌≤◌, length, take}
use Rattle.aig.specs.Graph.{Grows}
use Rattle.assume_queries.specs.Care.{IsConjunction}
use Rattle.assume_queries.proofs.care.conjunction.Given as goal

abbrev pub invariant-loop-l : goal.invariant-loop-l
invariant-loop-l l = record {
  so_far : IsConjunction l.fn.aig (take l.l-index l.lits) l.aig l.all.0;
  grows : Grows l.fn.aig l.aig;
  few : length l.aig ≤ length l.fn.aig + l.l-index;
}
