use Rattle.std.proofs.Common.{◌≡◌, ◌+◌, ◌-◌, ◌≤◌, length}
use Rattle.aig.specs.Graph.{Grows}
use Rattle.aig.specs.graph_copy.Copy.{AreCopies}
use Rattle.aig.proofs.graph_copy.copy.copy_into.Given as goal

abbrev pub invariant-loop-n : goal.invariant-loop-n
invariant-loop-n l = record {
  each : length l.lits.items ≡ l.n;
  copies : AreCopies l.own l.numbers l.aig l.lits.items;
  grows : Grows l.fn.aig l.aig;
  few : length l.aig ≤ length l.fn.aig + (l.n - 1);
}
