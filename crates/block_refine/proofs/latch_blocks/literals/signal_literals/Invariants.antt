use Rattle.std.proofs.Common.{◌≡◌, ◌+◌, ◌≤◌, length}
use Rattle.aig.specs.Graph.{Grows}
use Rattle.block_refine.specs.latch_blocks.Signals.{AreSignalLits}
use Rattle.block_refine.proofs.latch_blocks.Weights.{weight_below}
use Rattle.block_refine.proofs.latch_blocks.literals.signal_literals.Given as goal

abbrev pub invariant-loop-s : goal.invariant-loop-s
invariant-loop-s l = record {
  each : length l.lits.items ≡ l.s;
  lits : AreSignalLits l.net l.variables l.aig l.lits.items;
  grows : Grows l.initial.aig l.aig;
  few : length l.aig ≤ length l.initial.aig + weight_below l.net l.s;
}
