use Rattle.std.proofs.Common.{◌≡◌, [], take, length}
use Rattle.aiger_read.specs.aiger_file.aiger_graph.Circuit.{input_literals, latches_in}
use Rattle.aiger_read.specs.Made.{IsMade}
use Rattle.aiger_read.proofs.assembly.Assembly.add_latches.Given as goal

abbrev pub invariant-loop-found : goal.invariant-loop-found
invariant-loop-found l = record {
  made : IsMade l.plan.file.now l.plan.order.now (input_literals l.plan.file.now.records) (latches_in (take l.found-index l.plan.file.now.records)) [] [] l.self.maker.net l.self.signals.items;
  count : l.number ≡ length (latches_in (take l.found-index l.plan.file.now.records));
}
