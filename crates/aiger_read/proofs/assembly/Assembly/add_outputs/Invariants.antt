use Rattle.std.proofs.Common.{◌≡◌, take, length}
use Rattle.aiger_read.specs.aiger_file.aiger_graph.Circuit.{output_literals}
use Rattle.aiger_read.specs.Made.{HasOutputs}
use Rattle.aiger_read.proofs.assembly.Assembly.add_outputs.Given as goal

abbrev pub invariant-loop-found : goal.invariant-loop-found
invariant-loop-found l = record {
  made : HasOutputs l.plan.file.now l.plan.order.now (output_literals (take l.found-index l.plan.file.now.records)) l.self.maker.net l.self.signals.items;
  count : l.number ≡ length (output_literals (take l.found-index l.plan.file.now.records));
}
