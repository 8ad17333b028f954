use Rattle.std.proofs.Common.{◌≡◌, take}
use Rattle.aiger_read.specs.aiger_file.aiger_graph.Circuit.{latches_in}
use Rattle.aiger_read.proofs.Nexts.{HasNexts}
use Rattle.aiger_read.proofs.assembly.Assembly.set_nexts.Given as goal

abbrev pub invariant-loop-found : goal.invariant-loop-found
invariant-loop-found l = record {
  nexts : HasNexts l.initial.self.signals.items (latches_in (take l.found-index l.plan.file.now.records)) l.initial.self.maker l.self.maker;
  same : l.self.signals.items ≡ l.initial.self.signals.items;
}
