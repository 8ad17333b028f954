use Rattle.std.proofs.Common.{[], take}
use Rattle.std.specs.List.{filter}
use Rattle.aiger_read.specs.Signals.{is_gate}
use Rattle.aiger_read.specs.Made.{HasGates}
use Rattle.aiger_read.proofs.assembly.Assembly.add_gates.Given as goal

abbrev pub invariant-loop-place : goal.invariant-loop-place
invariant-loop-place l = HasGates l.plan.file.now l.plan.order.now (filter (is_gate l.plan.file.now.records) (take l.place l.plan.order.now)) [] l.self.maker.net l.self.signals.items
