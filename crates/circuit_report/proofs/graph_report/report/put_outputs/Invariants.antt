use Rattle.std.proofs.Common.{take}
use Rattle.circuit_theory.specs.declared.Mode.{Mode}
use Rattle.signal_graph.specs.Graph.{IsGraphIn}
use Rattle.circuit_report.specs.graph_report.Puts.{PutsOutputs}
use Rattle.circuit_report.proofs.graph_report.report.put_outputs.Given as goal

abbrev pub invariant-loop-output : goal.invariant-loop-output
invariant-loop-output l = (mode : Mode) → IsGraphIn mode l.net l.graph → PutsOutputs mode l.net (take l.output-index l.net.outputs) l.initial.text.items l.text.items
