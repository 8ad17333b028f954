use Rattle.std.proofs.Common.{take}
use Rattle.circuit_theory.specs.declared.Mode.{Mode}
use Rattle.signal_graph.specs.inner_cone.latch_cone.Kinds.{AreKindsIn}
use Rattle.signal_graph.specs.Graph.{IsGraphIn}
use Rattle.circuit_report.specs.graph_report.Puts.{PutsLatches}
use Rattle.circuit_report.proofs.graph_report.report.put_latches.Given as goal

abbrev pub invariant-loop-j : goal.invariant-loop-j
invariant-loop-j l = (mode : Mode) → IsGraphIn mode l.net l.graph → AreKindsIn mode l.net l.kinds → PutsLatches mode l.net (take l.j l.net.latches) l.initial.text.items l.text.items
