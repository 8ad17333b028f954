use Rattle.std.proofs.Common.{◌≡◌, take}
use Rattle.std.specs.List.{filter_map}
use Rattle.signal_graph.specs.inner_cone.latch_cone.Parts.{gate_at}
use Rattle.signal_graph.proofs.inner_cone.parts.gates_among.Given as goal

abbrev pub invariant-loop-at : goal.invariant-loop-at
invariant-loop-at l = l.gates.items ≡ filter_map (gate_at l.net) (take l.at l.seen)
