use Rattle.std.proofs.Common.{◌≡◌, take}
use Rattle.std.specs.List.{filter}
use Rattle.flatten.specs.Graph.{is_gate_out}
use Rattle.flatten.proofs.loops.gates_of.Given as goal

abbrev pub invariant-loop-number : goal.invariant-loop-number
invariant-loop-number l = l.gates.items ≡ filter (is_gate_out l.flat.statements l.wired.sources) (take l.number-index l.numbers)
