use Rattle.std.specs.Prelude.{◌≡◌, ◌++◌, map, take}
use Rattle.witness_report.specs.Text.{names_text}
use Rattle.flat_net.specs.declared.parts.Port.{Port}
use Rattle.circuit_report.proofs.sim_report.text.put_ports.Given as goal

abbrev pub invariant-loop-port : goal.invariant-loop-port
invariant-loop-port l = l.text.items ≡ l.initial.text.items ++ names_text (map (λ (port : Port). port.name) (take l.port-index l.ports))
