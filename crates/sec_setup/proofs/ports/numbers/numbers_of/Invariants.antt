use Rattle.std.proofs.Common.{◌≤◌, ◌+◌, map, take}
use Rattle.flat_net.specs.declared.parts.Port.{Port}
use Rattle.sec_setup.specs.ports.Numbered.{AreNumbers}
use Rattle.sec_setup.proofs.ports.numbers.numbers_of.Given as goal

abbrev pub invariant-loop-port : goal.invariant-loop-port
invariant-loop-port l = record {
  numbers_are : AreNumbers (take l.port-index (map (λ (p : Port). p.name) l.own.inputs)) l.shared l.from l.next l.numbers;
  few : l.next ≤ l.from + l.port-index;
}
