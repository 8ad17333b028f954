use Rattle.std.proofs.Common.{◌≡◌, ◌≤◌, map, take, length}
use Rattle.std.specs.List.{filter}
use Rattle.flat_net.specs.declared.parts.Port.{Port}
use Rattle.flat_net.specs.View.{ports_of}
use Rattle.sec_setup.specs.ports.Numbered.{stays}
use Rattle.sec_setup.proofs.ports.numbers.inputs_beside.Given as goal

abbrev pub invariant-loop-i : goal.invariant-loop-i
invariant-loop-i l = record {
  names_are : l.names ≡ filter (stays (ports_of l.own) (ports_of l.other)) (take l.i (map (λ (p : Port). p.name) l.own.inputs));
  few : length l.names ≤ l.i;
}
