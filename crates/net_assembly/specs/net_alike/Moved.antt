-- A circuit over other places.
use Rattle.std.specs.Prelude.{map}
use Rattle.std.specs.List.{Contains}
use Rattle.circuit_theory.specs.Circuit.{Circuit, Port}
use Rattle.circuit_theory.specs.Joined.{moved, moved_name, moved_start}

-- the circuit with each place p as `to p`
abbrev pub circuit_over : {P Q : Type 0} → (P → Q) → Circuit P → Circuit Q
circuit_over to c = record {
  inputs = map (moved_name to) c.inputs;
  outputs = map (moved_name to) c.outputs;
  equations = map (moved to) c.equations;
  starts = map (moved_start to) c.starts;
}

-- no port of an instance stands in it
abbrev pub IsPortless : {P : Type 0} → Circuit P → Type 0
IsPortless {P} c = (out from : P) → Contains c.equations (Port out from) → ⊥
