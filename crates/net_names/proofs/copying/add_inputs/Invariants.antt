use Rattle.std.proofs.Common.{◌≡◌, ◌≤◌, length}
use Rattle.net_names.specs.Fronts.{front}
use Rattle.net_names.proofs.copying.add_inputs.Given as goal

abbrev pub invariant-loop-port : goal.invariant-loop-port
invariant-loop-port l = record { made : l.maker.net ≡ front l.original l.port-index 0 0 l.port-index; few : l.port-index ≤ length l.original.inputs }
