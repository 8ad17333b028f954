use Rattle.std.proofs.Common.{◌≡◌, take}
use Rattle.std.specs.List.{filter}
use Rattle.net_names.specs.Alone.{passes}
use Rattle.net_names.proofs.alone.add_outputs.Given as goal

abbrev pub invariant-loop-port : goal.invariant-loop-port
invariant-loop-port l = l.maker ≡ record l.initial.maker { net = record l.initial.maker.net { outputs = filter (λ port. passes l.outputs port.name) (take l.port-index l.net.outputs) } }
