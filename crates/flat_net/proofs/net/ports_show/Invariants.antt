use Rattle.std.proofs.Common.{◌≡◌, drop}
use Rattle.std.specs.List.{list_any}
use Rattle.std.specs.Prelude.{◌==◌}
use Rattle.flat_net.proofs.net.ports_show.Given as goal

abbrev pub invariant-loop-port : goal.invariant-loop-port
invariant-loop-port l = list_any (λ port. port.signal.0 == l.signal.0) l.ports ≡ list_any (λ port. port.signal.0 == l.signal.0) (drop l.port-index l.ports)
