use Rattle.std.proofs.Common.{◌≡◌, drop}
use Rattle.std.specs.Str.{bytes_eq}
use Rattle.std.specs.List.{list_any}
use Rattle.net_names.proofs.alone.shows_output.Given as goal

abbrev pub invariant-loop-port : goal.invariant-loop-port
invariant-loop-port l = list_any (λ port. bytes_eq port.name l.name) l.net.outputs ≡ list_any (λ port. bytes_eq port.name l.name) (drop l.port-index l.net.outputs)
