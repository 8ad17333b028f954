use Rattle.std.proofs.Common.{◌≡◌, take}
use Rattle.flat_net.specs.Cut.{exposed_names}
use Rattle.flat_net.proofs.net.Net.exposed_names.Given as goal

abbrev pub invariant-loop-j : goal.invariant-loop-j
invariant-loop-j l = l.names ≡ exposed_names l.self (take l.j-index l.exposed)
