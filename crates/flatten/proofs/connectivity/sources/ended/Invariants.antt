use Rattle.std.proofs.Common.{◌≡◌, map, take}
use Rattle.flatten.specs.connectivity.Steps.{net_at}
use Rattle.flatten.proofs.connectivity.sources.ended.Given as goal

abbrev pub invariant-loop-place : goal.invariant-loop-place
invariant-loop-place l = l.nets.items ≡ map (net_at l.froms) (take l.place-index l.at)
