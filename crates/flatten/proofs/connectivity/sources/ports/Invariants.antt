use Rattle.std.proofs.Common.{◌≡◌, map, take}
use Rattle.flatten.specs.connectivity.Steps.{source_port}
use Rattle.flatten.proofs.connectivity.sources.ports.Given as goal

abbrev pub invariant-loop-source : goal.invariant-loop-source
invariant-loop-source l = l.froms.items ≡ map (source_port l.flat.statements) (take l.source-index l.sources)
