use Rattle.std.proofs.Common.{ap}
use Rattle.flat_net.specs.Makes.{MakerView}
use Rattle.net_assembly.proofs.Begun.{nothing_built}
use Rattle.flatten.proofs.assemble.Assembly.begin.Goals as goal

pub add_sources-requires-clause-built : goal.add_sources-requires-clause-built
add_sources-requires-clause-built c =
    nothing_built c.args.flat.now.names c.in_ok-assembly.assembly.maker.net c.in_ok-assembly.assembly.signals.items c.len.result (ap (λ (m : MakerView). m.net) c.in_ok-assembly.ensures.net) c.in_ok-assembly.ensures.signals c.len.ensures
