use Rattle.net_assembly.proofs.net_alike.Carrying.{edges_are_carried}
use Rattle.net_assembly.proofs.net_alike.edges_are_carried.Goals as goal

pub returns : goal.returns
returns c = edges_are_carried
