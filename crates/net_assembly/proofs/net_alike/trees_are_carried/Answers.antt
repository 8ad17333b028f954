use Rattle.net_assembly.proofs.net_alike.Cutting.{trees_are_carried}
use Rattle.net_assembly.proofs.net_alike.trees_are_carried.Goals as goal

pub returns : goal.returns
returns c = trees_are_carried
