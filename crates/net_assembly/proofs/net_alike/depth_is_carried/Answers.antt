use Rattle.net_assembly.proofs.net_alike.Carrying.{depth_is_carried}
use Rattle.net_assembly.proofs.net_alike.depth_is_carried.Goals as goal

pub returns : goal.returns
returns c = depth_is_carried
