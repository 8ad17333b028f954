use Rattle.net_assembly.proofs.net_alike.Carrying.{weight_is_carried}
use Rattle.net_assembly.proofs.net_alike.weight_is_carried.Goals as goal

pub returns : goal.returns
returns c = weight_is_carried
