use Rattle.net_assembly.proofs.net_alike.Carrying.{runs_are_carried}
use Rattle.net_assembly.proofs.net_alike.runs_are_carried.Goals as goal

pub returns : goal.returns
returns c = runs_are_carried
