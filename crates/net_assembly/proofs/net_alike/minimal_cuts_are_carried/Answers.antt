use Rattle.net_assembly.proofs.net_alike.Cutting.{minimal_cuts_are_carried}
use Rattle.net_assembly.proofs.net_alike.minimal_cuts_are_carried.Goals as goal

pub returns : goal.returns
returns c = minimal_cuts_are_carried
