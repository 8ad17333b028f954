use Rattle.net_assembly.proofs.net_alike.Cutting.{cuts_are_carried}
use Rattle.net_assembly.proofs.net_alike.cuts_are_carried.Goals as goal

pub returns : goal.returns
returns c = cuts_are_carried
