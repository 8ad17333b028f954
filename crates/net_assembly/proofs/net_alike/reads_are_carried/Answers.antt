use Rattle.net_assembly.proofs.net_alike.Carrying.{reads_are_carried}
use Rattle.net_assembly.proofs.net_alike.reads_are_carried.Goals as goal

pub returns : goal.returns
returns c = reads_are_carried
