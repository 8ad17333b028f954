use Rattle.latch_kinds.proofs.unate_enable.OneCone.{one_cone}
use Rattle.latch_kinds.proofs.unate_enable.laws.cones_are_one.Goals as goal

pub returns : goal.returns
returns c = one_cone
