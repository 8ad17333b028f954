use Rattle.latch_kinds.proofs.enable_laws.Depending.{cycles_depend}
use Rattle.latch_kinds.proofs.enable_laws.cycles_depend_on_enabled.Goals as goal

pub returns : goal.returns
returns c = cycles_depend
