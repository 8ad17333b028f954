use Rattle.latch_kinds.proofs.enable_laws.Depending.{marks_depend}
use Rattle.latch_kinds.proofs.enable_laws.marks_depend_on_enabled.Goals as goal

pub returns : goal.returns
returns c = marks_depend
