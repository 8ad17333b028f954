use Rattle.latch_kinds.proofs.enable_laws.Depending.{depths_depend}
use Rattle.latch_kinds.proofs.enable_laws.depths_depend_on_enabled.Goals as goal

pub returns : goal.returns
returns c = depths_depend
