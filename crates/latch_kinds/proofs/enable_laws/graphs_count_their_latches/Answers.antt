use Rattle.latch_kinds.proofs.enable_laws.Depending.{graphs_count}
use Rattle.latch_kinds.proofs.enable_laws.graphs_count_their_latches.Goals as goal

pub returns : goal.returns
returns c = graphs_count
