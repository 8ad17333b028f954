use Rattle.merged_graph.proofs.Standing.{later}
use Rattle.merged_graph.proofs.laws.merged_later.Goals as goal

pub returns : goal.returns
returns c = later
