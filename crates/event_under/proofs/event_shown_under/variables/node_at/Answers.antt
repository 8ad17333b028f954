-- The item that is read.
use Rattle.std.proofs.Common.{◌∙◌, ◌<◌, length, arith}
use Rattle.std.proofs.lemmas.Option.{slice_get-get_or}
use Rattle.event_under.proofs.event_shown_under.variables.node_at.Goals as goal

pub returns-then-rank-nodes : goal.returns-then-rank-nodes
returns-then-rank-nodes c = λ n e. (let low : c.args.rank < length c.args.nodes.now = omega (arith, c.if-rank-nodes.true) in slice_get-get_or c.args.nodes.now c.args.rank _ low ∙ e)
