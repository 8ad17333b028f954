use Rattle.std.proofs.Common.{◌∙◌}
use Rattle.aiger_read.proofs.Making.{graph_at, reads_at_literal}
use Rattle.aiger_read.proofs.plan.Plan.reads_of.Goals as goal

pub bounds-self-literal : goal.bounds-self-literal
bounds-self-literal c = graph_at c.args.self.now.file.now c.args.self.now.graph.now c.args.self.now.order.now c.requires.plan c.args.literal c.requires.low

pub returns : goal.returns
returns c = c.as_slice.ensures ∙ reads_at_literal c.args.self.now.file.now c.args.self.now.graph.now c.args.self.now.order.now c.requires.plan c.args.literal c.index-self-literal.result c.requires.low
