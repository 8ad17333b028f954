use Rattle.flatten.proofs.GraphSteps.{graph_step}
use Rattle.flatten.proofs.loops.graph.Goals as goal

pub loop-number-preserved : goal.loop-number-preserved
loop-number-preserved c =
    graph_step c.args.flat.now.statements c.args.wired.now.sources c.loop-number.number c.source.result c.loop-number.graph.items c.push.new.self.items c.in_ok-reads_of.field-0
    c.source.ensures c.loop-number.invariant c.in_ok-reads_of.ensures c.in_ok-push.ensures.items
