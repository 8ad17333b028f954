-- A signal that isn't low.
use Rattle.signal_graph.proofs.inner_cone.latch_cone.Walks.{is_put}
use Rattle.signal_graph.proofs.inner_cone.Inner.{high_put}
use Rattle.signal_graph.proofs.inner_cone.walk.put_high.Goals as goal

pub returns : goal.returns
returns c =
    high_put c.args.ranks.now c.args.least c.args.seen.now c.insert.new.self c.args.signal
    (is_put c.args.seen.now c.insert.new.self c.args.signal c.in_ok-insert.ensures.ok)
