-- The one that is found is one of those that were made.
use Rattle.std.proofs.Common.{refl, sym}
use Rattle.event_nodes.proofs.cover_graph.made.lit_before.Goals as goal

pub returns-then-is_of : goal.returns-then-is_of
returns-then-is_of c = (c.one-item.result, (c.loop-one.one-index, c.loop-one-test.true, sym c.one-item.is), (c.is_of.ensures c.if-is_of.true).0, (c.is_of.ensures c.if-is_of.true).1, refl)
