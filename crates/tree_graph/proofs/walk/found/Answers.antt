use Rattle.tree_graph.proofs.Waiting.{known_lit}
use Rattle.tree_graph.proofs.walk.found.Goals as goal

pub returns-in-Some-clause-made : goal.returns-in-Some-clause-made
returns-in-Some-clause-made c =
    let s = c.args.side.now in
    known_lit s.net.now s.order.now c.args.places.now c.keeps-3.ensures.sound (0, s.root.0) c.args.aig.now c.in-Some.lit.0 c.keeps.ensures.graph c.keeps-2.ensures.once (c.requires.known (0, s.root.0) c.in-Some.lit c.in-Some.ensures.here)

pub returns-in-Some-clause-within : goal.returns-in-Some-clause-within
returns-in-Some-clause-within c = let s = c.args.side.now in (c.requires.known (0, s.root.0) c.in-Some.lit c.in-Some.ensures.here).within
