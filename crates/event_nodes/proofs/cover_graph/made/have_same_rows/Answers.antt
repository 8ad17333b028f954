-- Each row is the other list's.
use Rattle.std.proofs.Common.{arith}
use Rattle.std.proofs.lemmas.List.{same_lists}
use Rattle.event_nodes.proofs.cover_graph.made.have_same_rows.Goals as goal

pub returns : goal.returns
returns c = λ _. same_lists c.args.left.now c.args.right.now (omega (arith, c.if-left-right.false)) (λ k d below. c.loop-i.invariant k d (omega (arith, below, c.loop-i-test.false)))
