use Rattle.std.proofs.Common.{arith}
use Rattle.std.proofs.lemmas.Option.{slice_get_within}
use Rattle.aig.proofs.Insert.{graph-insert, vars_of-insert, grows-insert, few-insert}
use Rattle.aig.proofs.graph.insert.Goals as goal

pub returns-clause-graph : goal.returns-clause-graph
returns-clause-graph c = graph-insert c.args.nodes.now c.insert.new.self c.args.node c.in_ok-number.ensures.ok c.requires.graph c.requires.room c.requires.above

pub returns-clause-grows : goal.returns-clause-grows
returns-clause-grows c = grows-insert c.args.nodes.now c.insert.new.self c.args.node c.in_ok-number.ensures.ok

pub returns-clause-few : goal.returns-clause-few
returns-clause-few c = few-insert c.args.nodes.now c.insert.new.self c.args.node c.in_ok-number.ensures.ok

pub returns-clause-vars : goal.returns-clause-vars
returns-clause-vars c = vars_of-insert c.args.nodes.now c.insert.new.self c.args.node c.in_ok-number.ensures.ok c.in_ok-number.number c.in_ok-number.ensures.here

pub overflow_mul-result : goal.overflow_mul-result
overflow_mul-result c =
    omega (arith, slice_get_within c.insert.new.self c.in_ok-number.number c.args.node c.in_ok-number.ensures.here, few-insert c.args.nodes.now c.insert.new.self c.args.node c.in_ok-number.ensures.ok, c.requires.room)
