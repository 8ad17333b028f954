-- By the answer to the query.
use Rattle.block_refine.specs.block_graph.Graph.{number_of}
use Rattle.induct.proofs.block_outputs.Answering.{answer_same, answer_limit, bits_each, vars_distinct, lit_within, lit_covered, answer_differs}
use Rattle.induct.proofs.block_outputs.answer.answer.Goals as goal

pub returns-in-Same : goal.returns-in-Same
returns-in-Same c =
    answer_same c.args.nets.now c.args.graph.now c.requires.graph c.keeps.ensures.sound c.keeps-2.ensures.sound c.keeps-3.ensures.graph c.args.conflicts (number_of c.args.left) (number_of c.args.right) c.in_ok-compared.compared c.in_ok-compared.ensures _
    c.in-Same.is

pub returns-in-Limit : goal.returns-in-Limit
returns-in-Limit c =
    answer_limit c.args.nets.now c.args.graph.now c.requires.graph c.keeps.ensures.sound c.keeps-2.ensures.sound c.keeps-3.ensures.graph c.args.conflicts (number_of c.args.left) (number_of c.args.right) c.in_ok-compared.compared c.in_ok-compared.ensures
    c.in-Limit.proof c.in-Limit.is

pub values_shown-requires-clause-literal : goal.values_shown-requires-clause-literal
values_shown-requires-clause-literal c =
    lit_within c.args.nets.now c.args.graph.now c.requires.graph c.keeps.ensures.sound c.keeps-2.ensures.sound c.keeps-3.ensures.graph c.args.conflicts (number_of c.args.left) (number_of c.args.right) c.in_ok-compared.compared c.in_ok-compared.ensures
    c.lit-lit.result c.lit-lit.ensures

pub values_shown-requires-clause-each : goal.values_shown-requires-clause-each
values_shown-requires-clause-each c =
    bits_each c.args.nets.now c.args.graph.now c.requires.graph c.keeps.ensures.sound c.keeps-2.ensures.sound c.keeps-3.ensures.graph c.args.conflicts (number_of c.args.left) (number_of c.args.right) c.in_ok-compared.compared c.in_ok-compared.ensures
    c.in-Differs.bits c.in-Differs.is

pub values_shown-requires-clause-distinct : goal.values_shown-requires-clause-distinct
values_shown-requires-clause-distinct c =
    vars_distinct c.args.nets.now c.args.graph.now c.requires.graph c.keeps.ensures.sound c.keeps-2.ensures.sound c.keeps-3.ensures.graph c.args.conflicts (number_of c.args.left) (number_of c.args.right) c.in_ok-compared.compared c.in_ok-compared.ensures

pub values_shown-requires-clause-covers : goal.values_shown-requires-clause-covers
values_shown-requires-clause-covers c =
    lit_covered c.args.nets.now c.args.graph.now c.requires.graph c.keeps.ensures.sound c.keeps-2.ensures.sound c.keeps-3.ensures.graph c.args.conflicts (number_of c.args.left) (number_of c.args.right) c.in_ok-compared.compared c.in_ok-compared.ensures
    c.lit-lit.result c.lit-lit.ensures

pub returns-in_ok-shown-in-Differs : goal.returns-in_ok-shown-in-Differs
returns-in_ok-shown-in-Differs c =
    let made = c.in_ok-shown-in-Differs.ensures in
    answer_differs c.args.nets.now c.args.graph.now c.requires.graph c.keeps.ensures.sound c.keeps-2.ensures.sound c.keeps-3.ensures.graph c.args.conflicts (number_of c.args.left) (number_of c.args.right) c.in_ok-compared.compared c.in_ok-compared.ensures
    c.lit-lit.result c.lit-lit.ensures c.in-Differs.bits c.in_ok-shown-in-Differs.shown c.in-Differs.is made.vars made.bits made.left made.right
