use Rattle.std.proofs.Common.{subst}
use Rattle.aig.proofs.lane_eval.root_classes.Assigned.{inputs-distinct}
use Rattle.pair_decide.proofs.Read.{IfOk-then}
use Rattle.swept_queries.specs.node_agreement.Answers.{IsFound}
use Rattle.swept_queries.proofs.node_agreement.Asked.{all-covered, table-found}
use Rattle.swept_queries.proofs.node_agreement.table.ask_table.Goals as goal

pub table_differs-requires-clause-distinct : goal.table_differs-requires-clause-distinct
table_differs-requires-clause-distinct c = inputs-distinct c.args.graph.now c.keeps.ensures.graph c.in_ok-vars.vars c.in_ok-vars.ensures

pub table_differs-requires-clause-covers : goal.table_differs-requires-clause-covers
table_differs-requires-clause-covers c = all-covered c.args.graph.now c.args.left.0 c.args.right.0 c.args.care.0 c.in_ok-vars.vars c.in_ok-vars.ensures

pub returns-in-None : goal.returns-in-None
returns-in-None c =
    subst (IsFound c.args.graph.now c.args.left.0 c.args.right.0 c.args.care.0 c.in_ok-vars.vars) c.in-None.is
    (table-found c.args.graph.now c.args.left.0 c.args.right.0 c.args.care.0 c.in_ok-vars.vars c.in_ok-found.found c.in_ok-found.ensures)

pub returns-in-Some : goal.returns-in-Some
returns-in-Some c =
    let found =
    subst (IsFound c.args.graph.now c.args.left.0 c.args.right.0 c.args.care.0 c.in_ok-vars.vars) c.in-Some.is
    (table-found c.args.graph.now c.args.left.0 c.args.right.0 c.args.care.0 c.in_ok-vars.vars c.in_ok-found.found c.in_ok-found.ensures) in
    IfOk-then c.differing_by.result _ _ (λ t tells. tells c.args.graph.now c.args.left.0 c.args.right.0 c.args.care.0 c.in_ok-vars.ensures found) c.differing_by.ensures
