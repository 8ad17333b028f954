-- What is swept is within the graph, and true of the queries.
use Rattle.std.proofs.Common.{◌<◌, length, sym, subst, arith}
use Rattle.std.specs.Prelude.{◌^◌}
use Rattle.std.specs.List.{AllZip}
use Rattle.std.proofs.lemmas.Result.{IfOk-weaker}
use Rattle.obligations.specs.Asked.{MaySweep, queries_of}
use Rattle.obligations.proofs.Listed.{all-queries}
use Rattle.obligations.proofs.Swept.{sides-within, are-known, as-many}
use Rattle.obligations.proofs.sides.sweep_asked.Goals as goal

pub sweep_queries-requires : goal.sweep_queries-requires
sweep_queries-requires c =
    let queries = queries_of c.args.asked.now in
    sides-within c.args.aig.now queries c.as_slice.result.now (all-queries c.args.aig.now c.args.asked.now c.requires) (subst (AllZip MaySweep queries) (sym c.as_slice.ensures.value) c.in_ok-sides.ensures)

pub returns-clause-known : goal.returns-clause-known
returns-clause-known c =
    let queries = queries_of c.args.asked.now in
    let may : AllZip MaySweep queries c.as_slice.result.now = subst (AllZip MaySweep queries) (sym c.as_slice.ensures.value) c.in_ok-sides.ensures in
    IfOk-weaker c.sweep_queries.result _ _ (λ swept are. are-known c.args.aig.now queries c.as_slice.result.now swept may are) c.sweep_queries.ensures

pub returns-clause-few : goal.returns-clause-few
returns-clause-few c =
    let many = as-many (queries_of c.args.asked.now) c.in_ok-sides.sides.items c.in_ok-sides.ensures in
    let few : length (queries_of c.args.asked.now) < 2 ^ 64 = omega (arith, many, c.in_ok-sides.sides.ok.0, c.in_ok-sides.sides.ok) in
    IfOk-weaker c.sweep_queries.result _ _ (λ swept are. few) c.sweep_queries.ensures
