-- The queries before agree, and the answer to this one ends the deciding or agrees too.
use Rattle.std.proofs.Common.{◌≡◌, ◌<◌, length, slice_get, Some, None, refl, arith}
use Rattle.obligations.specs.outcome.Query.{Query}
use Rattle.obligations.proofs.Listed.{item-at}
use Rattle.obligations.proofs.Steps.{ends-with, goes-on, all-agree}
use Rattle.obligations.proofs.found.decide_queries.Goals as goal

pub returns-in-Some : goal.returns-in-Some
returns-in-Some c =
    let q : Query = c.index-queries-i.result in
    let inside : c.loop-i.i < length c.args.queries.now = omega arith in
    ends-with c.args.aig.now c.args.conflicts c.args.queries.now c.loop-i.i q (item-at c.args.queries.now c.loop-i.i q inside c.index-queries-i.is) c.loop-i.invariant c.in_ok-decision.decision c.in-Some.found (Some c.in-Some.found)
    c.in_ok-decision.ensures c.in-Some.ensures refl

pub loop-i-preserved : goal.loop-i-preserved
loop-i-preserved c =
    let q : Query = c.index-queries-i.result in
    let inside : c.loop-i.i < length c.args.queries.now = omega arith in
    goes-on c.args.aig.now c.args.conflicts c.args.queries.now c.loop-i.i q (item-at c.args.queries.now c.loop-i.i q inside c.index-queries-i.is) c.loop-i.invariant c.in_ok-decision.decision None c.in_ok-decision.ensures c.in_default.ensures refl

pub returns : goal.returns
returns c = all-agree c.args.aig.now c.args.queries.now c.loop-i.i (omega arith) c.loop-i.invariant
