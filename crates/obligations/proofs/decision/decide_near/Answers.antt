-- One obligation more.
use Rattle.std.proofs.Common.{◌≡◌, ◌+◌, ◌<◌, List, length, take, slice_get, Some, sym, ◌∙◌, ap, arith, length-append}
use Rattle.obligations.specs.outcome.Query.{Query}
use Rattle.obligations.specs.declared.obligation.Obligation.{Obligation}
use Rattle.obligations.specs.Asked.{queries_of}
use Rattle.obligations.proofs.Listed.{item-at, queries-next, queries-within}
use Rattle.obligations.proofs.decision.decide_near.Goals as goal

pub overflow_add-place : goal.overflow_add-place
overflow_add-place c =
    let asked = c.args.asked.now in
    let o : Obligation = c.index-asked-i.result in
    let inside : c.loop-i.i < length asked = omega arith in
    let at = item-at asked c.loop-i.i o inside c.index-asked-i.is in
    let within = queries-within asked c.loop-i.i o at in
    let own = ap (λ (x : Obligation). length x.queries) c.index-asked-i.is in
    omega (arith, within, own, c.in_ok-known.ensures.few, c.loop-i.invariant.place_is, c.len-place.ensures)

pub loop-i-preserved : goal.loop-i-preserved
loop-i-preserved c =
    let asked = c.args.asked.now in
    let i = c.loop-i.i in
    let o : Obligation = c.index-asked-i.result in
    let inside : i < length asked = omega arith in
    let at = item-at asked i o inside c.index-asked-i.is in
    let own = ap (λ (x : Obligation). length x.queries) c.index-asked-i.is in
    let next = ap (λ (qs : List Query). length qs) (queries-next asked i o at) in
    record {
      decided = c.in_ok-decide_next.ensures c.loop-i.invariant.decided;
      place_is = omega (arith, next, own, length-append (queries_of (take i asked)) o.queries, c.loop-i.invariant.place_is, c.len-place.ensures);
    }
