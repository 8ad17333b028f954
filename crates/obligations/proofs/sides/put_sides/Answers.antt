-- One query more.
use Rattle.std.proofs.Common.{◌∷◌, [], ◌++◌, ◌<◌, List, length, take, sym, subst, arith}
use Rattle.obligations.specs.outcome.Query.{Query}
use Rattle.obligations.specs.Asked.{HaveMore}
use Rattle.obligations.proofs.Listed.{item-at, take-next}
use Rattle.obligations.proofs.Swept.{have-more}
use Rattle.obligations.proofs.sides.put_sides.Goals as goal

pub loop-query-preserved : goal.loop-query-preserved
loop-query-preserved c =
    let xs = c.args.queries.now in
    let i = c.loop-query.query-index in
    let q : Query = c.query-item.result in
    let inside : i < length xs = omega arith in
    let at = item-at xs i q inside c.query-item.is in
    subst (λ (qs : List Query). HaveMore qs c.args.sides.now.items c.push.new.self.items) (sym (take-next xs i q at))
    (have-more (take i xs) q c.args.sides.now.items c.loop-query.sides.items c.push.new.self.items c.sides_of.result c.loop-query.invariant c.sides_of.ensures c.in_ok-push.ensures.items)
