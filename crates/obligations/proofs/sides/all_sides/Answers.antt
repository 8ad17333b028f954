-- The queries of one obligation more.
use Rattle.std.proofs.Common.{◌<◌, List, length, sym, ◌∙◌, ap, subst, arith}
use Rattle.obligations.specs.outcome.Query.{Query}
use Rattle.obligations.specs.declared.obligation.Obligation.{Obligation}
use Rattle.obligations.specs.Asked.{HaveMore}
use Rattle.obligations.proofs.Listed.{item-at}
use Rattle.obligations.proofs.Swept.{sides-more}
use Rattle.obligations.proofs.sides.all_sides.Goals as goal

pub loop-i-preserved : goal.loop-i-preserved
loop-i-preserved c =
    let o : Obligation = c.index-asked-i.result in
    let inside : c.loop-i.i < length c.args.asked.now = omega arith in
    sides-more c.args.asked.now c.loop-i.i o c.loop-i.sides.items c.put_sides.new.sides.items (item-at c.args.asked.now c.loop-i.i o inside c.index-asked-i.is) c.loop-i.invariant
    (subst (λ (qs : List Query). HaveMore qs c.loop-i.sides.items c.put_sides.new.sides.items) (c.as_slice.ensures ∙ ap (λ (x : Obligation). x.queries) (sym c.index-asked-i.is)) c.in_ok-put_sides.ensures)
