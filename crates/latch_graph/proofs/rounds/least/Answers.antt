use Rattle.std.proofs.Common.{◌<◌, ◌+◌, length, subst, sym, arith}
use Rattle.std.proofs.lemmas.Option.{slice_get_within, slice_get-get_or}
use Rattle.latch_graph.proofs.Behind.{IsLeastBefore, least_same, least_more}
use Rattle.latch_graph.proofs.rounds.least.Goals as goal
use Rattle.latch_graph.proofs.rounds.least.Goals.{then-is_named_before, else-is_named_before}

pub loop-i-preserved : goal.loop-i-preserved
loop-i-preserved c =
    let i = c.loop-i.i in
    let at = slice_get-get_or c.args.round.now i 0 c.loop-i-test.true in
    let there = slice_get-get_or c.args.round.now c.loop-i.best 0 c.loop-i.invariant.within in
    elim c.if-is_named_before.branch [
      | then-is_named_before w ↦ record {
        within = subst (λ z. z < length c.args.round.now) (sym w.best-is) c.loop-i-test.true;
        least = subst (λ z. IsLeastBefore c.args.latches.now c.args.round.now (i + 1) z) (sym w.best-is)
            (least_more c.args.latches.now c.args.round.now i c.loop-i.best _ _ c.loop-i.invariant.least at there (c.is_named_before.ensures.yes w.if-is_named_before.true));
      }
      | else-is_named_before w ↦ record {
        within = subst (λ z. z < length c.args.round.now) (sym w.best-is) c.loop-i.invariant.within;
        least = subst (λ z. IsLeastBefore c.args.latches.now c.args.round.now (i + 1) z) (sym w.best-is)
            (least_same c.args.latches.now c.args.round.now i c.loop-i.best _ _ c.loop-i.invariant.least at there (c.is_named_before.ensures.no w.if-is_named_before.false));
      }
    ]

pub returns-clause-least : goal.returns-clause-least
returns-clause-least c = λ i j x h k. let l = slice_get_within c.args.round.now i j h in c.loop-i.invariant.least i j x (omega (arith, l, c.loop-i-test.false)) h k

pub is_named_before-requires-clause-j : goal.is_named_before-requires-clause-j
is_named_before-requires-clause-j c = c.requires.within c.loop-i.i _ (slice_get-get_or c.args.round.now c.loop-i.i 0 c.loop-i-test.true)

pub is_named_before-requires-clause-k : goal.is_named_before-requires-clause-k
is_named_before-requires-clause-k c = c.requires.within c.loop-i.best _ (slice_get-get_or c.args.round.now c.loop-i.best 0 c.loop-i.invariant.within)
