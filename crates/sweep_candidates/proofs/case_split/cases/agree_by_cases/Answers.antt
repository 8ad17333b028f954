-- The case that is split tells as much as its own cases.
use Rattle.sweep_candidates.proofs.case_split.Splits.{split-next}
use Rattle.sweep_candidates.proofs.case_split.cases.agree_by_cases.Goals as goal

pub loop-turn-preserved : goal.loop-turn-preserved
loop-turn-preserved c = λ all.
    split-next c.args.graph.now c.args.left.0 c.args.right.0 c.in-Some.case c.loop-turn.waiting.items c.pop.new.self.items c.split_case.new.waiting.items c.in-Some.ensures.items c.loop-turn.invariant
    (c.in_ok-told.ensures c.if-not-told.false) all
