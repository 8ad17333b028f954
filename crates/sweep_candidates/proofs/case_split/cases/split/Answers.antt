-- Both cases stand for the literals.
use Rattle.sweep_candidates.proofs.case_split.Splits.{split-both, IfOk-map}
use Rattle.sweep_candidates.proofs.case_split.cases.split.Goals as goal

pub returns : goal.returns
returns c =
    IfOk-map c.put_case-2.result _ _
    (λ told second yes.
    split-both c.args.graph.now c.args.lits.0.0 c.args.lits.1.0 c.in-Some.var c.args.waiting.now.items c.put_case.new.waiting.items c.put_case-2.new.waiting.items (c.in_ok-low.ensures c.if-not-low.false) (second yes))
    c.put_case-2.ensures
