-- Where the literals of all cases agree, so do the two.
use Rattle.sweep_candidates.specs.case_split.Under.{AgreeIn, AllAgree}
use Rattle.sweep_candidates.proofs.case_split.cases.agree_by_cases.Given as goal

abbrev pub invariant-loop-turn : goal.invariant-loop-turn
invariant-loop-turn l = AllAgree l.waiting.items → AgreeIn l.graph l.fn.left.0 l.fn.right.0
