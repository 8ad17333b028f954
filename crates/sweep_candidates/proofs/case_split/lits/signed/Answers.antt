-- The complement stands for the complement.
use Rattle.std.proofs.Common.{◌≡◌, ◌%◌}
use Rattle.sweep_candidates.proofs.case_split.Standing.{under-odd}
use Rattle.sweep_candidates.proofs.case_split.lits.signed.Goals as goal

pub returns-then-is_complement : goal.returns-then-is_complement
returns-then-is_complement c = λ v bit g h s.
    let odd : c.args.l.0 % 2 ≡ 1 = c.is_complement.ensures.0 c.if-is_complement.true in
    under-odd v bit g h c.args.l.0 c.args.y.0 c.not.result.0 odd c.not.ensures.literal s
