use Rattle.std.proofs.Common.{◌≡◌, ◌%◌}
use Rattle.swept_queries.proofs.node_agreement.Stood.{stands-odd}
use Rattle.swept_queries.proofs.node_agreement.signs.signed.Goals as goal

pub returns-then-is_complement-clause-stands : goal.returns-then-is_complement-clause-stands
returns-then-is_complement-clause-stands c = λ with g h s.
    let odd : c.args.l.0 % 2 ≡ 1 = c.is_complement.ensures.0 c.if-is_complement.true in
    stands-odd with g h c.args.l.0 c.args.y.0 c.not.result.0 odd c.not.ensures.literal s
