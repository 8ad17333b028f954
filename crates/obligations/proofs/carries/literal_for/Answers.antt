use Rattle.std.proofs.Common.{◌/◌, ◌<◌, length, arith}
use Rattle.swept_queries.specs.node_agreement.Standing.{plainly}
use Rattle.swept_queries.proofs.node_agreement.Stood.{stand_in-at}
use Rattle.obligations.proofs.carries.literal_for.Goals as goal

pub returns : goal.returns
returns c = λ g h are.
    let within : c.args.l.0 / 2 < length c.args.lits.now = omega arith in
    c.signed.ensures.stands plainly g h (stand_in-at g h c.args.lits.now (c.args.l.0 / 2) _ within are)
