use Rattle.std.proofs.Common.{◌/◌}
use Rattle.swept_queries.specs.node_agreement.Standing.{plainly}
use Rattle.swept_queries.proofs.node_agreement.Stood.{chosen-at, stands-itself}
use Rattle.swept_queries.proofs.sweep.growth.follow.Goals as goal

pub returns-then-n-chosen : goal.returns-then-n-chosen
returns-then-n-chosen c = λ g are within.
    c.signed.ensures.stands plainly g g (chosen-at g c.args.chosen.now (c.args.x.0 / 2) _ c.if-n-chosen.true are)

pub returns-else-n-chosen : goal.returns-else-n-chosen
returns-else-n-chosen c = λ g are within. stands-itself g c.args.x.0 within
