use Rattle.std.proofs.Common.{◌/◌}
use Rattle.swept_queries.specs.node_agreement.Standing.{plainly}
use Rattle.swept_queries.proofs.node_agreement.Stood.{chosen-at, stands-itself}
use Rattle.signal_refine.proofs.facts.follow.Goals as goal

pub returns-then-n-kept : goal.returns-then-n-kept
returns-then-n-kept c = λ g are within. c.signed.ensures.stands plainly g g (chosen-at g c.args.kept.now (c.args.l.0 / 2) _ c.if-n-kept.true are)

pub returns-else-n-kept : goal.returns-else-n-kept
returns-else-n-kept c = λ g are within. stands-itself g c.args.l.0 within
