use Rattle.pair_decide.proofs.Trivial.{trivial-same}
use Rattle.pair_decide.proofs.decision.decide.Goals as goal

pub returns-then-is_trivial : goal.returns-then-is_trivial
returns-then-is_trivial c = let trivial = c.is_trivial.ensures.0 c.if-is_trivial.true in (trivial, trivial-same c.args.aig.now c.args.query.now c.keeps.ensures.graph trivial)
