-- The node's own, or that of `to` with its sign.
use Rattle.std.proofs.Common.{◌≡◌, ◌*◌, ◌/◌, ℕ, subst, arith}
use Rattle.swept_queries.specs.node_agreement.Standing.{StandsFor, plainly}
use Rattle.swept_queries.proofs.node_agreement.Stood.{stand_in-at}
use Rattle.merged_graph.proofs.Standing.{back}
use Rattle.merged_graph.proofs.stand_ins.literal_of.Goals as goal

pub returns-then-from-n : goal.returns-then-from-n
returns-then-from-n c = λ g h are s.
    let node : c.args.from.0 / 2 ≡ c.args.n = omega (arith, c.if-from-n.true) in
    subst (λ (n : ℕ). StandsFor plainly g h (2 * n) c.signed.result.0) node (back g h c.args.from.0 c.args.to.0 s c.signed.result.0 c.signed.ensures.is)

pub returns-else-from-n : goal.returns-else-from-n
returns-else-from-n c = λ g h are s. stand_in-at g h c.args.lits.now c.args.n _ c.requires are
