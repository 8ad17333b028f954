use Rattle.std.proofs.Common.{subst}
use Rattle.pair_decide.proofs.Read.{IfOk-then}
use Rattle.swept_queries.specs.node_agreement.Answers.{IsProved}
use Rattle.swept_queries.proofs.node_agreement.Stood.{chosen-none}
use Rattle.swept_queries.proofs.node_agreement.proof.prove.Goals as goal

pub prove_by-requires-clause-chosen : goal.prove_by-requires-clause-chosen
prove_by-requires-clause-chosen c = chosen-none c.args.graph.now

pub returns-clause-same : goal.returns-clause-same
returns-clause-same c = IfOk-then c.prove_by.result _ _ (λ p told e. subst (IsProved c.args.graph.now c.args.x.0 c.args.k.0) e told) c.prove_by.ensures

pub returns-clause-apart : goal.returns-clause-apart
returns-clause-apart c = IfOk-then c.prove_by.result _ _ (λ p told m e. subst (IsProved c.args.graph.now c.args.x.0 c.args.k.0) e told) c.prove_by.ensures
