use Rattle.swept_queries.proofs.node_agreement.Stood.{chosen-none}
use Rattle.swept_queries.proofs.node_agreement.proof.prove_over.Goals as goal

pub prove_in-requires : goal.prove_in-requires
prove_in-requires c = chosen-none c.args.graph.now
