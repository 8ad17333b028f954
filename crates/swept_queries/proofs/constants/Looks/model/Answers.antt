use Rattle.swept_queries.proofs.node_agreement.Stood.{chosen-none}
use Rattle.swept_queries.proofs.constants.Looks.model.Goals as goal

pub prove_wholly-requires-clause-chosen : goal.prove_wholly-requires-clause-chosen
prove_wholly-requires-clause-chosen c = chosen-none c.args.aig.now
