-- Eight words of a list of words.
use Rattle.aig.proofs.lane_eval.Signed.{chunk-block}
use Rattle.aig.proofs.lane_eval.variables.block_at.Goals as goal

pub returns-clause-block : goal.returns-clause-block
returns-clause-block c = chunk-block c.args.words.now c.args.at c.requires c.type_inv.words
