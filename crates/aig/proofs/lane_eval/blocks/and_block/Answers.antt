-- Lanes of 64 bits.
use Rattle.aig.proofs.lane_eval.Lanes.{and-block}
use Rattle.aig.proofs.lane_eval.blocks.and_block.Goals as goal

pub returns-clause-block : goal.returns-clause-block
returns-clause-block c = and-block c.args.flip_l c.args.flip_r c.args.l c.args.r c.flip.result c.flip-2.result c.fits-l c.fits-r c.flip.ensures c.flip-2.ensures
