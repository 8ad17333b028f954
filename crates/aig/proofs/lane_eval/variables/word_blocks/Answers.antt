-- One block more.
use Rattle.aig.proofs.lane_eval.Signed.{words-step}
use Rattle.aig.proofs.lane_eval.variables.word_blocks.Goals as goal

pub loop-i-preserved : goal.loop-i-preserved
loop-i-preserved c = words-step c.args.words.now c.loop-i.i c.loop-i.blocks.items c.push.new.self.items c.block_at.result c.loop-i.invariant c.block_at.ensures.block c.block_at.ensures.words (c.in_ok-push.ensures {u = tt}).items
