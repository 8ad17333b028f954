use Rattle.block_refine.proofs.latch_blocks.Readings.{readings_are_values}
use Rattle.block_refine.proofs.latch_blocks.laws.readings_are_values.Goals as goal

pub returns : goal.returns
returns c = readings_are_values
