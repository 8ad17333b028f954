use Rattle.block_refine.proofs.latch_blocks.Readings.{values_have_readings}
use Rattle.block_refine.proofs.latch_blocks.laws.values_have_readings.Goals as goal

pub returns : goal.returns
returns c = values_have_readings
