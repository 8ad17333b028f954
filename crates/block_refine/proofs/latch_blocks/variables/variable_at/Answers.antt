-- By what drives the signal.
use Rattle.std.proofs.Common.{◌∙◌, Some, ap}
use Rattle.block_refine.proofs.latch_blocks.Sources.{input_inside, latch_inside}
use Rattle.block_refine.proofs.latch_blocks.variables.variable_at.Goals as goal

pub variable_in-requires : goal.variable_in-requires
variable_in-requires c = input_inside c.args.net.now c.keeps.ensures.sound c.args.variables.now c.requires.variables c.args.s.0 c.in-Input.i (c.driver.ensures ∙ ap Some c.in-Input.is)

pub variable_in-requires-in-Latch : goal.variable_in-requires-in-Latch
variable_in-requires-in-Latch c = latch_inside c.args.net.now c.keeps.ensures.sound c.args.variables.now c.requires.variables c.args.s.0 c.in-Latch.j (c.driver.ensures ∙ ap Some c.in-Latch.is)
