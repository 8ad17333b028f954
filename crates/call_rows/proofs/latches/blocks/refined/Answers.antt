-- The numbers are those of the inputs, and small.
use Rattle.std.proofs.Common.{◌∙◌, length, ap}
use Rattle.call_rows.proofs.latches.blocks.refined.Goals as goal

pub refine-requires-clause-long : goal.refine-requires-clause-long
refine-requires-clause-long c = (c.in-Ok.ensures.each ∙ ap length c.inputs.ensures, c.in-Ok-numbers.ensures.each ∙ ap length c.inputs-2.ensures)

pub refine-requires-clause-small : goal.refine-requires-clause-small
refine-requires-clause-small c = (c.in-Ok.ensures.small, c.in-Ok-numbers.ensures.small)
