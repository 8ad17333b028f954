-- The bits are those of the initial values, one for each latch.
use Rattle.std.proofs.Common.{◌∙◌, length, ap, ap₂}
use Rattle.cycle_sim.specs.Runs.{reset_bits}
use Rattle.cycle_sim.proofs.Starts.{length-reset_bits}
use Rattle.cycle_sim.proofs.initial_values.reset_power.Goals as goal

pub returns-clause-bits : goal.returns-clause-bits
returns-clause-bits c = c.from_vec.ensures ∙ (c.in_ok-bits.ensures ∙ ap₂ reset_bits c.latches.ensures c.as_slice.ensures)

pub returns-clause-fits : goal.returns-clause-fits
returns-clause-fits c =
    ap length (c.from_vec.ensures ∙ (c.in_ok-bits.ensures ∙ ap₂ reset_bits c.latches.ensures c.as_slice.ensures))
    ∙ length-reset_bits c.args.net.now.latches c.args.free.now c.requires
