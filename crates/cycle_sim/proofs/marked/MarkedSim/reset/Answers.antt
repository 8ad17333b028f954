-- The power-up is that of the initial values.
use Rattle.std.proofs.Common.{[], List, Bool, subst}
use Rattle.std.specs.Prelude.{IfOk}
use Rattle.cycle_sim.specs.View.{HasMarkedRun}
use Rattle.cycle_sim.proofs.marked.MarkedSim.reset.Goals as goal

pub returns-clause-run : goal.returns-clause-run
returns-clause-run c = subst (λ (bits : List Bool). IfOk c.new.result (λ marked. HasMarkedRun marked bits [])) c.in_ok-power.ensures.bits c.new.ensures.run
