use Rattle.std.proofs.Common.{slice_get, subst}
use Rattle.std.specs.Prelude.{IfSome}
use Rattle.flat_net.specs.declared.parts.Port.{Port}
use Rattle.cycle_sim.specs.View.{MarkedView, IsLatest}
use Rattle.cycle_sim.proofs.marked.MarkedSim.output.Goals as goal

pub returns : goal.returns
returns c = subst (λ (k : MarkedView). IfSome (slice_get k.sim.net.outputs c.args.i) (λ (port : Port). IsLatest k.sim port.signal.0 c.output.result)) c.self.view_is c.output.ensures
