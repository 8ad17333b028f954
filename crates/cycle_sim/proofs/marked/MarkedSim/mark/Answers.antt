use Rattle.std.proofs.Common.{◌<◌, ◌∙◌, length, get_or, slice_get, sym, ap, subst, arith}
use Rattle.std.specs.Prelude.{IfSome, All}
use Rattle.flat_net.specs.declared.parts.Port.{Port}
use Rattle.flat_net.specs.View.{NetView}
use Rattle.cycle_sim.specs.View.{MarkedView, IsLatestMark}
use Rattle.cycle_sim.proofs.MarkedRuns.{mark_is}
use Rattle.cycle_sim.proofs.marked.MarkedSim.mark.Goals as goal

pub returns : goal.returns
returns c =
    let net = c.self.invariant.0 in
    let outputs = c.outputs.ensures ∙ ap (λ (k : NetView). k.outputs) (sym net) in
    let size = ap length outputs in
    let same = ap (λ (k : MarkedView). length k.sim.net.outputs) c.self.view_is in
    subst (λ (k : MarkedView). IfSome (slice_get k.sim.net.outputs c.args.i) (λ (port : Port). IsLatestMark k port.signal.0 c.index.result.now)) c.self.view_is
    (mark_is _ c.outputs.result.now c.args.i c.index-outputs-i.result c.index.result.now outputs (omega (arith, size, same, c.requires.place)) c.index-outputs-i.is
    (subst (λ (k : MarkedView). 0 < k.sim.cycles) (sym c.self.view_is) c.requires.begun)
    (subst (λ (k : NetView). All (λ (port : Port). port.signal.0 < length k.drivers) k.outputs) (sym net) c.keeps.ensures.sound.outputs)
    (c.index.ensures ∙ ap (λ (q : Port). get_or c.self.inside.marks.items q.signal.0 c.index.result.now) (sym c.index-outputs-i.is)))
