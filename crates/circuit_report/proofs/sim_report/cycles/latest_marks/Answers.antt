use Rattle.std.proofs.Common.{◌≡◌, Bool, List, [], ◌∷◌, ◌++◌, length, slice_get, sym, ◌∙◌, ap, subst, arith, length-append}
use Rattle.std.specs.Prelude.{IfSome}
use Rattle.flat_net.specs.declared.parts.Port.{Port}
use Rattle.flat_net.proofs.Nets.{some_at}
use Rattle.cycle_sim.specs.View.{IsLatestMark}
use Rattle.circuit_report.proofs.sim_report.Places.{each_more}
use Rattle.circuit_report.proofs.sim_report.cycles.latest_marks.Goals as goal

pub loop-i-preserved : goal.loop-i-preserved
loop-i-preserved c =
    let m = c.args.sim.now in
    let bits = c.loop-i.bits.items in
    let port = some_at m.sim.net.outputs c.loop-i.i (omega (arith, c.loop-i-test.true, c.requires.count)) in
    let value : IsLatestMark m port.0.signal.0 c.mark.result = subst (λ o. IfSome o (λ (p : Port). IsLatestMark m p.signal.0 c.mark.result)) port.1 c.mark.ensures in
    let grown : c.push.new.self.items ≡ bits ++ c.mark.result ∷ [] = c.in_ok-push.ensures.items in
    let size = ap length grown in (
      omega (arith, size, length-append bits (c.mark.result ∷ []), c.loop-i.invariant.0),
      λ k p bit at_p at_bit. each_more (λ (q : Port) (b : Bool). IsLatestMark m q.signal.0 b) m.sim.net.outputs bits port.0 c.mark.result (ap (slice_get m.sim.net.outputs) c.loop-i.invariant.0 ∙ port.1) value
          c.loop-i.invariant.1 k p bit at_p (sym (ap (λ (bs : List Bool). slice_get bs k) grown) ∙ at_bit),
    )
