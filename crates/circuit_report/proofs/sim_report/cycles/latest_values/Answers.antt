use Rattle.std.proofs.Common.{◌≡◌, Bool, List, [], ◌∷◌, ◌++◌, length, slice_get, sym, ◌∙◌, ap, subst, arith, length-append}
use Rattle.std.specs.Prelude.{IfSome}
use Rattle.flat_net.specs.declared.parts.Port.{Port}
use Rattle.flat_net.proofs.Nets.{some_at}
use Rattle.cycle_sim.specs.View.{IsLatest}
use Rattle.circuit_report.proofs.sim_report.Places.{each_more}
use Rattle.circuit_report.proofs.sim_report.cycles.latest_values.Goals as goal

pub loop-i-preserved : goal.loop-i-preserved
loop-i-preserved c =
    let s = c.args.sim.now.sim in
    let bits = c.loop-i.bits.items in
    let port = some_at s.net.outputs c.loop-i.i (omega (arith, c.loop-i-test.true, c.requires.count)) in
    let value : IsLatest s port.0.signal.0 c.output.result = subst (λ o. IfSome o (λ (p : Port). IsLatest s p.signal.0 c.output.result)) port.1 c.output.ensures in
    let grown : c.push.new.self.items ≡ bits ++ c.output.result ∷ [] = c.in_ok-push.ensures.items in
    let size = ap length grown in (
      omega (arith, size, length-append bits (c.output.result ∷ []), c.loop-i.invariant.0),
      λ k p bit at_p at_bit. each_more (λ (q : Port) (b : Bool). IsLatest s q.signal.0 b) s.net.outputs bits port.0 c.output.result (ap (slice_get s.net.outputs) c.loop-i.invariant.0 ∙ port.1) value
          c.loop-i.invariant.1 k p bit at_p (sym (ap (λ (bs : List Bool). slice_get bs k) grown) ∙ at_bit),
    )
