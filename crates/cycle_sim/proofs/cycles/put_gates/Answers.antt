-- The gate that the loop is at is written to its own signal.
use Rattle.std.proofs.Common.{◌≡◌, ◌<◌, length, map, get_or, false, ap, subst, arith}
use Rattle.std.specs.Prelude.{IfSome}
use Rattle.std.proofs.lemmas.Option.{slice_get_within}
use Rattle.circuit_theory.specs.Cover.{cover_value}
use Rattle.flat_net.specs.declared.parts.Gate.{Gate}
use Rattle.flat_net.specs.View.{cover_of}
use Rattle.cycle_sim.specs.Steps.{IsRight}
use Rattle.cycle_sim.proofs.Lists.{item_at, gate_within, all_driven}
use Rattle.cycle_sim.proofs.Values.{gates_more}
use Rattle.cycle_sim.proofs.cycles.put_gates.Goals as goal

pub bounds-values-gate : goal.bounds-values-gate
bounds-values-gate c =
    let at = item_at c.args.net.now.gates _ c.loop-j.j c.gate-item.result c.gates-gate-items.ensures c.loop-j-test.true c.gate-item.is in
    let within = gate_within c.args.net.now c.keeps.ensures.sound c.loop-j.j c.gate-item.result at in
    omega (arith, within, c.loop-j.auto.values, c.requires)

pub loop-j-preserved : goal.loop-j-preserved
loop-j-preserved c =
    let net = c.args.net.now in
    let gate = c.gate-item.result in
    let at = item_at net.gates _ c.loop-j.j gate c.gates-gate-items.ensures c.loop-j-test.true c.gate-item.is in
    let within = gate_within net c.keeps.ensures.sound c.loop-j.j gate at in
    let below : gate.out.0 < length c.loop-j.values = omega (arith, within, c.loop-j.auto.values, c.requires) in
    let value : c.eval_gate-value.result ≡ cover_value (cover_of net.covers gate) (map (λ f. get_or c.loop-j.values f.0 false) gate.fanins) =
    subst (λ o. IfSome o (λ (g : Gate). c.eval_gate-value.result ≡ cover_value (cover_of net.covers g) (map (λ f. get_or c.loop-j.values f.0 false) g.fanins))) at c.eval_gate-value.ensures in
    λ v meets inputs latches.
    gates_more net c.keeps.ensures.sound c.loop-j.values c.loop-j.j gate c.eval_gate-value.result at below value v meets (c.loop-j.invariant v meets inputs latches)

pub returns-clause-put : goal.returns-clause-put
returns-clause-put c = λ v meets inputs latches.
    let have = c.loop-j.invariant v meets inputs latches in
    all_driven c.args.net.now c.keeps.ensures.sound (IsRight v c.loop-j.values) have.inputs have.latches (λ k g h at. have.gates k g (let w = slice_get_within c.args.net.now.gates k g at in let e = ap length c.gates-gate-items.ensures in omega (arith, w, e)) at)
