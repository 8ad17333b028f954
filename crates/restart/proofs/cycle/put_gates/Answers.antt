-- The gate that the loop is at is written to its own signal.
use Rattle.std.proofs.Common.{◌≡◌, map, get_or, length, subst, ap, arith, None}
use Rattle.std.specs.Prelude.{IfSome}
use Rattle.std.proofs.lemmas.Option.{slice_get_within}
use Rattle.flat_net.specs.declared.signals.Signal.{Signal}
use Rattle.flat_net.specs.declared.parts.Gate.{Gate}
use Rattle.flat_net.specs.View.{cover_of}
use Rattle.circuit_laws.specs.start_laws.Known.{cover_three}
use Rattle.cycle_sim.proofs.Lists.{item_at, gate_within}
use Rattle.restart.proofs.Bits.{inputs_by_gate, latches_by_gate, gates_more}
use Rattle.restart.proofs.cycle.put_gates.Goals as goal

pub bounds-values-gate : goal.bounds-values-gate
bounds-values-gate c =
    let at = item_at c.args.net.now.gates _ c.loop-j.j c.gate-item.result c.gates-gate-items.ensures c.loop-j-test.true c.gate-item.is in
    let within = gate_within c.args.net.now c.keeps.ensures.sound c.loop-j.j c.gate-item.result at in
    omega (arith, within, c.loop-j.auto.values, c.requires)

pub loop-j-preserved : goal.loop-j-preserved
loop-j-preserved c =
    let net = c.args.net.now in
    let sound = c.keeps.ensures.sound in
    let gate = c.gate-item.result in
    let values = c.loop-j.values in
    let at = item_at net.gates _ c.loop-j.j gate c.gates-gate-items.ensures c.loop-j-test.true c.gate-item.is in
    let within = gate_within net sound c.loop-j.j gate at in
    let value : c.gate_three-value.result ≡ cover_three (cover_of net.covers gate) (map (λ (f : Signal). get_or values f.0 None) gate.fanins) =
    subst (λ o. IfSome o (λ (g : Gate). c.gate_three-value.result ≡ cover_three (cover_of net.covers g) (map (λ (f : Signal). get_or values f.0 None) g.fanins))) at c.gate_three-value.ensures in (
      λ columns row before. inputs_by_gate net sound values c.loop-j.j gate c.gate_three-value.result at columns row (c.loop-j.invariant.0 columns row before),
      λ latches before. latches_by_gate net sound values c.loop-j.j gate c.gate_three-value.result at latches (c.loop-j.invariant.1 latches before),
      gates_more net sound values c.loop-j.j gate c.gate_three-value.result at (omega (arith, within, c.loop-j.auto.values, c.requires)) value c.loop-j.invariant.2,
    )

pub returns-clause-put : goal.returns-clause-put
returns-clause-put c = λ columns row latches inputs before. record {
  inputs = c.loop-j.invariant.0 columns row inputs;
  latches_are = c.loop-j.invariant.1 latches before;
  gates = λ j g at. c.loop-j.invariant.2 j g (let w = slice_get_within c.args.net.now.gates j g at in let e = ap length c.gates-gate-items.ensures in omega (arith, w, e, c.loop-j-test.false)) at;
}
