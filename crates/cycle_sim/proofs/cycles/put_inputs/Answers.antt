-- The input that the loop is at is written to its own signal.
use Rattle.std.proofs.Common.{◌<◌, length, ap, arith}
use Rattle.std.proofs.lemmas.Option.{slice_get_within}
use Rattle.cycle_sim.proofs.Lists.{item_at, input_within}
use Rattle.cycle_sim.proofs.Values.{inputs_more}
use Rattle.cycle_sim.proofs.cycles.put_inputs.Goals as goal

pub bounds-values-port : goal.bounds-values-port
bounds-values-port c =
    let at = item_at c.args.net.now.inputs _ c.loop-i.i c.port-item.result c.inputs-port-items.ensures c.loop-i-test.true c.port-item.is in
    let within = input_within c.args.net.now c.keeps.ensures.sound c.loop-i.i c.port-item.result at in
    omega (arith, within, c.loop-i.auto.values, c.requires.values)

pub loop-i-preserved : goal.loop-i-preserved
loop-i-preserved c =
    let at = item_at c.args.net.now.inputs _ c.loop-i.i c.port-item.result c.inputs-port-items.ensures c.loop-i-test.true c.port-item.is in
    let within = input_within c.args.net.now c.keeps.ensures.sound c.loop-i.i c.port-item.result at in
    let below : c.port-item.result.signal.0 < length c.loop-i.values = omega (arith, within, c.loop-i.auto.values, c.requires.values) in
    inputs_more c.args.net.now c.args.inputs.now c.loop-i.values c.loop-i.i c.port-item.result _ at below c.loop-i.invariant

pub returns-clause-put : goal.returns-clause-put
returns-clause-put c = λ v has i port at.
    c.loop-i.invariant v has i port (let w = slice_get_within c.args.net.now.inputs i port at in let e = ap length c.inputs-port-items.ensures in omega (arith, w, e)) at
