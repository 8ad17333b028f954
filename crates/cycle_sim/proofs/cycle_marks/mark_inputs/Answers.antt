-- The input that the loop is at is marked.
use Rattle.std.proofs.Common.{◌<◌, length, ap, arith}
use Rattle.std.proofs.lemmas.Option.{slice_get_within}
use Rattle.cycle_sim.proofs.Lists.{item_at, input_within}
use Rattle.cycle_sim.proofs.Marks.{inputs_marked_more}
use Rattle.cycle_sim.proofs.cycle_marks.mark_inputs.Goals as goal

pub bounds-marks-port : goal.bounds-marks-port
bounds-marks-port c =
    let at = item_at c.args.net.now.inputs _ c.loop-port.port-index c.port-item.result c.inputs-port-items.ensures c.loop-port-test.true c.port-item.is in
    let within = input_within c.args.net.now c.keeps.ensures.sound c.loop-port.port-index c.port-item.result at in
    omega (arith, within, c.loop-port.auto.marks, c.requires)

pub loop-port-preserved : goal.loop-port-preserved
loop-port-preserved c =
    let at = item_at c.args.net.now.inputs _ c.loop-port.port-index c.port-item.result c.inputs-port-items.ensures c.loop-port-test.true c.port-item.is in
    let within = input_within c.args.net.now c.keeps.ensures.sound c.loop-port.port-index c.port-item.result at in
    let below : c.port-item.result.signal.0 < length c.loop-port.marks = omega (arith, within, c.loop-port.auto.marks, c.requires) in
    λ enabled run t. inputs_marked_more c.args.net.now enabled run t c.loop-port.marks c.loop-port.port-index c.port-item.result at below (c.loop-port.invariant enabled run t)

pub returns-clause-put : goal.returns-clause-put
returns-clause-put c = λ enabled run t i port at. c.loop-port.invariant enabled run t i port (let w = slice_get_within c.args.net.now.inputs i port at in let e = ap length c.inputs-port-items.ensures in omega (arith, w, e)) at
