-- The input that the loop is at is written to its own signal.
use Rattle.std.proofs.Common.{length, ap, arith}
use Rattle.std.proofs.lemmas.Option.{slice_get_within}
use Rattle.cycle_sim.proofs.Lists.{item_at, input_within}
use Rattle.restart.proofs.Bits.{inputs_more, column_at}
use Rattle.restart.proofs.cycle.put_inputs.Goals as goal

pub bounds-values-port : goal.bounds-values-port
bounds-values-port c =
    let at = item_at c.args.net.now.inputs _ c.loop-i.i c.port-item.result c.inputs-port-items.ensures c.loop-i-test.true c.port-item.is in
    let within = input_within c.args.net.now c.keeps.ensures.sound c.loop-i.i c.port-item.result at in
    omega (arith, within, c.loop-i.auto.values, c.requires.values)

pub loop-i-preserved : goal.loop-i-preserved
loop-i-preserved c =
    let net = c.args.net.now in
    let at = item_at net.inputs _ c.loop-i.i c.port-item.result c.inputs-port-items.ensures c.loop-i-test.true c.port-item.is in
    let column = column_at c.args.columns.now c.loop-i.i (let e = ap length c.inputs-port-items.ensures in omega (arith, c.loop-i-test.true, e, c.requires.columns)) in
    let within = input_within net c.keeps.ensures.sound c.loop-i.i c.port-item.result at in
    inputs_more net c.keeps.ensures.sound c.args.columns.now c.args.row.now c.loop-i.values c.loop-i.i _ c.port-item.result c.bit_at.result at column (omega (arith, within, c.loop-i.auto.values, c.requires.values)) c.bit_at.ensures c.loop-i.invariant

pub returns-clause-put : goal.returns-clause-put
returns-clause-put c = λ i k port at column.
    c.loop-i.invariant i k port (let w = slice_get_within c.args.net.now.inputs i port at in let e = ap length c.inputs-port-items.ensures in omega (arith, w, e, c.loop-i-test.false)) at column
