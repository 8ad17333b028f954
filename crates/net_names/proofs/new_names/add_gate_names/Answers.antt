use Rattle.flat_net.proofs.Places.{out_within}
use Rattle.net_names.proofs.Copies.{item_at}
use Rattle.net_names.proofs.new_names.add_gate_names.Goals as goal

pub name-requires : goal.name-requires
name-requires c =
    let n = c.args.net.now in
    out_within n c.keeps.ensures.sound c.loop-gate.gate-index c.gate-item.result (item_at n.gates _ c.loop-gate.gate-index c.gate-item.result c.gates-gate-items.ensures c.loop-gate-test.true c.gate-item.is)
