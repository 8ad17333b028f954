use Rattle.std.proofs.Common.{◌∙◌, Some, ap}
use Rattle.std.proofs.lemmas.Option.{slice_get_within}
use Rattle.flat_net.proofs.Drivers.{driven_gate, driven_latch}
use Rattle.tree_graph.proofs.reads.push_reads.Goals as goal

pub gate_of-requires : goal.gate_of-requires
gate_of-requires c =
    let n = c.args.net.now in
    let g = driven_gate n c.keeps.ensures.sound c.args.place.1 c.in-Gate.j (c.driver.ensures ∙ ap Some c.in-Gate.is) in
    slice_get_within n.gates c.in-Gate.j g.0 g.1

pub latch_of-requires : goal.latch_of-requires
latch_of-requires c =
    let n = c.args.net.now in
    let l = driven_latch n c.keeps.ensures.sound c.args.place.1 c.in-Latch.j (c.driver.ensures ∙ ap Some c.in-Latch.is) in
    slice_get_within n.latches c.in-Latch.j l.0 l.1
