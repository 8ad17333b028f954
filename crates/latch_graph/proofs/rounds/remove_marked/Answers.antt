use Rattle.std.proofs.Common.{◌≡◌, length, refl, sym, ap, arith}
use Rattle.std.proofs.lemmas.Option.{slice_get_read, slice_get_within}
use Rattle.signal_graph.specs.flat_net.LatchAt.{LatchAt}
use Rattle.latch_graph.proofs.rounds.remove_marked.Goals as goal

pub remove_if-requires : goal.remove_if-requires
remove_if-requires c =
    let latches = c.args.latches.now in
    let l = c.index-latches-j.result in
    let at = slice_get_read latches (length latches) c.loop-j.j l refl c.loop-j-test.true c.index-latches-j.is in
    let node = c.requires.nodes.out c.loop-j.j l at in
    let below = slice_get_within c.args.nodes.now l.out.0 node.0 node.1 in
    omega (arith, below, ap (λ (x : LatchAt). x.out.0) c.index-latches-j.is, c.loop-j.auto.states, c.requires.size)
