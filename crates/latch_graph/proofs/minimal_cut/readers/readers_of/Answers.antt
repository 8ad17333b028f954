use Rattle.std.proofs.Common.{◌≡◌, List, length, sym, subst, arith}
use Rattle.latch_graph.specs.minimal_cut.graph_components.Node.{Node}
use Rattle.latch_graph.proofs.minimal_cut.graph_components.Lists.{written_back}
use Rattle.latch_graph.specs.minimal_cut.Readers.{AreReaders}
use Rattle.latch_graph.proofs.minimal_cut.Turned.{up_to_all}
use Rattle.latch_graph.proofs.minimal_cut.readers.readers_of.Goals as goal

pub returns : goal.returns
returns c =
    let size : c.in_ok-readers.readers.len ≡ length c.turn_all.new.readers = omega (arith, c.as_mut_slice.ensures.len, c.turn_all.auto.readers) in
    subst (λ (z : List Node). AreReaders c.args.nodes.now z) (sym (written_back c.turn_all.new.readers _ c.in_ok-readers.readers.len size)) (up_to_all c.args.nodes.now c.turn_all.new.readers c.in_ok-turn_all.ensures)
