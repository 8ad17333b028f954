-- One reading more, and all of them.
use Rattle.std.proofs.Common.{◌≡◌, ◌≤◌, List, Some, length, get_or, refl, subst, arith}
use Rattle.std.specs.Prelude.{slice_get}
use Rattle.std.proofs.lemmas.Option.{slice_get-get_or, slice_get_read}
use Rattle.latch_graph.specs.minimal_cut.graph_components.flat_net.Signal.{Signal}
use Rattle.latch_graph.proofs.minimal_cut.Turned.{up_to_more, up_to_next}
use Rattle.latch_graph.proofs.minimal_cut.readers.turn_reads.Goals as goal

pub loop-k-preserved : goal.loop-k-preserved
loop-k-preserved c =
    let here = slice_get_read c.args.nodes.now (length c.args.nodes.now) c.args.s c.index-nodes-s.result refl c.requires.signal c.index-nodes-s.is in
    let read = subst (λ (z : List Signal). slice_get z c.loop-k.k ≡ Some (get_or c.as_slice-reads.result.now c.loop-k.k (record { 0 = 0 }))) c.as_slice-reads.ensures (slice_get-get_or c.as_slice-reads.result.now c.loop-k.k (record { 0 = 0 }) c.loop-k-test.true) in
    let inside = c.requires.within c.args.s c.loop-k.k c.index-nodes-s.result (get_or c.as_slice-reads.result.now c.loop-k.k (record { 0 = 0 })) here read in
    let there = slice_get-get_or c.loop-k.readers (get_or c.as_slice-reads.result.now c.loop-k.k (record { 0 = 0 })).0 c.index-readers-reads.result (omega (arith, inside, c.loop-k.invariant.size)) in
    up_to_more c.args.nodes.now c.args.s c.loop-k.k c.loop-k.readers c.index-nodes-s.result (get_or c.as_slice-reads.result.now c.loop-k.k (record { 0 = 0 }))
    (get_or c.loop-k.readers (get_or c.as_slice-reads.result.now c.loop-k.k (record { 0 = 0 })).0 c.index-readers-reads.result) c.add_reader.new.node c.loop-k.invariant here read there c.in_ok-add_reader.ensures

pub returns : goal.returns
returns c =
    let here = slice_get_read c.args.nodes.now (length c.args.nodes.now) c.args.s c.index-nodes-s.result refl c.requires.signal c.index-nodes-s.is in
    up_to_next c.args.nodes.now c.args.s c.loop-k.k c.loop-k.readers c.index-nodes-s.result here (subst (λ (z : List Signal). length z ≤ c.loop-k.k) c.as_slice-reads.ensures c.loop-k-test.false) c.loop-k.invariant

pub bounds-readers-reads : goal.bounds-readers-reads
bounds-readers-reads c =
    let r = get_or c.as_slice-reads.result.now c.loop-k.k (record { 0 = 0 }) in
    let here = slice_get_read c.args.nodes.now (length c.args.nodes.now) c.args.s c.index-nodes-s.result refl c.requires.signal c.index-nodes-s.is in
    let read = subst (λ (z : List Signal). slice_get z c.loop-k.k ≡ Some r) c.as_slice-reads.ensures (slice_get-get_or c.as_slice-reads.result.now c.loop-k.k (record { 0 = 0 }) c.loop-k-test.true) in
    omega (arith, c.requires.within c.args.s c.loop-k.k c.index-nodes-s.result r here read, c.loop-k.invariant.size)
