-- Each place in its turn.
use Rattle.std.proofs.Common.{◌∙◌, ◌<◌, ℕ, List, [], ◌∷◌, ◌++◌, length, get_or, ap, arith, eqb}
use Rattle.std.proofs.lemmas.List.Filters.{dedup_is}
use Rattle.std.proofs.lemmas.Option.{slice_get_within, slice_get-get_or}
use Rattle.edbf_unfold.specs.declared.event_literals.event_walk.frames.Ways.{Ways}
use Rattle.edbf_unfold.proofs.ReachedNodes.{nodes_first, nodes_next, nodes_made}
use Rattle.edbf_unfold.proofs.unfolder.EventUnfolder.nodes_of.Goals as goal

pub loop-number-init : goal.loop-number-init
loop-number-init c = nodes_first c.args.self.now.circuit c.args.self.now.frames c.args.table.now c.args.ways.now c.push.new.self.items (c.in_ok-push.ensures.items ∙ ap (λ (l : List ℕ). l ++ 0 ∷ []) c.new-nodes.ensures.items)

pub put_node-requires : goal.put_node-requires
put_node-requires c =
    let d : Ways = record { onward = 0; high = 0 } in
    let inside : c.loop-number.number < length c.args.ways.now = (let k = slice_get_within c.args.table.now c.loop-number.number c.pair.result c.pair.ensures in omega (arith, k, c.requires.each)) in
    c.requires.on c.loop-number.number c.pair.result (get_or c.args.ways.now c.loop-number.number d) c.pair.ensures (slice_get-get_or c.args.ways.now c.loop-number.number d inside)

pub loop-number-preserved : goal.loop-number-preserved
loop-number-preserved c =
    let d : Ways = record { onward = 0; high = 0 } in
    let inside : c.loop-number.number < length c.args.ways.now = (let k = slice_get_within c.args.table.now c.loop-number.number c.pair.result c.pair.ensures in omega (arith, k, c.requires.each)) in
    nodes_next c.args.self.now.circuit c.args.self.now.frames c.args.table.now c.args.ways.now c.loop-number.number c.pair.result (get_or c.args.ways.now c.loop-number.number d) c.loop-number.nodes.items c.put_node.new.nodes.items c.pair.ensures
    (slice_get-get_or c.args.ways.now c.loop-number.number d inside) c.loop-number.invariant c.in_ok-put_node.ensures

pub returns : goal.returns
returns c =
    nodes_made c.args.self.now.circuit c.args.self.now.frames c.args.table.now c.args.ways.now c.loop-number.number c.loop-number.nodes.items c.sort.new.self.items c.from_vec.result (omega (arith, c.loop-number-test.false, c.len-number-end.ensures)) c.loop-number.invariant
    c.sort.ensures.permutation (c.from_vec.ensures ∙ dedup_is eqb c.sort.new.self.items c.dedup.new.self.items c.dedup.ensures.filtered)
