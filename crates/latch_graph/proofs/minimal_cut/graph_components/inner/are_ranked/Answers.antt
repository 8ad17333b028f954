-- One node more.
use Rattle.std.proofs.Common.{◌≤◌, ℕ, List, length, get_or, refl, subst, arith}
use Rattle.std.specs.List.{All}
use Rattle.std.proofs.lemmas.Option.{slice_get_read}
use Rattle.signal_graph.specs.flat_net.Signal.{Signal}
use Rattle.latch_graph.proofs.minimal_cut.graph_components.Ranks.{ranked_more, ranked_all}
use Rattle.latch_graph.proofs.minimal_cut.graph_components.inner.are_ranked.Goals as goal

pub loop-s-init : goal.loop-s-init
loop-s-init c = λ s k node r below. absurd (omega arith)

pub loop-s-preserved : goal.loop-s-preserved
loop-s-preserved c =
    let at = slice_get_read c.args.nodes.now (length c.args.nodes.now) c.loop-s.s c.index-nodes-s.result refl c.loop-s-test.true c.index-nodes-s.is in
    let all = subst (λ (m : ℕ). All (λ (r : Signal). get_or c.args.labels.now r.0 0 ≤ m) c.as_slice.result.now) c.number_at.ensures (c.are_at_most.ensures c.if-not-are_at_most.false) in
    ranked_more c.args.nodes.now c.args.labels.now c.loop-s.s c.index-nodes-s.result at (subst (λ (l : List Signal). All (λ (r : Signal). get_or c.args.labels.now r.0 0 ≤ get_or c.args.labels.now c.loop-s.s 0) l) c.as_slice.ensures all) c.loop-s.invariant

pub returns : goal.returns
returns c = λ e. ranked_all c.args.nodes.now c.args.labels.now c.loop-s.s (omega (arith, c.loop-s-test.false)) c.loop-s.invariant
