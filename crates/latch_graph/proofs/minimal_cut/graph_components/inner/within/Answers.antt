-- One node more.
use Rattle.std.proofs.Common.{◌∙◌, ◌==◌, ℕ, [], ◌∷◌, None, filter, length, get_or, refl, ap, subst, arith}
use Rattle.std.proofs.lemmas.List.{length-append}
use Rattle.std.proofs.lemmas.Option.{slice_get_read, slice_get_within}
use Rattle.signal_graph.specs.flat_net.Signal.{Signal}
use Rattle.signal_graph.specs.declared.nodes.Node.{Node}
use Rattle.latch_graph.specs.minimal_cut.graph_components.Inner.{IsInnerOf}
use Rattle.latch_graph.proofs.minimal_cut.graph_components.Ranks.{made_more}
use Rattle.latch_graph.proofs.minimal_cut.graph_components.inner.within.Goals as goal

pub loop-s-init : goal.loop-s-init
loop-s-init c = record { size = ap length c.in_ok-inner.ensures.items; made = λ s node below. absurd (omega arith) }

pub loop-s-preserved : goal.loop-s-preserved
loop-s-preserved c =
    let at = slice_get_read c.args.nodes.now (length c.args.nodes.now) c.loop-s.s c.index-nodes-s.result refl c.loop-s-test.true c.index-nodes-s.is in
    let made : Node = record { reads = c.in_ok-reads.reads; latch = None } in
    let same = c.in_ok-reads.ensures ∙ ap (filter (λ (r : Signal). get_or c.args.labels.now r.0 0 == c.number_at-label.result)) c.as_slice.ensures in
    record {
      size = omega (arith, ap length c.in_ok-push.ensures.items, length-append c.loop-s.inner.items (made ∷ []), c.loop-s.invariant.size);
      made = made_more c.args.nodes.now c.args.labels.now c.loop-s.s c.loop-s.inner.items c.push.new.self.items c.index-nodes-s.result made c.loop-s.invariant.size at c.in_ok-push.ensures.items
          (subst (λ (m : ℕ). IsInnerOf c.args.labels.now m c.index-nodes-s.result made) c.number_at-label.ensures same) c.loop-s.invariant.made;
    }

pub returns : goal.returns
returns c =
    record {
      labels = c.args.labels.now;
      ranked = c.requires.ranked;
      size = omega (arith, c.loop-s.invariant.size, c.loop-s-test.false, c.loop-s.auto.s-end);
      each = λ s node here. let l = slice_get_within c.args.nodes.now s node here in c.loop-s.invariant.made s node (omega (arith, l, c.loop-s-test.false)) here;
    }
