-- Cycles stay within the readings that the walks go along.
use Rattle.std.proofs.Common.{◌∙◌, ℕ, List, length, sym, ap, subst}
use Rattle.latch_graph.specs.minimal_cut.graph_components.Node.{Node}
use Rattle.latch_graph.specs.minimal_cut.graph_components.Inner.{AreInner}
use Rattle.latch_graph.specs.minimal_cut.Readers.{WayBack, AreReaders}
use Rattle.latch_graph.specs.minimal_cut.Marks.{IsBlocked}
use Rattle.latch_graph.proofs.minimal_cut.WayLemmas.{way_there, way_within}
use Rattle.latch_graph.proofs.minimal_cut.trial.closes_at.Goals as goal

pub closes_cycle-requires-clause-readers : goal.closes_cycle-requires-clause-readers
closes_cycle-requires-clause-readers c =
    subst (λ (z : List Node). AreReaders z c.as_slice.result.now) (sym c.as_slice-nodes.ensures.value) (subst (AreReaders c.args.field.now.inner.items) (sym c.as_slice.ensures.value) c.requires.field.readers_are)

pub closes_cycle-requires-clause-marks : goal.closes_cycle-requires-clause-marks
closes_cycle-requires-clause-marks c = record {
  size = c.requires.marks.size ∙ sym (ap length c.as_slice-nodes.ensures.value ∙ c.requires.field.inner_are.size);
  early = c.requires.marks.early;
}

pub returns-clause-yes : goal.returns-clause-yes
returns-clause-yes c = λ e.
    let inner = subst (AreInner c.args.field.now.graph.now.nodes) (sym c.as_slice-nodes.ensures.value) c.requires.field.inner_are in
    subst (λ (q : ℕ). WayBack c.args.field.now.graph.now.nodes (IsBlocked c.closes_cycle.new.marks) q q) c.signal_at-root.ensures
    (way_there c.args.field.now.graph.now.nodes c.as_slice-nodes.result.now inner (IsBlocked c.closes_cycle.new.marks) (c.in_ok-found.ensures.yes e))

pub returns-clause-no : goal.returns-clause-no
returns-clause-no c = λ e way.
    let inner = subst (AreInner c.args.field.now.graph.now.nodes) (sym c.as_slice-nodes.ensures.value) c.requires.field.inner_are in
    c.in_ok-found.ensures.no e
    (way_within c.args.field.now.graph.now.nodes c.as_slice-nodes.result.now inner (IsBlocked c.closes_cycle.new.marks) c.signal_at-root.result
    (subst (λ (q : ℕ). WayBack c.args.field.now.graph.now.nodes (IsBlocked c.closes_cycle.new.marks) q q) (sym c.signal_at-root.ensures) way))

pub returns-clause-marks : goal.returns-clause-marks
returns-clause-marks c = record {
  size = c.in_ok-found.ensures.marks.size ∙ (ap length c.as_slice-nodes.ensures.value ∙ c.requires.field.inner_are.size);
  early = c.in_ok-found.ensures.marks.early;
}
