-- The readings that can be part of a cycle are readings of the graph.
use Rattle.std.proofs.Common.{List, length, sym, ap, subst, arith}
use Rattle.latch_graph.specs.minimal_cut.graph_components.Node.{Node}
use Rattle.latch_graph.specs.minimal_cut.graph_components.Inner.{AreInner}
use Rattle.latch_graph.specs.minimal_cut.Readers.{AreReaders}
use Rattle.latch_graph.proofs.minimal_cut.WayLemmas.{inner_within}
use Rattle.latch_graph.proofs.minimal_cut.trial.field_of.Goals as goal

pub inner_nodes-requires : goal.inner_nodes-requires
inner_nodes-requires c = omega (arith, ap length c.nodes.ensures, c.keeps.ensures.few)

pub readers_of-requires : goal.readers_of-requires
readers_of-requires c =
    let inner = subst (λ (z : List Node). AreInner z c.as_slice.result.now) c.nodes.ensures (subst (AreInner c.nodes.result.now) (sym c.as_slice.ensures.value) c.in_ok-inner.ensures) in
    record {
      few = omega (arith, inner.size, c.keeps.ensures.few);
      within = inner_within c.args.graph.now.nodes c.as_slice.result.now inner c.keeps.ensures.within;
    }

pub returns-clause-field : goal.returns-clause-field
returns-clause-field c =
    record {
      are = c.keeps.ensures;
      within = c.requires.within;
      once = c.requires.once;
      inner_are = subst (λ (z : List Node). AreInner z c.in_ok-inner.inner.items) c.nodes.ensures c.in_ok-inner.ensures;
      readers_are = subst (λ (z : List Node). AreReaders z c.in_ok-readers.readers.items) c.as_slice.ensures.value c.in_ok-readers.ensures;
    }
