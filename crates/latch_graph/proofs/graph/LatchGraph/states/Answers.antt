use Rattle.std.proofs.Common.{◌≡◌, ℕ, List, Some, slice_get, subst, sym}
use Rattle.latch_graph.specs.declared.states.State.{State}
use Rattle.latch_graph.specs.declared.states.State.TheVariants.{Removed}
use Rattle.signal_graph.specs.Graph.{GraphView}
use Rattle.latch_graph.specs.Settling.{IsSettled}
use Rattle.latch_graph.proofs.graph.LatchGraph.states.Goals as goal

pub returns-clause-settled : goal.returns-clause-settled
returns-clause-settled c =
    subst (λ (z : GraphView). IsSettled z.nodes c.as_slice.result.now) c.self.view_is (subst (λ (z : List State). IsSettled c.self.inside.graph.nodes z) (sym c.as_slice.ensures.value) c.self.invariant.settled)

pub returns-clause-whole : goal.returns-clause-whole
returns-clause-whole c = subst (λ (z : List State). (s : ℕ) → slice_get z s ≡ Some Removed → ⊥) (sym c.as_slice.ensures.value) c.self.invariant.whole
