-- The states are settled, and none is that of a removed latch.
use Rattle.std.proofs.Common.{◌≡◌, ◌<◌, ℕ, List, Some, length, slice_get, subst, sym, ap, ◌∙◌, arith}
use Rattle.signal_graph.specs.declared.nodes.Node.{Node}
use Rattle.latch_graph.specs.declared.states.State.TheVariants.{New, Removed}
use Rattle.latch_graph.specs.Settling.{IsSettled}
use Rattle.latch_graph.proofs.graph.LatchGraph.new.Goals as goal

pub settled_from-requires-clause-few : goal.settled_from-requires-clause-few
settled_from-requires-clause-few c = omega (arith, ap length c.nodes-2.ensures, c.keeps.ensures.few)

pub settled_from-requires-clause-within : goal.settled_from-requires-clause-within
settled_from-requires-clause-within c =
    subst (λ (z : List Node). (s k : ℕ) (node : Node) (r : _) → slice_get z s ≡ Some node → slice_get node.reads k ≡ Some r → r.0 < length z) (sym c.nodes-2.ensures) c.keeps.ensures.within

pub settled_from-requires-clause-size : goal.settled_from-requires-clause-size
settled_from-requires-clause-size c = c.in_ok-states.ensures.size ∙ (ap length c.nodes.ensures ∙ sym (ap length c.nodes-2.ensures))

pub invariant_of-result : goal.invariant_of-result
invariant_of-result c = record {
  settled = subst (λ (z : List Node). IsSettled z c.in_ok-states-2.states.items) c.nodes-2.ensures c.in_ok-states-2.ensures.settled;
  whole = λ s h. removed_new (c.in_ok-states.ensures.new s Removed (c.in_ok-states-2.ensures.removed.were s h));
}
  where
    removed_new : Removed ≡ New → ⊥
    removed_new e = cc
