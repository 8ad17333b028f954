-- One signal more that nothing reads.
use Rattle.std.proofs.Common.{◌≡◌, ◌∙◌, ◌∷◌, ◌++◌, [], ℕ, List, None, Some, length, slice_get, sym, ap, subst, arith, inl, inr}
use Rattle.std.specs.Prelude.{◌⊎◌}
use Rattle.latch_graph.specs.minimal_cut.graph_components.flat_net.Signal.{Signal}
use Rattle.latch_graph.specs.minimal_cut.graph_components.Node.{Node}
use Rattle.latch_graph.proofs.minimal_cut.graph_components.flat_net.Growth.{length-push, slice_get-push_cases}
use Rattle.latch_graph.proofs.minimal_cut.readers.no_readers.Goals as goal

none_pushed : (xs : List Node) (y : Node) → y.reads ≡ [] → ((r : ℕ) (node : Node) → slice_get xs r ≡ Some node → node.reads ≡ []) → (r : ℕ) (node : Node) → slice_get (xs ++ y ∷ []) r ≡ Some node → node.reads ≡ []
none_pushed xs y none each r node h = by (slice_get-push_cases xs y r node h)
  where
    by : (slice_get xs r ≡ Some node) ⊎ ((r ≡ length xs) × (y ≡ node)) → node.reads ≡ []
    by (inl was) = each r node was
    by (inr last) = subst (λ (z : Node). z.reads ≡ []) last.1 none

pub loop-i-preserved : goal.loop-i-preserved
loop-i-preserved c =
    let y : Node = record { reads = c.new.result; latch = None } in
    record {
      size = omega (arith, ap length c.in_ok-push.ensures.items, length-push c.loop-i.readers.items y, c.loop-i.invariant.size);
      none = λ r node h. none_pushed c.loop-i.readers.items y c.new.ensures c.loop-i.invariant.none r node (subst (λ (z : List Node). slice_get z r ≡ Some node) c.in_ok-push.ensures.items h);
    }
