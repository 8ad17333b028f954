-- An event graph that has the root and the constant alone.
use Rattle.std.proofs.Common.{◌≡◌, ℕ, zero, suc, [], ◌∷◌, slice_get, Some, refl, subst, arith}
use Rattle.std.proofs.lemmas.Option.{none-some, same_Some}
use Rattle.aig.specs.declared.node.Node.{Node}
use Rattle.aig.specs.declared.node.Node.TheVariants.{Constant}
use Rattle.aig.specs.Graph.{IsAbove}
use Rattle.event_nodes.specs.Nodes.{EventGraphView, IsEventGraph}

abbrev pub bare : EventGraphView
bare = record { graph = Constant ∷ []; children = []; places = [] }

above : (n : ℕ) (node : Node) → slice_get (Constant ∷ []) n ≡ Some node → IsAbove n node
above zero node h = subst (IsAbove zero) (same_Some Constant node h) tt
above (suc n) node h = absurd (none-some node h)

alone : (n m : ℕ) (node : Node) → slice_get (Constant ∷ []) n ≡ Some node → slice_get (Constant ∷ []) m ≡ Some node → n ≡ m
alone zero zero node h k = refl
alone zero (suc m) node h k = absurd (none-some node k)
alone (suc n) m node h k = absurd (none-some node h)

pub bare_kept : IsEventGraph bare
bare_kept = record {
  is_graph = record { constant = refl; ordered = above; once = alone; few = omega arith };
  is_tree = λ k n class h. absurd (none-some (n, class) h);
  once = λ i j x h k. absurd (none-some x h);
  placed = λ k d h. absurd (omega (arith, h));
  place_once = λ i j x h k. absurd (none-some x h);
}
