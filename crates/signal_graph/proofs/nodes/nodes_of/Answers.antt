use Rattle.std.proofs.Common.{◌≡◌, ◌≢◌, ◌<◌, ◌+◌, ℕ, List, [], ◌∷◌, slice_get, Some, length, subst, sym, ap, arith, inl, inr}
use Rattle.std.specs.Prelude.{◌⊎◌}
use Rattle.std.proofs.lemmas.Option.{slice_get_within}
use Rattle.signal_graph.proofs.inner_cone.flat_net.Growth.{slice_get-append, slice_get-push, length-push}
use Rattle.signal_graph.specs.inner_cone.flat_net.Driver.{Driver}
use Rattle.signal_graph.proofs.inner_cone.circuit_theory.Sums.{same_or_not}
use Rattle.signal_graph.specs.inner_cone.Inner.{AreRanked}
use Rattle.signal_graph.specs.declared.nodes.Node.{Node}
use Rattle.signal_graph.specs.Graph.{IsNodeOf}
use Rattle.signal_graph.proofs.nodes.nodes_of.Goals as goal

pub node_of-requires-clause-ranked : goal.node_of-requires-clause-ranked
node_of-requires-clause-ranked c = subst (AreRanked c.args.net.now) (sym c.as_slice.ensures) c.in_ok-numbers.ensures

pub loop-s-preserved : goal.loop-s-preserved
loop-s-preserved c = record {
  size = omega (arith, ap length c.in_ok-push.ensures.items, length-push c.loop-s.nodes.items c.in_ok-node_of.field-0, c.loop-s.invariant.size);
  right = λ s d l h. right s d h l (same_or_not s c.loop-s.s);
}
  where
    right : (s : ℕ) (d : Driver) → slice_get c.args.net.now.drivers s ≡ Some d → s < c.loop-s.s + 1 → (s ≡ c.loop-s.s) ⊎ (s ≢ c.loop-s.s) → (x : Node) × (slice_get c.push.new.self.items s ≡ Some x) × IsNodeOf c.args.net.now c.args.skipped.now d x
    right s d h l (inl e) = (
      c.in_ok-node_of.field-0,
      subst (λ (z : List Node). slice_get z s ≡ Some c.in_ok-node_of.field-0) (sym c.in_ok-push.ensures.items) (slice_get-push c.loop-s.nodes.items c.in_ok-node_of.field-0 s (omega (arith, e, c.loop-s.invariant.size))),
      c.in_ok-node_of.ensures d (subst (λ z. slice_get c.args.net.now.drivers z ≡ Some d) e h),
    )
    right s d h l (inr n) =
        let x = c.loop-s.invariant.right s d (omega (arith, l, n)) h in
        (x.0, subst (λ (z : List Node). slice_get z s ≡ Some x.0) (sym c.in_ok-push.ensures.items) (slice_get-append c.loop-s.nodes.items (c.in_ok-node_of.field-0 ∷ []) s x.0 x.1), x.2)

pub returns-clause-nodes : goal.returns-clause-nodes
returns-clause-nodes c = λ s d h.
    let l = slice_get_within c.args.net.now.drivers s d h in
    c.loop-s.invariant.right s d (omega (arith, l, c.loop-s-test.false, c.size-s-end.ensures)) h
