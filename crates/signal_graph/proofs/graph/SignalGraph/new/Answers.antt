-- The nodes are those of the net.
use Rattle.std.proofs.Common.{◌≡◌, ℕ, Bool, List, Some, length, slice_get, subst, sym, ap, ◌∙◌, refl}
use Rattle.signal_graph.specs.inner_cone.latch_cone.Cones.{MarksEnabled}
use Rattle.signal_graph.specs.inner_cone.flat_net.LatchAt.{LatchAt}
use Rattle.signal_graph.specs.inner_cone.flat_net.Driver.{Driver}
use Rattle.signal_graph.specs.declared.nodes.Node.{Node}
use Rattle.signal_graph.specs.Graph.{GraphView, IsGraphOf, IsNodeOf, AreNodes}
use Rattle.signal_graph.proofs.Driving.{kept_nodes}
use Rattle.signal_graph.proofs.graph.SignalGraph.new.Goals as goal

pub invariant_of-result : goal.invariant_of-result
invariant_of-result c =
    let g : GraphView = record { nodes = c.in_ok-nodes.nodes.items; latches = c.args.net.now.latches; skipped = c.args.skip_self.now } in
    let of : IsGraphOf c.args.net.now g = record { sound = c.keeps.ensures.sound; size = c.in_ok-nodes.ensures.size; nodes = subst (λ (z : List Bool). (s : ℕ) (d : Driver) → slice_get c.args.net.now.drivers s ≡ Some d → (node : Node) × (slice_get c.in_ok-nodes.nodes.items s ≡ Some node) × IsNodeOf c.args.net.now z d node) c.as_slice-bits.ensures c.in_ok-nodes.ensures.nodes; latches = refl; bits = c.requires } in
    let kept : AreNodes c.in_ok-nodes.nodes.items c.args.net.now.latches = kept_nodes c.args.net.now g of in
    let same : c.in_ok-latches.latches.items ≡ c.args.net.now.latches = c.in_ok-latches.ensures ∙ c.latches.ensures in
    subst (λ (z : List LatchAt). AreNodes c.in_ok-nodes.nodes.items z) (sym same) kept

pub returns-clause-in_mode : goal.returns-clause-in_mode
returns-clause-in_mode c = λ mode marks.
    let skipped : c.in_ok-skipped.skipped.items ≡ c.as_slice-bits.result.now = c.in_ok-skipped.ensures.items in
    let all : c.in_ok-skipped.skipped.items ≡ c.args.skip_self.now = skipped ∙ c.as_slice-bits.ensures in
    record {
      graph = record {
        sound = c.keeps.ensures.sound;
        size = c.in_ok-nodes.ensures.size;
        nodes =
            subst (λ (z : List Bool). (s : ℕ) (d : Driver) → slice_get c.args.net.now.drivers s ≡ Some d → (node : Node) × (slice_get c.in_ok-nodes.nodes.items s ≡ Some node) × IsNodeOf c.args.net.now z d node) (sym skipped) c.in_ok-nodes.ensures.nodes;
        latches = c.in_ok-latches.ensures ∙ c.latches.ensures;
        bits = ap length all ∙ c.requires;
      };
      skips = subst (MarksEnabled mode c.args.net.now) (sym all) marks;
    }
