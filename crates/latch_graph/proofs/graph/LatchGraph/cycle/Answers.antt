use Rattle.std.proofs.Common.{ℕ, Bool, List, subst}
use Rattle.std.specs.Prelude.{IfSome, IfNone}
use Rattle.signal_graph.specs.flat_net.LatchAt.{LatchAt}
use Rattle.signal_graph.specs.flat_net.View.{NetView, circuit_of}
use Rattle.circuit_theory.specs.Depth.{HasCycle, IsCycle, BeginsWithLeast}
use Rattle.signal_graph.specs.declared.nodes.Node.{Node}
use Rattle.signal_graph.specs.Graph.{IsGraphOf, marked_names, signals_at}
use Rattle.signal_graph.specs.inner_cone.latch_cone.Cones.{IsMarkedBy}
use Rattle.signal_graph.proofs.Lists.{some_weaker, none_weaker}
use Rattle.latch_graph.proofs.graph.LatchGraph.cycle.Goals as goal

pub returns-clause-none : goal.returns-clause-none
returns-clause-none c =
    subst (λ (z : List LatchAt). IfNone c.in_ok-found.found ((n : NetView) → IsGraphOf n (record { nodes = c.args.self.now.nodes; latches = z; skipped = c.args.self.now.skipped }) → HasCycle (circuit_of n) (IsMarkedBy z c.args.self.now.skipped) (marked_names z c.args.removed.now) → ⊥)) c.latches.ensures
    (subst (λ (z : List Node). IfNone c.in_ok-found.found ((n : NetView) → IsGraphOf n (record { nodes = z; latches = c.latches.result.now; skipped = c.args.self.now.skipped }) → HasCycle (circuit_of n) (IsMarkedBy c.latches.result.now c.args.self.now.skipped) (marked_names c.latches.result.now c.args.removed.now) → ⊥)) c.nodes.ensures
    (subst (λ (z : List Bool). IfNone c.in_ok-found.found ((n : NetView) → IsGraphOf n (record { nodes = c.nodes.result.now; latches = c.latches.result.now; skipped = c.args.self.now.skipped }) → HasCycle (circuit_of n) (IsMarkedBy c.latches.result.now c.args.self.now.skipped) (marked_names c.latches.result.now z) → ⊥)) c.as_slice.ensures
    (none_weaker ((n : NetView) (bits : List Bool) → IsGraphOf n (record { nodes = c.nodes.result.now; latches = c.latches.result.now; skipped = bits }) → HasCycle (circuit_of n) (IsMarkedBy c.latches.result.now bits) (marked_names c.latches.result.now c.as_slice.result.now) → ⊥) ((n : NetView) → IsGraphOf n (record { nodes = c.nodes.result.now; latches = c.latches.result.now; skipped = c.args.self.now.skipped }) → HasCycle (circuit_of n) (IsMarkedBy c.latches.result.now c.args.self.now.skipped) (marked_names c.latches.result.now c.as_slice.result.now) → ⊥) c.in_ok-found.found (λ f n. f n c.args.self.now.skipped) c.in_ok-found.ensures.none)))

pub returns-clause-cycle : goal.returns-clause-cycle
returns-clause-cycle c =
    subst (λ (z : List LatchAt). IfSome c.in_ok-found.found (λ ids. (n : NetView) → IsGraphOf n (record { nodes = c.args.self.now.nodes; latches = z; skipped = c.args.self.now.skipped }) → IsCycle (circuit_of n) (IsMarkedBy z c.args.self.now.skipped) (marked_names z c.args.removed.now) (signals_at z ids))) c.latches.ensures
    (subst (λ (z : List Node). IfSome c.in_ok-found.found (λ ids. (n : NetView) → IsGraphOf n (record { nodes = z; latches = c.latches.result.now; skipped = c.args.self.now.skipped }) → IsCycle (circuit_of n) (IsMarkedBy c.latches.result.now c.args.self.now.skipped) (marked_names c.latches.result.now c.args.removed.now) (signals_at c.latches.result.now ids))) c.nodes.ensures
    (subst (λ (z : List Bool). IfSome c.in_ok-found.found (λ ids. (n : NetView) → IsGraphOf n (record { nodes = c.nodes.result.now; latches = c.latches.result.now; skipped = c.args.self.now.skipped }) → IsCycle (circuit_of n) (IsMarkedBy c.latches.result.now c.args.self.now.skipped) (marked_names c.latches.result.now z) (signals_at c.latches.result.now ids))) c.as_slice.ensures
    (some_weaker (λ (ids : List ℕ). (n : NetView) (bits : List Bool) → IsGraphOf n (record { nodes = c.nodes.result.now; latches = c.latches.result.now; skipped = bits }) → IsCycle (circuit_of n) (IsMarkedBy c.latches.result.now bits) (marked_names c.latches.result.now c.as_slice.result.now) (signals_at c.latches.result.now ids)) (λ (ids : List ℕ). (n : NetView) → IsGraphOf n (record { nodes = c.nodes.result.now; latches = c.latches.result.now; skipped = c.args.self.now.skipped }) → IsCycle (circuit_of n) (IsMarkedBy c.latches.result.now c.args.self.now.skipped) (marked_names c.latches.result.now c.as_slice.result.now) (signals_at c.latches.result.now ids)) c.in_ok-found.found (λ ids f n. f n c.args.self.now.skipped) c.in_ok-found.ensures.cycle)))

pub returns-clause-least : goal.returns-clause-least
returns-clause-least c =
    subst (λ (z : List LatchAt). IfSome c.in_ok-found.found (λ ids. (n : NetView) → IsGraphOf n (record { nodes = c.args.self.now.nodes; latches = z; skipped = c.args.self.now.skipped }) → BeginsWithLeast (circuit_of n) (signals_at z ids))) c.latches.ensures
    (subst (λ (z : List Node). IfSome c.in_ok-found.found (λ ids. (n : NetView) → IsGraphOf n (record { nodes = z; latches = c.latches.result.now; skipped = c.args.self.now.skipped }) → BeginsWithLeast (circuit_of n) (signals_at c.latches.result.now ids))) c.nodes.ensures
    (some_weaker (λ (ids : List ℕ). (n : NetView) (bits : List Bool) → IsGraphOf n (record { nodes = c.nodes.result.now; latches = c.latches.result.now; skipped = bits }) → BeginsWithLeast (circuit_of n) (signals_at c.latches.result.now ids)) (λ (ids : List ℕ). (n : NetView) → IsGraphOf n (record { nodes = c.nodes.result.now; latches = c.latches.result.now; skipped = c.args.self.now.skipped }) → BeginsWithLeast (circuit_of n) (signals_at c.latches.result.now ids)) c.in_ok-found.found (λ ids f n. f n c.args.self.now.skipped) c.in_ok-found.ensures.least))
