-- No place of a variable has two numbers, since no two event nodes have one path.
use Rattle.std.proofs.Common.{◌≡◌, ◌∙◌, ◌≤◌, ℕ, List, length, slice_get, Some, sym, ap, subst}
use Rattle.circuit_theory.proofs.Lists.{map_at}
use Rattle.event_nodes.specs.Table.{AreDistinct}
use Rattle.flat_net.proofs.Places.{All-at}
use Rattle.event_nodes.specs.Nodes.{path_of, EventGraphView, named_places, IsEventGraph}
use Rattle.event_nodes.proofs.OnePath.{one_node}

-- the variables' places by paths are distinct
pub named_distinct : (w : EventGraphView) → IsEventGraph w → AreDistinct (named_places w)
named_distinct w is i j x first second =
    let name : ℕ × ℕ → ℕ × List ℕ = λ p. (p.0, path_of w.children p.1) in
    let p = map_at name w.places i x first in
    let q = map_at name w.places j x second in
    let both : name p.0 ≡ name q.0 = p.2 ∙ sym q.2 in
    let at_p = All-at (λ (r : ℕ × ℕ). r.1 ≤ length w.children) w.places i p.0 p.1 is.placed in
    let at_q = All-at (λ (r : ℕ × ℕ). r.1 ≤ length w.children) w.places j q.0 q.1 is.placed in
    let input : p.0.0 ≡ q.0.0 = ap (λ (r : ℕ × List ℕ). r.0) both in
    let node : p.0.1 ≡ q.0.1 = one_node w.children is.is_tree is.once p.0.1 q.0.1 at_p at_q (ap (λ (r : ℕ × List ℕ). r.1) both) in
    let same : p.0 ≡ q.0 = λ k. (input k, node k) in
    is.place_once i j p.0 p.1 (subst (λ (r : ℕ × ℕ). slice_get w.places j ≡ Some r) (sym same) q.1)
