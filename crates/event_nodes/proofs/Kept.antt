-- What an event graph keeps where one of its tables has one entry more, or stays.
use Rattle.std.proofs.Common.{◌≡◌, ◌+◌, ◌^◌, ◌<◌, ◌≤◌, ℕ, List, [], ◌∷◌, ◌++◌, length, slice_get, Some, ap, arith, inl, inr}
use Rattle.std.specs.Prelude.{◌⊎◌}
use Rattle.std.specs.List.{Contains}
use Rattle.std.proofs.lemmas.List.Elements.{All-weaker}
use Rattle.std.proofs.lemmas.Option.{slice_get_within}
use Rattle.flat_net.specs.Table.{AreDistinct}
use Rattle.aig.specs.declared.node.Node.{Node}
use Rattle.aig.specs.Graph.{IsGraph}
use Rattle.event_nodes.specs.Nodes.{EventGraphView, IsEventGraph, IsTree}
use Rattle.aig.specs.Adds.{Adds}
use Rattle.event_nodes.proofs.Growing.{place_kept}
use Rattle.aig.proofs.Lists.{adds_cases, adds_length}
use Rattle.aig.proofs.Interned.{interned}

pub same_children : (w : EventGraphView) (es : List (ℕ × ℕ)) → es ≡ w.children → record w { children = es } ≡ w
same_children w es e = ap (λ (l : List (ℕ × ℕ)). record w { children = l }) e

pub same_places : (w : EventGraphView) (ps : List (ℕ × ℕ)) → ps ≡ w.places → record w { places = ps } ≡ w
same_places w ps e = ap (λ (l : List (ℕ × ℕ)). record w { places = l }) e

pub one_more : (n : ℕ) → n ≤ n + 1
one_more n = omega arith

pub few_same : (old new : List (ℕ × ℕ)) → new ≡ old → length new ≤ length old + 1
few_same old new e = omega (arith, ap length e)

-- the number of an entry, where there is room for one more
pub small_number : (old new : List (ℕ × ℕ)) (v : ℕ) (p : ℕ × ℕ) → length new ≤ length old + 1 → length old + 1 < 2 ^ 32 → slice_get new v ≡ Some p → v + 1 < 2 ^ 32
small_number old new v p few room at = let within = slice_get_within new v p at in omega (arith, few, room, within)

pub room_for_one : (n : ℕ) → n + 2 < 2 ^ 32 → n + 1 < 2 ^ 32
room_for_one n room = omega (arith, room)

tree_with : (es fs : List (ℕ × ℕ)) (p : ℕ × ℕ) → IsTree es → p.0 ≤ length es → Adds (λ q. q ≡ p) es fs → IsTree fs
tree_with es fs p is inside one = λ k n class at. go k n class (adds_cases (λ (q : ℕ × ℕ). q ≡ p) es fs k (n, class) one at)
  where
    go : (k n class : ℕ) → (slice_get es k ≡ Some (n, class)) ⊎ ((length es ≤ k) × ((n, class) ≡ p)) → n ≤ k
    go k n class (inl h) = is k n class h
    go k n class (inr h) = omega (arith, h.0, inside, ap (λ (q : ℕ × ℕ). q.0) h.1)

-- a child more, or one that was there
pub child_kept : (w : EventGraphView) (es : List (ℕ × ℕ)) (p : ℕ × ℕ) → IsEventGraph w → p.0 ≤ length w.children → (Contains w.children p → es ≡ w.children) → ((Contains w.children p → ⊥) → es ≡ w.children ++ p ∷ []) → AreDistinct es →
    IsEventGraph (record w { children = es })
child_kept w es p is inside known added once =
    let one = interned w.children es p known added in
    record {
      is_graph = is.is_graph;
      is_tree = tree_with w.children es p is.is_tree inside one.0;
      once = once;
      placed = All-weaker (λ (q : ℕ × ℕ). q.1 ≤ length w.children) (λ (q : ℕ × ℕ). q.1 ≤ length es) (λ q h. further q.1 h (adds_length (λ (q : ℕ × ℕ). q ≡ p) w.children es one.0)) w.places is.placed;
      place_once = is.place_once;
    }
  where
    further : (n : ℕ) → n ≤ length w.children → length w.children ≤ length es → n ≤ length es
    further n h more = omega (arith, h, more)

-- a variable more, or one that was there
pub variable_kept : (w : EventGraphView) (ps : List (ℕ × ℕ)) (g : List Node) (p : ℕ × ℕ) → IsEventGraph w → p.1 ≤ length w.children → (Contains w.places p → ps ≡ w.places) → ((Contains w.places p → ⊥) → ps ≡ w.places ++ p ∷ []) → AreDistinct ps → IsGraph g →
    IsEventGraph (record w { places = ps; graph = g })
variable_kept w ps g p is inside known added once graph =
    record { is_graph = graph; is_tree = is.is_tree; once = is.once; placed = place_kept w ps p is inside known added; place_once = once }
