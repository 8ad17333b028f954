-- No place of a variable has two numbers, since no two event nodes have one path; so one tree has one literal, with the tree's value.
use Rattle.std.proofs.Common.{◌≡◌, ◌∙◌, ◌≤◌, ℕ, List, length, slice_get, Some, sym, ap, subst}
use Rattle.std.specs.Prelude.{◌||◌, not}
use Rattle.circuit_theory.specs.Tree.{Tree, tree_value}
use Rattle.circuit_theory.proofs.Lists.{map_at}
use Rattle.circuit_theory.specs.Frame.{IsEnable}
use Rattle.event_nodes.specs.Table.{AreDistinct}
use Rattle.edbf_unfold.proofs.event_literals.Places.{All-at}
use Rattle.event_nodes.specs.Builds.{Builds}
use Rattle.event_nodes.specs.Graph.{flip}
use Rattle.event_nodes.specs.Values.{value}
use Rattle.event_nodes.proofs.Growth.{Builds-one}
use Rattle.event_nodes.proofs.Meaning.{value-flip}
use Rattle.event_nodes.proofs.CoverMeaning.{value-tree}
use Rattle.event_nodes.specs.Nodes.{path_of, EventGraphView, named_places, IsEventGraph}
use Rattle.edbf_unfold.specs.Laws.{EqualEventTreesOneLiteral, EqualEnablesOneLiteral, LiteralIsTree, EnableLiteralIsEnable, KnownLater}
use Rattle.event_nodes.proofs.OnePath.{one_node}
use Rattle.event_nodes.proofs.flat_net.Drivers.{latch_equation_stands}
use Rattle.edbf_unfold.proofs.event_literals.Known.{known_at_later}
use Rattle.edbf_unfold.proofs.event_literals.OrStaying.{IsShortOr-one}
use Rattle.edbf_unfold.proofs.event_literals.OrValues.{value-short_or}
use Rattle.edbf_unfold.specs.event_literals.ShortOr.{IsShortOr}

-- the variables' places by paths are distinct
pub named_distinct : (w : EventGraphView) → IsEventGraph w → AreDistinct (named_places w)
named_distinct w is i j x first second =
    let name : ℕ × ℕ → ℕ × List ℕ = λ p. (p.0, path_of w.children p.1) in
    let p = map_at name w.places i x first in
    let q = map_at name w.places j x second in
    let both : name p.0 ≡ name q.0 = p.2 ∙ sym q.2 in
    let at_p = All-at (λ (r : ℕ × ℕ). r.1 ≤ length w.children) w.places i p.0 p.1 is.placed in
    let at_q = All-at (λ (r : ℕ × ℕ). r.1 ≤ length w.children) w.places j q.0 q.1 is.placed in
    let input : p.0.0 ≡ q.0.0 = ap (λ (r : ℕ × List ℕ). r.0) both in
    let node : p.0.1 ≡ q.0.1 = one_node w.children is.is_tree is.once p.0.1 q.0.1 at_p at_q (ap (λ (r : ℕ × List ℕ). r.1) both) in
    let same : p.0 ≡ q.0 = λ k. (input k, node k) in
    is.place_once i j p.0 p.1 (subst (λ (r : ℕ × ℕ). slice_get w.places j ≡ Some r) (sym same) q.1)

pub one_literal : EqualEventTreesOneLiteral
one_literal e f w put other p q path way x y is k l same =
    Builds-one w.graph is.is_graph (named_places w) (named_distinct w is) k.tree x y k.builds (subst (λ (t : Tree (List ℕ)). Builds w.graph (named_places w) t y) (sym same) l.builds)

pub one_enable_literal : EqualEnablesOneLiteral
one_enable_literal e f w path other l m x y is k n low high =
    let f0 = one_literal e f w _ _ _ _ _ _ k.f0 n.f0 is k.low n.low low in
    let f1 = one_literal e f w _ _ _ _ _ _ k.f1 n.f1 is k.high n.high high in
    IsShortOr-one w.graph is.is_graph k.f0 (flip k.f1) x y k.or_is (subst (λ (a : ℕ). IsShortOr w.graph a (flip k.f1) y) (sym f0) (subst (λ (b : ℕ). IsShortOr w.graph n.f0 (flip b) y) (sym f1) n.or_is))

pub literal_value : LiteralIsTree
literal_value e w put p path x is k bits a fits = value-tree w.graph is.is_graph a (named_places w) bits fits k.tree x k.builds

pub enable_value : EnableLiteralIsEnable
enable_value e w path j l x sound is at on k bits a fits =
    IsEnable.own {name = l.name} {next = l.next.0} {low = k.low.tree} {high = k.high.tree} on (latch_equation_stands e.net sound l.out.0 j (sound.latches j l at).owner l at) k.low.unfolds k.high.unfolds
    (ap (λ b. b || not (tree_value bits k.high.tree)) (sym low) ∙ (ap (λ b. value w.graph a k.f0 || not b) (sym high) ∙ sym whole))
  where
    low : value w.graph a k.f0 ≡ tree_value bits k.low.tree
    low = literal_value e w _ _ _ k.f0 is k.low bits a fits

    high : value w.graph a k.f1 ≡ tree_value bits k.high.tree
    high = literal_value e w _ _ _ k.f1 is k.high bits a fits

    whole : value w.graph a x ≡ (value w.graph a k.f0 || not (value w.graph a k.f1))
    whole = value-short_or w.graph is.is_graph a k.f0 (flip k.f1) x k.or_is ∙ ap (λ b. value w.graph a k.f0 || b) (value-flip w.graph a k.f1)

pub literal_later : KnownLater
literal_later e w v put p path x is grows k = known_at_later e w v is grows put p path x k
