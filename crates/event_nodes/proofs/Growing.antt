-- An event graph with more behind.
use Rattle.std.proofs.Common.{◌≡◌, ◌∙◌, ◌≤◌, ℕ, zero, suc, Bool, true, false, List, [], ◌∷◌, ◌++◌, ◌==◌, if◌then◌else◌, length, slice_get, Some, refl, sym, ap, subst, arith, append-nil, length-append}
use Rattle.std.specs.List.{All, Contains}
use Rattle.std.proofs.lemmas.Option.{none-some, same_Some}
use Rattle.std.proofs.lemmas.Bool.Decides.{Decides-eqb}
use Rattle.std.proofs.lemmas.List.Elements.{All-append, All-weaker}
use Rattle.flat_net.proofs.circuit_theory.Inputs.{test_same}
use Rattle.flat_net.specs.declared.parts.LatchAt.{LatchAt}
use Rattle.flat_net.specs.declared.parts.Driver.TheVariants as driver
use Rattle.flat_net.specs.View.{NetView}
use Rattle.flat_net.specs.Sound.{IsSound}
use Rattle.flat_net.proofs.Places.{one_at}
use Rattle.aig.specs.declared.node.Node.{Node}
use Rattle.aig.specs.Graph.{Grows}
use Rattle.aig.proofs.Growth.{Grows-refl, Grows-trans}
use Rattle.event_nodes.specs.Nodes.{EventGraphView, GrowsEvents, IsEventGraph}
use Rattle.event_nodes.specs.View.{class_at}
use Rattle.aig.proofs.Interned.{interned}
use Rattle.flat_net.proofs.Drivers.{same_latch}
use Rattle.aig.proofs.Lists.{adds_trans}

pub grows_refl : (w : EventGraphView) → GrowsEvents w w
grows_refl w = record { graph = Grows-refl w.graph; children = ([], sym (append-nil w.children)); places = ([], sym (append-nil w.places)) }

-- a child more, or one that was there
pub child_grows : (w : EventGraphView) (es : List (ℕ × ℕ)) (p : ℕ × ℕ) → (Contains w.children p → es ≡ w.children) → ((Contains w.children p → ⊥) → es ≡ w.children ++ p ∷ []) → GrowsEvents w (record w { children = es })
child_grows w es p known added =
    let one = interned w.children es p known added in
    record { graph = Grows-refl w.graph; children = (one.0.more, one.0.is); places = ([], sym (append-nil w.places)) }

-- a variable more, or one that was there
pub place_grows : (w : EventGraphView) (ps : List (ℕ × ℕ)) (g : List Node) (p : ℕ × ℕ) → (Contains w.places p → ps ≡ w.places) → ((Contains w.places p → ⊥) → ps ≡ w.places ++ p ∷ []) → Grows w.graph g →
    GrowsEvents w (record w { places = ps; graph = g })
place_grows w ps g p known added grows =
    let one = interned w.places ps p known added in
    record { graph = grows; children = ([], sym (append-nil w.children)); places = (one.0.more, one.0.is) }

pub place_kept : (w : EventGraphView) (ps : List (ℕ × ℕ)) (p : ℕ × ℕ) → IsEventGraph w → p.1 ≤ length w.children → (Contains w.places p → ps ≡ w.places) → ((Contains w.places p → ⊥) → ps ≡ w.places ++ p ∷ []) →
    All (λ q. q.1 ≤ length w.children) ps
place_kept w ps p is inside known added =
    let one = interned w.places ps p known added in
    subst (All (λ (q : ℕ × ℕ). q.1 ≤ length w.children)) (sym one.0.is)
    (All-append (λ (q : ℕ × ℕ). q.1 ≤ length w.children) w.places one.0.more is.placed
    (All-weaker (λ (q : ℕ × ℕ). q ≡ p) (λ (q : ℕ × ℕ). q.1 ≤ length w.children) (λ q e. subst (λ (k : ℕ). k ≤ length w.children) (sym (ap (λ (r : ℕ × ℕ). r.1) e)) inside) one.0.more one.0.each))

class_of_at : (ls : List LatchAt) (ks : List ℕ) (j : ℕ) (l : LatchAt) (k : ℕ) → ((i : ℕ) (m : LatchAt) → slice_get ls i ≡ Some m → m.out.0 ≡ l.out.0 → i ≡ j) → slice_get ls j ≡ Some l → slice_get ks j ≡ Some k → class_at ls ks l.out.0 ≡ k
class_of_at [] ks j l k once at here = absurd (none-some l at)
class_of_at (m ∷ ls) [] j l k once at here = absurd (none-some k here)
class_of_at (m ∷ ls) (n ∷ ks) zero l k once at here =
    let same : m.out.0 ≡ l.out.0 = ap (λ (x : LatchAt). x.out.0) (same_Some m l at) in
    let test : (m.out.0 == l.out.0) ≡ true = (Decides-eqb m.out.0 l.out.0).1 same in
    ap (λ (b : Bool). if b then n else class_at ls ks l.out.0) test ∙ same_Some n k here
class_of_at (m ∷ ls) (n ∷ ks) (suc j) l k once at here =
    go (m.out.0 == l.out.0) refl (class_of_at ls ks j l k (λ i x on same. let z : suc i ≡ suc j = once (suc i) x on same in omega (arith, z)) at here)
  where
    go : (b : Bool) → (m.out.0 == l.out.0) ≡ b → class_at ls ks l.out.0 ≡ k → (if m.out.0 == l.out.0 then n else class_at ls ks l.out.0) ≡ k
    go true e rest = absurd (let z : 0 ≡ suc j = once 0 m refl (test_same m.out.0 l.out.0 e) in omega (arith, z))
    go false e rest = ap (λ (b : Bool). if b then n else class_at ls ks l.out.0) e ∙ rest

-- the class of the latch with this position
pub class_is : (n : NetView) → IsSound n → (ks : List ℕ) (j : ℕ) (l : LatchAt) (k : ℕ) → slice_get n.latches j ≡ Some l → slice_get ks j ≡ Some k → class_at n.latches ks l.out.0 ≡ k
class_is n sound ks j l k at here =
    class_of_at n.latches ks j l k
    (λ i m on same. same_latch (one_at n.drivers l.out.0 (driver.Latch i) (driver.Latch j) (subst (λ (s : ℕ). slice_get n.drivers s ≡ Some (driver.Latch i)) same (sound.latches i m on).owner) (sound.latches j l at).owner)) at here

more_trans : (xs ys zs : List (ℕ × ℕ)) → (more : List (ℕ × ℕ)) × (ys ≡ xs ++ more) → (more : List (ℕ × ℕ)) × (zs ≡ ys ++ more) → (more : List (ℕ × ℕ)) × (zs ≡ xs ++ more)
more_trans xs ys zs a b =
    let t = adds_trans (λ (p : ℕ × ℕ). Unit {0}) xs ys zs (record { more = a.0; is = a.1; each = λ k d h. tt }) (record { more = b.0; is = b.1; each = λ k d h. tt }) in (t.more, t.is)

pub grows_trans : (w v x : EventGraphView) → GrowsEvents w v → GrowsEvents v x → GrowsEvents w x
grows_trans w v x a b = record {
  graph = Grows-trans w.graph v.graph x.graph a.graph b.graph;
  children = more_trans w.children v.children x.children a.children b.children;
  places = more_trans w.places v.places x.places a.places b.places;
}

pub children_more : (w x : EventGraphView) → GrowsEvents w x → length w.children ≤ length x.children
children_more w x grows = omega (arith, ap length grows.children.1, length-append w.children grows.children.0)
