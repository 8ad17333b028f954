-- The variables of a function are all that its value and its care read.
use Rattle.std.proofs.Common.{◌≡◌, ◌∙◌, ◌/◌, ◌<◌, ℕ, Bool, true, false, List, [], ◌∷◌, length, slice_get, Option, Some, refl, sym, ap, subst, arith, inl, inr}
use Rattle.std.specs.Prelude.{◌⊎◌}
use Rattle.std.specs.List.{Contains}
use Rattle.std.proofs.lemmas.List.Elements.{All-contains}
use Rattle.std.proofs.lemmas.Option.{slice_get-get_or}
use Rattle.circuit_theory.specs.Circuit.{IsLatch}
use Rattle.circuit_theory.specs.Query.{Variable, HasLeaf}
use Rattle.circuit_theory.specs.Tree.{Tree}
use Rattle.circuit_theory.proofs.Lists.{Contains-cases, Contains-head, Contains-tail, length-map, only}
use Rattle.circuit_theory.specs.EventFrames.{IsCareTree}
use Rattle.circuit_theory.specs.EventSizes.{Start}
use Rattle.circuit_theory.specs.EventTotals.{StartLatches}
use Rattle.circuit_theory.specs.Frame.{EventUnfolds, ReachedAt}
use Rattle.event_nodes.specs.event_variables.flat_net.LatchAt.{LatchAt}
use Rattle.event_nodes.specs.event_variables.flat_net.Sound.{IsSound}
use Rattle.event_nodes.specs.event_variables.flat_net.View.{circuit_of}
use Rattle.event_nodes.proofs.event_variables.flat_net.Nets.{latch_stands}
use Rattle.event_nodes.specs.event_variables.aig.Node.TheVariants.{Input}
use Rattle.event_nodes.specs.event_variables.aig.Graph.{flip}
use Rattle.event_nodes.specs.event_variables.aig.Cone.{IsReached}
use Rattle.event_nodes.specs.Nodes.{EventGraphView, IsEventGraph, named_places, path_of}
use Rattle.event_nodes.specs.Reach.{IsBegun}
use Rattle.event_nodes.specs.View.{EventCircuitView, IsEventCircuit, side_of, Enabled}
use Rattle.edbf_unfold.specs.event_literals.Known.{IsKnownAt, IsEnableLit}
use Rattle.edbf_unfold.specs.Care.{IsCareLit, IsEnableOnward, IsAndOfAll}
use Rattle.event_nodes.specs.event_variables.Variables.{variable_of}
use Rattle.aig.proofs.Supports.{From, Supports, supports_tree, supports_flip, supports_and_of, supports_constant, reached_one, from_one}
use Rattle.event_classes.proofs.event_functions.Shortening.{supports_short_or}
use Rattle.event_nodes.proofs.event_variables.Named.{named_distinct}
use Rattle.event_nodes.specs.event_variables.Inputs.{AreVisitedInputs}
use Rattle.event_nodes.proofs.event_variables.Leaves.{IsVisitedLeaf, put_latch}
use Rattle.event_nodes.proofs.event_variables.Meaning.{own_leaf, care_leaf}

-- what two supported literals reach
pub two_roots : (w : EventGraphView) (is : IsEventGraph w) (vars : List ℕ) (x y : ℕ) → Supports w.graph is.is_graph (Contains vars) x → Supports w.graph is.is_graph (Contains vars) y → (n v : ℕ) → IsReached w.graph (x ∷ y ∷ []) n → slice_get w.graph n ≡ Some (Input v) → Contains vars v
two_roots w is vars x y first second n v reached at = go (reached_one w.graph (x ∷ y ∷ []) n reached)
  where
    pick : (z : ℕ) → (x ≡ z) ⊎ Contains (y ∷ []) z → IsReached w.graph (z ∷ []) n → Contains vars v
    pick z (inl e) r = first n v (subst (λ (u : ℕ). From w.graph (u / 2) n) (sym e) (from_one w.graph z r)) at
    pick z (inr k) r = second n v (subst (λ (u : ℕ). From w.graph (u / 2) n) (sym (only y z k)) (from_one w.graph z r)) at

    go : (z : ℕ) × Contains (x ∷ y ∷ []) z × IsReached w.graph (z ∷ []) n → Contains vars v
    go r = pick r.0 (Contains-cases x r.0 (y ∷ []) r.1) r.2

module _ (e : EventCircuitView) (w : EventGraphView) (x : Start ℕ) (vars : List ℕ) (sound : IsSound e.net) (circuit : IsEventCircuit e) (is : IsEventGraph w) (are : AreVisitedInputs e w x vars) where
  -- a visited leaf's variable is among the variables
  leaf_has : (y : Variable (List ℕ)) (v : ℕ) → IsVisitedLeaf (side_of e) (Enabled e) (x ∷ []) y → slice_get (named_places w) v ≡ Some (y.input, y.at) → Contains vars v
  leaf_has y v l at =
      let u = are.all y.input y.at (record { out = l.out; place = l.place; visit = l.visit; numbered = l.input }) in
      let below = All-contains (λ (k : ℕ). k < length w.places) vars u.0 are.in_order.within u.1 in
      let many = length-map {Y = ℕ × List ℕ} (λ (p : ℕ × ℕ). (p.0, path_of w.children p.1)) w.places in
      let own : slice_get (named_places w) u.0 ≡ Some ((variable_of w u.0).input, (variable_of w u.0).at) = slice_get-get_or (named_places w) u.0 (0, []) (omega (arith, below, many)) in
      let there : slice_get (named_places w) u.0 ≡ Some (y.input, y.at) = own ∙ ap (λ (z : Variable (List ℕ)). Some (z.input, z.at)) u.2 in
      subst (Contains vars) (named_distinct w is u.0 v (y.input, y.at) there at) u.1

  tree_supports : (put : Option (ℕ × Bool)) (p : ℕ) (path : List ℕ) (lit : ℕ) (k : IsKnownAt e w put p path lit) → ((y : Variable (List ℕ)) → HasLeaf y k.tree → IsVisitedLeaf (side_of e) (Enabled e) (x ∷ []) y) → Supports w.graph is.is_graph (Contains vars) lit
  tree_supports put p path lit k visits = supports_tree w.graph is.is_graph (Contains vars) (named_places w) k.tree lit k.builds (λ y v leaf at. leaf_has y v (visits y leaf) at)

  -- what a start's own function reads
  pub own_supports : (put : Option (ℕ × Bool)) (lit : ℕ) → put_latch put ≡ x.left_out → IsKnownAt e w put x.place [] lit → Supports w.graph is.is_graph (Contains vars) lit
  own_supports put lit fits k = tree_supports put x.place [] lit k (own_leaf e w x vars sound circuit are put k.tree fits k.unfolds)

  -- what the enable of a latch at a node reads
  pub enable_supports : (path : List ℕ) (l : LatchAt) (lit : ℕ) → ((put : Option (ℕ × Bool)) (tree : Tree (List ℕ)) → (bit : Bool) → put ≡ Some (l.out.0, bit) → EventUnfolds (side_of e) (Enabled e) put l.next.0 path tree → (y : Variable (List ℕ)) → HasLeaf y tree → IsVisitedLeaf (side_of e) (Enabled e) (x ∷ []) y) →
      IsEnableLit e w path l lit → Supports w.graph is.is_graph (Contains vars) lit
  enable_supports path l lit visits k =
      supports_short_or w.graph is.is_graph (Contains vars) k.f0 (flip k.f1) lit k.or_is
      (tree_supports (Some (l.out.0, false)) l.next.0 path k.f0 k.low (λ y leaf. visits (Some (l.out.0, false)) k.low.tree false refl k.low.unfolds y leaf))
      (supports_flip w.graph is.is_graph (Contains vars) k.f1 (tree_supports (Some (l.out.0, true)) l.next.0 path k.f1 k.high (λ y leaf. visits (Some (l.out.0, true)) k.high.tree true refl k.high.unfolds y leaf)))

  begun : (node : List ℕ) (v : ℕ) → ReachedAt (side_of e) (Enabled e) (IsBegun (circuit_of e.net) x) node v → ReachedAt (side_of e) (Enabled e) (StartLatches (side_of e) (x ∷ [])) node v
  begun [] v r = (x, Contains-head x [], r.0, r.1)
  begun (k ∷ node) v r = (r.0, begun node r.0 r.1, r.2, r.3)

  -- the enable of a latch that is reached
  onward_supports : (node : List ℕ) (v lit : ℕ) → ReachedAt (side_of e) (Enabled e) (IsBegun (circuit_of e.net) x) node v → IsEnableOnward e w node v lit → Supports w.graph is.is_graph (Contains vars) lit
  onward_supports node v lit reached k =
      enable_supports ((side_of e).class v ∷ node) k.latch lit
      (λ put tree bit put_is unfolds y leaf. care_leaf e w x vars sound circuit are (StartLatches (side_of e) (x ∷ [])) (λ u h. h) tree (care put tree bit put_is unfolds) y leaf) k.enable
    where
      latch : IsLatch (circuit_of e.net) k.latch.name v k.latch.next.0
      latch = subst (λ (q : ℕ). IsLatch (circuit_of e.net) k.latch.name q k.latch.next.0) k.out (latch_stands e.net k.position k.latch k.at)

      care : (put : Option (ℕ × Bool)) (tree : Tree (List ℕ)) (bit : Bool) → put ≡ Some (k.latch.out.0, bit) → EventUnfolds (side_of e) (Enabled e) put k.latch.next.0 ((side_of e).class v ∷ node) tree → IsCareTree (side_of e) (StartLatches (side_of e) (x ∷ [])) tree
      care put tree bit put_is unfolds =
          IsCareTree.enable {node = node} {name = k.latch.name} {v = v} {next = k.latch.next.0} {bit = bit} (begun node v reached) latch k.enabled
          (subst (λ (q : ℕ). EventUnfolds (side_of e) (Enabled e) (Some (q, bit)) k.latch.next.0 ((side_of e).class v ∷ node) tree) k.out
          (subst (λ (o : Option (ℕ × Bool)). EventUnfolds (side_of e) (Enabled e) o k.latch.next.0 ((side_of e).class v ∷ node) tree) put_is unfolds))

  all_supports : (ys : List ℕ) (lit : ℕ) → ((y : ℕ) → Contains ys y → Supports w.graph is.is_graph (Contains vars) y) → IsAndOfAll w.graph ys lit → Supports w.graph is.is_graph (Contains vars) lit
  all_supports [] lit each e1 = subst (Supports w.graph is.is_graph (Contains vars)) (sym e1) (supports_constant w.graph is.is_graph (Contains vars) 1 (omega arith))
  all_supports (y ∷ ys) lit each k = supports_and_of w.graph is.is_graph (Contains vars) k.0 y lit k.2 (all_supports ys k.0 (λ z h. each z (Contains-tail y z ys h)) k.1) (each y (Contains-head y ys))

  -- what its care reads
  pub care_supports : (lit : ℕ) → IsCareLit e w x lit → Supports w.graph is.is_graph (Contains vars) lit
  care_supports lit k = all_supports k.enables lit (λ y h. let o = k.each y h in onward_supports o.0 o.1 y o.2 o.3) k.is
