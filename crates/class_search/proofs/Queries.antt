-- Class queries are queries of the graph.
use Rattle.std.proofs.Common.{◌≡◌, ◌≢◌, ◌*◌, ◌/◌, ◌<◌, ℕ, List, [], ◌∷◌, length, reverse, slice_get, get_or, Some, sym, subst, arith, inl, inr}
use Rattle.std.specs.Prelude.{◌⊎◌}
use Rattle.std.specs.List.{AllPairs, Contains}
use Rattle.circuit_theory.specs.Names.{ListBefore}
use Rattle.circuit_theory.specs.Query.{Variable}
use Rattle.circuit_theory.proofs.Lists.{Contains-head, Contains-tail, Contains-cases, only}
use Rattle.circuit_theory.specs.Frame.{NodeBefore}
use Rattle.event_nodes.specs.event_variables.aig.Node.{Node}
use Rattle.event_nodes.specs.event_variables.aig.Node.TheVariants.{Input}
use Rattle.event_nodes.specs.event_variables.aig.Lit.{Lit}
use Rattle.event_nodes.specs.event_variables.aig.Graph.{Grows}
use Rattle.event_nodes.specs.event_variables.aig.Rules.{IsAndOf}
use Rattle.event_nodes.specs.event_variables.aig.Cone.{IsReached}
use Rattle.event_nodes.proofs.event_variables.aig.Growth.{Grows-length}
use Rattle.event_nodes.specs.Nodes.{EventGraphView, IsEventGraph, GrowsEvents}
use Rattle.event_nodes.specs.event_variables.Variables.{variable_of, GoesBefore, IsMergeOf}
use Rattle.pair_decide.specs.declared.query.Query.{Query}
use Rattle.pair_decide.specs.Queries.{roots_of, IsQuery}
use Rattle.class_search.specs.declared.compare.Enable.{Enable}
use Rattle.class_search.specs.Comparing.{IsReadyEnable}
use Rattle.aig.proofs.Supports.{From, Supports, supports_and_of, supports_constant, from_one, reached_one, reached_among, to_from, old_node, old_reached}

not_before_itself : (xs : List ℕ) → ListBefore xs xs → ⊥
not_before_itself [] h = h
not_before_itself (x ∷ xs) (inl l) = omega (arith, l)
not_before_itself (x ∷ xs) (inr e) = not_before_itself xs e.1

node_irreflexive : (x : Variable (List ℕ)) → NodeBefore x x → ⊥
node_irreflexive x (inl l) = omega (arith, l)
node_irreflexive x (inr h) = go h.1
  where
    go : ListBefore (reverse x.at) (reverse x.at) ⊎ ((x.at ≡ x.at) × (x.input < x.input)) → ⊥
    go (inl l) = not_before_itself (reverse x.at) l
    go (inr e) = omega (arith, e.1)

-- numbers in the order of their variables are distinct
pub distinct_in_order : (w : EventGraphView) (vars : List ℕ) → AllPairs (GoesBefore w) vars → AllPairs (λ u v. u ≢ v) vars
distinct_in_order w vars ordered i j d below within same =
    node_irreflexive (variable_of w (get_or vars j d)) (subst (λ (u : ℕ). GoesBefore w u (get_or vars j d)) same (ordered i j d below within))

-- an enable goes on to be ready while nodes are added to the graph
pub ready_later : (w : EventGraphView) (h : List Node) → IsEventGraph w → Grows w.graph h → (x : Enable) → IsReadyEnable w x → IsReadyEnable (record w { graph = h }) x
ready_later w h is grows x ready = record {
  value_within = omega (arith, ready.value_within, Grows-length w.graph h grows);
  care_within = omega (arith, ready.care_within, Grows-length w.graph h grows);
  in_order = record { within = ready.in_order.within; ordered = ready.in_order.ordered };
  covers = λ n v reached at. go n v (reached_one h (x.value.0 ∷ x.care.0 ∷ []) n reached) at;
}
  where
    own : (y : ℕ) → Contains (x.value.0 ∷ x.care.0 ∷ []) y → y < 2 * length w.graph → (n v : ℕ) → IsReached h (y ∷ []) n → slice_get h n ≡ Some (Input v) → Contains x.vars v
    own y among small n v reached at =
        let r = old_reached w.graph h is.is_graph grows y small reached in
        let node = at_old n v r.0 at in
        ready.covers n v (reached_among w.graph y (x.value.0 ∷ x.care.0 ∷ []) among r.1) node
      where
        at_old : (n v : ℕ) → n < length w.graph → slice_get h n ≡ Some (Input v) → slice_get w.graph n ≡ Some (Input v)
        at_old n v inside at = old_node w.graph h is.is_graph grows n (Input v) inside at

    small : (y : ℕ) → (x.value.0 ≡ y) ⊎ Contains (x.care.0 ∷ []) y → y < 2 * length w.graph
    small y (inl e) = omega (arith, e, ready.value_within)
    small y (inr k) = let e = only x.care.0 y k in omega (arith, e, ready.care_within)

    go : (n v : ℕ) → (y : ℕ) × Contains (x.value.0 ∷ x.care.0 ∷ []) y × IsReached h (y ∷ []) n → slice_get h n ≡ Some (Input v) → Contains x.vars v
    go n v (y, among, reached) at = own y among (small y (Contains-cases x.value.0 y (x.care.0 ∷ []) among)) n v reached at

-- the same of the whole event graph
pub ready_next : (w v : EventGraphView) → IsEventGraph w → GrowsEvents w v → v ≡ record w { graph = v.graph } → (x : Enable) → IsReadyEnable w x → IsReadyEnable v x
ready_next w v is grows same x ready = subst (λ (u : EventGraphView). IsReadyEnable u x) (sym same) (ready_later w v.graph is grows.graph x ready)

module _ (w : EventGraphView) (is : IsEventGraph w) (x : Enable) (ready : IsReadyEnable w x) where
  value_supports : Supports w.graph is.is_graph (Contains x.vars) x.value.0
  value_supports n v from at = ready.covers n v (reached_among w.graph x.value.0 (x.value.0 ∷ x.care.0 ∷ []) (Contains-head x.value.0 (x.care.0 ∷ [])) (to_from w.graph x.value.0 n from)) at

  care_supports : Supports w.graph is.is_graph (Contains x.vars) x.care.0
  care_supports n v from at = ready.covers n v (reached_among w.graph x.care.0 (x.value.0 ∷ x.care.0 ∷ []) (Contains-tail x.value.0 x.care.0 (x.care.0 ∷ []) (Contains-head x.care.0 [])) (to_from w.graph x.care.0 n from)) at

module _ (w : EventGraphView) (is : IsEventGraph w) (q : Query) where
  -- what covers the cones of the three literals covers the query
  covered : Supports w.graph is.is_graph (Contains q.vars) q.left.0 → Supports w.graph is.is_graph (Contains q.vars) q.right.0 → Supports w.graph is.is_graph (Contains q.vars) q.care.0 →
      (n v : ℕ) → IsReached w.graph (roots_of q) n → slice_get w.graph n ≡ Some (Input v) → Contains q.vars v
  covered left right care n v reached at = go (reached_one w.graph (roots_of q) n reached)
    where
      third : (y : ℕ) → (q.right.0 ≡ y) ⊎ Contains (q.care.0 ∷ []) y → From w.graph (y / 2) n → Contains q.vars v
      third y (inl e) from = right n v (subst (λ (z : ℕ). From w.graph (z / 2) n) (sym e) from) at
      third y (inr k) from = care n v (subst (λ (z : ℕ). From w.graph (z / 2) n) (sym (only q.care.0 y k)) from) at

      first : (y : ℕ) → (q.left.0 ≡ y) ⊎ Contains (q.right.0 ∷ q.care.0 ∷ []) y → From w.graph (y / 2) n → Contains q.vars v
      first y (inl e) from = left n v (subst (λ (z : ℕ). From w.graph (z / 2) n) (sym e) from) at
      first y (inr k) from = third y (Contains-cases q.right.0 y (q.care.0 ∷ []) k) from

      go : (y : ℕ) × Contains (roots_of q) y × IsReached w.graph (y ∷ []) n → Contains q.vars v
      go (y, among, reached) = first y (Contains-cases q.left.0 y (q.right.0 ∷ q.care.0 ∷ []) among) (from_one w.graph y reached)

  pub always_query : (x : Enable) → IsReadyEnable w x → q.left ≡ x.value → q.right.0 ≡ 1 → q.care ≡ x.care → q.vars ≡ x.vars → IsQuery w.graph q
  always_query x ready left right care vars = record {
    left = subst (λ (l : Lit). l.0 < 2 * length w.graph) (sym left) ready.value_within;
    right = omega (arith, right, ready.value_within);
    care = subst (λ (l : Lit). l.0 < 2 * length w.graph) (sym care) ready.care_within;
    distinct = subst (AllPairs (λ u v. u ≢ v)) (sym vars) (distinct_in_order w x.vars ready.in_order.ordered);
    covers = covered (λ n v from at. onto (value_supports w is x ready n v (subst (λ (l : Lit). From w.graph (l.0 / 2) n) left from) at)) (supports_constant w.graph is.is_graph (Contains q.vars) q.right.0 (omega (arith, right)))
        (λ n v from at. onto (care_supports w is x ready n v (subst (λ (l : Lit). From w.graph (l.0 / 2) n) care from) at));
  }
    where
      onto : {v : ℕ} → Contains x.vars v → Contains q.vars v
      onto {v} h = subst (λ (vs : List ℕ). Contains vs v) (sym vars) h

  pub enables_query : (x y : Enable) → IsReadyEnable w x → IsReadyEnable w y → q.left ≡ x.value → q.right ≡ y.value → IsAndOf w.graph x.care.0 y.care.0 q.care.0 → q.care.0 < 2 * length w.graph → IsMergeOf w x.vars y.vars q.vars → IsQuery w.graph q
  enables_query x y first second left right both within merged = record {
    left = subst (λ (l : Lit). l.0 < 2 * length w.graph) (sym left) first.value_within;
    right = subst (λ (l : Lit). l.0 < 2 * length w.graph) (sym right) second.value_within;
    care = within;
    distinct = distinct_in_order w q.vars merged.ordered;
    covers = covered (λ n v from at. from_left (value_supports w is x first n v (subst (λ (l : Lit). From w.graph (l.0 / 2) n) left from) at))
        (λ n v from at. from_right (value_supports w is y second n v (subst (λ (l : Lit). From w.graph (l.0 / 2) n) right from) at))
        (supports_and_of w.graph is.is_graph (Contains q.vars) x.care.0 y.care.0 q.care.0 both (λ n v from at. from_left (care_supports w is x first n v from at)) (λ n v from at. from_right (care_supports w is y second n v from at)));
  }
    where
      from_left : {v : ℕ} → Contains x.vars v → Contains q.vars v
      from_left {v} h = (merged.exactly v).1 (inl h)

      from_right : {v : ℕ} → Contains y.vars v → Contains q.vars v
      from_right {v} h = (merged.exactly v).1 (inr h)
