-- Event functions while the event graph grows.
use Rattle.std.proofs.Common.{◌≡◌, ◌∙◌, ◌*◌, ◌<◌, ◌≤◌, ℕ, Bool, true, List, [], ◌∷◌, length, get_or, slice_get, Some, sym, ap, subst, arith, inl, inr, length-append}
use Rattle.std.specs.Prelude.{◌⊎◌, ◌↔◌, Contains}
use Rattle.std.specs.List.{AllPairs, All}
use Rattle.std.proofs.lemmas.List.{get_or_append_left}
use Rattle.std.proofs.lemmas.List.Elements.{All-contains, All-weaker, Contains-get_or}
use Rattle.circuit_theory.specs.Joined.{Either}
use Rattle.circuit_theory.specs.Query.{Variable}
use Rattle.circuit_theory.specs.Run.{IsEnabled}
use Rattle.circuit_theory.specs.Tree.{Tree}
use Rattle.circuit_theory.proofs.Lists.{Contains-cases, length-map, map_same, only}
use Rattle.circuit_theory.specs.EventFrames.{AreNodeVariables}
use Rattle.circuit_theory.specs.Frame.{EventSide, HasCare, ConeLatches, IsNode, NodeBefore}
use Rattle.class_search.proofs.flat_net.Growth.{slice_get-append}
use Rattle.class_search.specs.aig.Builds.{Builds}
use Rattle.class_search.specs.aig.Cone.{IsReached}
use Rattle.class_search.specs.aig.Node.TheVariants.{Input}
use Rattle.class_search.proofs.aig.CoverMeaning.{value-tree}
use Rattle.class_search.proofs.aig.Growth.{Builds-one, Grows-length}
use Rattle.class_search.proofs.aig.Meaning.{value-grows}
use Rattle.event_nodes.specs.Nodes.{EventGraphView, IsEventGraph, GrowsEvents, named_places, path_of}
use Rattle.event_nodes.proofs.OnePath.{one_node}
use Rattle.event_nodes.proofs.Paths.{named_grows, path_grows}
use Rattle.class_search.specs.event_variables.Variables.{variable_of, variables_of, GoesBefore, AreInOrder}
use Rattle.aig.proofs.Supports.{reached_one, reached_among, old_node, old_reached}
use Rattle.class_search.proofs.event_variables.Named.{named_distinct}
use Rattle.event_classes.proofs.event_functions.Known.{builds_later}
use Rattle.event_classes.specs.declared.event_functions.signals.SignalFunction.{SignalFunction}
use Rattle.event_classes.specs.event_functions.Laws.{AreCovered}
use Rattle.edbf_unfold.specs.Laws.{TakesFrame}
use Rattle.class_search.specs.event_variables.Laws.{IsSignalTree}
use Rattle.event_form.specs.event_agreement.event_pairs.Functions.{IsEventFunction, AreNodesOf}
use Rattle.event_form.specs.event_agreement.event_pairs.Laws.{EventFunctionsGrow, EqualFunctionsOneLiteral, ValueIsTree}

module _ (w x : EventGraphView) (is : IsEventGraph w) (then : IsEventGraph x) (grows : GrowsEvents w x) where
  -- a frame of the greater graph is one of the smaller
  pub frame_before : (bits : ℕ → List ℕ → Bool) (a : ℕ → Bool) → TakesFrame x bits a → TakesFrame w bits a
  frame_before bits a fits v p at =
      let more = named_grows w x is grows in
      fits v p (subst (λ (ps : List (ℕ × List ℕ)). slice_get ps v ≡ Some p) (sym more.1) (slice_get-append (named_places w) more.0 v p at))

  -- a variable keeps its place
  pub variable_stays : (v : ℕ) → v < length w.places → variable_of x v ≡ variable_of w v
  variable_stays v below =
      let more = named_grows w x is grows in
      let many = length-map {Y = ℕ × List ℕ} (λ (p : ℕ × ℕ). (p.0, path_of w.children p.1)) w.places in
      let same : get_or (named_places x) v (0, []) ≡ get_or (named_places w) v (0, []) =
      ap (λ (l : List (ℕ × List ℕ)). get_or l v (0, [])) more.1 ∙ get_or_append_left (named_places w) more.0 (0, []) v (omega (arith, below, many)) in
      ap (λ (p : ℕ × List ℕ). record { input = p.0; at = p.1 }) same

  more_places : length w.places ≤ length x.places
  more_places = let e = ap length grows.places.1 in let f = length-append w.places grows.places.0 in omega (arith, e, f)

  more_children : length w.children ≤ length x.children
  more_children = let e = ap length grows.children.1 in let f = length-append w.children grows.children.0 in omega (arith, e, f)

  -- an event node keeps its path
  path_stays : (k : ℕ) → k ≤ length w.children → path_of x.children k ≡ path_of w.children k
  path_stays k inside = ap (λ (es : List (ℕ × ℕ)). path_of es k) grows.children.1 ∙ path_grows w.children grows.children.0 k inside

  module _ (vars : List ℕ) (within : All (λ v. v < length w.places) vars) where
    below : (v : ℕ) → Contains vars v → v < length w.places
    below v h = All-contains (λ (k : ℕ). k < length w.places) vars v within h

    pub variables_stay : variables_of x vars ≡ variables_of w vars
    variables_stay = map_same (variable_of x) (variable_of w) vars (λ v h. variable_stays v (below v h))

    pub ordered_later : AllPairs (GoesBefore w) vars → AllPairs (GoesBefore x) vars
    ordered_later ordered i j d low inside =
        let at_i = variable_stays (get_or vars i d) (below (get_or vars i d) (Contains-get_or vars i d (omega (arith, low, inside)))) in
        let at_j = variable_stays (get_or vars j d) (below (get_or vars j d) (Contains-get_or vars j d inside)) in
        subst (λ (y : Variable (List ℕ)). NodeBefore y (variable_of x (get_or vars j d))) (sym at_i) (subst (NodeBefore (variable_of w (get_or vars i d))) (sym at_j) (ordered i j d low inside))

    pub in_order_later : AreInOrder w vars → AreInOrder x vars
    in_order_later are = record {
      within = All-weaker (λ (v : ℕ). v < length w.places) (λ (v : ℕ). v < length x.places) (λ v low. omega (arith, low, more_places)) vars within;
      ordered = ordered_later are.ordered;
    }

    -- the cones of old literals are those that they had
    pub covered_later : (y z : ℕ) → y < 2 * length w.graph → z < 2 * length w.graph → AreCovered w vars y z → AreCovered x vars y z
    covered_later y z y_small z_small covers n v reached at = go (reached_one x.graph (y ∷ z ∷ []) n reached)
      where
        own : (u : ℕ) → Contains (y ∷ z ∷ []) u → u < 2 * length w.graph → IsReached x.graph (u ∷ []) n → Contains vars v
        own u among small k =
            let r = old_reached w.graph x.graph is.is_graph grows.graph u small k in
            covers n v (reached_among w.graph u (y ∷ z ∷ []) among r.1) (old_node w.graph x.graph is.is_graph grows.graph n (Input v) r.0 at)

        small : (u : ℕ) → (y ≡ u) ⊎ Contains (z ∷ []) u → u < 2 * length w.graph
        small u (inl e) = omega (arith, e, y_small)
        small u (inr k) = let e = only z u k in omega (arith, e, z_small)

        go : (u : ℕ) × Contains (y ∷ z ∷ []) u × IsReached x.graph (u ∷ []) n → Contains vars v
        go (u, among, k) = own u among (small u (Contains-cases y u (z ∷ []) among)) k

  module _ {P : Type 0} (s : EventSide P) (start : P → Type 0) (nodes : List ℕ) (are : AreNodesOf s start w.children nodes) where
    abbrev Node : List ℕ → Type 0
    Node path = IsNode s (IsEnabled s.circuit) start path

    -- a node that is reached was made before
    node_before : (k : ℕ) → k ≤ length x.children → Node (path_of x.children k) → Contains nodes k
    node_before k inside node =
        let m = are.made (path_of x.children k) node in
        let same : m.0 ≡ k = one_node x.children then.is_tree then.once m.0 k (omega (arith, m.1, more_children)) inside (path_stays m.0 m.1 ∙ m.2) in
        subst (Contains nodes) same ((are.exactly m.0).1 (m.1, subst Node (sym m.2) node))

    pub nodes_later : AreNodesOf s start x.children nodes
    nodes_later = record {
      exactly = λ k. (
        λ h. (let n = (are.exactly k).0 h in (omega (arith, n.0, more_children), subst Node (sym (path_stays k n.0)) n.1)),
        λ h. node_before k h.0 h.1,
      );
      made = λ path h. (let m = are.made path h in (m.0, omega (arith, m.1, more_children), path_stays m.0 m.1 ∙ m.2));
    }

  module _ (s : EventSide (Either ℕ ℕ)) (p : Either ℕ ℕ) (r : SignalFunction) (k : IsEventFunction s w p r) where
    pub function_later : IsEventFunction s x p r
    function_later = record {
      tree = k.tree;
      unfolds = k.unfolds;
      builds = builds_later w x is grows k.tree r.value.0 k.builds;
      value_within = omega (arith, k.value_within, Grows-length w.graph x.graph grows.graph);
      care_within = omega (arith, k.care_within, Grows-length w.graph x.graph grows.graph);
      care_is = λ bits a fits. subst (λ (b : Bool). (b ≡ true) ↔ HasCare s (IsEnabled s.circuit) (ConeLatches s.circuit p) bits) (sym (value-grows w.graph x.graph grows.graph a r.care.0 k.care_within)) (k.care_is bits a (frame_before bits a fits));
      in_order = in_order_later r.vars k.in_order.within k.in_order;
      are_variables = subst (AreNodeVariables (IsSignalTree s p)) (sym (variables_stay r.vars k.in_order.within)) k.are_variables;
      covers = covered_later r.vars k.in_order.within r.value.0 r.care.0 k.value_within k.care_within k.covers;
      nodes = nodes_later s (ConeLatches s.circuit p) r.nodes k.nodes;
      only_is = k.only_is;
    }

pub functions_later : EventFunctionsGrow
functions_later s w x p r is then grows k = function_later w x is then grows s p r k

pub one_literal : EqualFunctionsOneLiteral
one_literal s w p q f g is k l same =
    Builds-one w.graph is.is_graph (named_places w) (named_distinct w is) k.tree f.value.0 g.value.0 k.builds (subst (λ (t : Tree (List ℕ)). Builds w.graph (named_places w) t g.value.0) (sym same) l.builds)

pub value_of_tree : ValueIsTree
value_of_tree s w p r is k bits a fits = value-tree w.graph is.is_graph a (named_places w) bits fits k.tree r.value.0 k.builds
