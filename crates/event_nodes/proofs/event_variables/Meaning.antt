-- Visited inputs are the variables of the trees.
use Rattle.std.proofs.Common.{◌≡◌, ◌∙◌, ◌<◌, ℕ, Bool, List, [], ◌∷◌, length, map, get_or, Option, Some, None, refl, sym, ap, subst, arith, inl, inr}
use Rattle.std.specs.Prelude.{◌⊎◌}
use Rattle.std.specs.List.{AllPairs, Contains}
use Rattle.std.proofs.lemmas.List.{get_or-map}
use Rattle.std.proofs.lemmas.List.Elements.{All-contains}
use Rattle.circuit_theory.specs.Circuit.{IsLatch}
use Rattle.circuit_theory.specs.Query.{Variable, HasLeaf}
use Rattle.circuit_theory.specs.Tree.{Tree, IsInputNumber}
use Rattle.circuit_theory.proofs.Lists.{Contains-head, Contains-map, Contains-map_from, length-map}
use Rattle.circuit_theory.proofs.Numbers.{one_number}
use Rattle.circuit_theory.specs.EventFrames.{IsCareTree, IsEnableTree, AreNodeVariables}
use Rattle.circuit_theory.specs.EventSizes.{Start, EventVisits}
use Rattle.circuit_theory.specs.EventTotals.{StartLatches}
use Rattle.circuit_theory.specs.Frame.{NodeBefore, EventUnfolds, ReachedAt, ConeLatches, ConeOthers}
use Rattle.flat_net.specs.Sound.{IsSound}
use Rattle.flat_net.specs.View.{circuit_of}
use Rattle.flat_net.proofs.Nets.{sound_is_net, latch_stands}
use Rattle.event_nodes.specs.Nodes.{EventGraphView, path_of}
use Rattle.event_nodes.specs.View.{EventCircuitView, IsEventCircuit, side_of, Enabled}
use Rattle.event_nodes.specs.Visited.{IsVisitedPair}
use Rattle.event_nodes.proofs.Bits.{kind_of}
use Rattle.flat_net.proofs.Drivers.{latch_next}
use Rattle.event_nodes.proofs.Visits.{reached_visited}
use Rattle.event_nodes.specs.event_variables.Variables.{variable_of, variables_of, GoesBefore}
use Rattle.event_nodes.proofs.event_variables.NodePaths.{variable_is}
use Rattle.event_nodes.specs.event_variables.Inputs.{IsVisitedInput, AreVisitedInputs}
use Rattle.event_nodes.specs.event_variables.Laws.{IsSignalTree, IsEnableCareTree, VisitedInputsAreInputs, SignalInputsAreVariables, EnableInputsAreVariables}
use Rattle.event_nodes.proofs.event_variables.Leaves.{IsVisitedLeaf, IsPart, leaf_visited, visited_part, part_leaf, put_latch}

pub visited_inputs : VisitedInputsAreInputs
visited_inputs e w x places vars sound is only holds are = record { in_order = are.in_order; each = each; all = all }
  where
    each : (v : ℕ) → Contains vars v → IsVisitedInput e x (variable_of w v).input (variable_of w v).at
    each v h =
        let p = are.each v h in
        let k = p.2 in
        let pair = All-contains (IsVisitedPair e w.children (x ∷ [])) places p.0 only p.1 in
        subst (λ (y : Variable (List ℕ)). IsVisitedInput e x y.input y.at) (sym (variable_is w is v (k.number, p.0.0) k.at)) (record { out = pair.out; place = p.0.1; visit = pair.visit; numbered = k.numbered })

    all : (input : ℕ) (path : List ℕ) → IsVisitedInput e x input path → (v : ℕ) × Contains vars v × (variable_of w v ≡ record { input = input; at = path })
    all input path visited =
        let l = holds visited.out visited.place path visited.visit in
        let v = are.all (l.node, visited.place) input l.listed visited.numbered in
        let k = v.2 in
        let number : k.number ≡ input = one_number (circuit_of e.net).inputs e.order (sound_is_net e.net sound).inputs visited.place k.number input k.numbered visited.numbered in
        let path_is : path_of w.children l.node ≡ path = l.path_is in
        let same : ◌≡◌ {A = Variable (List ℕ)} (record { input = k.number; at = path_of w.children l.node }) (record { input = input; at = path }) = λ i. record { input = number i; at = path_is i } in
        (v.0, v.1, variable_is w is v.0 (k.number, l.node) k.at ∙ same)

-- a place at which a table of variables is
in_order_of : (w : EventGraphView) (vars : List ℕ) → AllPairs (GoesBefore w) vars → AllPairs NodeBefore (variables_of w vars)
in_order_of w vars ordered i j d l m = go vars refl
  where
    go : (vs : List ℕ) → vs ≡ vars → NodeBefore (get_or (map (variable_of w) vars) i d) (get_or (map (variable_of w) vars) j d)
    go [] e = absurd (let z = ap (λ (x : List ℕ). length (map (variable_of w) x)) e in omega (arith, z, m))
    go (v ∷ vs) e =
        let many : length (map (variable_of w) vars) ≡ length vars = length-map (variable_of w) vars in
        let j_in : j < length vars = omega (arith, m, many) in
        let at_i = get_or-map (variable_of w) vars i v d (omega (arith, l, j_in)) in
        let at_j = get_or-map (variable_of w) vars j v d j_in in
        subst (λ (x : Variable (List ℕ)). NodeBefore x (get_or (map (variable_of w) vars) j d)) (sym at_i) (subst (NodeBefore (variable_of w (get_or vars i v))) (sym at_j) (ordered i j v l j_in))

module _ (e : EventCircuitView) (w : EventGraphView) (x : Start ℕ) (vars : List ℕ) (sound : IsSound e.net) (circuit : IsEventCircuit e) (are : AreVisitedInputs e w x vars) where
  pub numbers_are_one : (p m n : ℕ) → IsInputNumber (circuit_of e.net) e.order p m → IsInputNumber (circuit_of e.net) e.order p n → m ≡ n
  numbers_are_one p m n h g = one_number (circuit_of e.net).inputs e.order (sound_is_net e.net sound).inputs p m n h g

  decided : (name : List ℕ) (v next : ℕ) → IsLatch (circuit_of e.net) name v next → Enabled e v ⊎ (Enabled e v → ⊥)
  decided name v next latch = kind_of e sound circuit name v next latch

  -- each variable is a leaf of the start's own tree
  variable_leaf : (whole : Tree (List ℕ)) → IsPart (side_of e) (Enabled e) (sound_is_net e.net sound).single numbers_are_one whole x.left_out x.place [] → (y : Variable (List ℕ)) → Contains (variables_of w vars) y → HasLeaf y whole
  variable_leaf whole own y h =
      let v = Contains-map_from (variable_of w) vars y h in
      let k = are.each v.0 v.1 in
      let part = visited_part (side_of e) (Enabled e) (sound_is_net e.net sound).single numbers_are_one x whole own k.visit in
      subst (λ (z : Variable (List ℕ)). HasLeaf z whole) v.2 (part_leaf (side_of e) (Enabled e) (sound_is_net e.net sound).single numbers_are_one whole k.out k.place (variable_of w v.0).at part (variable_of w v.0).input k.numbered)

  -- each leaf that is visited is a variable
  pub leaf_variable : (y : Variable (List ℕ)) → IsVisitedLeaf (side_of e) (Enabled e) (x ∷ []) y → Contains (variables_of w vars) y
  leaf_variable y l =
      let v = are.all y.input y.at (record { out = l.out; place = l.place; visit = l.visit; numbered = l.input }) in
      subst (Contains (variables_of w vars)) v.2 (Contains-map (variable_of w) vars v.0 v.1)

  -- the leaves of the start's own tree are visited
  pub own_leaf : (put : Option (ℕ × Bool)) (tree : Tree (List ℕ)) → put_latch put ≡ x.left_out → EventUnfolds (side_of e) (Enabled e) put x.place [] tree → (y : Variable (List ℕ)) → HasLeaf y tree → IsVisitedLeaf (side_of e) (Enabled e) (x ∷ []) y
  own_leaf put tree fits unfolds y is_leaf =
      leaf_visited (side_of e) (Enabled e) (x ∷ []) unfolds (subst (λ (o : Option ℕ). EventVisits (side_of e) (Enabled e) (x ∷ []) o x.place []) (sym fits) (EventVisits.start {s = x} (Contains-head x []))) y is_leaf

  -- and so are those of its care
  pub care_leaf : (start : ℕ → Type 0) → ((v : ℕ) → start v → StartLatches (side_of e) (x ∷ []) v) → (t : Tree (List ℕ)) → IsCareTree (side_of e) start t → (y : Variable (List ℕ)) → HasLeaf y t → IsVisitedLeaf (side_of e) (Enabled e) (x ∷ []) y
  care_leaf start begins t (IsCareTree.enable {node = node} {name = name} {v = v} {next = next} {bit = bit} reached latch on unfolds) y is_leaf =
      let m = reached_visited (side_of e) (Enabled e) (x ∷ []) decided node v (begun node v reached) in
      leaf_visited (side_of e) (Enabled e) (x ∷ []) unfolds (EventVisits.held m.visit m.other latch on) y is_leaf
    where
      begun : (node : List ℕ) (v : ℕ) → ReachedAt (side_of e) (Enabled e) start node v → ReachedAt (side_of e) (Enabled e) (StartLatches (side_of e) (x ∷ [])) node v
      begun [] v r = begins v r
      begun (k ∷ node) v r = (r.0, begun node r.0 r.1, r.2, r.3)

  pub are_variables : (wanted : Tree (List ℕ) → Type 0) (whole : Tree (List ℕ)) → wanted whole → IsPart (side_of e) (Enabled e) (sound_is_net e.net sound).single numbers_are_one whole x.left_out x.place [] →
      ((t : Tree (List ℕ)) → wanted t → (y : Variable (List ℕ)) → HasLeaf y t → IsVisitedLeaf (side_of e) (Enabled e) (x ∷ []) y) → AreNodeVariables wanted (variables_of w vars)
  are_variables wanted whole want own visits = record {
    in_order = in_order_of w vars are.in_order.ordered;
    exactly = λ y. (λ h. (whole, want, variable_leaf whole own y h), λ h. leaf_variable y (visits h.0 h.1 y h.2));
  }

pub signal_variables : SignalInputsAreVariables
signal_variables e w p vars tree sound circuit unfolds are =
    are_variables e w (record { place = p; left_out = None }) vars sound circuit are (IsSignalTree (side_of e) p) tree (inl unfolds)
    (record { put = None; fits = refl; latch = tt; tree = tree; unfolds = unfolds; leaves = λ y l. l }) visits
  where
    visits : (t : Tree (List ℕ)) → IsSignalTree (side_of e) p t → (y : Variable (List ℕ)) → HasLeaf y t → IsVisitedLeaf (side_of e) (Enabled e) (record { place = p; left_out = None } ∷ []) y
    visits t (inl own) y is_leaf = own_leaf e w (record { place = p; left_out = None }) vars sound circuit are None t refl own y is_leaf
    visits t (inr care) y is_leaf = care_leaf e w (record { place = p; left_out = None }) vars sound circuit are (ConeLatches (circuit_of e.net) p) (λ v r. (record { place = p; left_out = None }, Contains-head (record { place = p; left_out = None }) [], r, tt)) t care y is_leaf

pub enable_variables : EnableInputsAreVariables
enable_variables e w j l bit vars tree sound circuit at on unfolds are =
    are_variables e w (record { place = l.next.0; left_out = Some l.out.0 }) vars sound circuit are (IsEnableCareTree (side_of e) l.out.0) tree (inl (IsEnableTree.own latch on unfolds))
    (record { put = Some (l.out.0, bit); fits = refl; latch = (l.name, l.next.0, latch); tree = tree; unfolds = unfolds; leaves = λ y k. k }) visits
  where
    latch : IsLatch (circuit_of e.net) l.name l.out.0 l.next.0
    latch = latch_stands e.net j l at

    same_next : (name : List ℕ) (next : ℕ) → IsLatch (circuit_of e.net) name l.out.0 next → next ≡ l.next.0
    same_next name next other = sym (latch_next e.net sound l.out.0 j (sound.latches j l at).owner l at name next other)

    visits : (t : Tree (List ℕ)) → IsEnableCareTree (side_of e) l.out.0 t → (y : Variable (List ℕ)) → HasLeaf y t → IsVisitedLeaf (side_of e) (Enabled e) (record { place = l.next.0; left_out = Some l.out.0 } ∷ []) y
    visits t (inl (IsEnableTree.own {name = name} {next = next} {bit = b} other enabled own)) y is_leaf =
        own_leaf e w (record { place = l.next.0; left_out = Some l.out.0 }) vars sound circuit are (Some (l.out.0, b)) t refl (subst (λ (n : ℕ). EventUnfolds (side_of e) (Enabled e) (Some (l.out.0, b)) n [] t) (same_next name next other) own) y is_leaf
    visits t (inr care) y is_leaf = care_leaf e w (record { place = l.next.0; left_out = Some l.out.0 }) vars sound circuit are (ConeOthers (circuit_of e.net) (Enabled e) l.out.0) begins t care y is_leaf
      where
        begins : (v : ℕ) → ConeOthers (circuit_of e.net) (Enabled e) l.out.0 v → StartLatches (side_of e) (record { place = l.next.0; left_out = Some l.out.0 } ∷ []) v
        begins v o = (
          record { place = l.next.0; left_out = Some l.out.0 },
          Contains-head (record { place = l.next.0; left_out = Some l.out.0 }) [],
          subst (λ (n : ℕ). ConeLatches (circuit_of e.net) n v) (same_next o.0 o.1 o.2) o.3,
          o.4 on,
        )
