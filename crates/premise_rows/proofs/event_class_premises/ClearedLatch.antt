-- A latch that an input clears, in a gate that reads sixteen inputs more: it is enabled, its enable is that input, and its trees read all of them.
use Rattle.std.proofs.Common.{◌≡◌, ◌≢◌, ◌∙◌, ℕ, ◌<◌, Bool, true, false, not, List, [], ◌∷◌, ◌++◌, get_or, map, Some, refl, sym, ap, subst, arith, inl, inr}
use Rattle.std.specs.Prelude.{◌⊎◌, ◌&&◌, ◌||◌}
use Rattle.std.specs.List.{AllPairs, Contains}
use Rattle.std.proofs.lemmas.List.Elements.{All-contains}
use Rattle.std.proofs.lemmas.Option.{get_or_from_slice_get}
use Rattle.circuit_theory.specs.Circuit.{Equation, Gate, Holds, Latch, Port, IsInput, IsLatch, IsSingleDriven, Reads, Reaches}
use Rattle.circuit_theory.specs.Classes.{IsInFirstClass}
use Rattle.circuit_theory.specs.Cover.{cover_value}
use Rattle.circuit_theory.specs.EventFrames.{AreNodeVariables, IsCareTree, IsClassTree, IsEnableTree}
use Rattle.circuit_theory.specs.EventTotals.{IsMapSoFar}
use Rattle.circuit_theory.specs.Frame.{ConeOthers, EventSide, EventUnfolds, EventUnfoldsAll, IsEnable, NodeBefore, ReachedAt}
use Rattle.circuit_theory.specs.Query.{HasLeaf, HasLeafIn, Variable}
use Rattle.circuit_theory.specs.Run.{ExtendsWith, IsEnabled}
use Rattle.circuit_theory.specs.Tree.{Tree, Trees, Branch, Cons, Fixed, Leaf, Nil, IsInputNumber, tree_value}
use Rattle.circuit_theory.proofs.Inputs.{beside_is_input}
use Rattle.circuit_theory.proofs.Lists.{Contains-cases, Contains-head, Contains-map, Contains-map_from, Contains-tail, only}
use Rattle.circuit_laws.proofs.event_laws.EventTrees.{one_event_tree}
use Rattle.event_nodes.specs.aig.Values.{value, lit_bit, node_bits, bits_from}
use Rattle.edbf_unfold.specs.class_queries.Enables.{IsEnableFunction}
use Rattle.call_rows.proofs.circuit_samples.Each.{each_split}
use Rattle.premise_rows.specs.event_class_premises.AtLimit.{many_inputs}
use Rattle.premise_rows.specs.event_class_premises.ClassLimit.{clear_cover}
use Rattle.premise_rows.specs.event_limit_premises.Chosen.{numbers_from, seventeen}
use Rattle.premise_rows.proofs.event_limit_premises.Numbers.{at, of_seventeen}

-- the cover's value
cleared : (b : Bool) (x : ℕ → Bool) (bit : Bool) → cover_value clear_cover (b ∷ map x (numbers_from 1 16) ++ bit ∷ []) ≡ (not b && bit)
unfolding cover_value
cleared true x bit = refl
cleared false x true = refl
cleared false x false = refl

enable_bit : (b : Bool) (x : ℕ → Bool) → (cover_value clear_cover (b ∷ map x (numbers_from 1 16) ++ false ∷ []) || not (cover_value clear_cover (b ∷ map x (numbers_from 1 16) ++ true ∷ []))) ≡ b
unfolding cover_value
enable_bit true x = refl
enable_bit false x = refl

never : (b : Bool) → b && false ≡ true → ⊥
never true e = cc
never false e = cc

-- the variables: each input at the root
abbrev now : ℕ → Variable (List ℕ)
now k = record { input = k; at = [] }

abbrev pub root_inputs : List (Variable (List ℕ))
root_inputs = map now seventeen

in_their_order : AllPairs NodeBefore root_inputs
in_their_order i j d l h =
    let j_in : j < 17 = h in
    let i_in : i < 17 = omega (arith, l, j_in) in
    let first : get_or root_inputs i d ≡ now i = get_or_from_slice_get root_inputs i (now i) d (at now [] i i_in) in
    let second : get_or root_inputs j d ≡ now j = get_or_from_slice_get root_inputs j (now j) d (at now [] j j_in) in
    subst (λ m. NodeBefore m (get_or root_inputs j d)) (sym first) (subst (NodeBefore (now i)) (sym second) (inr (refl, inr (refl, l))))

-- what the latch takes over, with itself read as a bit
abbrev leaves : List ℕ → Bool → List ℕ → Trees (List ℕ)
leaves [] bit node = Cons (Fixed bit) Nil
leaves (k ∷ ks) bit node = Cons (Leaf k node) (leaves ks bit node)

abbrev clear_tree : Bool → List ℕ → Tree (List ℕ)
clear_tree bit node = Branch clear_cover (leaves seventeen bit node)

at_leaf : (i : ℕ) (x : Variable (List ℕ)) → HasLeaf x (Leaf i []) → now i ≡ x
at_leaf i x HasLeaf.leaf = refl

leaf_in : (ks : List ℕ) (bit : Bool) (k : ℕ) → Contains ks k → HasLeafIn (now k) (leaves ks bit [])
leaf_in [] bit k h = absurd (omega (arith, h.1))
leaf_in (j ∷ ks) bit k h = go (Contains-cases j k ks h) (λ m. leaf_in ks bit k m)
  where
    go : (j ≡ k) ⊎ Contains ks k → (Contains ks k → HasLeafIn (now k) (leaves ks bit [])) → HasLeafIn (now k) (leaves (j ∷ ks) bit [])
    go (inl e) later = subst (λ m. HasLeafIn (now m) (leaves (j ∷ ks) bit [])) e (HasLeafIn.first HasLeaf.leaf)
    go (inr m) later = HasLeafIn.later (later m)

leaf_from : (ks : List ℕ) (bit : Bool) (x : Variable (List ℕ)) → HasLeafIn x (leaves ks bit []) → (k : ℕ) × Contains ks k × (now k ≡ x)
leaf_from [] bit x (HasLeafIn.first h) = absurd (elim h [ ])
leaf_from [] bit x (HasLeafIn.later h) = absurd (elim h [ ])
leaf_from (j ∷ ks) bit x (HasLeafIn.first h) = (j, Contains-head j ks, at_leaf j x h)
leaf_from (j ∷ ks) bit x (HasLeafIn.later h) = let m = leaf_from ks bit x h in (m.0, Contains-tail j m.0 ks m.1, m.2)

abbrev next_of : {P : Type 0} → Equation P → P
next_of (Gate out fanins cover) = out
next_of (Latch m out to) = to
next_of (Port out from) = from

module _ {P : Type 0} (s : EventSide P) (single : IsSingleDriven s.circuit) (once : (p : P) (i j : ℕ) → IsInputNumber s.circuit s.order p i → IsInputNumber s.circuit s.order p j → i ≡ j)
    (name : List ℕ) (u next : P) (place : ℕ → P) (latch : IsLatch s.circuit name u next) (gate : Contains s.circuit.equations (Gate next (map place seventeen ++ u ∷ []) clear_cover))
    (numbered : (k : ℕ) → k < 17 → IsInputNumber s.circuit s.order (place k) k) (lone : (other : List ℕ) (w to : P) → IsLatch s.circuit other w to → u ≡ w) where
  abbrev On : P → Type 0
  On = IsEnabled s.circuit

  -- a is an input, and no latch
  first_input : IsInput s.circuit (place 0)
  first_input = beside_is_input s.circuit.inputs s.order (place 0) 0 (numbered 0 (omega arith))

  not_latch : place 0 ≢ u
  not_latch e = single.no_input (Latch name u next) latch (subst (IsInput s.circuit) e first_input)

  put_value : (bit : Bool) (x v : P → Bool) → ExtendsWith s.circuit u bit x v → v next ≡ (not (x (place 0)) && bit)
  put_value bit x v ex =
      let held : v next ≡ cover_value clear_cover (map v (map place seventeen ++ u ∷ [])) = All-contains (Holds v) s.circuit.equations _ ex.meets gate in
      let a : v (place 0) ≡ x (place 0) = ex.sources (place 0) (inl first_input) not_latch in
      held ∙ (cleared (v (place 0)) (λ k. v (place k)) (v u) ∙ (λ i. not (a i) && ex.put i))

  pub enabled : On u
  enabled = record {
    name = name;
    next = next;
    latch = latch;
    self_edge = (inr (name, next, latch), Reaches.there (Reads.by_gate gate (17, omega arith, refl)) Reaches.here);
    rises = λ x low high l k e. absurd (never (not (x (place 0))) (sym (put_value false x low l) ∙ e));
  }

  -- it reads no other latch
  no_other : (node : List ℕ) (v : P) → ReachedAt s On (ConeOthers s.circuit On u) node v → ⊥
  no_other [] v h = h.4 enabled (sym (lone h.3.0 v h.3.1 h.3.2))
  no_other (k ∷ node) v h = no_other node h.0 h.1

  unfold_all : (ks : List ℕ) → ((k : ℕ) → Contains ks k → k < 17) → (bit : Bool) (node : List ℕ) → EventUnfoldsAll s On (Some (u, bit)) (map place ks ++ u ∷ []) node (leaves ks bit node)
  unfold_all [] within bit node = EventUnfoldsAll.more EventUnfolds.fixed EventUnfoldsAll.none
  unfold_all (k ∷ ks) within bit node = EventUnfoldsAll.more (EventUnfolds.input (numbered k (within k (Contains-head k ks)))) (unfold_all ks (λ j h. within j (Contains-tail k j ks h)) bit node)

  takes_over : (bit : Bool) (node : List ℕ) → EventUnfolds s On (Some (u, bit)) next node (clear_tree bit node)
  takes_over bit node = EventUnfolds.gate {fanins = map place seventeen ++ u ∷ []} {cover = clear_cover} gate (unfold_all seventeen of_seventeen bit node)

  -- its enable at a node is a there
  enable_at : (bits : ℕ → List ℕ → Bool) (node : List ℕ) → IsEnable s On bits u node (bits 0 node)
  unfolding tree_value
  enable_at bits node = IsEnable.own {name = name} {next = next} enabled latch (takes_over false node) (takes_over true node) (enable_bit (bits 0 node) (λ k. bits k node))

  pub function : IsEnableFunction s many_inputs u 2 1
  unfolding value node_bits bits_from lit_bit
  function = record {
    enable_within = omega arith;
    care_within = omega arith;
    enable_is = λ bits a takes. subst (IsEnable s On bits u []) (sym (takes 0 (0, []) refl)) (enable_at bits []);
    care_is = λ bits a takes. (λ e node v reached. absurd (no_other node v reached), λ care. refl);
  }

  -- the trees of its enable
  own_tree : (bit : Bool) → IsEnableTree s u (clear_tree bit [])
  own_tree bit = IsEnableTree.own {name = name} {next = next} {bit = bit} latch enabled (takes_over bit [])

  leaf_of : (t : Tree (List ℕ)) → IsEnableTree s u t → (x : Variable (List ℕ)) → HasLeaf x t → Contains root_inputs x
  leaf_of tree (IsEnableTree.own {name = other} {next = to} {bit = bit} {tree = t} is on unfolds) x stands = inside (subst (HasLeaf x) (one_event_tree s On single once (name, next, latch) moved (takes_over bit [])) stands)
    where
      to_is : to ≡ next
      to_is = ap next_of (single.one (Latch other u to) (Latch name u next) is latch refl)

      moved : EventUnfolds s On (Some (u, bit)) next [] t
      moved = subst (λ (q : P). EventUnfolds s On (Some (u, bit)) q [] t) to_is unfolds

      inside : HasLeaf x (clear_tree bit []) → Contains root_inputs x
      inside (HasLeaf.inside h) = let k = leaf_from seventeen bit x h in subst (Contains root_inputs) k.2 (Contains-map now seventeen k.0 k.1)

  no_care_tree : (t : Tree (List ℕ)) → IsCareTree s (ConeOthers s.circuit On u) t → ⊥
  no_care_tree t (IsCareTree.enable {node = node} {v = v} reached is on unfolds) = no_other node v reached

  pub are_variables : AreNodeVariables (IsClassTree s u u) root_inputs
  are_variables = record { in_order = in_their_order; exactly = λ x. (from x, λ f. back x f.0 f.1 f.2) }
    where
      from : (x : Variable (List ℕ)) → Contains root_inputs x → (t : Tree (List ℕ)) × IsClassTree s u u t × HasLeaf x t
      from x h = let k = Contains-map_from now seventeen x h in (clear_tree false [], inl (inl (own_tree false)), subst (λ y. HasLeaf y (clear_tree false [])) k.2 (HasLeaf.inside (leaf_in seventeen false k.0 k.1)))

      back : (x : Variable (List ℕ)) (t : Tree (List ℕ)) → IsClassTree s u u t → HasLeaf x t → Contains root_inputs x
      back x t (inl (inl h)) stands = leaf_of t h x stands
      back x t (inl (inr h)) stands = leaf_of t h x stands
      back x t (inr (inl h)) stands = absurd (no_care_tree t h)
      back x t (inr (inr h)) stands = absurd (no_care_tree t h)

  -- the class map begins with it, the one latch
  pub map_begins : IsMapSoFar s [] (u ∷ [])
  map_begins = record {
    is_order = record {
      all = λ v on. subst (Contains (u ∷ [])) (lone on.name v on.next on.latch) (Contains-head u []);
      enabled = λ v h. subst On (only u v h) enabled;
      in_order = λ i j d l h. absurd (omega (arith, l, h));
    };
    plain = λ other w to is off. absurd (off (subst On (lone other w to is) enabled));
    each = λ before after v e. each_split (IsInFirstClass s) [] tt before after v e;
  }
