-- The one pair: both sides are leaves at the root, where the assumption is asked, too.
use Rattle.std.proofs.Common.{◌≡◌, ◌∙◌, ℕ, zero, suc, ◌<◌, Bool, true, false, List, [], ◌∷◌, None, refl, sym, ap, subst, arith, inl, inr}
use Rattle.std.specs.Prelude.{◌⊎◌}
use Rattle.std.specs.List.{All, Contains}
use Rattle.std.proofs.lemmas.List.Elements.{All-nil, All-cons}
use Rattle.std.proofs.lemmas.List.Kept.{AllPairs-cons}
use Rattle.circuit_theory.specs.Joined.{Either, Left, Right}
use Rattle.circuit_theory.specs.Query.{Query, Variable, HasLeaf, Distinguishes, bits_of}
use Rattle.circuit_theory.specs.Tree.{Tree, Leaf, tree_value}
use Rattle.circuit_theory.proofs.Lists.{Contains-cases, Contains-head, Contains-tail, only}
use Rattle.circuit_theory.specs.EventFrames.{AreNodeVariables, IsCareTree, IsPairTree, frame_of}
use Rattle.circuit_theory.specs.Frame.{ConeLatches, EventUnfolds, HasCare, NodeBefore}
use Rattle.sec_setup.specs.declared.ports.pairs.SignalPair.{SignalPair}
use Rattle.assume_laws.specs.Assume.{HasVariableAtNode}
use Rattle.assume_laws.specs.Sequences.{HaveDifferentEventsUnder, IsEventDifferenceUnder, IsEventPairQueryUnder, IsPairTreeUnder, IsSideTree}
use Rattle.assume_laws.proofs.Meeting.{leaf_at, leaf_input}
use Rattle.event_under.specs.Places.{AreNodesOfPairs, ArePairNodes, IsReadAt}
use Rattle.event_setup.proofs.event_meaning.OneTree.{one_tree}
use Rattle.premise_rows.specs.event_outcome_samples.Different.{a_events, b_events, y_pair, IsFull, IsOverfull}
use Rattle.premise_rows.proofs.event_outcome_samples.Meeting.{b_assumed, meets_row, row_meets}
use Rattle.premise_rows.proofs.event_outcome_samples.Sides.{On, both, left_ready, no_cone, one_node, right_ready, unreached}

abbrev pub a_variable : Variable (List ℕ)
a_variable = record { input = 0; at = [] }

abbrev pub b_variable : Variable (List ℕ)
b_variable = record { input = 1; at = [] }

abbrev pub pair_variables : List (Variable (List ℕ))
pair_variables = a_variable ∷ b_variable ∷ []

pub inputs_low : All (λ (x : Variable (List ℕ)). x.input < 2) pair_variables
inputs_low =
    All-cons (λ (x : Variable (List ℕ)). x.input < 2) a_variable (b_variable ∷ []) (omega arith)
    (All-cons (λ (x : Variable (List ℕ)). x.input < 2) b_variable [] (omega arith) (All-nil (λ (x : Variable (List ℕ)). x.input < 2)))

left_unfolds : EventUnfolds both On None (Left 0) [] (Leaf 0 [])
left_unfolds = EventUnfolds.input (inl (refl, refl))

right_unfolds : EventUnfolds both On None (Right 1) [] (Leaf 1 [])
right_unfolds = EventUnfolds.input (inr (inr (inr (inl (refl, refl)))))

leaf_is : (x : Variable (List ℕ)) (i : ℕ) (at : List ℕ) → HasLeaf x (Leaf i at) → record { input = i; at = at } ≡ x
leaf_is x i at HasLeaf.leaf = refl

-- no care has a tree
no_care : (p : Either ℕ ℕ) (tree : Tree (List ℕ)) → IsCareTree both (ConeLatches both.circuit p) tree → ⊥
no_care p tree (IsCareTree.enable {node = node} {v = v} reached latch on unfolds) = unreached (ConeLatches both.circuit p) (no_cone p) node v reached

-- the variables of both sides
pair_leaf : (tree : Tree (List ℕ)) → IsPairTree both (Left 0) (Right 1) tree → (x : Variable (List ℕ)) → HasLeaf x tree → (a_variable ≡ x) ⊎ (b_variable ≡ x)
pair_leaf tree (inl (inl h)) x k = inl (leaf_is x 0 [] (subst (HasLeaf x) (one_tree a_events b_events left_ready right_ready (Left 0) tree (Leaf 0 []) h left_unfolds) k))
pair_leaf tree (inl (inr h)) x k = inr (leaf_is x 1 [] (subst (HasLeaf x) (one_tree a_events b_events left_ready right_ready (Right 1) tree (Leaf 1 []) h right_unfolds) k))
pair_leaf tree (inr (inl h)) x k = absurd (no_care (Left 0) tree h)
pair_leaf tree (inr (inr h)) x k = absurd (no_care (Right 1) tree h)

in_root : (x : Variable (List ℕ)) → (a_variable ≡ x) ⊎ (b_variable ≡ x) → [] ≡ x.at
in_root x (inl e) = ap (λ (y : Variable (List ℕ)). y.at) e
in_root x (inr e) = ap (λ (y : Variable (List ℕ)). y.at) e

-- they stand at the root
node_is : (node : List ℕ) → HasVariableAtNode both (Left 0) (Right 1) node → [] ≡ node
node_is node h = in_root (record { input = h.1; at = node }) (pair_leaf h.0 h.2 (record { input = h.1; at = node }) h.3)

root_is_read : HasVariableAtNode both (Left 0) (Right 1) []
root_is_read = (Leaf 0 [], 0, inl (inl left_unfolds), HasLeaf.leaf)

abbrev FoundIn : (Tree (List ℕ) → Type 0) → Variable (List ℕ) → Type 0
FoundIn Wanted x = (tree : Tree (List ℕ)) × Wanted tree × HasLeaf x tree

variables_of : (Wanted : Tree (List ℕ) → Type 0) → Wanted (Leaf 0 []) → Wanted (Leaf 1 []) → ((tree : Tree (List ℕ)) → Wanted tree → (x : Variable (List ℕ)) → HasLeaf x tree → (a_variable ≡ x) ⊎ (b_variable ≡ x)) → AreNodeVariables Wanted pair_variables
variables_of Wanted first second each = record {
  in_order = AllPairs-cons NodeBefore a_variable (b_variable ∷ []) (All-cons (NodeBefore a_variable) b_variable [] (inr (refl, inr (refl, omega arith))) (All-nil (NodeBefore a_variable))) (λ i j d l h. absurd (omega (arith, l, h)));
  exactly = λ x. ((λ h. there x (Contains-cases a_variable x (b_variable ∷ []) h)), λ f. back x (each f.0 f.1 x f.2));
}
  where
    there : (x : Variable (List ℕ)) → (a_variable ≡ x) ⊎ Contains (b_variable ∷ []) x → FoundIn Wanted x
    there x (inl e) = subst (FoundIn Wanted) e (Leaf 0 [], first, HasLeaf.leaf)
    there x (inr k) = subst (FoundIn Wanted) (only b_variable x k) (Leaf 1 [], second, HasLeaf.leaf)

    back : (x : Variable (List ℕ)) → (a_variable ≡ x) ⊎ (b_variable ≡ x) → Contains pair_variables x
    back x (inl e) = subst (Contains pair_variables) e (Contains-head a_variable (b_variable ∷ []))
    back x (inr e) = subst (Contains pair_variables) e (Contains-tail a_variable b_variable (b_variable ∷ []) (Contains-head b_variable []))

-- the assumption has no variable but b at the root
under_leaf : (tree : Tree (List ℕ)) → IsPairTreeUnder b_assumed both (Left 0) (Right 1) tree → (x : Variable (List ℕ)) → HasLeaf x tree → (a_variable ≡ x) ⊎ (b_variable ≡ x)
under_leaf tree (inl pair) x h = pair_leaf tree pair x h
under_leaf tree (inr k) x h =
    let n = leaf_input b_assumed.circuit b_assumed.order k.0 x k.2 h in
    let at = leaf_at b_assumed.circuit b_assumed.order k.0 x k.2 h in
    inr (both_are (number n.0 x.input n.1) (node_is k.0 k.1 ∙ sym at))
  where
    number : (q i : ℕ) → ((0 ≡ q) × (1 ≡ i)) ⊎ ⊥ → 1 ≡ i
    number q i (inl r) = r.1
    number q i (inr r) = absurd r

    both_are : 1 ≡ x.input → [] ≡ x.at → b_variable ≡ x
    both_are e f = λ i. record { input = e i; at = f i }

abbrev pub y_query : Query (List ℕ)
y_query = record { left = λ bits. bits 0 []; right = λ bits. bits 1 []; care = λ bits. bits 1 [] }

care_of : (p : Either ℕ ℕ) (bits : ℕ → List ℕ → Bool) → HasCare both On (ConeLatches both.circuit p) bits
care_of p bits node v reached = absurd (unreached (ConeLatches both.circuit p) (no_cone p) node v reached)

asks : IsEventPairQueryUnder b_assumed both (Left 0) (Right 1) y_query
unfolding tree_value
asks = record {
  left_tree = Leaf 0 [];
  right_tree = Leaf 1 [];
  left_unfolds = left_unfolds;
  right_unfolds = right_unfolds;
  left = λ bits. refl;
  right = λ bits. refl;
  care = λ bits. (
    (λ e. ((care_of (Left 0) bits, care_of (Right 1) bits), λ node h. row_meets (λ i. bits i node) (subst (λ (n : List ℕ). bits 1 n ≡ true) (node_is node h) e))),
    λ care. meets_row (λ i. bits i []) (care.1 [] root_is_read),
  );
}

apart : false ≡ true → ⊥
apart e = cc

distinguishes : Distinguishes y_query (frame_of pair_variables (false ∷ true ∷ []))
distinguishes = record { care = refl; differs = apart }

least : (m : ℕ) → m < 2 → Distinguishes y_query (frame_of pair_variables (bits_of m 2)) → ⊥
least zero h d = apart d.care
least (suc zero) h d = apart d.care
least (suc (suc m)) h d = omega (arith, h)

pub y_difference : IsEventDifferenceUnder b_assumed both (Left 0) (Right 1) y_query pair_variables pair_variables (false ∷ true ∷ [])
y_difference = record {
  asks = asks;
  are_sides = variables_of (IsSideTree both (Left 0) (Right 1)) (inl left_unfolds) (inr right_unfolds) (λ tree side x h. pair_leaf tree (inl side) x h);
  are_variables = variables_of (IsPairTreeUnder b_assumed both (Left 0) (Right 1)) (inl (inl (inl left_unfolds))) (inl (inl (inr right_unfolds))) under_leaf;
  each = refl;
  distinguishes = distinguishes;
  least = λ le. (2, refl, record { in_range = omega arith; distinguishes = distinguishes; least = least });
}

pub y_differs : HaveDifferentEventsUnder b_assumed both (Left 0) (Right 1)
unfolding tree_value
y_differs = record {
  left_tree = Leaf 0 [];
  right_tree = Leaf 1 [];
  left_unfolds = left_unfolds;
  right_unfolds = right_unfolds;
  bits = frame_of pair_variables (false ∷ true ∷ []);
  care = (asks.care (frame_of pair_variables (false ∷ true ∷ []))).0 refl;
  differ = apart;
}

-- the root is the one node at which it is asked
pair_nodes : ArePairNodes both y_pair ([] ∷ [])
pair_nodes = record { distinct = one_node; exactly = λ node. ((λ h. subst (IsReadAt both y_pair) (only [] node h) root_is_read), λ h. subst (Contains ([] ∷ [])) (node_is node h) (Contains-head [] [])) }

pub nodes_of_pair : AreNodesOfPairs both (y_pair ∷ []) ([] ∷ []) (([] ∷ []) ∷ [])
nodes_of_pair = record {
  distinct = one_node;
  exactly = λ node. (
    (λ h. (y_pair, Contains-head y_pair [], subst (IsReadAt both y_pair) (only [] node h) root_is_read)),
    λ f. subst (Contains ([] ∷ [])) (node_is node (subst (λ (p : SignalPair). IsReadAt both p node) (sym (only y_pair f.0 f.1)) f.2)) (Contains-head [] []),
  );
  each = (pair_nodes, tt);
}

pub full : IsFull
full = record { all = [] ∷ []; own = ([] ∷ []) ∷ []; nodes = nodes_of_pair; light = omega arith }

pub overfull : IsOverfull
overfull = record { all = [] ∷ []; own = ([] ∷ []) ∷ []; nodes = nodes_of_pair; over = omega arith }
