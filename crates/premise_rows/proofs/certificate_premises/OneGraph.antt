-- Two ands by other rows have one graph.
use Rattle.std.proofs.Common.{◌≡◌, ℕ, List, [], ◌∷◌, refl, sym, subst, arith, inl, inr}
use Rattle.std.specs.Prelude.{◌⊎◌}
use Rattle.std.specs.List.{Contains}
use Rattle.circuit_theory.specs.Cover.{Cover}
use Rattle.circuit_theory.specs.Net.{IsNet}
use Rattle.circuit_theory.specs.Query.{Variable, AreVariables, HasLeaf, HasLeafIn, ShiftBefore}
use Rattle.circuit_theory.specs.Tree.{Tree, Leaf, Unfolds, UnfoldsAll}
use Rattle.circuit_theory.proofs.Lists.{Contains-cases, Contains-head, Contains-tail, only}
use Rattle.flat_net.specs.View.{circuit_of}
use Rattle.event_nodes.specs.aig.Graph.{flip}
use Rattle.event_nodes.specs.aig.Node.{Node}
use Rattle.event_nodes.specs.aig.Node.TheVariants.{Constant, Input}
use Rattle.event_nodes.specs.aig.Rules.{place_lit, simple_and}
use Rattle.tree_graph.specs.aig.Making.{MakesCover}
use Rattle.tree_graph.specs.Making.{Makes}
use Rattle.tree_graph.specs.Numbering.{IsGraphOf}
use Rattle.tree_graph.specs.Rooted.{HasTree, IsTreeOf}
use Rattle.call_rows.proofs.circuit_samples.Each.{each_pair}
use Rattle.call_rows.proofs.circuit_samples.NetTest.{net_test-sound}
use Rattle.premise_rows.specs.event_pair_premises.Held.{and_of}
use Rattle.premise_rows.specs.certificate_premises.OneGraph.{on_cover, off_cover, and_by, rooted, and_tree, and_nodes}

pub unfolds : (cover : Cover) → Unfolds (circuit_of (and_by cover)) (0 ∷ 1 ∷ []) 2 0 0 (and_tree cover)
unfolds cover =
    Unfolds.gate {fanins = 0 ∷ 1 ∷ []} {cover = cover} (0, omega arith, refl)
    (UnfoldsAll.more (Unfolds.input (inl (refl, refl))) (UnfoldsAll.more (Unfolds.input (inr (inl (refl, refl)))) UnfoldsAll.none))

pub is_tree : (cover : Cover) → IsTreeOf (rooted cover) (and_tree cover)
is_tree cover = (0, unfolds cover)

pub has_tree : (cover : Cover) → HasTree (rooted cover)
has_tree cover = record { each = refl; tree = and_tree cover; is_tree = is_tree cover }

pub is_net : (cover : Cover) → IsNet (circuit_of (and_by cover)) 3
is_net cover = net_test-sound (circuit_of (and_by cover)) 3 refl

-- the variables are a and b
abbrev a_now : Variable ℕ
a_now = record { input = 0; at = 0 }

abbrev b_now : Variable ℕ
b_now = record { input = 1; at = 0 }

abbrev both_now : List (Variable ℕ)
both_now = a_now ∷ b_now ∷ []

abbrev trees : List (Tree ℕ)
trees = and_tree on_cover ∷ and_tree off_cover ∷ []

leaf_is : (x : Variable ℕ) (i k : ℕ) → HasLeaf x (Leaf i k) → x ≡ record { input = i; at = k }
leaf_is x i k HasLeaf.leaf = refl

of_and : (x : Variable ℕ) (cover : Cover) → HasLeaf x (and_tree cover) → Contains both_now x
of_and x cover (HasLeaf.inside (HasLeafIn.first h)) = subst (Contains both_now) (sym (leaf_is x 0 0 h)) (Contains-head a_now (b_now ∷ []))
of_and x cover (HasLeaf.inside (HasLeafIn.later (HasLeafIn.first h))) = subst (Contains both_now) (sym (leaf_is x 1 0 h)) (Contains-tail a_now b_now (b_now ∷ []) (Contains-head b_now []))
of_and x cover (HasLeaf.inside (HasLeafIn.later (HasLeafIn.later h))) = elim h [ ]

read_by_trees : (x : Variable ℕ) (tree : Tree ℕ) → Contains trees tree → HasLeaf x tree → Contains both_now x
read_by_trees x tree h leaf = by (Contains-cases (and_tree on_cover) tree (and_tree off_cover ∷ []) h)
  where
    by : (and_tree on_cover ≡ tree) ⊎ Contains (and_tree off_cover ∷ []) tree → Contains both_now x
    by (inl e) = of_and x on_cover (subst (HasLeaf x) (sym e) leaf)
    by (inr k) = of_and x off_cover (subst (HasLeaf x) (sym (only (and_tree off_cover) tree k)) leaf)

read_there : (x : Variable ℕ) → Contains both_now x → (tree : Tree ℕ) × Contains trees tree × HasLeaf x tree
read_there x h = by (Contains-cases a_now x (b_now ∷ []) h)
  where
    here : Contains trees (and_tree on_cover)
    here = Contains-head (and_tree on_cover) (and_tree off_cover ∷ [])

    by : (a_now ≡ x) ⊎ Contains (b_now ∷ []) x → (tree : Tree ℕ) × Contains trees tree × HasLeaf x tree
    by (inl e) = subst (λ (y : Variable ℕ). (tree : Tree ℕ) × Contains trees tree × HasLeaf y tree) e (and_tree on_cover, here, HasLeaf.inside (HasLeafIn.first HasLeaf.leaf))
    by (inr k) =
        subst (λ (y : Variable ℕ). (tree : Tree ℕ) × Contains trees tree × HasLeaf y tree) (only b_now x k)
        (and_tree on_cover, here, HasLeaf.inside (HasLeafIn.later (HasLeafIn.first HasLeaf.leaf)))

variables : AreVariables ShiftBefore trees both_now
variables = record { in_order = each_pair ShiftBefore both_now ((inr (refl, omega arith), tt), (tt, tt)); exactly = λ x. (read_there x, λ h. read_by_trees x h.0 h.1 h.2) }

abbrev places : List (ℕ × ℕ)
places = (0, 0) ∷ (1, 0) ∷ []

abbrev inputs_alone : List Node
inputs_alone = Constant ∷ Input 0 ∷ Input 1 ∷ []

new_and : Contains inputs_alone (and_of 2 4) → ⊥
new_and h = by (Contains-cases Constant (and_of 2 4) (Input 0 ∷ Input 1 ∷ []) h)
  where
    last : (Input 0 ≡ and_of 2 4) ⊎ Contains (Input 1 ∷ []) (and_of 2 4) → ⊥
    last (inl e) = cc
    last (inr k) = let e = only (Input 1) (and_of 2 4) k in cc

    by : (Constant ≡ and_of 2 4) ⊎ Contains (Input 0 ∷ Input 1 ∷ []) (and_of 2 4) → ⊥
    by (inl e) = cc
    by (inr k) = last (Contains-cases (Input 0) (and_of 2 4) (Input 1 ∷ []) k)

-- the cube of both, and the or of it and 0
on_made : MakesCover inputs_alone on_cover (2 ∷ 4 ∷ []) and_nodes 6
unfolding place_lit simple_and flip
on_made = (
  6,
  (
    and_nodes,
    6,
    (and_nodes, 6, 7, (inputs_alone, 2, (refl, refl), (and_nodes, 6, (inr (new_and, refl), (3, refl, refl)), (refl, refl))), (refl, refl), refl),
    (refl, refl),
  ),
  refl,
)

-- the complement of a, the or of it and that of b, and its complement
off_made : MakesCover and_nodes off_cover (2 ∷ 4 ∷ []) and_nodes 6
unfolding place_lit simple_and flip
off_made = (
  7,
  (
    and_nodes,
    3,
    (and_nodes, 3, 2, (and_nodes, 3, (refl, refl), (and_nodes, 3, (refl, refl), (refl, refl))), (refl, refl), refl),
    (
      and_nodes,
      7,
      (and_nodes, 5, 6, (and_nodes, 1, (refl, refl), (and_nodes, 5, (refl, refl), (refl, refl))), (inl ((3, omega arith, refl), refl), (3, refl, refl)), refl),
      (refl, refl),
    ),
  ),
  refl,
)

-- the fan-ins are made first, the last of them before the other
on_tree_made : Makes places inputs_alone (and_tree on_cover) and_nodes 6
on_tree_made = (
  inputs_alone,
  2 ∷ 4 ∷ [],
  (
    inputs_alone,
    2,
    4 ∷ [],
    (inputs_alone, 4, [], (refl, refl), (1, refl, inl ((2, omega arith, refl), refl), (2, refl, refl)), refl),
    (0, refl, inl ((1, omega arith, refl), refl), (1, refl, refl)),
    refl,
  ),
  on_made,
)

off_tree_made : Makes places and_nodes (and_tree off_cover) and_nodes 6
off_tree_made = (
  and_nodes,
  2 ∷ 4 ∷ [],
  (
    and_nodes,
    2,
    4 ∷ [],
    (and_nodes, 4, [], (refl, refl), (1, refl, inl ((2, omega arith, refl), refl), (2, refl, refl)), refl),
    (0, refl, inl ((1, omega arith, refl), refl), (1, refl, refl)),
    refl,
  ),
  off_made,
)

pub graph : IsGraphOf (and_tree on_cover) (and_tree off_cover) places and_nodes 6 6
graph = record { variables = both_now; are_variables = variables; places_are = refl; between = and_nodes; left_made = on_tree_made; right_made = off_tree_made }
