-- The leaves of an output's tree: inputs with columns, at shifts up to the tree's depth.
use Rattle.std.proofs.Common.{ℕ, ◌+◌, ◌<◌, ◌≤◌, max, List, length, arith, inl, inr, ◌⊎◌}
use Rattle.std.specs.List.{Contains}
use Rattle.circuit_theory.specs.Circuit.{Circuit}
use Rattle.circuit_theory.specs.Tree.{Tree, Trees, Unfolds, UnfoldsAll}
use Rattle.circuit_theory.specs.Query.{Variable, HasLeaf, HasLeafIn}
use Rattle.circuit_theory.specs.Sizes.{Visits}
use Rattle.circuit_laws.proofs.LeafVisits.{leaf_visits, leaf_says, leaf_in_says}
use Rattle.flat_net.specs.View.{NetView, circuit_of}
use Rattle.sec_setup.specs.ports.Pairs.{outputs_of}
use Rattle.sec_setup.specs.Setup.{AreColumns}
use Rattle.sec_setup.proofs.ReadInputs.{visited_is_column}

module _ {P : Type 0} (c : Circuit P) (order : List ℕ) where
  mutual
    -- a leaf stands no earlier than the tree is deep
    pub leaf_shift : {p : P} {k d : ℕ} {tree : Tree ℕ} (x : Variable ℕ) → Unfolds c order p k d tree → HasLeaf x tree → x.at ≤ k + d
    leaf_shift x (Unfolds.input h) is_leaf = let e = leaf_says is_leaf in omega (arith, e.1)
    leaf_shift x (Unfolds.gate eq each) is_leaf = leaves_shift x each (leaf_says is_leaf)
    leaf_shift x (Unfolds.port eq rest) is_leaf = leaf_shift x rest is_leaf
    leaf_shift x (Unfolds.latch latch rest) is_leaf = let ih = leaf_shift x rest is_leaf in omega (arith, ih)

    pub leaves_shift : {ps : List P} {k d : ℕ} {trees : Trees ℕ} (x : Variable ℕ) → UnfoldsAll c order ps k d trees → HasLeafIn x trees → x.at ≤ k + d
    leaves_shift x UnfoldsAll.none is_leaf = absurd (leaf_in_says is_leaf)
    leaves_shift x (UnfoldsAll.more {k = k} {d = d} {e = e} {tree = tree} {trees = trees} one rest) is_leaf =
        pick (leaf_in_says is_leaf) (λ h. leaf_shift x one h) (λ h. leaves_shift x rest h)
      where
        pick : HasLeaf x tree ⊎ HasLeafIn x trees → (HasLeaf x tree → x.at ≤ k + d) → (HasLeafIn x trees → x.at ≤ k + e) → x.at ≤ k + max d e
        pick (inl h) here there = let l = here h in omega (arith, l)
        pick (inr h) here there = let l = there h in omega (arith, l)

module _ (n : NetView) where
  -- the leaves of an output's tree are columns
  pub leaf_is_column : (columns : List (List ℕ)) (order others : List ℕ) → AreColumns n columns order others →
      (s d : ℕ) (tree : Tree ℕ) → Contains (outputs_of n) s → Unfolds (circuit_of n) order s 0 d tree →
      (y : Variable ℕ) → HasLeaf y tree → y.input < length columns
  leaf_is_column columns order others are s d tree shown unfolds y is_leaf =
      let visit = leaf_visits (circuit_of n) order s 0 y unfolds Visits.itself is_leaf in
      visited_is_column n columns order others are s y.at visit.0 y.input shown visit.2 visit.1
