-- A tree of inputs at one place, with another place in its stead.
use Rattle.std.proofs.Common.{ℕ, List}
use Rattle.circuit_theory.specs.Circuit.{Circuit}
use Rattle.circuit_theory.specs.Query.{Variable, HasLeaf, HasLeafIn}
use Rattle.circuit_theory.specs.Tree.{Tree, Trees, Leaf, Fixed, Branch, Nil, Cons}
use Rattle.assume_laws.specs.Assume.{PlaceUnfolds, PlaceUnfoldsAll}

abbrev mutual
  pub moved : {L M : Type 0} → M → Tree L → Tree M
  moved place (Leaf input at) = Leaf input place
  moved place (Fixed bit) = Fixed bit
  moved place (Branch cover subtrees) = Branch cover (moved_all place subtrees)

  pub moved_all : {L M : Type 0} → M → Trees L → Trees M
  moved_all place Nil = Nil
  moved_all place (Cons first rest) = Cons (moved place first) (moved_all place rest)

module _ {L M : Type 0} (c : Circuit ℕ) (order : List ℕ) (at : L) (place : M) where
  mutual
    -- what unfolds at the one place unfolds at the other
    pub moved_unfolds : {p : ℕ} {tree : Tree L} → PlaceUnfolds c order at p tree → PlaceUnfolds c order place p (moved place tree)
    moved_unfolds (PlaceUnfolds.input h) = PlaceUnfolds.input h
    moved_unfolds (PlaceUnfolds.gate eq each) = PlaceUnfolds.gate eq (moved_unfolds_all each)
    moved_unfolds (PlaceUnfolds.port eq rest) = PlaceUnfolds.port eq (moved_unfolds rest)

    moved_unfolds_all : {ps : List ℕ} {trees : Trees L} → PlaceUnfoldsAll c order at ps trees → PlaceUnfoldsAll c order place ps (moved_all place trees)
    moved_unfolds_all PlaceUnfoldsAll.none = PlaceUnfoldsAll.none
    moved_unfolds_all (PlaceUnfoldsAll.more one rest) = PlaceUnfoldsAll.more (moved_unfolds one) (moved_unfolds_all rest)

module _ {L M : Type 0} (place : M) where
  mutual
    -- and its leaves are those with the place
    pub moved_leaf : {x : Variable L} {tree : Tree L} → HasLeaf x tree → HasLeaf (record { input = x.input; at = place }) (moved place tree)
    moved_leaf HasLeaf.leaf = HasLeaf.leaf
    moved_leaf (HasLeaf.inside h) = HasLeaf.inside (moved_leaf_in h)

    moved_leaf_in : {x : Variable L} {trees : Trees L} → HasLeafIn x trees → HasLeafIn (record { input = x.input; at = place }) (moved_all place trees)
    moved_leaf_in (HasLeafIn.first h) = HasLeafIn.first (moved_leaf h)
    moved_leaf_in (HasLeafIn.later h) = HasLeafIn.later (moved_leaf_in h)
