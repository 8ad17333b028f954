-- A tree of inputs at one place, with another place in its stead.
use Rattle.std.proofs.Common.{◌≡◌, ℕ, Bool, List, refl, ap, inl, inr}
use Rattle.std.specs.Prelude.{◌⊎◌}
use Rattle.circuit_theory.specs.Circuit.{Circuit, IsLatch}
use Rattle.circuit_theory.specs.Cover.{cover_value}
use Rattle.circuit_theory.specs.Query.{Variable, HasLeaf, HasLeafIn}
use Rattle.circuit_theory.specs.Tree.{Tree, Trees, Leaf, Fixed, Branch, Nil, Cons, Unfolds, UnfoldsAll, tree_value, tree_values}
use Rattle.circuit_laws.proofs.LeafVisits.{leaf_says, leaf_in_says}
use Rattle.assume_laws.specs.Assume.{PlaceUnfolds, PlaceUnfoldsAll}

-- the input with this place
abbrev pub put_at : ℕ → Variable ℕ → Variable ℕ
put_at place x = record { input = x.input; at = place }

abbrev mutual
  pub moved : ℕ → Tree ℕ → Tree ℕ
  moved place (Leaf input at) = Leaf input place
  moved place (Fixed bit) = Fixed bit
  moved place (Branch cover subtrees) = Branch cover (moved_all place subtrees)

  pub moved_all : ℕ → Trees ℕ → Trees ℕ
  moved_all place Nil = Nil
  moved_all place (Cons first rest) = Cons (moved place first) (moved_all place rest)

module _ (place : ℕ) (bits : ℕ → ℕ → Bool) where
  mutual
    unfolding tree_value

    -- it has the value that the tree has where each input has its bit at the place
    pub moved_value : (tree : Tree ℕ) → tree_value bits (moved place tree) ≡ tree_value (λ i k. bits i place) tree
    moved_value (Leaf input at) = refl
    moved_value (Fixed bit) = refl
    moved_value (Branch cover subtrees) = ap (cover_value cover) (moved_values subtrees)

    moved_values : (trees : Trees ℕ) → tree_values bits (moved_all place trees) ≡ tree_values (λ i k. bits i place) trees
    moved_values Nil = refl
    moved_values (Cons first rest) = let head = moved_value first in let tail = moved_values rest in cc

module _ (c : Circuit ℕ) (order : List ℕ) (gates : (name : List ℕ) (u next : ℕ) → IsLatch c name u next → ⊥) (place : ℕ) where
  mutual
    -- without latches the plain unfolding is that at a place
    pub moved_unfolds : {p k d : ℕ} {tree : Tree ℕ} → Unfolds c order p k d tree → PlaceUnfolds c order place p (moved place tree)
    moved_unfolds (Unfolds.input h) = PlaceUnfolds.input h
    moved_unfolds (Unfolds.gate eq each) = PlaceUnfolds.gate eq (moved_unfolds_all each)
    moved_unfolds (Unfolds.port eq rest) = PlaceUnfolds.port eq (moved_unfolds rest)
    moved_unfolds (Unfolds.latch {name = name} {out = out} {next = next} eq rest) = absurd (gates name out next eq)

    moved_unfolds_all : {ps : List ℕ} {k d : ℕ} {trees : Trees ℕ} → UnfoldsAll c order ps k d trees → PlaceUnfoldsAll c order place ps (moved_all place trees)
    moved_unfolds_all UnfoldsAll.none = PlaceUnfoldsAll.none
    moved_unfolds_all (UnfoldsAll.more one rest) = PlaceUnfoldsAll.more (moved_unfolds one) (moved_unfolds_all rest)

module _ (place : ℕ) where
  mutual
    -- its leaves are those of the tree with the place
    pub moved_leaf : {x : Variable ℕ} {tree : Tree ℕ} → HasLeaf x tree → HasLeaf (put_at place x) (moved place tree)
    moved_leaf HasLeaf.leaf = HasLeaf.leaf
    moved_leaf (HasLeaf.inside h) = HasLeaf.inside (moved_leaf_in h)

    moved_leaf_in : {x : Variable ℕ} {trees : Trees ℕ} → HasLeafIn x trees → HasLeafIn (put_at place x) (moved_all place trees)
    moved_leaf_in (HasLeafIn.first h) = HasLeafIn.first (moved_leaf h)
    moved_leaf_in (HasLeafIn.later h) = HasLeafIn.later (moved_leaf_in h)

  -- a leaf of the tree that has this one as its image
  abbrev pub From : Variable ℕ → Tree ℕ → Type 0
  From y tree = (x : Variable ℕ) × HasLeaf x tree × (put_at place x ≡ y)

  abbrev FromOne : Variable ℕ → Trees ℕ → Type 0
  FromOne y trees = (x : Variable ℕ) × HasLeafIn x trees × (put_at place x ≡ y)

  mutual
    -- and it has no others
    pub moved_from : (y : Variable ℕ) (tree : Tree ℕ) → HasLeaf y (moved place tree) → From y tree
    moved_from y (Leaf input at) h = let e = leaf_says h in (record { input = input; at = at }, HasLeaf.leaf, λ i. record { input = e.0 i; at = e.1 i })
    moved_from y (Fixed bit) h = absurd (leaf_says h)
    moved_from y (Branch cover subtrees) h = let r = moved_from_one y subtrees (leaf_says h) in (r.0, HasLeaf.inside r.1, r.2)

    moved_from_one : (y : Variable ℕ) (trees : Trees ℕ) → HasLeafIn y (moved_all place trees) → FromOne y trees
    moved_from_one y Nil h = absurd (leaf_in_says h)
    moved_from_one y (Cons first rest) h = pick (leaf_in_says h) (λ k. moved_from y first k) (λ k. moved_from_one y rest k)
      where
        pick : HasLeaf y (moved place first) ⊎ HasLeafIn y (moved_all place rest) → (HasLeaf y (moved place first) → From y first) → (HasLeafIn y (moved_all place rest) → FromOne y rest) → FromOne y (Cons first rest)
        pick (inl k) here there = let r = here k in (r.0, HasLeafIn.first r.1, r.2)
        pick (inr k) here there = let r = there k in (r.0, HasLeafIn.later r.1, r.2)
