-- An assumption has one tree at each place.
use Rattle.std.proofs.Common.{◌≡◌, ℕ, List}
use Rattle.circuit_theory.specs.Circuit.{Circuit}
use Rattle.circuit_theory.specs.Tree.{Tree, Trees, Unfolds, UnfoldsAll}
use Rattle.circuit_theory.proofs.Numbers.{one_number}
use Rattle.circuit_laws.proofs.OneTree.{one_tree}
use Rattle.assume_laws.specs.Assume.{Assumption, IsAssumption, PlaceUnfolds, PlaceUnfoldsAll}

module _ (c : Circuit ℕ) (order : List ℕ) where
  mutual
    back : {p k : ℕ} {tree : Tree ℕ} → PlaceUnfolds c order k p tree → Unfolds c order p k 0 tree
    back (PlaceUnfolds.input h) = Unfolds.input h
    back (PlaceUnfolds.gate eq each) = Unfolds.gate eq (back_all each)
    back (PlaceUnfolds.port eq rest) = Unfolds.port eq (back rest)

    back_all : {ps : List ℕ} {k : ℕ} {trees : Trees ℕ} → PlaceUnfoldsAll c order k ps trees → UnfoldsAll c order ps k 0 trees
    back_all PlaceUnfoldsAll.none = UnfoldsAll.none
    back_all (PlaceUnfoldsAll.more one rest) = UnfoldsAll.more (back one) (back_all rest)

pub place_one : (c : Assumption) (size : ℕ) → IsAssumption c size → (k : ℕ) (l r : Tree ℕ) → PlaceUnfolds c.circuit c.order k c.output l → PlaceUnfolds c.circuit c.order k c.output r → l ≡ r
place_one c size is k l r a b =
    (one_tree c.circuit c.order is.net.single (λ p i j x y. one_number c.circuit.inputs c.order is.net.inputs p i j x y) (back c.circuit c.order a) (back c.circuit c.order b)).0
