-- What has been made already leaves the graph as it was.
use Rattle.std.proofs.Common.{ℕ, inl, List, [], ◌∷◌, Option, Some, None, refl}
use Rattle.circuit_theory.specs.Cover.{Cover}
use Rattle.circuit_theory.specs.Tree.{Tree, Trees, Leaf, Fixed, Branch, Nil, Cons}
use Rattle.circuit_theory.proofs.Lists.{of_at}
use Rattle.base_tables.specs.unique_table.Places.{IsWith}
use Rattle.aig.specs.declared.node.Node.{Node}
use Rattle.aig.specs.declared.node.Node.TheVariants.{Input}
use Rattle.aig.specs.Graph.{IsLitOf, flip}
use Rattle.aig.specs.Rules.{simple_and, and_node, place_lit, IsAndBy, IsAndOf, IsWithAndBy, IsPlaceOf, IsCubeOf, IsRowOf, AreRowsOf, IsCoverOf}
use Rattle.aig.specs.Builds.{Builds, BuildsAll}
use Rattle.aig.specs.Making.{MakesAnd, MakesPlace, MakesCube, MakesRow, MakesRows, MakesCover}
use Rattle.tree_graph.specs.Making.{Makes, MakesAll}

module _ (g : List Node) where
  with_kept : (node : Node) (x : ℕ) → IsLitOf g node x → IsWith g node g
  with_kept node x (n, e, at) = inl (of_at g n node at, refl)

  with_and_kept : (l r : ℕ) (o : Option ℕ) (x : ℕ) → IsAndBy g l r o x → IsWithAndBy g l r o g
  with_and_kept l r None x is = with_kept (and_node l r) x is
  with_and_kept l r (Some y) x is = refl

  and_kept : (l r x : ℕ) → IsAndOf g l r x → MakesAnd g l r g x
  and_kept l r x is = (with_and_kept l r (simple_and l r) x is, is)

  place_kept : (from : ℕ) (o : Option ℕ) (x : ℕ) → IsPlaceOf g from o x → MakesPlace g from o g x
  place_kept from None x is = (refl, is)
  place_kept from (Some l) x is = and_kept from l x is

  cube_kept : (from : ℕ) (places fs : List ℕ) (x : ℕ) → IsCubeOf g from places fs x → MakesCube g from places fs g x
  cube_kept from [] [] x is = (refl, is)
  cube_kept from [] (f ∷ fs) x is = is
  cube_kept from (p ∷ ps) [] x is = is
  cube_kept from (p ∷ ps) (f ∷ fs) x (y, here, rest) = (g, y, place_kept from (place_lit p f) y here, cube_kept y ps fs x rest)

  row_kept : (from : ℕ) (row fs : List ℕ) (x : ℕ) → IsRowOf g from row fs x → MakesRow g from row fs g x
  row_kept from row fs x (y, cube, (z, is, e)) = (g, y, z, cube_kept 1 row fs y cube, and_kept (flip from) (flip y) z is, e)

  rows_kept : (from : ℕ) (rows : List (List ℕ)) (fs : List ℕ) (x : ℕ) → AreRowsOf g from rows fs x → MakesRows g from rows fs g x
  rows_kept from [] fs x is = (refl, is)
  rows_kept from (row ∷ rows) fs x (y, here, rest) = (g, y, row_kept from row fs y here, rows_kept y rows fs x rest)

  pub cover_kept : (cover : Cover) (fs : List ℕ) (x : ℕ) → IsCoverOf g cover fs x → MakesCover g cover fs g x
  cover_kept cover fs x (y, rows, e) = (y, rows_kept 0 cover.rows fs y rows, e)

  module _ (places : List (ℕ × ℕ)) where
    mutual
      pub tree_kept : (tree : Tree ℕ) (x : ℕ) → Builds g places tree x → Makes places g tree g x
      tree_kept (Leaf input at) x (v, place, is) = (v, place, with_kept (Input v) x is, is)
      tree_kept (Fixed bit) x is = (refl, is)
      tree_kept (Branch cover subtrees) x (fs, all, is) = (g, fs, trees_kept subtrees fs all, cover_kept cover fs x is)

      pub trees_kept : (trees : Trees ℕ) (fs : List ℕ) → BuildsAll g places trees fs → MakesAll places g trees g fs
      trees_kept Nil fs is = (refl, is)
      trees_kept (Cons first rest) fs (f, others, here, all, e) = (g, f, others, trees_kept rest others all, tree_kept first f here, e)
