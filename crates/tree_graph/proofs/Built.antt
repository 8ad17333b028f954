-- What is made stands in the graph that it leaves, which has grown.
use Rattle.std.proofs.Common.{◌≡◌, ℕ, inl, inr, List, [], ◌∷◌, ◌++◌, Option, Some, None, refl, sym, ap, subst}
use Rattle.circuit_theory.specs.Cover.{Cover}
use Rattle.circuit_theory.specs.Tree.{Tree, Trees, Leaf, Fixed, Branch, Nil, Cons}
use Rattle.base_tables.specs.unique_table.Places.{IsWith}
use Rattle.aig.specs.declared.node.Node.{Node}
use Rattle.aig.specs.declared.node.Node.TheVariants.{Input}
use Rattle.aig.specs.Graph.{Grows, flip}
use Rattle.aig.specs.Rules.{simple_and, and_node, place_lit, IsWithAndBy, IsPlaceOf, IsCubeOf, IsRowOf, AreRowsOf, IsCoverOf}
use Rattle.aig.specs.Builds.{Builds, BuildsAll}
use Rattle.aig.proofs.Growth.{Grows-refl, Grows-trans, IsPlaceOf-grows, IsCubeOf-grows, IsRowOf-grows, BuildsAll-grows, Builds-grows}
use Rattle.aig.specs.Making.{MakesAnd, MakesPlace, MakesCube, MakesRow, MakesRows, MakesCover}
use Rattle.tree_graph.specs.Making.{Makes, MakesAll}

with_grown : (g h : List Node) (node : Node) → IsWith g node h → Grows g h
with_grown g h node (inl (there, e)) = subst (Grows g) (sym e) (Grows-refl g)
with_grown g h node (inr (new, e)) = (node ∷ [], e)

with_and_grown : (g h : List Node) (l r : ℕ) (o : Option ℕ) → IsWithAndBy g l r o h → Grows g h
with_and_grown g h l r None is = with_grown g h (and_node l r) is
with_and_grown g h l r (Some y) is = subst (Grows g) (sym is) (Grows-refl g)

pub and_grown : (g h : List Node) (l r x : ℕ) → MakesAnd g l r h x → Grows g h
and_grown g h l r x (with, is) = with_and_grown g h l r (simple_and l r) with

pub place_grown : (g h : List Node) (from : ℕ) (o : Option ℕ) (x : ℕ) → MakesPlace g from o h x → Grows g h
place_grown g h from None x (e, is) = subst (Grows g) (sym e) (Grows-refl g)
place_grown g h from (Some l) x made = and_grown g h from l x made

place_built : (g h : List Node) (from : ℕ) (o : Option ℕ) (x : ℕ) → MakesPlace g from o h x → IsPlaceOf h from o x
place_built g h from None x (e, is) = is
place_built g h from (Some l) x (with, is) = is

pub cube_grown : (g h : List Node) (from : ℕ) (places fs : List ℕ) (x : ℕ) → MakesCube g from places fs h x → Grows g h
cube_grown g h from [] [] x (e, is) = subst (Grows g) (sym e) (Grows-refl g)
cube_grown g h from [] (f ∷ fs) x is = absurd is
cube_grown g h from (p ∷ ps) [] x is = absurd is
cube_grown g h from (p ∷ ps) (f ∷ fs) x (k, y, here, rest) = Grows-trans g k h (place_grown g k from (place_lit p f) y here) (cube_grown k h y ps fs x rest)

cube_built : (g h : List Node) (from : ℕ) (places fs : List ℕ) (x : ℕ) → MakesCube g from places fs h x → IsCubeOf h from places fs x
cube_built g h from [] [] x (e, is) = is
cube_built g h from [] (f ∷ fs) x is = is
cube_built g h from (p ∷ ps) [] x is = is
cube_built g h from (p ∷ ps) (f ∷ fs) x (k, y, here, rest) =
    (y, IsPlaceOf-grows k h (cube_grown k h y ps fs x rest) from (place_lit p f) y (place_built g k from (place_lit p f) y here), cube_built k h y ps fs x rest)

pub row_grown : (g h : List Node) (from : ℕ) (row fs : List ℕ) (x : ℕ) → MakesRow g from row fs h x → Grows g h
row_grown g h from row fs x (k, y, z, cube, and, e) = Grows-trans g k h (cube_grown g k 1 row fs y cube) (and_grown k h (flip from) (flip y) z and)

row_built : (g h : List Node) (from : ℕ) (row fs : List ℕ) (x : ℕ) → MakesRow g from row fs h x → IsRowOf h from row fs x
row_built g h from row fs x (k, y, z, cube, and, e) =
    (y, IsCubeOf-grows k h (and_grown k h (flip from) (flip y) z and) 1 row fs y (cube_built g k 1 row fs y cube), (z, and.1, e))

rows_grown : (g h : List Node) (from : ℕ) (rows : List (List ℕ)) (fs : List ℕ) (x : ℕ) → MakesRows g from rows fs h x → Grows g h
rows_grown g h from [] fs x (e, is) = subst (Grows g) (sym e) (Grows-refl g)
rows_grown g h from (row ∷ rows) fs x (k, y, here, rest) = Grows-trans g k h (row_grown g k from row fs y here) (rows_grown k h y rows fs x rest)

rows_built : (g h : List Node) (from : ℕ) (rows : List (List ℕ)) (fs : List ℕ) (x : ℕ) → MakesRows g from rows fs h x → AreRowsOf h from rows fs x
rows_built g h from [] fs x (e, is) = is
rows_built g h from (row ∷ rows) fs x (k, y, here, rest) =
    (y, IsRowOf-grows k h (rows_grown k h y rows fs x rest) from row fs y (row_built g k from row fs y here), rows_built k h y rows fs x rest)

pub cover_grown : (g h : List Node) (cover : Cover) (fs : List ℕ) (x : ℕ) → MakesCover g cover fs h x → Grows g h
cover_grown g h cover fs x (y, rows, e) = rows_grown g h 0 cover.rows fs y rows

pub cover_built : (g h : List Node) (cover : Cover) (fs : List ℕ) (x : ℕ) → MakesCover g cover fs h x → IsCoverOf h cover fs x
cover_built g h cover fs x (y, rows, e) = (y, rows_built g h 0 cover.rows fs y rows, e)

nothing_behind : (places : List (ℕ × ℕ)) → places ++ [] ≡ places
nothing_behind [] = refl
nothing_behind (p ∷ ps) = ap (λ (qs : List (ℕ × ℕ)). p ∷ qs) (nothing_behind ps)

module _ (places : List (ℕ × ℕ)) where
  -- a tree that stands in a graph stands in one that has grown
  pub stays : (g h : List Node) → Grows g h → (tree : Tree ℕ) (x : ℕ) → Builds g places tree x → Builds h places tree x
  stays g h grows tree x is = subst (λ (ps : List (ℕ × ℕ)). Builds h ps tree x) (nothing_behind places) (Builds-grows g h grows places [] tree x is)

  pub stay : (g h : List Node) → Grows g h → (trees : Trees ℕ) (fs : List ℕ) → BuildsAll g places trees fs → BuildsAll h places trees fs
  stay g h grows trees fs is = subst (λ (ps : List (ℕ × ℕ)). BuildsAll h ps trees fs) (nothing_behind places) (BuildsAll-grows g h grows places [] trees fs is)

  mutual
    pub tree_grown : (g h : List Node) (tree : Tree ℕ) (x : ℕ) → Makes places g tree h x → Grows g h
    tree_grown g h (Leaf input at) x (v, place, with, is) = with_grown g h (Input v) with
    tree_grown g h (Fixed bit) x (e, is) = subst (Grows g) (sym e) (Grows-refl g)
    tree_grown g h (Branch cover subtrees) x (k, fs, all, is) = Grows-trans g k h (trees_grown g k subtrees fs all) (cover_grown k h cover fs x is)

    pub trees_grown : (g h : List Node) (trees : Trees ℕ) (fs : List ℕ) → MakesAll places g trees h fs → Grows g h
    trees_grown g h Nil fs (e, is) = subst (Grows g) (sym e) (Grows-refl g)
    trees_grown g h (Cons first rest) fs (k, f, others, all, here, e) = Grows-trans g k h (trees_grown g k rest others all) (tree_grown k h first f here)

  mutual
    pub tree_built : (g h : List Node) (tree : Tree ℕ) (x : ℕ) → Makes places g tree h x → Builds h places tree x
    tree_built g h (Leaf input at) x (v, place, with, is) = (v, place, is)
    tree_built g h (Fixed bit) x (e, is) = is
    tree_built g h (Branch cover subtrees) x (k, fs, all, is) =
        (fs, stay k h (cover_grown k h cover fs x is) subtrees fs (trees_built g k subtrees fs all), cover_built k h cover fs x is)

    pub trees_built : (g h : List Node) (trees : Trees ℕ) (fs : List ℕ) → MakesAll places g trees h fs → BuildsAll h places trees fs
    trees_built g h Nil fs (e, is) = is
    trees_built g h (Cons first rest) fs (k, f, others, all, here, e) =
        (f, others, tree_built k h first f here, stay k h (tree_grown k h first f here) rest others (trees_built g k rest others all), e)
