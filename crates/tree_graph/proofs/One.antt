-- A tree leaves one graph, and has one literal there.
use Rattle.std.proofs.Common.{◌≡◌, ℕ, ◌*◌, ◌⊎◌, inl, inr, List, [], ◌∷◌, ◌++◌, length, slice_get, Option, Some, None, sym, ap, subst, ◌∙◌, if◌then◌else◌}
use Rattle.std.specs.List.{Contains}
use Rattle.circuit_theory.specs.Cover.{Cover}
use Rattle.circuit_theory.specs.Tree.{Tree, Trees, Leaf, Fixed, Branch, Nil, Cons}
use Rattle.circuit_theory.proofs.Lists.{of_at}
use Rattle.base_tables.specs.Table.{AreDistinct}
use Rattle.base_tables.specs.unique_table.Places.{IsWith, StandOnce}
use Rattle.aig.specs.declared.node.Node.{Node}
use Rattle.aig.specs.declared.node.Node.TheVariants.{Input}
use Rattle.aig.specs.Graph.{IsLitOf, flip}
use Rattle.aig.specs.Rules.{simple_and, and_node, place_lit, IsAndBy, IsWithAndBy}
use Rattle.aig.proofs.Insert.{push-cases}
use Rattle.aig.specs.Making.{MakesAnd, MakesPlace, MakesCube, MakesRow, MakesRows, MakesCover}
use Rattle.tree_graph.specs.Making.{Makes, MakesAll}

-- two graphs are one, in which no node stands twice, and two literals are one
pub record AreOne (h k : List Node) (x y : ℕ) : Type 0 where
  pub graphs : h ≡ k
  pub lits : x ≡ y
  pub once : StandOnce h

once_pushed : (g : List Node) (node : Node) → StandOnce g → (Contains g node → ⊥) → StandOnce (g ++ node ∷ [])
once_pushed g node once new n m y at other = by (push-cases g node n y at) (push-cases g node m y other)
  where
    by : (slice_get g n ≡ Some y) ⊎ ((n ≡ length g) × (y ≡ node)) → (slice_get g m ≡ Some y) ⊎ ((m ≡ length g) × (y ≡ node)) → n ≡ m
    by (inl a) (inl b) = once n m y a b
    by (inl a) (inr (e, f)) = absurd (new (of_at g n node (a ∙ ap Some f)))
    by (inr (e, f)) (inl b) = absurd (new (of_at g m node (b ∙ ap Some f)))
    by (inr (e, f)) (inr (d, h)) = e ∙ sym d

with_one : (g h k : List Node) (node : Node) → StandOnce g → IsWith g node h → IsWith g node k → (h ≡ k) × StandOnce h
with_one g h k node once (inl (there, e)) (inl (also, f)) = (e ∙ sym f, subst StandOnce (sym e) once)
with_one g h k node once (inl (there, e)) (inr (new, f)) = absurd (new there)
with_one g h k node once (inr (new, e)) (inl (also, f)) = absurd (new also)
with_one g h k node once (inr (new, e)) (inr (also, f)) = (e ∙ sym f, subst StandOnce (sym e) (once_pushed g node once new))

lit_one : (h : List Node) (node : Node) (x y : ℕ) → StandOnce h → IsLitOf h node x → IsLitOf h node y → x ≡ y
lit_one h node x y once (n, e, at) (m, f, other) = e ∙ ap (λ (i : ℕ). 2 * i) (once n m node at other) ∙ sym f

node_one : (g h k : List Node) (node : Node) (x y : ℕ) → StandOnce g → IsWith g node h → IsLitOf h node x → IsWith g node k → IsLitOf k node y → AreOne h k x y
node_one g h k node x y once with is also other =
    let one = with_one g h k node once with also in
    record { graphs = one.0; lits = lit_one h node x y one.1 is (subst (λ (l : List Node). IsLitOf l node y) (sym one.0) other); once = one.1 }

same_one : (g h k : List Node) (x y z : ℕ) → StandOnce g → h ≡ g → x ≡ z → k ≡ g → y ≡ z → AreOne h k x y
same_one g h k x y z once e d f c = record { graphs = e ∙ sym f; lits = d ∙ sym c; once = subst StandOnce (sym e) once }

and_by_one : (g h k : List Node) (l r : ℕ) (o : Option ℕ) (x y : ℕ) → StandOnce g → IsWithAndBy g l r o h → IsAndBy h l r o x → IsWithAndBy g l r o k → IsAndBy k l r o y → AreOne h k x y
and_by_one g h k l r None x y once with is also other = node_one g h k (and_node l r) x y once with is also other
and_by_one g h k l r (Some z) x y once with is also other = same_one g h k x y z once with is also other

and_one : (g h k : List Node) (l r x y : ℕ) → StandOnce g → MakesAnd g l r h x → MakesAnd g l r k y → AreOne h k x y
and_one g h k l r x y once (with, is) (also, other) = and_by_one g h k l r (simple_and l r) x y once with is also other

place_one : (g h k : List Node) (from : ℕ) (o : Option ℕ) (x y : ℕ) → StandOnce g → MakesPlace g from o h x → MakesPlace g from o k y → AreOne h k x y
place_one g h k from None x y once (e, is) (f, also) = same_one g h k x y from once e is f also
place_one g h k from (Some l) x y once made also = and_one g h k from l x y once made also

cube_one : (g h k : List Node) (from : ℕ) (places fs : List ℕ) (x y : ℕ) → StandOnce g → MakesCube g from places fs h x → MakesCube g from places fs k y → AreOne h k x y
cube_one g h k from [] [] x y once (e, is) (f, also) = same_one g h k x y from once e is f also
cube_one g h k from [] (f ∷ fs) x y once is also = absurd is
cube_one g h k from (p ∷ ps) [] x y once is also = absurd is
cube_one g h k from (p ∷ ps) (f ∷ fs) x y once (m, s, here, rest) (n, t, there, others) =
    let one = place_one g m n from (place_lit p f) s t once here there in
    cube_one m h k s ps fs x y one.once rest (subst (λ (z : ℕ). MakesCube m z ps fs k y) (sym one.lits) (subst (λ (l : List Node). MakesCube l t ps fs k y) (sym one.graphs) others))

row_one : (g h k : List Node) (from : ℕ) (row fs : List ℕ) (x y : ℕ) → StandOnce g → MakesRow g from row fs h x → MakesRow g from row fs k y → AreOne h k x y
row_one g h k from row fs x y once (m, s, u, cube, and, e) (n, t, v, other, also, f) =
    let one = cube_one g m n 1 row fs s t once cube other in
    let moved : MakesAnd m (flip from) (flip s) k v = subst (λ (z : ℕ). MakesAnd m (flip from) (flip z) k v) (sym one.lits) (subst (λ (l : List Node). MakesAnd l (flip from) (flip t) k v) (sym one.graphs) also) in
    let two = and_one m h k (flip from) (flip s) u v one.once and moved in
    record { graphs = two.graphs; lits = e ∙ ap flip two.lits ∙ sym f; once = two.once }

rows_one : (g h k : List Node) (from : ℕ) (rows : List (List ℕ)) (fs : List ℕ) (x y : ℕ) → StandOnce g → MakesRows g from rows fs h x → MakesRows g from rows fs k y → AreOne h k x y
rows_one g h k from [] fs x y once (e, is) (f, also) = same_one g h k x y from once e is f also
rows_one g h k from (row ∷ rows) fs x y once (m, s, here, rest) (n, t, there, others) =
    let one = row_one g m n from row fs s t once here there in
    rows_one m h k s rows fs x y one.once rest (subst (λ (z : ℕ). MakesRows m z rows fs k y) (sym one.lits) (subst (λ (l : List Node). MakesRows l t rows fs k y) (sym one.graphs) others))

cover_one : (g h k : List Node) (cover : Cover) (fs : List ℕ) (x y : ℕ) → StandOnce g → MakesCover g cover fs h x → MakesCover g cover fs k y → AreOne h k x y
cover_one g h k cover fs x y once (s, rows, e) (t, others, f) =
    let one = rows_one g h k 0 cover.rows fs s t once rows others in
    record { graphs = one.graphs; lits = e ∙ ap (λ (z : ℕ). if cover.on then z else flip z) one.lits ∙ sym f; once = one.once }

-- the same of several literals
pub record AllAreOne (h k : List Node) (xs ys : List ℕ) : Type 0 where
  pub graphs : h ≡ k
  pub lits : xs ≡ ys
  pub once : StandOnce h

module _ (places : List (ℕ × ℕ)) (distinct : AreDistinct places) where
  mutual
    pub tree_one : (g h k : List Node) (tree : Tree ℕ) (x y : ℕ) → StandOnce g → Makes places g tree h x → Makes places g tree k y → AreOne h k x y
    tree_one g h k (Leaf input at) x y once (v, place, with, is) (w, other, also, lit) =
        let same : w ≡ v = distinct w v (input, at) other place in
        node_one g h k (Input v) x y once with is (subst (λ (u : ℕ). IsWith g (Input u) k) same also) (subst (λ (u : ℕ). IsLitOf k (Input u) y) same lit)
    tree_one g h k (Fixed bit) x y once (e, is) (f, also) = same_one g h k x y (if bit then 1 else 0) once e is f also
    tree_one g h k (Branch cover subtrees) x y once (m, fs, all, is) (n, gs, each, also) =
        let one = trees_one g m n subtrees fs gs once all each in
        cover_one m h k cover fs x y one.once is (subst (λ (zs : List ℕ). MakesCover m cover zs k y) (sym one.lits) (subst (λ (l : List Node). MakesCover l cover gs k y) (sym one.graphs) also))

    pub trees_one : (g h k : List Node) (trees : Trees ℕ) (xs ys : List ℕ) → StandOnce g → MakesAll places g trees h xs → MakesAll places g trees k ys → AllAreOne h k xs ys
    trees_one g h k Nil xs ys once (e, is) (f, also) = record { graphs = e ∙ sym f; lits = is ∙ sym also; once = subst StandOnce (sym e) once }
    trees_one g h k (Cons first rest) xs ys once (m, s, ss, all, here, e) (n, t, ts, each, there, f) =
        let one = trees_one g m n rest ss ts once all each in
        let two = tree_one m h k first s t one.once here (subst (λ (l : List Node). Makes places l first k t) (sym one.graphs) there) in
        record { graphs = two.graphs; lits = e ∙ ap (λ (z : ℕ). z ∷ ss) two.lits ∙ ap (λ (zs : List ℕ). t ∷ zs) one.lits ∙ sym f; once = two.once }
