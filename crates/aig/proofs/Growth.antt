-- A graph that grows: what stood in it stays, and what has one literal keeps it.
use Rattle.std.proofs.Common.{◌≡◌, ℕ, zero, suc, ◌*◌, ◌≤◌, List, [], ◌∷◌, ◌++◌, length, map, slice_get, Option, Some, None, refl, sym, ap, subst, ◌∙◌, arith, append_assoc, max, if◌then◌else◌}
use Rattle.std.proofs.lemmas.Option.{none-some}
use Rattle.std.proofs.lemmas.List.{length-append}
use Rattle.circuit_theory.specs.Circuit.{Circuit}
use Rattle.sec_base.specs.circuit_theory.Cover.{Cover}
use Rattle.sec_base.specs.circuit_theory.Tree.{Tree, Trees, Leaf, Fixed, Branch, Nil, Cons}
use Rattle.base_tables.specs.Table.{AreDistinct}
use Rattle.aig.specs.declared.node.Node.{Node}
use Rattle.aig.specs.declared.node.Node.TheVariants.{Constant, Input, And}
use Rattle.aig.specs.Graph.{IsGraph, Grows, IsLitOf, flip, vars_of}
use Rattle.aig.specs.Rules.{simple_and, and_node, IsAndBy, IsAndOf, IsOrOf, place_lit, IsPlaceOf, IsCubeOf, IsRowOf, AreRowsOf, IsCoverOf}
use Rattle.aig.specs.Builds.{Builds, BuildsAll, HasTreeLit}

pub Grows-refl : (g : List Node) → Grows g g
Grows-refl g = ([], append_nil g)
  where
    append_nil : (xs : List Node) → xs ≡ xs ++ []
    append_nil [] = refl
    append_nil (x ∷ xs) = ap (λ ys. x ∷ ys) (append_nil xs)

pub Grows-trans : (g h k : List Node) → Grows g h → Grows h k → Grows g k
Grows-trans g h k (more, e) (others, f) = (more ++ others, f ∙ ap (λ (xs : List Node). xs ++ others) e ∙ append_assoc g more others)

pub Grows-length : (g h : List Node) → Grows g h → length g ≤ length h
Grows-length g h (more, e) = omega (arith, ap length e, length-append g more)

-- what stands at a place stays there
pub slice_get-append : {X : Type 0} (xs ys : List X) (n : ℕ) (x : X) → slice_get xs n ≡ Some x → slice_get (xs ++ ys) n ≡ Some x
slice_get-append [] ys n x h = absurd (none-some x h)
slice_get-append (y ∷ xs) ys zero x h = h
slice_get-append (y ∷ xs) ys (suc n) x h = slice_get-append xs ys n x h

pub slice_get-grows : (g h : List Node) → Grows g h → (n : ℕ) (node : Node) → slice_get g n ≡ Some node → slice_get h n ≡ Some node
slice_get-grows g h (more, e) n node at = subst (λ (k : List Node). slice_get k n ≡ Some node) (sym e) (slice_get-append g more n node at)

module _ (g h : List Node) (grows : Grows g h) where
  pub IsLitOf-grows : (node : Node) (x : ℕ) → IsLitOf g node x → IsLitOf h node x
  IsLitOf-grows node x (n, e, at) = (n, e, slice_get-grows g h grows n node at)

  pub IsAndBy-grows : (l r : ℕ) (o : Option ℕ) (x : ℕ) → IsAndBy g l r o x → IsAndBy h l r o x
  IsAndBy-grows l r None x is = IsLitOf-grows (and_node l r) x is
  IsAndBy-grows l r (Some y) x is = is

  pub IsAndOf-grows : (l r x : ℕ) → IsAndOf g l r x → IsAndOf h l r x
  IsAndOf-grows l r x is = IsAndBy-grows l r (simple_and l r) x is

  pub IsOrOf-grows : (l r x : ℕ) → IsOrOf g l r x → IsOrOf h l r x
  IsOrOf-grows l r x (y, is, e) = (y, IsAndOf-grows (flip l) (flip r) y is, e)

  pub IsPlaceOf-grows : (from : ℕ) (o : Option ℕ) (x : ℕ) → IsPlaceOf g from o x → IsPlaceOf h from o x
  IsPlaceOf-grows from None x is = is
  IsPlaceOf-grows from (Some l) x is = IsAndOf-grows from l x is

  pub IsCubeOf-grows : (from : ℕ) (places fs : List ℕ) (x : ℕ) → IsCubeOf g from places fs x → IsCubeOf h from places fs x
  IsCubeOf-grows from [] [] x is = is
  IsCubeOf-grows from [] (f ∷ fs) x is = is
  IsCubeOf-grows from (p ∷ ps) [] x is = is
  IsCubeOf-grows from (p ∷ ps) (f ∷ fs) x (y, here, rest) = (y, IsPlaceOf-grows from (place_lit p f) y here, IsCubeOf-grows y ps fs x rest)

  pub IsRowOf-grows : (from : ℕ) (row fs : List ℕ) (x : ℕ) → IsRowOf g from row fs x → IsRowOf h from row fs x
  IsRowOf-grows from row fs x (y, cube, is) = (y, IsCubeOf-grows 1 row fs y cube, IsOrOf-grows from y x is)

  pub AreRowsOf-grows : (from : ℕ) (rows : List (List ℕ)) (fs : List ℕ) (x : ℕ) → AreRowsOf g from rows fs x → AreRowsOf h from rows fs x
  AreRowsOf-grows from [] fs x is = is
  AreRowsOf-grows from (row ∷ rows) fs x (y, here, rest) = (y, IsRowOf-grows from row fs y here, AreRowsOf-grows y rows fs x rest)

  pub IsCoverOf-grows : (cover : Cover) (fs : List ℕ) (x : ℕ) → IsCoverOf g cover fs x → IsCoverOf h cover fs x
  IsCoverOf-grows cover fs x (y, rows, e) = (y, AreRowsOf-grows 0 cover.rows fs y rows, e)

  -- also with more places behind
  mutual
    pub Builds-grows : {L : Type 0} (places more : List (ℕ × L)) (tree : Tree L) (x : ℕ) → Builds g places tree x → Builds h (places ++ more) tree x
    Builds-grows places more (Leaf input at) x (v, place, is) = (v, slice_get-append places more v (input, at) place, IsLitOf-grows (Input v) x is)
    Builds-grows places more (Fixed bit) x is = is
    Builds-grows places more (Branch cover subtrees) x (fs, all, is) = (fs, BuildsAll-grows places more subtrees fs all, IsCoverOf-grows cover fs x is)

    pub BuildsAll-grows : {L : Type 0} (places more : List (ℕ × L)) (trees : Trees L) (fs : List ℕ) → BuildsAll g places trees fs → BuildsAll h (places ++ more) trees fs
    BuildsAll-grows places more Nil fs is = is
    BuildsAll-grows places more (Cons first rest) fs (f, others, here, all, e) = (f, others, Builds-grows places more first f here, BuildsAll-grows places more rest others all, e)

-- the literal of a signal's tree stays where the leaves' literals do
pub HasTreeLit-grows : (c : Circuit ℕ) (g h : List Node) → Grows g h → (leaf later : ℕ → ℕ → Type 0) → ((s x : ℕ) → leaf s x → later s x) → (s x : ℕ) → HasTreeLit c g leaf s x → HasTreeLit c h later s x
HasTreeLit-grows c g h grows leaf later stays s x (HasTreeLit.at_leaf _ _ is) = HasTreeLit.at_leaf s x (stays s x is)
HasTreeLit-grows c g h grows leaf later stays s x (HasTreeLit.at_gate _ _ fanins cover lits stands each is) =
    HasTreeLit.at_gate s x fanins cover lits stands (λ f member. HasTreeLit-grows c g h grows leaf later stays f (lits f) (each f member)) (IsCoverOf-grows g h grows cover (map lits fanins) x is)

module _ (g : List Node) (graph : IsGraph g) where
  pub IsLitOf-one : (node : Node) (x y : ℕ) → IsLitOf g node x → IsLitOf g node y → x ≡ y
  IsLitOf-one node x y (n, e, at) (m, f, other) = e ∙ ap (λ (k : ℕ). 2 * k) (graph.once n m node at other) ∙ sym f

  pub IsAndBy-one : (l r : ℕ) (o : Option ℕ) (x y : ℕ) → IsAndBy g l r o x → IsAndBy g l r o y → x ≡ y
  IsAndBy-one l r None x y is also = IsLitOf-one (and_node l r) x y is also
  IsAndBy-one l r (Some z) x y is also = is ∙ sym also

  pub IsAndOf-one : (l r x y : ℕ) → IsAndOf g l r x → IsAndOf g l r y → x ≡ y
  IsAndOf-one l r x y is also = IsAndBy-one l r (simple_and l r) x y is also

  pub IsOrOf-one : (l r x y : ℕ) → IsOrOf g l r x → IsOrOf g l r y → x ≡ y
  IsOrOf-one l r x y (s, is, e) (t, also, f) = e ∙ ap flip (IsAndOf-one (flip l) (flip r) s t is also) ∙ sym f

  pub IsPlaceOf-one : (from : ℕ) (o : Option ℕ) (x y : ℕ) → IsPlaceOf g from o x → IsPlaceOf g from o y → x ≡ y
  IsPlaceOf-one from None x y is also = is ∙ sym also
  IsPlaceOf-one from (Some l) x y is also = IsAndOf-one from l x y is also

  pub IsCubeOf-one : (from : ℕ) (places fs : List ℕ) (x y : ℕ) → IsCubeOf g from places fs x → IsCubeOf g from places fs y → x ≡ y
  IsCubeOf-one from [] [] x y is also = is ∙ sym also
  IsCubeOf-one from [] (f ∷ fs) x y is also = absurd is
  IsCubeOf-one from (p ∷ ps) [] x y is also = absurd is
  IsCubeOf-one from (p ∷ ps) (f ∷ fs) x y (s, here, rest) (t, there, others) =
      let same : t ≡ s = IsPlaceOf-one from (place_lit p f) t s there here in
      IsCubeOf-one s ps fs x y rest (subst (λ (z : ℕ). IsCubeOf g z ps fs y) same others)

  pub IsRowOf-one : (from : ℕ) (row fs : List ℕ) (x y : ℕ) → IsRowOf g from row fs x → IsRowOf g from row fs y → x ≡ y
  IsRowOf-one from row fs x y (s, cube, is) (t, other, also) =
      let same : t ≡ s = IsCubeOf-one 1 row fs t s other cube in
      IsOrOf-one from s x y is (subst (λ (z : ℕ). IsOrOf g from z y) same also)

  pub AreRowsOf-one : (from : ℕ) (rows : List (List ℕ)) (fs : List ℕ) (x y : ℕ) → AreRowsOf g from rows fs x → AreRowsOf g from rows fs y → x ≡ y
  AreRowsOf-one from [] fs x y is also = is ∙ sym also
  AreRowsOf-one from (row ∷ rows) fs x y (s, here, rest) (t, there, others) =
      let same : t ≡ s = IsRowOf-one from row fs t s there here in
      AreRowsOf-one s rows fs x y rest (subst (λ (z : ℕ). AreRowsOf g z rows fs y) same others)

  pub IsCoverOf-one : (cover : Cover) (fs : List ℕ) (x y : ℕ) → IsCoverOf g cover fs x → IsCoverOf g cover fs y → x ≡ y
  IsCoverOf-one cover fs x y (s, rows, e) (t, others, f) =
      e ∙ ap (λ (z : ℕ). if cover.on then z else flip z) (AreRowsOf-one 0 cover.rows fs s t rows others) ∙ sym f

  -- equal trees have one literal
  mutual
    pub Builds-one : {L : Type 0} (places : List (ℕ × L)) → AreDistinct places → (tree : Tree L) (x y : ℕ) → Builds g places tree x → Builds g places tree y → x ≡ y
    Builds-one places distinct (Leaf input at) x y (v, place, is) (w, other, also) =
        let same : w ≡ v = distinct w v (input, at) other place in
        IsLitOf-one (Input v) x y is (subst (λ (u : ℕ). IsLitOf g (Input u) y) same also)
    Builds-one places distinct (Fixed bit) x y is also = is ∙ sym also
    Builds-one places distinct (Branch cover subtrees) x y (fs, all, is) (gs, each, also) =
        let same : gs ≡ fs = BuildsAll-one places distinct subtrees gs fs each all in
        IsCoverOf-one cover fs x y is (subst (λ (hs : List ℕ). IsCoverOf g cover hs y) same also)

    pub BuildsAll-one : {L : Type 0} (places : List (ℕ × L)) → AreDistinct places → (trees : Trees L) (xs ys : List ℕ) → BuildsAll g places trees xs → BuildsAll g places trees ys → xs ≡ ys
    BuildsAll-one places distinct Nil xs ys is also = is ∙ sym also
    BuildsAll-one places distinct (Cons first rest) xs ys (f, fs, here, all, e) (k, ks, there, each, d) =
        e ∙ ap (λ (z : ℕ). z ∷ fs) (Builds-one places distinct first f k here there) ∙ ap (λ (zs : List ℕ). k ∷ zs) (BuildsAll-one places distinct rest fs ks all each) ∙ sym d

-- the variables of both parts
pub vars_of-append : (g h : List Node) → vars_of (g ++ h) ≡ max (vars_of g) (vars_of h)
vars_of-append [] h = omega arith
vars_of-append (Constant ∷ g) h = vars_of-append g h
vars_of-append (Input v ∷ g) h = omega (arith, vars_of-append g h)
vars_of-append (And l r ∷ g) h = vars_of-append g h
