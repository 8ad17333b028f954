-- The values of ands, cubes, covers and trees.
use Rattle.std.proofs.Common.{◌≡◌, ◌≢◌, ℕ, ◌<◌, ◌==◌, Bool, true, false, not, ◌&&◌, ◌||◌, if◌then◌else◌, List, [], ◌∷◌, map, slice_get, Option, Some, None, refl, sym, ap, ◌∙◌, arith, true≢false}
use Rattle.std.specs.Prelude.{nat_lt}
use Rattle.std.specs.List.{list_any}
use Rattle.std.proofs.lemmas.Bool.Decides.{Decides-eqb}
use Rattle.sec_base.specs.circuit_theory.Cover.{Cover, place_matches, row_matches, cover_value}
use Rattle.sec_base.specs.circuit_theory.Tree.{Tree, Trees, Leaf, Fixed, Branch, Nil, Cons, tree_value, tree_values}
use Rattle.aig.specs.declared.node.Node.{Node}
use Rattle.aig.specs.declared.node.Node.TheVariants.{Constant, Input, And}
use Rattle.aig.specs.Graph.{IsGraph, IsLitOf, flip}
use Rattle.aig.specs.Values.{value, node_value}
use Rattle.aig.specs.Rules.{simple_and, and_node, IsAndBy, IsAndOf, IsOrOf, place_lit, IsPlaceOf, IsCubeOf, IsRowOf, AreRowsOf, IsCoverOf}
use Rattle.aig.specs.Builds.{Builds, BuildsAll}
use Rattle.aig.proofs.Meaning.{value-node, value-flip}

-- the rule that fits
pub data Simple (l r : ℕ) : Option ℕ → Type 0 where
  left_zero : l ≡ 0 → Simple l r (Some 0)
  right_zero : r ≡ 0 → Simple l r (Some 0)
  left_one : l ≡ 1 → Simple l r (Some r)
  right_one : r ≡ 1 → Simple l r (Some l)
  same : l ≡ r → Simple l r (Some l)
  complements : l ≡ flip r → Simple l r (Some 0)
  none : l ≢ r → Simple l r None

-- a test of numbers that passed, and one that didn't
passed : (m n : ℕ) → (m == n) ≡ true → m ≡ n
passed m n e = (Decides-eqb m n).0 e

failed : (m n : ℕ) → (m == n) ≡ false → m ≢ n
failed m n e is = true≢false (sym ((Decides-eqb m n).1 is) ∙ e)

pub simple : (l r : ℕ) → Simple l r (simple_and l r)
unfolding simple_and
simple l r = first (l == 0) refl
  where
    sixth : l ≢ r → (b : Bool) → (l == flip r) ≡ b → Simple l r (if b then Some 0 else None)
    sixth differ true e = Simple.complements (passed l (flip r) e)
    sixth differ false e = Simple.none differ

    fifth : (b : Bool) → (l == r) ≡ b → Simple l r (if b then Some l else if l == flip r then Some 0 else None)
    fifth true e = Simple.same (passed l r e)
    fifth false e = sixth (failed l r e) (l == flip r) refl

    fourth : (b : Bool) → (r == 1) ≡ b → Simple l r (if b || (l == r) then Some l else if l == flip r then Some 0 else None)
    fourth true e = Simple.right_one (passed r 1 e)
    fourth false e = fifth (l == r) refl

    third : (b : Bool) → (l == 1) ≡ b → Simple l r (if b then Some r else if (r == 1) || (l == r) then Some l else if l == flip r then Some 0 else None)
    third true e = Simple.left_one (passed l 1 e)
    third false e = fourth (r == 1) refl

    second : (b : Bool) → (r == 0) ≡ b → Simple l r (if b then Some 0 else if l == 1 then Some r else if (r == 1) || (l == r) then Some l else if l == flip r then Some 0 else None)
    second true e = Simple.right_zero (passed r 0 e)
    second false e = third (l == 1) refl

    first : (b : Bool) → (l == 0) ≡ b → Simple l r (if b || (r == 0) then Some 0 else if l == 1 then Some r else if (r == 1) || (l == r) then Some l else if l == flip r then Some 0 else None)
    first true e = Simple.left_zero (passed l 0 e)
    first false e = second (r == 0) refl

-- a literal that needs no node is none of a node above the operands
pub simple-within : (l r : ℕ) (o : Option ℕ) → Simple l r o → (y : ℕ) → o ≡ Some y → (n : ℕ) → l < n → r < n → y < n
simple-within l r o (Simple.left_zero e) y is n left right = omega (arith, some_is is)
  where
    some_is : Some 0 ≡ Some y → y ≡ 0
    some_is q = cc
simple-within l r o (Simple.right_zero e) y is n left right = omega (arith, some_is is)
  where
    some_is : Some 0 ≡ Some y → y ≡ 0
    some_is q = cc
simple-within l r o (Simple.left_one e) y is n left right = omega (arith, some_is is)
  where
    some_is : Some r ≡ Some y → y ≡ r
    some_is q = cc
simple-within l r o (Simple.right_one e) y is n left right = omega (arith, some_is is)
  where
    some_is : Some l ≡ Some y → y ≡ l
    some_is q = cc
simple-within l r o (Simple.same e) y is n left right = omega (arith, some_is is)
  where
    some_is : Some l ≡ Some y → y ≡ l
    some_is q = cc
simple-within l r o (Simple.complements e) y is n left right = omega (arith, some_is is)
  where
    some_is : Some 0 ≡ Some y → y ≡ 0
    some_is q = cc
simple-within l r o (Simple.none e) y is n left right = absurd (differ is)
  where
    differ : None ≡ Some y → ⊥
    differ q = cc

-- laws of and and or
and_false : (b : Bool) → b && false ≡ false
and_false true = refl
and_false false = refl

and_true : (b : Bool) → b && true ≡ b
and_true true = refl
and_true false = refl

and_itself : (b : Bool) → b && b ≡ b
and_itself true = refl
and_itself false = refl

and_complement : (b : Bool) → not b && b ≡ false
and_complement true = refl
and_complement false = refl

and_swapped : (b c : Bool) → b && c ≡ c && b
and_swapped true true = refl
and_swapped true false = refl
and_swapped false true = refl
and_swapped false false = refl

and_regrouped : (b c d : Bool) → (b && c) && d ≡ b && (c && d)
and_regrouped true c d = refl
and_regrouped false c d = refl

or_regrouped : (b c d : Bool) → (b || c) || d ≡ b || (c || d)
or_regrouped true c d = refl
or_regrouped false c d = refl

or_by_and : (b c : Bool) → not (not b && not c) ≡ b || c
or_by_and true c = refl
or_by_and false true = refl
or_by_and false false = refl

-- a place of a row that is neither `-`, `1` nor `0` matches no bit
no_match : (p : ℕ) (b : Bool) → (p == 45) ≡ false → (p == 49) ≡ false → (p == 48) ≡ false → place_matches p b ≡ false
no_match p true dash one zeros = ap (λ (c : Bool). c || (p == 49)) dash ∙ one
no_match p false dash one zeros = ap (λ (c : Bool). c || (p == 48)) dash ∙ zeros

match_one : (b : Bool) → place_matches 49 b ≡ b
match_one true = refl
match_one false = refl

match_zero : (b : Bool) → place_matches 48 b ≡ not b
match_zero true = refl
match_zero false = refl

module _ (g : List Node) (graph : IsGraph g) (a : ℕ → Bool) where
  pub value-zero : value g a 0 ≡ false
  value-zero = value-node g graph.ordered 0 Constant a graph.constant

  pub value-one : value g a 1 ≡ true
  unfolding flip
  value-one = value-flip g a 0 ∙ ap not value-zero

  -- the literal of a node
  pub value-lit : (node : Node) (x : ℕ) → IsLitOf g node x → value g a x ≡ node_value g a node
  value-lit node x (n, e, at) = ap (value g a) e ∙ value-node g graph.ordered n node a at

  value-and_node : (l r : ℕ) → node_value g a (and_node l r) ≡ value g a l && value g a r
  value-and_node l r = by (nat_lt r l)
    where
      by : (b : Bool) → node_value g a (if b then And (record { 0 = r }) (record { 0 = l }) else And (record { 0 = l }) (record { 0 = r })) ≡ value g a l && value g a r
      by true = and_swapped (value g a r) (value g a l)
      by false = refl

  value-and_by : (l r : ℕ) (o : Option ℕ) (x : ℕ) → Simple l r o → IsAndBy g l r o x → value g a x ≡ value g a l && value g a r
  value-and_by l r o x (Simple.left_zero e) is = ap (value g a) is ∙ value-zero ∙ sym (ap (λ (b : Bool). b && value g a r) (ap (value g a) e ∙ value-zero))
  value-and_by l r o x (Simple.right_zero e) is =
      ap (value g a) is ∙ value-zero ∙ sym (and_false (value g a l)) ∙ sym (ap (λ (b : Bool). value g a l && b) (ap (value g a) e ∙ value-zero))
  value-and_by l r o x (Simple.left_one e) is = ap (value g a) is ∙ sym (ap (λ (b : Bool). b && value g a r) (ap (value g a) e ∙ value-one))
  value-and_by l r o x (Simple.right_one e) is =
      ap (value g a) is ∙ sym (and_true (value g a l)) ∙ sym (ap (λ (b : Bool). value g a l && b) (ap (value g a) e ∙ value-one))
  value-and_by l r o x (Simple.same e) is = ap (value g a) is ∙ sym (and_itself (value g a l)) ∙ ap (λ (k : ℕ). value g a l && value g a k) e
  value-and_by l r o x (Simple.complements e) is =
      ap (value g a) is ∙ value-zero ∙ sym (and_complement (value g a r)) ∙ sym (ap (λ (b : Bool). b && value g a r) (ap (value g a) e ∙ value-flip g a r))
  value-and_by l r o x (Simple.none e) is = value-lit (and_node l r) x is ∙ value-and_node l r

  pub value-and : (l r x : ℕ) → IsAndOf g l r x → value g a x ≡ value g a l && value g a r
  value-and l r x is = value-and_by l r (simple_and l r) x (simple l r) is

  pub value-or : (l r x : ℕ) → IsOrOf g l r x → value g a x ≡ value g a l || value g a r
  value-or l r x (y, is, e) =
      ap (value g a) e ∙ value-flip g a y ∙ ap not (value-and (flip l) (flip r) y is) ∙ ap (λ (b : Bool). not (b && value g a (flip r))) (value-flip g a l)
      ∙ ap (λ (b : Bool). not (not (value g a l) && b)) (value-flip g a r) ∙ or_by_and (value g a l) (value g a r)

  -- a place of a row and the bit of its fan-in
  value-place : (from p f x : ℕ) → IsPlaceOf g from (place_lit p f) x → value g a x ≡ value g a from && place_matches p (value g a f)
  unfolding place_lit
  value-place from p f x = dash (p == 45) refl
    where
      zeros : (b : Bool) → (p == 45) ≡ false → (p == 49) ≡ false → (p == 48) ≡ b → IsAndOf g from (if b then flip f else 0) x → value g a x ≡ value g a from && place_matches p (value g a f)
      zeros true e d h is =
          value-and from (flip f) x is ∙ ap (λ (b : Bool). value g a from && b) (value-flip g a f ∙ sym (match_zero (value g a f)) ∙ ap (λ (q : ℕ). place_matches q (value g a f)) (sym (passed p 48 h)))
      zeros false e d h is =
          value-and from 0 x is ∙ ap (λ (b : Bool). value g a from && b) (value-zero ∙ sym (no_match p (value g a f) e d h))

      ones : (b : Bool) → (p == 45) ≡ false → (p == 49) ≡ b → IsAndOf g from (if b then f else (if p == 48 then flip f else 0)) x → value g a x ≡ value g a from && place_matches p (value g a f)
      ones true e h is =
          value-and from f x is ∙ ap (λ (b : Bool). value g a from && b) (sym (match_one (value g a f)) ∙ ap (λ (q : ℕ). place_matches q (value g a f)) (sym (passed p 49 h)))
      ones false e h is = zeros (p == 48) e h refl is

      dash : (b : Bool) → (p == 45) ≡ b → IsPlaceOf g from (if b then None else Some (if p == 49 then f else (if p == 48 then flip f else 0))) x → value g a x ≡ value g a from && place_matches p (value g a f)
      dash true h is =
          ap (value g a) is ∙ sym (and_true (value g a from)) ∙ ap (λ (q : ℕ). value g a from && place_matches q (value g a f)) (sym (passed p 45 h))
      dash false h is = ones (p == 49) h refl is

  pub value-cube : (from : ℕ) (places fs : List ℕ) (x : ℕ) → IsCubeOf g from places fs x → value g a x ≡ value g a from && row_matches places (map (value g a) fs)
  value-cube from [] [] x is = ap (value g a) is ∙ sym (and_true (value g a from))
  value-cube from [] (f ∷ fs) x is = absurd is
  value-cube from (p ∷ ps) [] x is = absurd is
  value-cube from (p ∷ ps) (f ∷ fs) x (y, here, rest) =
      value-cube y ps fs x rest ∙ ap (λ (b : Bool). b && row_matches ps (map (value g a) fs)) (value-place from p f y here)
      ∙ and_regrouped (value g a from) (place_matches p (value g a f)) (row_matches ps (map (value g a) fs))

  pub value-row : (from : ℕ) (row fs : List ℕ) (x : ℕ) → IsRowOf g from row fs x → value g a x ≡ value g a from || row_matches row (map (value g a) fs)
  value-row from row fs x (y, cube, is) =
      value-or from y x is ∙ ap (λ (b : Bool). value g a from || b) (value-cube 1 row fs y cube ∙ ap (λ (b : Bool). b && row_matches row (map (value g a) fs)) value-one)

  pub value-rows : (from : ℕ) (rows : List (List ℕ)) (fs : List ℕ) (x : ℕ) → AreRowsOf g from rows fs x → value g a x ≡ value g a from || list_any (λ row. row_matches row (map (value g a) fs)) rows
  value-rows from [] fs x is = ap (value g a) is ∙ or_false (value g a from)
    where
      or_false : (b : Bool) → b ≡ b || false
      or_false true = refl
      or_false false = refl
  value-rows from (row ∷ rows) fs x (y, here, rest) =
      value-rows y rows fs x rest ∙ ap (λ (b : Bool). b || list_any (λ r. row_matches r (map (value g a) fs)) rows) (value-row from row fs y here)
      ∙ or_regrouped (value g a from) (row_matches row (map (value g a) fs)) (list_any (λ r. row_matches r (map (value g a) fs)) rows)

  pub value-cover : (cover : Cover) (fs : List ℕ) (x : ℕ) → IsCoverOf g cover fs x → value g a x ≡ cover_value cover (map (value g a) fs)
  unfolding cover_value
  value-cover cover fs x (y, rows, e) = ap (value g a) e ∙ by cover.on
    where
      found : Bool
      found = list_any (λ row. row_matches row (map (value g a) fs)) cover.rows

      at_rows : value g a y ≡ found
      at_rows = value-rows 0 cover.rows fs y rows ∙ ap (λ (b : Bool). b || found) value-zero

      by : (on : Bool) → value g a (if on then y else flip y) ≡ (if on then found else not found)
      by true = at_rows
      by false = value-flip g a y ∙ ap not at_rows

  -- a tree's literal has the tree's value, where each variable has the bit of its place
  module _ {L : Type 0} (places : List (ℕ × L)) (bits : ℕ → L → Bool) (fits : (v : ℕ) (p : ℕ × L) → slice_get places v ≡ Some p → a v ≡ bits p.0 p.1) where
    mutual
      unfolding tree_value tree_values

      pub value-tree : (tree : Tree L) (x : ℕ) → Builds g places tree x → value g a x ≡ tree_value bits tree
      value-tree (Leaf input at) x (v, place, is) = value-lit (Input v) x is ∙ fits v (input, at) place
      value-tree (Fixed true) x is = ap (value g a) is ∙ value-one
      value-tree (Fixed false) x is = ap (value g a) is ∙ value-zero
      value-tree (Branch cover subtrees) x (fs, all, is) = value-cover cover fs x is ∙ ap (cover_value cover) (value-trees subtrees fs all)

      pub value-trees : (trees : Trees L) (fs : List ℕ) → BuildsAll g places trees fs → map (value g a) fs ≡ tree_values bits trees
      value-trees Nil fs is = ap (map (value g a)) is
      value-trees (Cons first rest) fs (f, others, here, all, e) =
          ap (map (value g a)) e ∙ ap (λ (b : Bool). b ∷ map (value g a) others) (value-tree first f here) ∙ ap (λ (bs : List Bool). tree_value bits first ∷ bs) (value-trees rest others all)
