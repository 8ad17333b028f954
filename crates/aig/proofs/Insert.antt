-- One node more in a graph.
use Rattle.std.proofs.Common.{◌≡◌, ◌≢◌, ℕ, zero, suc, ◌+◌, ◌*◌, ◌^◌, ◌<◌, ◌≤◌, ◌⊎◌, inl, inr, ◌==◌, max, Bool, true, false, ◌&&◌, if◌then◌else◌, List, [], ◌∷◌, ◌++◌, length, slice_get, Option, Some, None, Result, Ok, Err, Contains, All, map, refl, sym, ap, subst, ◌∙◌, arith}
use Rattle.std.specs.Prelude.{nat_lt, MatchResult}
use Rattle.std.proofs.lemmas.Option.{slice_get_within, none-some, same_Some}
use Rattle.std.proofs.lemmas.List.{length-append}
use Rattle.sec_base.proofs.circuit_theory.Lists.{of_at}
use Rattle.base_tables.specs.unique_table.Places.{IsWith}
use Rattle.sec_base.specs.circuit_theory.Cover.{Cover, cover_value}
use Rattle.aig.specs.declared.node.Lit.{Lit}
use Rattle.aig.specs.declared.node.Node.{Node}
use Rattle.aig.specs.declared.node.Node.TheVariants.{Constant, Input, And}
use Rattle.aig.specs.Graph.{IsGraph, IsAbove, Grows, IsLitOf, flip, vars_of}
use Rattle.aig.specs.Values.{value}
use Rattle.aig.specs.Rules.{simple_and, and_node, IsAndBy, IsAndOf, IsWithAndBy, IsWithAnd, IsCoverOf, place_lit}
use Rattle.aig.proofs.Literals.{flip-within}
use Rattle.aig.proofs.Growth.{slice_get-append, vars_of-append, Grows-refl}
use Rattle.aig.proofs.Meaning.{value-grows}
use Rattle.aig.proofs.CoverMeaning.{Simple, simple, simple-within, value-and, value-cover}

-- an element of a list with one more
pub push-cases : {X : Type 0} (xs : List X) (x : X) (n : ℕ) (y : X) → slice_get (xs ++ x ∷ []) n ≡ Some y → (slice_get xs n ≡ Some y) ⊎ ((n ≡ length xs) × (y ≡ x))
push-cases [] x zero y h = inr (refl, sym (same_Some x y h))
push-cases [] x (suc n) y h = absurd (none-some y h)
push-cases (z ∷ xs) x zero y h = inl h
push-cases (z ∷ xs) x (suc n) y h = by (push-cases xs x n y h)
  where
    by : (slice_get xs n ≡ Some y) ⊎ ((n ≡ length xs) × (y ≡ x)) → (slice_get xs n ≡ Some y) ⊎ ((suc n ≡ suc (length xs)) × (y ≡ x))
    by (inl e) = inl e
    by (inr (e, f)) = inr (ap suc e, f)

-- a new node goes last
pub graph-push : (g : List Node) (node : Node) → IsGraph g → length g + 1 < 2 ^ 30 → IsAbove (length g) node → (Contains g node → ⊥) → IsGraph (g ++ node ∷ [])
graph-push g node graph room above new = record {
  constant = slice_get-append g (node ∷ []) 0 Constant graph.constant;
  ordered = λ n y at. ordered n y (push-cases g node n y at);
  once = λ n m y at other. once n m y (push-cases g node n y at) (push-cases g node m y other);
  few = omega (arith, length-append g (node ∷ []));
}
  where
    ordered : (n : ℕ) (y : Node) → (slice_get g n ≡ Some y) ⊎ ((n ≡ length g) × (y ≡ node)) → IsAbove n y
    ordered n y (inl at) = graph.ordered n y at
    ordered n y (inr (e, f)) = subst (λ (k : ℕ). IsAbove k y) (sym e) (subst (λ (z : Node). IsAbove (length g) z) (sym f) above)

    once : (n m : ℕ) (y : Node) → (slice_get g n ≡ Some y) ⊎ ((n ≡ length g) × (y ≡ node)) → (slice_get g m ≡ Some y) ⊎ ((m ≡ length g) × (y ≡ node)) → n ≡ m
    once n m y (inl at) (inl other) = graph.once n m y at other
    once n m y (inl at) (inr (e, f)) = absurd (new (of_at g n node (at ∙ ap Some f)))
    once n m y (inr (e, f)) (inl other) = absurd (new (of_at g m node (other ∙ ap Some f)))
    once n m y (inr (e, f)) (inr (d, h)) = e ∙ sym d

-- a node's variable is below the count
pub vars_of-member : (g : List Node) (n : ℕ) (node : Node) → slice_get g n ≡ Some node → vars_of (node ∷ []) ≤ vars_of g
vars_of-member [] n node h = absurd (none-some node h)
vars_of-member (y ∷ g) zero node h = subst (λ (z : Node). vars_of (z ∷ []) ≤ vars_of (y ∷ g)) (same_Some y node h) (head y)
  where
    head : (y : Node) → vars_of (y ∷ []) ≤ vars_of (y ∷ g)
    head Constant = omega arith
    head (Input v) = omega arith
    head (And l r) = omega arith
vars_of-member (y ∷ g) (suc n) node h = tail y (vars_of-member g n node h)
  where
    tail : (y : Node) → vars_of (node ∷ []) ≤ vars_of g → vars_of (node ∷ []) ≤ vars_of (y ∷ g)
    tail Constant k = k
    tail (Input v) k = omega arith
    tail (And l r) k = k

-- what a table of nodes is after an insert
module _ (g after : List Node) (node : Node) (is : IsWith g node after) where
  pub graph-insert : IsGraph g → length g + 1 < 2 ^ 30 → IsAbove (length g) node → IsGraph after
  graph-insert graph room above = by is
    where
      by : IsWith g node after → IsGraph after
      by (inl (there, e)) = subst IsGraph (sym e) graph
      by (inr (new, e)) = subst IsGraph (sym e) (graph-push g node graph room above new)

  pub vars_of-insert : (n : ℕ) → slice_get after n ≡ Some node → vars_of after ≡ max (vars_of (node ∷ [])) (vars_of g)
  vars_of-insert n at = by is
    where
      by : IsWith g node after → vars_of after ≡ max (vars_of (node ∷ [])) (vars_of g)
      by (inl (there, e)) =
          let member : vars_of (node ∷ []) ≤ vars_of g = vars_of-member g n node (subst (λ (h : List Node). slice_get h n ≡ Some node) e at) in
          omega (arith, ap vars_of e)
      by (inr (new, e)) = omega (arith, ap vars_of e, vars_of-append g (node ∷ []))

  pub grows-insert : Grows g after
  grows-insert = by is
    where
      by : IsWith g node after → Grows g after
      by (inl (there, e)) = subst (Grows g) (sym e) (Grows-refl g)
      by (inr (new, e)) = (node ∷ [], e)

  pub few-insert : length after ≤ length g + 1
  few-insert = by is
    where
      by : IsWith g node after → length after ≤ length g + 1
      by (inl (there, e)) = omega (arith, ap length e)
      by (inr (new, e)) = omega (arith, ap length e, length-append g (node ∷ []))

-- a node that no rule makes needless has two operands, the lesser first
pub and_node-above : (n l r : ℕ) → l ≢ r → l < 2 * n → r < 2 * n → IsAbove n (and_node l r)
and_node-above n l r differ left right = by (nat_lt r l) refl
  where
    by : (b : Bool) → nat_lt r l ≡ b → IsAbove n (if b then And (record { 0 = r }) (record { 0 = l }) else And (record { 0 = l }) (record { 0 = r }))
    by true e = (grind arith, left)
    by false e = (grind arith, right)

pub simple_and-none : (l r : ℕ) → simple_and l r ≡ None → l ≢ r
simple_and-none l r e = by (simple_and l r) (simple l r) e
  where
    by : (o : Option ℕ) → Simple l r o → o ≡ None → l ≢ r
    by o (Simple.left_zero _) q = absurd (none-some 0 (sym q))
    by o (Simple.right_zero _) q = absurd (none-some 0 (sym q))
    by o (Simple.left_one _) q = absurd (none-some r (sym q))
    by o (Simple.right_one _) q = absurd (none-some l (sym q))
    by o (Simple.same _) q = absurd (none-some l (sym q))
    by o (Simple.complements _) q = absurd (none-some 0 (sym q))
    by o (Simple.none differ) q = differ

-- the value of an and in a graph that has grown, by the values before
pub value-and_grown : (g h : List Node) → IsGraph h → Grows g h → (l r x : ℕ) → l < 2 * length g → r < 2 * length g → IsAndOf h l r x → (a : ℕ → Bool) → value h a x ≡ value g a l && value g a r
value-and_grown g h graph grows l r x left right is a =
    value-and h graph a l r x is ∙ ap (λ (b : Bool). b && value h a r) (value-grows g h grows a l left) ∙ ap (λ (b : Bool). value g a l && b) (value-grows g h grows a r right)

-- what a place asks is a literal of the graph
pub place_lit-within : (place f l n : ℕ) → place_lit place f ≡ Some l → f < 2 * n → l < 2 * n
unfolding place_lit
place_lit-within place f l n = dash (place == 45)
  where
    dash : (b : Bool) → (if b then None else Some (if place == 49 then f else (if place == 48 then flip f else 0))) ≡ Some l → f < 2 * n → l < 2 * n
    dash true e h = absurd (none-some l e)
    dash false e h = subst (λ (k : ℕ). k < 2 * n) (same_Some (if place == 49 then f else (if place == 48 then flip f else 0)) l e) (ones (place == 49))
      where
        ones : (b : Bool) → (if b then f else (if place == 48 then flip f else 0)) < 2 * n
        ones true = h
        ones false = zeros (place == 48)
          where
            zeros : (b : Bool) → (if b then flip f else 0) < 2 * n
            zeros true = flip-within f n h
            zeros false = omega arith

-- the literal that a rule gives is one of the graph
pub simple_and-within : (n l r x : ℕ) → simple_and l r ≡ Some x → l < 2 * n → r < 2 * n → x < 2 * n
simple_and-within n l r x e left right = simple-within l r (simple_and l r) (simple l r) x e (2 * n) left right

pub simple_and-is : (g : List Node) (l r x : ℕ) → simple_and l r ≡ Some x → IsAndOf g l r x
simple_and-is g l r x e = subst (λ (o : Option ℕ). IsAndBy g l r o x) (sym e) refl

pub and_node-is : (g : List Node) (l r x : ℕ) → simple_and l r ≡ None → IsLitOf g (and_node l r) x → IsAndOf g l r x
and_node-is g l r x e is = subst (λ (o : Option ℕ). IsAndBy g l r o x) (sym e) is

-- an and that needs no node leaves the graph as it was
pub with_and-is : (g : List Node) (l r x : ℕ) → simple_and l r ≡ Some x → IsWithAnd g l r g
with_and-is g l r x e = subst (λ (o : Option ℕ). IsWithAndBy g l r o g) (sym e) refl

-- what an insert of the and's node gives
pub with_and-made : {E : Type 0} (made : Result Lit E) (g k h : List Node) (node : Node) (l r : ℕ) → simple_and l r ≡ None → k ≡ g → node ≡ and_node l r → MatchResult made (λ x. IsWith k node h) (λ e. h ≡ k) →
    MatchResult made (λ x. IsWithAnd g l r h) (λ e. h ≡ g)
with_and-made (Ok x) g k h node l r none same is with =
    subst (λ (o : Option ℕ). IsWithAndBy g l r o h) (sym none) (subst (λ (n : Node). IsWith g n h) is (subst (λ (f : List Node). IsWith f node h) same with))
with_and-made (Err e) g k h node l r none same is kept = kept ∙ same

-- a graph has a node
pub graph-some : (g : List Node) → IsGraph g → 0 < length g
graph-some g graph = slice_get_within g 0 Constant graph.constant

-- the values of fan-ins stay
pub fanin-values : (g h : List Node) (a : ℕ → Bool) → Grows g h → (fs : List Lit) → All (λ f. f.0 < 2 * length g) fs → map (value h a) (map (λ f. f.0) fs) ≡ map (λ f. value g a f.0) fs
fanin-values g h a grows [] within = refl
fanin-values g h a grows (f ∷ fs) within =
    let here : f.0 < 2 * length g = within 0 f (omega arith) in
    let rest : All (λ (k : Lit). k.0 < 2 * length g) fs = λ k d inside. within (suc k) d (omega arith) in
    ap (λ (b : Bool). b ∷ map (value h a) (map (λ k. k.0) fs)) (value-grows g h grows a f.0 here) ∙ ap (λ (bs : List Bool). value g a f.0 ∷ bs) (fanin-values g h a grows fs rest)

pub value-cover_grown : (g h : List Node) → IsGraph h → Grows g h → (cover : Cover) (fs : List Lit) (x : ℕ) → All (λ f. f.0 < 2 * length g) fs → IsCoverOf h cover (map (λ f. f.0) fs) x → (a : ℕ → Bool) → value h a x ≡ cover_value cover (map (λ f. value g a f.0) fs)
value-cover_grown g h graph grows cover fs x within is a =
    value-cover h graph a cover (map (λ f. f.0) fs) x is ∙ ap (cover_value cover) (fanin-values g h a grows fs within)

pub lit-within : (g : List Node) (node : Node) (x : ℕ) → IsLitOf g node x → x < 2 * length g
lit-within g node x (n, e, at) = omega (arith, slice_get_within g n node at)
