-- The variables in the cones of literals: of the and of two of them, of a cover of literals, of a tree's literal, and while the graph
-- grows.
use Rattle.std.proofs.Common.{◌≡◌, ◌∙◌, ◌*◌, ◌/◌, ◌<◌, ℕ, Bool, true, false, List, [], ◌∷◌, length, get_or, slice_get, Option, Some, None, refl, sym, ap, subst, arith, inl, inr, nat_lt, ◌==◌, if◌then◌else◌}
use Rattle.std.specs.Prelude.{◌⊎◌}
use Rattle.std.specs.List.{Contains}
use Rattle.std.proofs.lemmas.Option.{same_Some, slice_get-get_or}
use Rattle.circuit_theory.specs.Cover.{Cover}
use Rattle.circuit_theory.specs.Tree.{Tree, Trees, Leaf, Fixed, Branch, Nil, Cons}
use Rattle.circuit_theory.specs.Query.{Variable, HasLeaf, HasLeafIn}
use Rattle.circuit_theory.proofs.Lists.{Contains-cases, Contains-head, Contains-tail, only}
use Rattle.aig.specs.declared.node.Lit.{Lit}
use Rattle.aig.specs.declared.node.Node.{Node}
use Rattle.aig.specs.declared.node.Node.TheVariants.{Constant, Input, And}
use Rattle.aig.specs.Graph.{IsGraph, IsAbove, IsLitOf, Grows, flip}
use Rattle.aig.specs.Rules.{IsAndBy, IsAndOf, IsOrOf, place_lit, IsPlaceOf, IsCubeOf, AreRowsOf, IsCoverOf}
use Rattle.aig.specs.Builds.{Builds, BuildsAll}
use Rattle.aig.specs.Cone.{Reads, IsReached}
use Rattle.aig.proofs.CoverMeaning.{Simple, simple}
use Rattle.aig.proofs.Growth.{slice_get-grows}
use Rattle.aig.proofs.Literals.{flip-half}

-- what is reached from one node
pub data From (g : List Node) (m : ℕ) : ℕ → Type 0 where
  here : From g m m
  there : (n y : ℕ) (node : Node) → From g m n → slice_get g n ≡ Some node → Reads node y → From g m (y / 2)

-- the node itself, or what is reached from one that it reads
pub record Onward (g : List Node) (m k : ℕ) : Type 0 where
  pub node : Node
  pub read : ℕ
  pub at : slice_get g m ≡ Some node
  pub reads : Reads node read
  pub reached : From g (read / 2) k

pub onward : (g : List Node) (m : ℕ) {k : ℕ} → From g m k → (m ≡ k) ⊎ Onward g m k
onward g m From.here = inl refl
onward g m (From.there n y node from at reads) = go (onward g m from)
  where
    go : (m ≡ n) ⊎ Onward g m n → (m ≡ y / 2) ⊎ Onward g m (y / 2)
    go (inl e) = inr (record { node = node; read = y; at = ap (slice_get g) e ∙ at; reads = reads; reached = From.here })
    go (inr o) = inr (record { node = o.node; read = o.read; at = o.at; reads = o.reads; reached = From.there n y node o.reached at reads })

-- what is reached from several roots is reached from one of them
pub from_root : (g : List Node) (roots : List ℕ) {k : ℕ} → IsReached g roots k → (x : ℕ) × Contains roots x × From g (x / 2) k
from_root g roots (IsReached.root x h) = (x, h, From.here)
from_root g roots (IsReached.operand n x node reached at reads) = let r = from_root g roots reached in (r.0, r.1, From.there n x node r.2 at reads)

module _ (g : List Node) (graph : IsGraph g) (V : ℕ → Type 0) where
  -- each variable that is reached from the literal is one of these
  abbrev pub Supports : ℕ → Type 0
  Supports x = (k v : ℕ) → From g (x / 2) k → slice_get g k ≡ Some (Input v) → V v

  no_input_and : {v : ℕ} {l r : Lit} → Input v ≡ And l r → ⊥
  no_input_and e = cc

  no_input_constant : {v : ℕ} → Input v ≡ Constant → ⊥
  no_input_constant e = cc

  same_input : {v w : ℕ} → Input v ≡ Input w → v ≡ w
  same_input e = cc

  at_lit : (node : Node) (x : ℕ) → IsLitOf g node x → slice_get g (x / 2) ≡ Some node
  at_lit node x (n, e, at) = ap (slice_get g) (let h : x / 2 ≡ n = omega arith in h) ∙ at

  pub supports_input : (v x : ℕ) → IsLitOf g (Input v) x → V v → Supports x
  supports_input v x lit has k w from at = go (onward g (x / 2) from)
    where
      go : (x / 2 ≡ k) ⊎ Onward g (x / 2) k → V w
      go (inl e) = subst V (same_input (same_Some (Input v) (Input w) (sym (at_lit (Input v) x lit) ∙ (ap (slice_get g) e ∙ at)))) has
      go (inr o) = absurd (subst (λ (n : Node). Reads n o.read) (same_Some o.node (Input v) (sym o.at ∙ at_lit (Input v) x lit)) o.reads)

  supports_and : (l r : Lit) (x : ℕ) → IsLitOf g (And l r) x → Supports l.0 → Supports r.0 → Supports x
  supports_and l r x lit left right k w from at = go (onward g (x / 2) from)
    where
      pick : (y : ℕ) → (y ≡ l.0) ⊎ (y ≡ r.0) → From g (y / 2) k → V w
      pick y (inl e) reached = left k w (subst (λ (z : ℕ). From g (z / 2) k) e reached) at
      pick y (inr e) reached = right k w (subst (λ (z : ℕ). From g (z / 2) k) e reached) at

      go : (x / 2 ≡ k) ⊎ Onward g (x / 2) k → V w
      go (inl e) = absurd (no_input_and (same_Some (Input w) (And l r) (sym at ∙ (ap (slice_get g) (sym e) ∙ at_lit (And l r) x lit))))
      go (inr o) = pick o.read (subst (λ (n : Node). Reads n o.read) (same_Some o.node (And l r) (sym o.at ∙ at_lit (And l r) x lit)) o.reads) o.reached

  pub supports_constant : (x : ℕ) → x < 2 → Supports x
  supports_constant x small k w from at = go (onward g (x / 2) from)
    where
      here : slice_get g (x / 2) ≡ Some Constant
      here = ap (slice_get g) (let h : x / 2 ≡ 0 = omega arith in h) ∙ graph.constant

      go : (x / 2 ≡ k) ⊎ Onward g (x / 2) k → V w
      go (inl e) = absurd (no_input_constant (same_Some (Input w) Constant (sym at ∙ (ap (slice_get g) (sym e) ∙ here))))
      go (inr o) = absurd (subst (λ (n : Node). Reads n o.read) (same_Some o.node Constant (sym o.at ∙ here)) o.reads)

  pub supports_flip : (x : ℕ) → Supports x → Supports (flip x)
  supports_flip x h k w from at = h k w (subst (λ (m : ℕ). From g m k) (flip-half x) from) at

  supports_as : (x y : ℕ) → y ≡ x → Supports x → Supports y
  supports_as x y e h = subst Supports (sym e) h

  pub supports_and_of : (l r x : ℕ) → IsAndOf g l r x → Supports l → Supports r → Supports x
  supports_and_of l r x is left right = go (simple l r) is
    where
      node : (b : Bool) → IsLitOf g (if b then And (record { 0 = r }) (record { 0 = l }) else And (record { 0 = l }) (record { 0 = r })) x → Supports x
      node true lit = supports_and (record { 0 = r }) (record { 0 = l }) x lit right left
      node false lit = supports_and (record { 0 = l }) (record { 0 = r }) x lit left right

      go : {o : Option ℕ} → Simple l r o → IsAndBy g l r o x → Supports x
      go (Simple.left_zero e) by = supports_as 0 x by (supports_constant 0 (omega arith))
      go (Simple.right_zero e) by = supports_as 0 x by (supports_constant 0 (omega arith))
      go (Simple.left_one e) by = supports_as r x by right
      go (Simple.right_one e) by = supports_as l x by left
      go (Simple.same e) by = supports_as l x by left
      go (Simple.complements e) by = supports_as 0 x by (supports_constant 0 (omega arith))
      go (Simple.none e) by = node (nat_lt r l) by

  supports_or_of : (l r x : ℕ) → IsOrOf g l r x → Supports l → Supports r → Supports x
  supports_or_of l r x (y, is, e) left right = supports_as (flip y) x e (supports_flip y (supports_and_of (flip l) (flip r) y is (supports_flip l left) (supports_flip r right)))

  supports_choice : (b : Bool) (x y : ℕ) → Supports x → Supports y → Supports (if b then x else y)
  supports_choice true x y hx hy = hx
  supports_choice false x y hx hy = hy

  supports_place : (from place f y : ℕ) → IsPlaceOf g from (place_lit place f) y → Supports from → Supports f → Supports y
  unfolding place_lit
  supports_place from place f y is start fan = go (place == 45) is
    where
      go : (b : Bool) → IsPlaceOf g from (if b then None else Some (if place == 49 then f else (if place == 48 then flip f else 0))) y → Supports y
      go true e = supports_as from y e start
      go false e =
          supports_and_of from (if place == 49 then f else (if place == 48 then flip f else 0)) y e start
          (supports_choice (place == 49) f (if place == 48 then flip f else 0) fan (supports_choice (place == 48) (flip f) 0 (supports_flip f fan) (supports_constant 0 (omega arith))))

  abbrev pub AllSupport : List ℕ → Type 0
  AllSupport fs = (f : ℕ) → Contains fs f → Supports f

  supports_cube : (from : ℕ) (places fs : List ℕ) (x : ℕ) → IsCubeOf g from places fs x → Supports from → AllSupport fs → Supports x
  supports_cube from [] [] x e start all = supports_as from x e start
  supports_cube from [] (f ∷ fs) x e start all = absurd e
  supports_cube from (p ∷ ps) [] x e start all = absurd e
  supports_cube from (p ∷ ps) (f ∷ fs) x (y, is, rest) start all =
      supports_cube y ps fs x rest (supports_place from p f y is start (all f (Contains-head f fs))) (λ h k. all h (Contains-tail f h fs k))

  supports_rows : (from : ℕ) (rows : List (List ℕ)) (fs : List ℕ) (x : ℕ) → AreRowsOf g from rows fs x → Supports from → AllSupport fs → Supports x
  supports_rows from [] fs x e start all = supports_as from x e start
  supports_rows from (row ∷ rows) fs x (y, (z, cube, or), rest) start all =
      supports_rows y rows fs x rest (supports_or_of from z y or start (supports_cube 1 row fs z cube (supports_constant 1 (omega arith)) all)) all

  pub supports_cover : (cover : Cover) (fs : List ℕ) (x : ℕ) → IsCoverOf g cover fs x → AllSupport fs → Supports x
  supports_cover cover fs x (y, rows, e) all =
      let inner = supports_rows 0 cover.rows fs y rows (supports_constant 0 (omega arith)) all in
      supports_as (if cover.on then y else flip y) x e (supports_choice cover.on y (flip y) inner (supports_flip y inner))

  module _ {L : Type 0} (places : List (ℕ × L)) where
    mutual
      pub supports_tree : (tree : Tree L) (x : ℕ) → Builds g places tree x → ((y : Variable L) (v : ℕ) → HasLeaf y tree → slice_get places v ≡ Some (y.input, y.at) → V v) → Supports x
      supports_tree (Leaf input at) x (v, place, lit) has = supports_input v x lit (has (record { input = input; at = at }) v HasLeaf.leaf place)
      supports_tree (Fixed true) x e has = supports_as 1 x e (supports_constant 1 (omega arith))
      supports_tree (Fixed false) x e has = supports_as 0 x e (supports_constant 0 (omega arith))
      supports_tree (Branch cover trees) x (fs, all, is) has = supports_cover cover fs x is (supports_trees trees fs all (λ y v h. has y v (HasLeaf.inside h)))

      supports_trees : (trees : Trees L) (fs : List ℕ) → BuildsAll g places trees fs → ((y : Variable L) (v : ℕ) → HasLeafIn y trees → slice_get places v ≡ Some (y.input, y.at) → V v) → AllSupport fs
      supports_trees Nil fs e has f h = absurd (let k = subst (λ (l : List ℕ). Contains l f) e h in omega (arith, k.1))
      supports_trees (Cons first rest) fs (g0, others, one, all, e) has f h =
          elim (Contains-cases g0 f others (subst (λ (l : List ℕ). Contains l f) e h)) [
            | inl same ↦ subst Supports same (supports_tree first g0 one (λ y v l. has y v (HasLeafIn.first l)))
            | inr k ↦ supports_trees rest others all (λ y v l. has y v (HasLeafIn.later l)) f k
          ]

pub from_one : (g : List Node) (x : ℕ) {k : ℕ} → IsReached g (x ∷ []) k → From g (x / 2) k
from_one g x {k} reached = go (from_root g (x ∷ []) reached)
  where
    go : (y : ℕ) × Contains (x ∷ []) y × From g (y / 2) k → From g (x / 2) k
    go (y, h, from) = elim (Contains-cases x y [] h) [ inl e ↦ subst (λ (z : ℕ). From g (z / 2) k) (sym e) from | inr n ↦ absurd (omega (arith, n.1)) ]

-- what is reached from several literals is reached from one of them
pub reached_one : (g : List Node) (roots : List ℕ) (k : ℕ) → IsReached g roots k → (x : ℕ) × Contains roots x × IsReached g (x ∷ []) k
reached_one g roots k (IsReached.root x h) = (x, h, IsReached.root x (Contains-head x []))
reached_one g roots k (IsReached.operand n x node reached at reads) = let r = reached_one g roots n reached in (r.0, r.1, IsReached.operand n x node r.2 at reads)

-- no variable is reached from a constant
pub constant_reaches : (g : List Node) (x : ℕ) → IsGraph g → x < 2 → (k v : ℕ) → IsReached g (x ∷ []) k → slice_get g k ≡ Some (Input v) → ⊥
constant_reaches g x graph small k v reached at = supports_constant g graph (λ w. ⊥) x small k v (from_one g x reached) at

-- what is reached from a literal is reached from any roots that it is among
pub reached_among : (g : List Node) (x : ℕ) (roots : List ℕ) → Contains roots x → {k : ℕ} → IsReached g (x ∷ []) k → IsReached g roots k
reached_among g x roots member (IsReached.root y h) = IsReached.root y (subst (Contains roots) (only x y h) member)
reached_among g x roots member (IsReached.operand n y node reached at reads) = IsReached.operand n y node (reached_among g x roots member reached) at reads

pub to_from : (g : List Node) (x k : ℕ) → From g (x / 2) k → IsReached g (x ∷ []) k
to_from g x k From.here = IsReached.root x (Contains-head x [])
to_from g x k (From.there n y node from at reads) = IsReached.operand n y node (to_from g x n from) at reads

module _ (g h : List Node) (graph : IsGraph g) (grows : Grows g h) where
  reads_below : (n y : ℕ) (node : Node) → IsAbove n node → Reads node y → y < 2 * n
  reads_below n y Constant above reading = absurd reading
  reads_below n y (Input v) above reading = absurd reading
  reads_below n y (And l r) above (inl e) = omega (arith, e, above.0, above.1)
  reads_below n y (And l r) above (inr e) = omega (arith, e, above.1)

  pub old_node : (n : ℕ) (node : Node) → n < length g → slice_get h n ≡ Some node → slice_get g n ≡ Some node
  old_node n node inside at =
      let own = slice_get-get_or g n node inside in
      own ∙ ap Some (same_Some (get_or g n node) node (sym (slice_get-grows g h grows n (get_or g n node) own) ∙ at))

  -- a literal of the smaller graph reaches there what it reaches in the greater one
  pub old_reached : (x : ℕ) → x < 2 * length g → {k : ℕ} → IsReached h (x ∷ []) k → (k < length g) × IsReached g (x ∷ []) k
  old_reached x small (IsReached.root y i) = let e = only x y i in (omega (arith, e, small), IsReached.root y i)
  old_reached x small (IsReached.operand n y node reached at reads) =
      let r = old_reached x small reached in
      let own = old_node n node r.0 at in
      let below = reads_below n y node (graph.ordered n node own) reads in
      (omega (arith, r.0, below), IsReached.operand n y node r.1 own reads)
