-- The shorter literals are literals of the graph, the literal of the or is one alone, and all stay while the graph grows.
use Rattle.std.proofs.Common.{◌≡◌, ◌∙◌, ℕ, zero, suc, ◌*◌, ◌/◌, ◌%◌, ◌<◌, ◌==◌, ◌||◌, Bool, if◌then◌else◌, List, length, get_or, slice_get, Option, Some, None, refl, sym, ap, subst, arith}
use Rattle.std.specs.Prelude.{option_map, unwrap_or}
use Rattle.std.specs.Option.{option_or}
use Rattle.std.proofs.lemmas.Option.{slice_get-get_or}
use Rattle.aig.specs.declared.node.Lit.{Lit}
use Rattle.aig.specs.declared.node.Node.{Node}
use Rattle.aig.specs.declared.node.Node.TheVariants.{Constant}
use Rattle.aig.specs.Graph.{IsGraph, Grows, flip}
use Rattle.aig.specs.Rules.{simple_and, IsAndOf}
use Rattle.aig.proofs.Growth.{slice_get-grows, IsAndOf-grows, IsAndOf-one}
use Rattle.aig.proofs.Literals.{flip-within}
use Rattle.aig.specs.graph_copy.aig_or.ShortOr.{operands_of, node_operands, operands, either, is_conjunct, with_sign, by_operands, restricted, under, one_and, split_and, shorter_and, short_and, IsShortOr}
use Rattle.aig.proofs.graph_copy.aig_or.OrOperands.{node_at, and_within, operands_within}
use Rattle.aig.proofs.graph_copy.aig_or.OrKeeping.{within_kept, restricted_keeps, under_keeps, short_keeps}

-- literals of the graph
pub restricted_within : (g : List Node) → IsGraph g → (steps a x : ℕ) → x < 2 * length g → restricted g steps a x < 2 * length g
restricted_within g graph steps a x h = restricted_keeps g (λ y. y < 2 * length g) (within_kept g graph) steps a x h

pub under_within : (g : List Node) → IsGraph g → (a x : ℕ) → x < 2 * length g → under g a x < 2 * length g
under_within g graph a x h = under_keeps g (λ y. y < 2 * length g) (within_kept g graph) a x h

pub short_within : (g : List Node) → IsGraph g → (l r : ℕ) → l < 2 * length g → r < 2 * length g → ((short_and g l r).0 < 2 * length g) × ((short_and g l r).1 < 2 * length g)
short_within g graph l r left right = short_keeps g (λ y. y < 2 * length g) (within_kept g graph) l r left right

-- there is one literal
pub IsShortOr-one : (g : List Node) → IsGraph g → (x y lit other : ℕ) → IsShortOr g x y lit → IsShortOr g x y other → lit ≡ other
IsShortOr-one g graph x y lit other (k, is, e) (m, also, f) =
    e ∙ (ap flip (IsAndOf-one g graph (short_and g (flip x) (flip y)).0 (short_and g (flip x) (flip y)).1 k m is also) ∙ sym f)

module _ (g h : List Node) (graph : IsGraph g) (grows : Grows g h) where
  same_node : (n : ℕ) → n < length g → slice_get h n ≡ slice_get g n
  same_node n inside =
      let here = slice_get-get_or g n Constant inside in
      slice_get-grows g h grows n (get_or g n Constant) here ∙ sym here

  node_grows : (x : ℕ) → x < 2 * length g → node_operands h x ≡ node_operands g x
  unfolding node_operands
  node_grows x inside = ap operands_of (same_node (x / 2) (omega arith))

  operands_grow : (x : ℕ) → x < 2 * length g → operands h x ≡ operands g x
  unfolding operands
  operands_grow x inside = ap (λ (o : Option (Lit × Lit)). if x % 2 == 0 then o else None) (node_grows x inside)

  conjunct_grows : (steps e x : ℕ) → x < 2 * length g → is_conjunct h steps e x ≡ is_conjunct g steps e x
  unfolding is_conjunct
  conjunct_grows zero e x inside = refl
  conjunct_grows (suc steps) e x inside = ap (λ (b : Bool). (x == e) || b) (ap (either (is_conjunct h steps e)) (operands_grow x inside) ∙ by (λ y. conjunct_grows steps e y) (operands g x) refl)
    where
      by : ((y : ℕ) → y < 2 * length g → is_conjunct h steps e y ≡ is_conjunct g steps e y) → (o : Option (Lit × Lit)) → operands g x ≡ o → either (is_conjunct h steps e) o ≡ either (is_conjunct g steps e) o
      by lower None are = refl
      by lower (Some (l, r)) are =
          let within = operands_within g graph x l r are in
          ap (λ (b : Bool). b || is_conjunct h steps e r.0) (lower l.0 within.0) ∙ ap (λ (b : Bool). is_conjunct g steps e l.0 || b) (lower r.0 within.1)

  restricted_grows : (steps a x : ℕ) → a < 2 * length g → x < 2 * length g → restricted h steps a x ≡ restricted g steps a x
  unfolding restricted
  restricted_grows zero a x in_a in_x = refl
  restricted_grows (suc steps) a x in_a in_x =
      ap (λ (b : Bool). if b then 1 else if is_conjunct h 7 (flip x) a then 0 else by_operands (restricted h steps a) x (node_operands h x)) (conjunct_grows 7 x a in_a)
      ∙ (ap (λ (b : Bool). if is_conjunct g 7 x a then 1 else if b then 0 else by_operands (restricted h steps a) x (node_operands h x)) (conjunct_grows 7 (flip x) a in_a)
      ∙ ap (λ (y : ℕ). if is_conjunct g 7 x a then 1 else if is_conjunct g 7 (flip x) a then 0 else y)
      (ap (by_operands (restricted h steps a) x) (node_grows x in_x) ∙ by (λ y. restricted_grows steps a y in_a) (node_operands g x) refl))
    where
      by : ((y : ℕ) → y < 2 * length g → restricted h steps a y ≡ restricted g steps a y) → (o : Option (Lit × Lit)) → node_operands g x ≡ o → by_operands (restricted h steps a) x o ≡ by_operands (restricted g steps a) x o
      by lower None are = refl
      by lower (Some (l, r)) are =
          let within = and_within g graph (x / 2) l r (node_at g x l r are) in
          ap (λ (y : ℕ). unwrap_or (option_map (with_sign x) (simple_and y (restricted h steps a r.0))) x) (lower l.0 within.0)
          ∙ ap (λ (y : ℕ). unwrap_or (option_map (with_sign x) (simple_and (restricted g steps a l.0) y)) x) (lower r.0 within.1)

  under_grows : (a x : ℕ) → a < 2 * length g → x < 2 * length g → under h a x ≡ under g a x
  unfolding under
  under_grows a x in_a in_x =
      ap (λ (y : ℕ). if y == 1 then 1 else restricted h 7 a x) (restricted_grows 7 (flip x) (flip a) (flip-within x (length g) in_x) (flip-within a (length g) in_a))
      ∙ ap (λ (y : ℕ). if restricted g 7 (flip x) (flip a) == 1 then 1 else y) (restricted_grows 7 a x in_a in_x)

  -- a literal where a third one is 1, which is itself read where it is
  again_grows : (l r : ℕ) → l < 2 * length g → r < 2 * length g → under h (under h l r) l ≡ under g (under g l r) l
  again_grows l r in_l in_r = ap (λ (y : ℕ). under h y l) (under_grows l r in_l in_r) ∙ under_grows (under g l r) l (under_within g graph l r in_r) in_l

  one_grows : (l r : ℕ) → l < 2 * length g → r < 2 * length g → one_and h l r ≡ one_and g l r
  unfolding one_and
  one_grows l r in_l in_r =
      ap (λ (y : ℕ). if y == 1 then Some (under h l r) else None) (again_grows l r in_l in_r) ∙ ap (λ (y : ℕ). if under g (under g l r) l == 1 then Some y else None) (under_grows l r in_l in_r)

  split_grows : (l r : ℕ) → l < 2 * length g → r < 2 * length g → split_and h l (operands h r) ≡ split_and g l (operands g r)
  split_grows l r in_l in_r = ap (split_and h l) (operands_grow r in_r) ∙ by (operands g r) refl
    where
      by : (o : Option (Lit × Lit)) → operands g r ≡ o → split_and h l o ≡ split_and g l o
      by None are = refl
      by (Some (c, d)) are =
          let within = operands_within g graph r c d are in
          ap (λ (o : Option ℕ). option_or (option_map (λ x. (c.0, x)) o) (option_map (λ x. (d.0, x)) (one_and h l c.0))) (one_grows l d.0 in_l within.1)
          ∙ ap (λ (o : Option ℕ). option_or (option_map (λ x. (c.0, x)) (one_and g l d.0)) (option_map (λ x. (d.0, x)) o)) (one_grows l c.0 in_l within.0)

  shorter_grows : (l r : ℕ) → l < 2 * length g → r < 2 * length g → shorter_and h l r ≡ shorter_and g l r
  shorter_grows l r in_l in_r =
      ap (λ (o : Option (ℕ × ℕ)). unwrap_or o (under h l r, under h (under h l r) l)) (split_grows l r in_l in_r)
      ∙ (ap (λ (y : ℕ). unwrap_or (split_and g l (operands g r)) (y, under h (under h l r) l)) (under_grows l r in_l in_r)
      ∙ ap (λ (y : ℕ). unwrap_or (split_and g l (operands g r)) (under g l r, y)) (again_grows l r in_l in_r))

  pub short_grows : (l r : ℕ) → l < 2 * length g → r < 2 * length g → short_and h l r ≡ short_and g l r
  unfolding short_and
  short_grows l r in_l in_r =
      ap (λ (y : ℕ). shorter_and h y r) (under_grows r l in_r in_l) ∙ shorter_grows (under g r l) r (under_within g graph r l in_l) in_r

  -- the one that is made of the shorter literals
  pub made_is : (x y k lit : ℕ) → x < 2 * length g → y < 2 * length g → IsAndOf h (short_and g (flip x) (flip y)).0 (short_and g (flip x) (flip y)).1 k → lit ≡ flip k → IsShortOr h x y lit
  made_is x y k lit in_x in_y is same =
      (k, subst (λ (p : ℕ × ℕ). IsAndOf h p.0 p.1 k) (sym (short_grows (flip x) (flip y) (flip-within x (length g) in_x) (flip-within y (length g) in_y))) is, same)

  -- the literal stays
  pub IsShortOr-grows : (x y lit : ℕ) → x < 2 * length g → y < 2 * length g → IsShortOr g x y lit → IsShortOr h x y lit
  IsShortOr-grows x y lit in_x in_y (k, is, same) = made_is x y k lit in_x in_y (IsAndOf-grows g h grows (short_and g (flip x) (flip y)).0 (short_and g (flip x) (flip y)).1 k is) same
