-- The order of paths of event nodes.
use Rattle.std.proofs.Common.{◌≡◌, ◌≢◌, ◌∙◌, ◌+◌, ◌-◌, ◌<◌, ◌≤◌, ℕ, zero, suc, List, [], ◌∷◌, ◌++◌, length, reverse, slice_get, Option, Some, None, refl, sym, ap, subst, arith, inl, inr}
use Rattle.std.specs.declared.cmp.Ordering.{Ordering}
use Rattle.std.specs.declared.cmp.Ordering.TheVariants.{Less, Equal, Greater}
use Rattle.std.specs.Ordering.{nat_cmp, ordering_then, MatchOrdering}
use Rattle.std.proofs.lemmas.Cmp.{ranked}
use Rattle.std.proofs.lemmas.List.{reverse-append, length-reverse}
use Rattle.std.proofs.lemmas.Option.{get_or_from_slice_get, slice_get_within}
use Rattle.circuit_theory.specs.Names.{ListBefore}
use Rattle.circuit_theory.specs.Query.{Variable}
use Rattle.circuit_theory.proofs.Numbers.{slice_get-map}
use Rattle.flat_net.proofs.Nets.{some_at}
use Rattle.flat_net.proofs.Places.{All-at}
use Rattle.circuit_theory.specs.Frame.{NodeBefore}
use Rattle.event_nodes.specs.Nodes.{EventGraphView, IsEventGraph, IsTree, named_places, path_of}
use Rattle.event_nodes.proofs.OnePath.{one_node}
use Rattle.event_nodes.proofs.Paths.{path_grows, child_path}
use Rattle.event_nodes.specs.event_variables.Variables.{variable_of, GoesBefore, Stands, PathsStand, PathBefore, NodesStand}

reverse_cons : (x : ℕ) (xs : List ℕ) → reverse (x ∷ xs) ≡ reverse xs ++ x ∷ []
reverse_cons x xs = reverse-append (x ∷ []) xs

before_behind : (xs ys zs ws : List ℕ) → length xs ≡ length ys → ListBefore xs ys → ListBefore (xs ++ zs) (ys ++ ws)
before_behind [] [] zs ws long h = absurd h
before_behind [] (y ∷ ys) zs ws long h = absurd (omega (arith, long))
before_behind (x ∷ xs) [] zs ws long h = absurd h
before_behind (x ∷ xs) (y ∷ ys) zs ws long (inl l) = inl l
before_behind (x ∷ xs) (y ∷ ys) zs ws long (inr e) = inr (e.0, before_behind xs ys zs ws (omega (arith, long)) e.1)

last_before : (xs : List ℕ) (c d : ℕ) → c < d → ListBefore (xs ++ c ∷ []) (xs ++ d ∷ [])
last_before [] c d l = inl l
last_before (x ∷ xs) c d l = inr (refl, last_before xs c d l)

-- one step more of each path
pub step_stands : (o : Ordering) (p q : List ℕ) (c d : ℕ) → length p ≡ length q → PathsStand p q o → PathsStand (c ∷ p) (d ∷ q) (ordering_then o (nat_cmp c d))
step_stands Less p q c d long h =
    subst (λ (xs : List ℕ). ListBefore xs (reverse (d ∷ q))) (sym (reverse_cons c p)) (subst (λ (ys : List ℕ). ListBefore (reverse p ++ c ∷ []) ys) (sym (reverse_cons d q))
    (before_behind (reverse p) (reverse q) (c ∷ []) (d ∷ []) (length-reverse p ∙ (long ∙ sym (length-reverse q))) h))
step_stands Greater p q c d long h =
    subst (λ (xs : List ℕ). ListBefore xs (reverse (c ∷ p))) (sym (reverse_cons d q)) (subst (λ (ys : List ℕ). ListBefore (reverse q ++ d ∷ []) ys) (sym (reverse_cons c p))
    (before_behind (reverse q) (reverse p) (d ∷ []) (c ∷ []) (length-reverse q ∙ (sym long ∙ sym (length-reverse p))) h))
step_stands Equal p q c d long h = go (nat_cmp c d) (ranked c d _ refl)
  where
    go : (r : Ordering) → MatchOrdering r (c < d) (c ≡ d) (d < c) → PathsStand (c ∷ p) (d ∷ q) r
    go Less l =
        subst (λ (z : List ℕ). ListBefore (reverse (c ∷ p)) (reverse (d ∷ z))) h
        (subst (λ (xs : List ℕ). ListBefore xs (reverse (d ∷ p))) (sym (reverse_cons c p)) (subst (λ (ys : List ℕ). ListBefore (reverse p ++ c ∷ []) ys) (sym (reverse_cons d p)) (last_before (reverse p) c d l)))
    go Equal e = λ i. e i ∷ h i
    go Greater l =
        subst (λ (z : List ℕ). ListBefore (reverse (d ∷ z)) (reverse (c ∷ p))) h
        (subst (λ (xs : List ℕ). ListBefore xs (reverse (c ∷ p))) (sym (reverse_cons d p)) (subst (λ (ys : List ℕ). ListBefore (reverse p ++ d ∷ []) ys) (sym (reverse_cons c p)) (last_before (reverse p) d c l)))

-- so many steps were counted, from the node up to here
pub record HasCounted (children : List (ℕ × ℕ)) (node at steps : ℕ) : Type 0 where
  pub made : at ≤ length children
  pub counted : steps + length (path_of children at) ≡ length (path_of children node)
  pub few : steps + at ≤ node

-- two nodes were climbed to, where what is found so far decides unless their paths do
pub record HasClimbed (children : List (ℕ × ℕ)) (m n left right : ℕ) (order : Ordering) : Type 0 where
  pub left_made : left ≤ length children
  pub right_made : right ≤ length children
  pub one_length : length (path_of children left) ≡ length (path_of children right)
  pub decides : (o : Ordering) → PathsStand (path_of children left) (path_of children right) o → PathsStand (path_of children m) (path_of children n) (ordering_then o order)

module _ (children : List (ℕ × ℕ)) (tree : IsTree children) where
  pub root_path : path_of children 0 ≡ []
  root_path = path_grows [] children 0 (omega arith)

  -- a node's path has one step more than its parent's
  pub parent_path : (n parent class : ℕ) → 0 < n → slice_get children (n - 1) ≡ Some (parent, class) → path_of children n ≡ class ∷ path_of children parent
  parent_path n parent class some at = child_path children tree parent class n (n - 1, (let e : n ≡ n - 1 + 1 = omega (arith, some) in e), at)

  pub parent_low : (n parent class : ℕ) → 0 < n → slice_get children (n - 1) ≡ Some (parent, class) → (parent < n) × (parent ≤ length children)
  parent_low n parent class some at =
      let low = tree (n - 1) parent class at in
      let within = slice_get_within children (n - 1) (parent, class) at in
      (omega (arith, low, some), omega (arith, low, within))

  pub counted_more : (node at steps parent class : ℕ) → HasCounted children node at steps → 0 < at → slice_get children (at - 1) ≡ Some (parent, class) → HasCounted children node parent (steps + 1)
  counted_more node at steps parent class so some here =
      let low = parent_low at parent class some here in
      let long : length (path_of children at) ≡ suc (length (path_of children parent)) = ap length (parent_path at parent class some here) in
      record { made = low.1; counted = omega (arith, so.counted, long); few = omega (arith, so.few, low.0) }

  pub counted_all : (node at steps : ℕ) → HasCounted children node at steps → at ≤ 0 → steps ≡ length (path_of children node)
  counted_all node at steps so none =
      let e : at ≡ 0 = omega (arith, none) in
      let short : length (path_of children at) ≡ 0 = ap (λ (k : ℕ). length (path_of children k)) e ∙ ap length root_path in
      omega (arith, so.counted, short)

  pub climbed_none : (m n : ℕ) → m ≤ length children → n ≤ length children → length (path_of children m) ≡ length (path_of children n) → HasClimbed children m n m n Equal
  climbed_none m n left right long = record { left_made = left; right_made = right; one_length = long; decides = same }
    where
      same : (o : Ordering) → PathsStand (path_of children m) (path_of children n) o → PathsStand (path_of children m) (path_of children n) (ordering_then o Equal)
      same Less h = h
      same Equal h = h
      same Greater h = h

  positive : (n : ℕ) → 0 < n → n ≤ length children → 0 < length (path_of children n)
  positive n some within = go (slice_get children (n - 1)) refl
    where
      open_at : (e : ℕ × ℕ) → slice_get children (n - 1) ≡ Some e → 0 < length (path_of children n)
      open_at e at = let long : length (path_of children n) ≡ suc (length (path_of children e.0)) = ap length (parent_path n e.0 e.1 some at) in omega (arith, long)

      go : (o : Option (ℕ × ℕ)) → slice_get children (n - 1) ≡ o → 0 < length (path_of children n)
      go (Some e) at = open_at e at
      go None at = let e = some_at children (n - 1) (omega (arith, some, within)) in open_at e.0 e.1

  below_root : (m n : ℕ) → n ≤ length children → length (path_of children m) ≡ length (path_of children n) → m ≢ n → 0 < m
  below_root zero zero within long apart = absurd (apart refl)
  below_root zero (suc n) within long apart =
      let some = positive (suc n) (omega arith) within in
      let none : length (path_of children 0) ≡ 0 = ap length root_path in
      absurd (omega (arith, long, some, none))
  below_root (suc m) n within long apart = omega arith

  pub left_below : (m n left right : ℕ) (order : Ordering) → HasClimbed children m n left right order → left ≢ right → 0 < left
  left_below m n left right order so apart = below_root left right so.right_made so.one_length apart

  pub right_below : (m n left right : ℕ) (order : Ordering) → HasClimbed children m n left right order → left ≢ right → 0 < right
  right_below m n left right order so apart = below_root right left so.left_made (sym so.one_length) (λ e. apart (sym e))

  assoc : (o r s : Ordering) → ordering_then (ordering_then o r) s ≡ ordering_then o (ordering_then r s)
  assoc Less r s = refl
  assoc Equal r s = refl
  assoc Greater r s = refl

  pub climbed_more : (m n left right : ℕ) (order : Ordering) (lp lc rp rc : ℕ) → HasClimbed children m n left right order → left ≢ right → slice_get children (left - 1) ≡ Some (lp, lc) → slice_get children (right - 1) ≡ Some (rp, rc) →
      HasClimbed children m n lp rp (ordering_then (nat_cmp lc rc) order)
  climbed_more m n left right order lp lc rp rc so apart at to =
      let left_some = left_below m n left right order so apart in
      let right_some = right_below m n left right order so apart in
      let left_is = parent_path left lp lc left_some at in
      let right_is = parent_path right rp rc right_some to in
      let long : length (path_of children lp) ≡ length (path_of children rp) = (let e = ap length left_is in
      let f = ap length right_is in
      omega (arith, e, f, so.one_length)) in
      record {
        left_made = (parent_low left lp lc left_some at).1;
        right_made = (parent_low right rp rc right_some to).1;
        one_length = long;
        decides = λ o h. subst (PathsStand (path_of children m) (path_of children n)) (assoc o (nat_cmp lc rc) order)
            (so.decides (ordering_then o (nat_cmp lc rc))
            (subst (λ (p : List ℕ). PathsStand p (path_of children right) (ordering_then o (nat_cmp lc rc))) (sym left_is)
            (subst (λ (q : List ℕ). PathsStand (lc ∷ path_of children lp) q (ordering_then o (nat_cmp lc rc))) (sym right_is) (step_stands o (path_of children lp) (path_of children rp) lc rc long h))));
      }

  pub climbed_all : (m n left right : ℕ) (order : Ordering) → HasClimbed children m n left right order → left ≡ right → PathsStand (path_of children m) (path_of children n) order
  climbed_all m n left right order so same = so.decides Equal (ap (path_of children) same)

module _ (children : List (ℕ × ℕ)) where
  -- by length first
  pub by_length : (m n : ℕ) (o : Ordering) → length (path_of children m) ≢ length (path_of children n) → o ≡ nat_cmp (length (path_of children n)) (length (path_of children m)) → NodesStand children m n o
  by_length m n o apart is = go o (ranked (length (path_of children n)) (length (path_of children m)) o is)
    where
      go : (r : Ordering) → MatchOrdering r (length (path_of children n) < length (path_of children m)) (length (path_of children n) ≡ length (path_of children m)) (length (path_of children m) < length (path_of children n)) → NodesStand children m n r
      go Less l = inl l
      go Equal e = absurd (apart (sym e))
      go Greater l = inl l

  pub by_path : (m n : ℕ) (o : Ordering) → length (path_of children m) ≡ length (path_of children n) → PathsStand (path_of children m) (path_of children n) o → NodesStand children m n o
  by_path m n Less long h = inr (long, h)
  by_path m n Equal long h = h
  by_path m n Greater long h = inr (sym long, h)

module _ (w : EventGraphView) (is : IsEventGraph w) where
  pub variable_is : (v : ℕ) (p : ℕ × ℕ) → slice_get w.places v ≡ Some p → variable_of w v ≡ record { input = p.0; at = path_of w.children p.1 }
  variable_is v p at =
      let f : ℕ × ℕ → ℕ × List ℕ = λ q. (q.0, path_of w.children q.1) in
      let e = get_or_from_slice_get (named_places w) v (f p) (0, []) (slice_get-map f w.places v p at) in
      λ i. record { input = (e i).0; at = (e i).1 }

  module _ (u v : ℕ) (p q : ℕ × ℕ) (at : slice_get w.places u ≡ Some p) (to : slice_get w.places v ≡ Some q) where
    goes : NodeBefore (record { input = p.0; at = path_of w.children p.1 }) (record { input = q.0; at = path_of w.children q.1 }) → GoesBefore w u v
    goes h = subst (λ (x : Variable (List ℕ)). NodeBefore x (variable_of w v)) (sym (variable_is u p at)) (subst (λ (y : Variable (List ℕ)). NodeBefore (record { input = p.0; at = path_of w.children p.1 }) y) (sym (variable_is v q to)) h)

    goes_back : NodeBefore (record { input = q.0; at = path_of w.children q.1 }) (record { input = p.0; at = path_of w.children p.1 }) → GoesBefore w v u
    goes_back h = subst (λ (x : Variable (List ℕ)). NodeBefore x (variable_of w u)) (sym (variable_is v q to)) (subst (λ (y : Variable (List ℕ)). NodeBefore (record { input = q.0; at = path_of w.children q.1 }) y) (sym (variable_is u p at)) h)

    pub at_one_node : p.1 ≡ q.1 → (o : Ordering) → o ≡ nat_cmp p.0 q.0 → Stands w u v o
    at_one_node same o e = go o (ranked p.0 q.0 o e)
      where
        path : path_of w.children p.1 ≡ path_of w.children q.1
        path = ap (path_of w.children) same

        go : (r : Ordering) → MatchOrdering r (p.0 < q.0) (p.0 ≡ q.0) (q.0 < p.0) → Stands w u v r
        go Less l = goes (inr (ap length path, inr (path, l)))
        go Equal input = is.place_once u v p at (subst (λ (r : ℕ × ℕ). slice_get w.places v ≡ Some r) (λ i. (sym input i, sym same i)) to)
        go Greater l = goes_back (inr (ap length (sym path), inr (sym path, l)))

    further : {x y : Variable (List ℕ)} → PathBefore x.at y.at → NodeBefore x y
    further (inl l) = inl l
    further (inr h) = inr (h.0, inl h.1)

    pub at_two_nodes : p.1 ≢ q.1 → (o : Ordering) → NodesStand w.children p.1 q.1 o → Stands w u v o
    at_two_nodes apart Less h = goes (further h)
    at_two_nodes apart Greater h = goes_back (further h)
    at_two_nodes apart Equal h =
        let left = All-at (λ (r : ℕ × ℕ). r.1 ≤ length w.children) w.places u p at is.placed in
        let right = All-at (λ (r : ℕ × ℕ). r.1 ≤ length w.children) w.places v q to is.placed in
        absurd (apart (one_node w.children is.is_tree is.once p.1 q.1 left right h))
