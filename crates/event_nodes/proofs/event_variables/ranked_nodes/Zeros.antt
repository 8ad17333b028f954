-- Entries that are put one after the other, and nodes in their order.
use Rattle.std.proofs.Common.{◌≡◌, ◌∙◌, ℕ, ◌+◌, ◌<◌, ◌≤◌, List, [], ◌∷◌, ◌++◌, length, reverse, take, slice_get, Some, refl, sym, ap, subst, arith, length-append, append-nil, inl, inr, set, length-set, get_or-set_same, get_or-set_other, ◌≢◌}
use Rattle.std.specs.Prelude.{◌⊎◌, ◌↔◌}
use Rattle.std.specs.List.{All, Contains}
use Rattle.std.proofs.lemmas.List.Elements.{Contains-append_left, Contains-push, Contains-push_cases}
use Rattle.std.proofs.lemmas.Option.{same_Some, slice_get_within, slice_get-get_or, get_or_from_slice_get}
use Rattle.circuit_theory.specs.Names.{ListBefore}
use Rattle.circuit_theory.specs.Query.{Variable}
use Rattle.circuit_theory.proofs.Numbers.{slice_get-map}
use Rattle.circuit_theory.specs.Frame.{NodeBefore}
use Rattle.flat_net.proofs.Growth.{slice_get-append}
use Rattle.base_tables.specs.Table.{AreDistinct}
use Rattle.base_tables.proofs.TableLemmas.{slice_get-take, take-push}
use Rattle.aig.specs.Adds.{Adds}
use Rattle.event_nodes.specs.Nodes.{EventGraphView, named_places, path_of}
use Rattle.aig.proofs.Lists.{pairs_at}
use Rattle.event_nodes.specs.event_variables.Order.{IsOrderOf}
use Rattle.event_nodes.specs.event_variables.Variables.{variable_of, GoesBefore, PathBefore, AreInOrder}
use Rattle.flat_net.proofs.Places.{All-at}
use Rattle.event_nodes.specs.event_variables.ranked_nodes.Ranks.{HasZeros}

-- one entry more of a list without doubles
pub next_entry : (es : List (ℕ × ℕ)) → AreDistinct es → (n : ℕ) (e : ℕ × ℕ) → slice_get es n ≡ Some e → (old new : List (ℕ × ℕ)) → old ≡ take n es → Adds (λ q. q ≡ e) old new → length new ≤ length old + 1 → (k : ℕ) → slice_get new k ≡ Some e → new ≡ take (n + 1) es
next_entry es once n e at old new before adds few k here = go adds.more adds.is adds.each
  where
    go : (more : List (ℕ × ℕ)) → new ≡ old ++ more → All (λ q. q ≡ e) more → new ≡ take (n + 1) es
    go [] is each =
        let there : slice_get (take n es) k ≡ Some e = ap (λ (l : List (ℕ × ℕ)). slice_get l k) (sym before ∙ (sym (append-nil old) ∙ sym is)) ∙ here in
        let low = slice_get-take n es k e there in
        absurd (let same = once k n e low.1 at in omega (arith, low.0, same))
    go (x ∷ []) is each =
        is ∙ (ap (λ (l : List (ℕ × ℕ)). l ++ x ∷ []) before ∙ (ap (λ (y : ℕ × ℕ). take n es ++ y ∷ []) (each 0 e (omega arith)) ∙ take-push es n e at))
    go (x ∷ y ∷ more) is each = absurd (let long = length-append old (x ∷ y ∷ more) in omega (arith, few, ap length is, long))

-- the variable of a zero is the input 0 at the node
zero_at : (w : EventGraphView) (count n : ℕ) → HasZeros count w.places → n < count → variable_of w n ≡ record { input = 0; at = path_of w.children n }
zero_at w count n zeros below =
    let e = get_or_from_slice_get (named_places w) n (0, path_of w.children n) (0, []) (slice_get-map (λ (q : ℕ × ℕ). (q.0, path_of w.children q.1)) w.places n (0, n) (zeros.at n below)) in
    λ i. record { input = (e i).0; at = (e i).1 }

path_before : (x y : Variable (List ℕ)) → x.input ≡ y.input → NodeBefore x y → PathBefore x.at y.at
path_before x y same (inl longer) = inl longer
path_before x y same (inr (e, inl lists)) = inr (e, lists)
path_before x y same (inr (e, inr h)) = absurd (let low = h.1 in omega (arith, low, same))

-- zeros in the order of variables are nodes in the order of their paths
nodes_in_order : (w : EventGraphView) (count : ℕ) → HasZeros count w.places → (vars : List ℕ) → AreInOrder w vars → (i j m n : ℕ) → i < j → slice_get vars i ≡ Some m → slice_get vars j ≡ Some n → PathBefore (path_of w.children m) (path_of w.children n)
nodes_in_order w count zeros vars are i j m n below at_i at_j =
    let inside_m : m < length w.places = within i m at_i in
    let inside_n : n < length w.places = within j n at_j in
    let first = zero_at w count m zeros (omega (arith, inside_m, zeros.each)) in
    let second = zero_at w count n zeros (omega (arith, inside_n, zeros.each)) in
    let goes : GoesBefore w m n = pairs_at (GoesBefore w) vars i j m n are.ordered below at_i at_j in
    path_before (record { input = 0; at = path_of w.children m }) (record { input = 0; at = path_of w.children n }) refl
    (subst (λ (y : Variable (List ℕ)). NodeBefore (record { input = 0; at = path_of w.children m }) y) second (subst (λ (x : Variable (List ℕ)). NodeBefore x (variable_of w n)) first goes))
  where
    within : (k u : ℕ) → slice_get vars k ≡ Some u → u < length w.places
    within k u at =
        let long = slice_get_within vars k u at in
        subst (λ (z : ℕ). z < length w.places) (get_or_from_slice_get vars k u 0 at) (are.within k 0 long)

not_before_itself : (xs : List ℕ) → ListBefore xs xs → ⊥
not_before_itself [] h = h
not_before_itself (x ∷ xs) (inl l) = omega (arith, l)
not_before_itself (x ∷ xs) (inr e) = not_before_itself xs e.1

pub path_irreflexive : (p : List ℕ) → PathBefore p p → ⊥
path_irreflexive p (inl h) = omega (arith, h)
path_irreflexive p (inr h) = not_before_itself (reverse p) h.1

-- no node stands twice
pub nodes_apart : (children : List (ℕ × ℕ)) (vars : List ℕ) → ((i j m n : ℕ) → i < j → slice_get vars i ≡ Some m → slice_get vars j ≡ Some n → PathBefore (path_of children m) (path_of children n)) → (i j n : ℕ) → slice_get vars i ≡ Some n → slice_get vars j ≡ Some n → i ≡ j
nodes_apart children vars ordered i j n at_i at_j = go (order i j)
  where
    order : (a b : ℕ) → (a < b) ⊎ ((b < a) ⊎ (a ≡ b))
    order a b = grind arith

    go : (i < j) ⊎ ((j < i) ⊎ (i ≡ j)) → i ≡ j
    go (inl low) = absurd (path_irreflexive (path_of children n) (ordered i j n n low at_i at_j))
    go (inr (inl high)) = absurd (path_irreflexive (path_of children n) (ordered j i n n high at_j at_i))
    go (inr (inr same)) = same

-- numbers that are put, one more
pub below_next : (numbers new : List ℕ) (v : ℕ) → new ≡ numbers ++ v ∷ [] → ((u : ℕ) → Contains numbers u ↔ (u < v)) → (u : ℕ) → Contains new u ↔ (u < v + 1)
below_next numbers new v is below u = (λ h. to (Contains-push_cases numbers v u (subst (λ (l : List ℕ). Contains l u) is h)), λ low. subst (λ (l : List ℕ). Contains l u) (sym is) (from (below_or_here u v low)))
  where
    below_or_here : (k n : ℕ) → k < n + 1 → (k < n) ⊎ (n ≡ k)
    below_or_here k n h = grind arith

    to : Contains numbers u ⊎ (v ≡ u) → u < v + 1
    to (inl old) = let low = (below u).0 old in omega (arith, low)
    to (inr e) = omega (arith, e)

    from : (u < v) ⊎ (v ≡ u) → Contains (numbers ++ v ∷ []) u
    from (inl low) = Contains-append_left numbers (v ∷ []) u ((below u).1 low)
    from (inr e) = subst (λ (n : ℕ). Contains (numbers ++ v ∷ []) n) e (Contains-push numbers v)

-- all nodes in the order of zeros at them
module _ (children : List (ℕ × ℕ)) (w : EventGraphView) (numbers nodes : List ℕ) (same : w.children ≡ children) (zeros : HasZeros (length w.children + 1) w.places) (below : (v : ℕ) → Contains numbers v ↔ (v < length children + 1)) (order : IsOrderOf w numbers nodes) where
  pub ranked_within : (i n : ℕ) → slice_get nodes i ≡ Some n → n ≤ length children
  ranked_within i n at =
      let low = (below n).0 ((order.same n).0 (i, slice_get_within nodes i n at, get_or_from_slice_get nodes i n n at)) in
      omega (arith, low)

  pub ranked_order : (i j m n : ℕ) → i < j → slice_get nodes i ≡ Some m → slice_get nodes j ≡ Some n → PathBefore (path_of children m) (path_of children n)
  ranked_order i j m n low at_i at_j =
      subst (λ (es : List (ℕ × ℕ)). PathBefore (path_of es m) (path_of es n)) same (nodes_in_order w (length w.children + 1) zeros nodes order.in_order i j m n low at_i at_j)

  pub ranked_apart : (i j n : ℕ) → slice_get nodes i ≡ Some n → slice_get nodes j ≡ Some n → i ≡ j
  ranked_apart = nodes_apart children nodes ranked_order

  pub ranked_there : (ranks : List ℕ) → ((i n : ℕ) → slice_get nodes i ≡ Some n → slice_get ranks n ≡ Some i) → (n : ℕ) → n ≤ length children → (i : ℕ) × (slice_get ranks n ≡ Some i) × (slice_get nodes i ≡ Some n)
  ranked_there ranks placed n low =
      let h = (order.same n).1 ((below n).1 (omega (arith, low))) in
      let at : slice_get nodes h.0 ≡ Some n = slice_get-get_or nodes h.0 n h.1 ∙ ap Some h.2 in
      (h.0, placed h.0 n at, at)

-- one number's place more
pub placed_next : (numbers places : List ℕ) (i v count : ℕ) → slice_get numbers i ≡ Some v → All (λ n. n < count) numbers → ((j k n : ℕ) → slice_get numbers j ≡ Some n → slice_get numbers k ≡ Some n → j ≡ k) → length places ≡ count → ((k n : ℕ) → k < i → slice_get numbers k ≡ Some n → slice_get places n ≡ Some k) →
    (k n : ℕ) → k < i + 1 → slice_get numbers k ≡ Some n → slice_get (set places v i) n ≡ Some k
placed_next numbers places i v count at_i within apart each so_far k n low at = go (below_or_here low)
  where
    below_or_here : k < i + 1 → (k < i) ⊎ (k ≡ i)
    below_or_here h = grind arith

    inside : v < length places
    inside = let h = All-at (λ m. m < count) numbers i v at_i within in omega (arith, h, each)

    long : (m : ℕ) → m < length places → m < length (set places v i)
    long m h = omega (arith, h, length-set places v i)

    go : (k < i) ⊎ (k ≡ i) → slice_get (set places v i) n ≡ Some k
    go (inl below) =
        let old = so_far k n below at in
        let other : n ≢ v = λ e. (let same = apart k i v (at ∙ ap Some e) at_i in omega (arith, below, same)) in
        slice_get-get_or (set places v i) n 0 (long n (slice_get_within places n k old)) ∙ ap Some (get_or-set_other places v n i 0 other ∙ get_or_from_slice_get places n k 0 old)
    go (inr here) =
        let same : v ≡ n = same_Some v n (sym at_i ∙ (ap (slice_get numbers) (sym here) ∙ at)) in
        subst (λ m. slice_get (set places v i) m ≡ Some k) same (slice_get-get_or (set places v i) v 0 (long v inside) ∙ ap Some (get_or-set_same places v i 0 inside ∙ sym here))

-- one zero more
pub zeros_next : (n : ℕ) (old new : List (ℕ × ℕ)) → HasZeros n old → (more : List (ℕ × ℕ)) → new ≡ old ++ more → length new ≤ length old + 1 → (v : ℕ) → slice_get new v ≡ Some (0, n) → HasZeros (n + 1) new
zeros_next n old new zeros more is few v here = record { each = omega (arith, inside, last, few, zeros.each); at = λ k low. at_place k (below_or_here k low) }
  where
    below_or_here : (k : ℕ) → k < n + 1 → (k < n) ⊎ (k ≡ n)
    below_or_here k h = grind arith

    kept : (k : ℕ) (p : ℕ × ℕ) → slice_get old k ≡ Some p → slice_get new k ≡ Some p
    kept k p at = subst (λ (l : List (ℕ × ℕ)). slice_get l k ≡ Some p) (sym is) (slice_get-append old more k p at)

    inside : v < length new
    inside = slice_get_within new v (0, n) here

    last : v ≡ n
    last = go (below_or_here v (omega (arith, inside, few, zeros.each)))
      where
        go : (v < n) ⊎ (v ≡ n) → v ≡ n
        go (inl low) = ap (λ (p : ℕ × ℕ). p.1) (same_Some (0, v) (0, n) (sym (kept v (0, v) (zeros.at v low)) ∙ here))
        go (inr e) = e

    at_place : (k : ℕ) → (k < n) ⊎ (k ≡ n) → slice_get new k ≡ Some (0, k)
    at_place k (inl low) = kept k (0, k) (zeros.at k low)
    at_place k (inr e) = subst (λ m. slice_get new m ≡ Some (0, m)) (sym e) (subst (λ m. slice_get new m ≡ Some (0, n)) last here)
