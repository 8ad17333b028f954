-- The part of a graph that a cone is: its nodes by their places.
use Rattle.std.proofs.Common.{◌≡◌, ℕ, zero, suc, ◌+◌, ◌*◌, ◌/◌, ◌%◌, ◌<◌, ◌≤◌, ◌⊎◌, inl, inr, Bool, false, not, ◌&&◌, List, [], ◌∷◌, ◌++◌, length, map, get_or, slice_get, Some, Ok, Err, Contains, refl, sym, ap, subst, ◌∙◌, arith}
use Rattle.std.specs.List.Sorted.{IsStrictlyIncreasing, IsBinarySearchResult}
use Rattle.std.specs.Ordering.{nat_cmp}
use Rattle.std.proofs.lemmas.List.Sorted.{searched}
use Rattle.std.proofs.lemmas.List.{same_lists, get_or-map, length-map, length-append}
use Rattle.std.proofs.lemmas.List.Kept.{AllPairs-from_increasing}
use Rattle.std.proofs.lemmas.Option.{slice_get_within, slice_get-get_or, get_or_from_slice_get, same_Some}
use Rattle.sec_base.proofs.circuit_theory.Lists.{at_of, of_at}
use Rattle.aig.specs.declared.node.Node.{Node}
use Rattle.aig.specs.declared.node.Node.TheVariants.{Constant, Input, And}
use Rattle.aig.specs.Graph.{IsGraph, IsOrdered, IsAbove, flip}
use Rattle.aig.specs.Values.{value, node_value, node_bits}
use Rattle.aig.specs.Cone.{IsClosed, IsPlacedLit, IsPlacedNode, IsPartOf}
use Rattle.aig.proofs.Literals.{parity, flip-even}
use Rattle.aig.proofs.Growth.{slice_get-append}
use Rattle.aig.proofs.Meaning.{value-node, value-even, value-flip, length-node_bits}

-- of numbers that rise the one at a later place is greater
pub rises : (ns : List ℕ) → IsStrictlyIncreasing ns → (i j m n : ℕ) → i < j → slice_get ns i ≡ Some m → slice_get ns j ≡ Some n → m < n
rises ns increasing i j m n below at other =
    let pair : get_or ns i 0 < get_or ns j 0 = AllPairs-from_increasing ns increasing i j 0 below (slice_get_within ns j n other) in
    omega (arith, get_or_from_slice_get ns i m 0 at, get_or_from_slice_get ns j n 0 other)

-- and a lesser number stands at an earlier place
pub stands_before : (ns : List ℕ) → IsStrictlyIncreasing ns → (i j m n : ℕ) → slice_get ns i ≡ Some m → slice_get ns j ≡ Some n → m < n → i < j
stands_before ns increasing i j m n at other below = by (order i j)
  where
    order : (i j : ℕ) → (i < j) ⊎ ((i ≡ j) ⊎ (j < i))
    order i j = grind arith

    by : (i < j) ⊎ ((i ≡ j) ⊎ (j < i)) → i < j
    by (inl l) = l
    by (inr (inl e)) = absurd (let same : m ≡ n = same_Some m n (sym at ∙ ap (slice_get ns) e ∙ other) in omega arith)
    by (inr (inr g)) = absurd (let more : n < m = rises ns increasing j i n m g other at in omega arith)

-- one number stands at one place
pub stands_once : (ns : List ℕ) → IsStrictlyIncreasing ns → (i j n : ℕ) → slice_get ns i ≡ Some n → slice_get ns j ≡ Some n → i ≡ j
stands_once ns increasing i j n at other = by (order i j)
  where
    order : (i j : ℕ) → (i < j) ⊎ ((i ≡ j) ⊎ (j < i))
    order i j = grind arith

    by : (i < j) ⊎ ((i ≡ j) ⊎ (j < i)) → i ≡ j
    by (inl l) = absurd (let more : n < n = rises ns increasing i j n n l at other in omega arith)
    by (inr (inl e)) = e
    by (inr (inr g)) = absurd (let more : n < n = rises ns increasing j i n n g other at in omega arith)

-- a number that rises by its place is at least the place
pub place-below : (ns : List ℕ) → IsStrictlyIncreasing ns → (i n : ℕ) → slice_get ns i ≡ Some n → i ≤ n
place-below ns increasing zero n at = omega arith
place-below ns increasing (suc i) n at =
    let inside : i < length ns = omega (arith, slice_get_within ns (suc i) n at) in
    let here = slice_get-get_or ns i 0 inside in
    let less : get_or ns i 0 < n = rises ns increasing i (suc i) (get_or ns i 0) n (omega arith) here at in
    omega (arith, place-below ns increasing i (get_or ns i 0) here)

-- literals at their places keep their order
placed-order : (ns : List ℕ) → IsStrictlyIncreasing ns → (x y s t : ℕ) → IsPlacedLit ns x s → IsPlacedLit ns y t → x < y → s < t
placed-order ns increasing x y s t first second below = by halves
  where
    halves : (x / 2 < y / 2) ⊎ ((x / 2 ≡ y / 2) × (x % 2 < y % 2))
    halves = cases (half_cases (x / 2) (y / 2))
      where
        half_cases : (m n : ℕ) → (m < n) ⊎ (n ≤ m)
        half_cases m n = grind arith

        cases : (x / 2 < y / 2) ⊎ (y / 2 ≤ x / 2) → (x / 2 < y / 2) ⊎ ((x / 2 ≡ y / 2) × (x % 2 < y % 2))
        cases (inl l) = inl l
        cases (inr g) = inr (omega arith, omega arith)

    by : (x / 2 < y / 2) ⊎ ((x / 2 ≡ y / 2) × (x % 2 < y % 2)) → s < t
    by (inl l) = let before : s / 2 < t / 2 = stands_before ns increasing (s / 2) (t / 2) (x / 2) (y / 2) first.1 second.1 l in omega arith
    by (inr (e, l)) =
        let one : s / 2 ≡ t / 2 = stands_once ns increasing (s / 2) (t / 2) (y / 2) (first.1 ∙ ap Some e) second.1 in
        let signs : s % 2 < t % 2 = omega (arith, first.0, second.0) in
        omega arith

-- a literal by its node's
value-signed : (g : List Node) (a : ℕ → Bool) (x : ℕ) → ((x % 2 ≡ 0) × (value g a x ≡ value g a (2 * (x / 2)))) ⊎ ((x % 2 ≡ 1) × (value g a x ≡ not (value g a (2 * (x / 2)))))
value-signed g a x = by (parity x)
  where
    by : (x % 2 ≡ 0) ⊎ (x % 2 ≡ 1) → ((x % 2 ≡ 0) × (value g a x ≡ value g a (2 * (x / 2)))) ⊎ ((x % 2 ≡ 1) × (value g a x ≡ not (value g a (2 * (x / 2)))))
    by (inl e) =
        let half : x ≡ 2 * (x / 2) = omega arith in
        inl (e, ap (value g a) half)
    by (inr e) =
        let half : x ≡ 2 * (x / 2) + 1 = omega arith in
        let turned : flip (2 * (x / 2)) ≡ 2 * (x / 2) + 1 = flip-even (2 * (x / 2)) (omega arith) in
        inr (e, ap (value g a) (half ∙ sym turned) ∙ value-flip g a (2 * (x / 2)))

-- literals of one sign over equal nodes
same-lit : (g h : List Node) (a : ℕ → Bool) (x y : ℕ) → x % 2 ≡ y % 2 → value g a (2 * (x / 2)) ≡ value h a (2 * (y / 2)) → value g a x ≡ value h a y
same-lit g h a x y signs nodes = by (value-signed g a x) (value-signed h a y)
  where
    by : ((x % 2 ≡ 0) × (value g a x ≡ value g a (2 * (x / 2)))) ⊎ ((x % 2 ≡ 1) × (value g a x ≡ not (value g a (2 * (x / 2))))) →
        ((y % 2 ≡ 0) × (value h a y ≡ value h a (2 * (y / 2)))) ⊎ ((y % 2 ≡ 1) × (value h a y ≡ not (value h a (2 * (y / 2))))) → value g a x ≡ value h a y
    by (inl (e, p)) (inl (f, q)) = p ∙ nodes ∙ sym q
    by (inr (e, p)) (inr (f, q)) = p ∙ ap not nodes ∙ sym q
    by (inl (e, p)) (inr (f, q)) = absurd (omega arith)
    by (inr (e, p)) (inl (f, q)) = absurd (omega arith)

module _ (g : List Node) (graph : IsGraph g) (nodes : List ℕ) (closed : IsClosed g nodes) (part : List Node) (is : IsPartOf g nodes part) where
  -- the node behind a place
  record At (k : ℕ) (p : Node) : Type 0 where
    number : ℕ
    node : Node
    here : slice_get nodes k ≡ Some number
    there : slice_get g number ≡ Some node
    placed : IsPlacedNode nodes node p

  at : (k : ℕ) (p : Node) → slice_get part k ≡ Some p → At k p
  at k p has =
      let inside : k < length nodes = omega (arith, slice_get_within part k p has, is.each) in
      let number = get_or nodes k 0 in
      let here = slice_get-get_or nodes k 0 inside in
      let there = slice_get-get_or g (get_or nodes k 0) Constant (closed.within (get_or nodes k 0) (of_at nodes k (get_or nodes k 0) here)) in
      let (q, is_q, placed) = is.placed k (get_or nodes k 0) (get_or g (get_or nodes k 0) Constant) here there in
      record { number = number; node = get_or g (get_or nodes k 0) Constant; here = here; there = there; placed = subst (IsPlacedNode nodes (get_or g (get_or nodes k 0) Constant)) (same_Some q p (sym is_q ∙ has)) placed }

  placed-above : (k n : ℕ) (node p : Node) → slice_get nodes k ≡ Some n → slice_get g n ≡ Some node → IsPlacedNode nodes node p → IsAbove k p
  placed-above k n Constant p here there placed = subst (IsAbove k) (sym placed) tt
  placed-above k n (Input v) p here there placed = subst (IsAbove k) (sym placed) tt
  placed-above k n (And l r) p here there (s, t, e, first, second) =
      let above : (l.0 < r.0) × (r.0 < 2 * n) = graph.ordered n (And l r) there in
      let lower : r.0 / 2 < n = omega (arith, above.1) in
      let before : t.0 / 2 < k = stands_before nodes closed.increasing (t.0 / 2) k (r.0 / 2) n second.1 here lower in
      subst (IsAbove k) (sym e) (placed-order nodes closed.increasing l.0 r.0 s.0 t.0 first second above.0, omega arith)

  pub part-ordered : IsOrdered part
  part-ordered k p has = let w = at k p has in placed-above k w.number w.node p w.here w.there w.placed

  part-node : (a : ℕ → Bool) (k n : ℕ) (node p : Node) → slice_get nodes k ≡ Some n → slice_get g n ≡ Some node → IsPlacedNode nodes node p → ((j m : ℕ) → j < k → slice_get nodes j ≡ Some m → value part a (2 * j) ≡ value g a (2 * m)) →
      node_value part a p ≡ node_value g a node
  part-node a k n Constant p here there placed earlier = ap (node_value part a) placed
  part-node a k n (Input v) p here there placed earlier = ap (node_value part a) placed
  part-node a k n (And l r) p here there (s, t, e, first, second) earlier =
      let above : (l.0 < r.0) × (r.0 < 2 * n) = graph.ordered n (And l r) there in
      let left : s.0 / 2 < k = stands_before nodes closed.increasing (s.0 / 2) k (l.0 / 2) n first.1 here (omega (arith, above.0, above.1)) in
      let right : t.0 / 2 < k = stands_before nodes closed.increasing (t.0 / 2) k (r.0 / 2) n second.1 here (omega (arith, above.1)) in
      let same_left : value part a s.0 ≡ value g a l.0 = same-lit part g a s.0 l.0 first.0 (earlier (s.0 / 2) (l.0 / 2) left first.1) in
      let same_right : value part a t.0 ≡ value g a r.0 = same-lit part g a t.0 r.0 second.0 (earlier (t.0 / 2) (r.0 / 2) right second.1) in
      ap (node_value part a) e ∙ ap (λ (b : Bool). b && value part a t.0) same_left ∙ ap (λ (b : Bool). value g a l.0 && b) same_right

  -- a place of the part has the value of its node
  part-below : (a : ℕ → Bool) (m k n : ℕ) → k < m → slice_get nodes k ≡ Some n → value part a (2 * k) ≡ value g a (2 * n)
  part-below a zero k n below here = absurd (omega arith)
  part-below a (suc m) k n below here =
      let inside : k < length part = omega (arith, slice_get_within nodes k n here, is.each) in
      let p = get_or part k Constant in
      let has = slice_get-get_or part k Constant inside in
      let there = slice_get-get_or g n Constant (closed.within n (of_at nodes k n here)) in
      let (q, is_q, placed) = is.placed k n (get_or g n Constant) here there in
      let placed_here : IsPlacedNode nodes (get_or g n Constant) (get_or part k Constant) = subst (IsPlacedNode nodes (get_or g n Constant)) (same_Some q (get_or part k Constant) (sym is_q ∙ has)) placed in
      value-node part part-ordered k p a has ∙ part-node a k n (get_or g n Constant) p here there placed_here (λ j i less other. part-below a m j i (omega arith) other) ∙ sym (value-node g graph.ordered n (get_or g n Constant) a there)

  pub part-value : (a : ℕ → Bool) (k n : ℕ) → slice_get nodes k ≡ Some n → value part a (2 * k) ≡ value g a (2 * n)
  part-value a k n here = part-below a (k + 1) k n (omega arith) here

  -- a literal at its place has its value
  pub part-lit : (a : ℕ → Bool) (x y : ℕ) → IsPlacedLit nodes x y → value part a y ≡ value g a x
  part-lit a x y placed = same-lit part g a y x placed.0 (part-value a (y / 2) (x / 2) placed.1)

  pub part-bits : (a : ℕ → Bool) → node_bits part a ≡ map (λ n. value g a (2 * n)) nodes
  part-bits a = same_lists (node_bits part a) (map (λ n. value g a (2 * n)) nodes) lengths each
    where
      lengths : length (node_bits part a) ≡ length (map (λ n. value g a (2 * n)) nodes)
      lengths = length-node_bits part a ∙ is.each ∙ sym (length-map nodes (λ n. value g a (2 * n)))

      each : (k : ℕ) (d : Bool) → k < length (node_bits part a) → get_or (node_bits part a) k d ≡ get_or (map (λ n. value g a (2 * n)) nodes) k d
      each k d inside =
          let within : k < length nodes = omega (arith, length-node_bits part a, is.each) in
          let here = slice_get-get_or nodes k 0 within in
          default (node_bits part a) k d inside ∙ sym (value-even part a k) ∙ part-value a k (get_or nodes k 0) here ∙ sym (get_or-map (λ n. value g a (2 * n)) nodes k 0 d within)
        where
          default : (bits : List Bool) (k : ℕ) (d : Bool) → k < length bits → get_or bits k d ≡ get_or bits k false
          default bits k d inside = get_or_from_slice_get bits k (get_or bits k false) d (slice_get-get_or bits k false inside)

-- numbers that rise don't fall
not-falling : (ns : List ℕ) → IsStrictlyIncreasing ns → (i j : ℕ) → i ≤ j → j < length ns → get_or ns i 0 ≤ get_or ns j 0
not-falling ns increasing i j below inside = by (cases i j)
  where
    cases : (i j : ℕ) → (i < j) ⊎ (j ≤ i)
    cases i j = grind arith

    by : (i < j) ⊎ (j ≤ i) → get_or ns i 0 ≤ get_or ns j 0
    by (inl l) = let pair : get_or ns i 0 < get_or ns j 0 = AllPairs-from_increasing ns increasing i j 0 l inside in omega arith
    by (inr g) = let same : i ≡ j = omega arith in omega (arith, ap (λ (k : ℕ). get_or ns k 0) same)

-- what a search in numbers that rise finds, and that it misses nothing
pub search-found : (ns : List ℕ) → IsStrictlyIncreasing ns → (x k : ℕ) → IsBinarySearchResult (λ y. nat_cmp y x) ns (Ok k) → slice_get ns k ≡ Some x
search-found ns increasing x k found =
    let hit = searched ns x (Ok k) found (not-falling ns increasing) in
    slice_get-get_or ns k 0 hit.0 ∙ ap Some hit.1

pub search-missed : (ns : List ℕ) → IsStrictlyIncreasing ns → (x i : ℕ) → IsBinarySearchResult (λ y. nat_cmp y x) ns (Err i) → Contains ns x → ⊥
search-missed ns increasing x i missed there =
    let hit = searched ns x (Err i) missed (not-falling ns increasing) in
    let at = at_of ns x there in
    let here : get_or ns at.0 0 ≡ x = get_or_from_slice_get ns at.0 x 0 at.1 in
    by at.0 here (slice_get_within ns at.0 x at.1) hit.1 hit.2 (cases at.0 i)
  where
    cases : (k i : ℕ) → (k < i) ⊎ (i ≤ k)
    cases k i = grind arith

    by : (k : ℕ) → get_or ns k 0 ≡ x → k < length ns → ((k : ℕ) → k < i → get_or ns k 0 < x) → ((k : ℕ) → i ≤ k → k < length ns → x < get_or ns k 0) → (k < i) ⊎ (i ≤ k) → ⊥
    by k here inside before behind (inl l) = let less : get_or ns k 0 < x = before k l in omega arith
    by k here inside before behind (inr g) = let more : x < get_or ns k 0 = behind k g inside in omega arith

-- one node more of a part
pub part-step : (g : List Node) (nodes : List ℕ) (part new : List Node) (k : ℕ) (p : Node) (n : ℕ) (node : Node) → length part ≡ k → ((j m : ℕ) (y : Node) → j < k → slice_get nodes j ≡ Some m → slice_get g m ≡ Some y → (q : Node) × (slice_get part j ≡ Some q) × IsPlacedNode nodes y q)
    → new ≡ part ++ p ∷ [] → slice_get nodes k ≡ Some n → slice_get g n ≡ Some node → IsPlacedNode nodes node p
    → (length new ≡ k + 1) × ((j m : ℕ) (y : Node) → j < k + 1 → slice_get nodes j ≡ Some m → slice_get g m ≡ Some y → (q : Node) × (slice_get new j ≡ Some q) × IsPlacedNode nodes y q)
part-step g nodes part new k p n node each placed is here there at_p =
    (omega (arith, ap length is, length-append part (p ∷ [])), λ j m y below at other. by j m y (before j below) at other)
  where
    before : (j : ℕ) → j < k + 1 → (j < k) ⊎ (j ≡ k)
    before j below = grind arith

    last : (xs : List Node) → slice_get (xs ++ p ∷ []) (length xs) ≡ Some p
    last [] = refl
    last (x ∷ xs) = last xs

    by : (j m : ℕ) (y : Node) → (j < k) ⊎ (j ≡ k) → slice_get nodes j ≡ Some m → slice_get g m ≡ Some y → (q : Node) × (slice_get new j ≡ Some q) × IsPlacedNode nodes y q
    by j m y (inl below) at other =
        let (q, was, fits) = placed j m y below at other in
        (q, subst (λ (xs : List Node). slice_get xs j ≡ Some q) (sym is) (slice_get-append part (p ∷ []) j q was), fits)
    by j m y (inr e) at other =
        let one : n ≡ m = same_Some n m (sym here ∙ ap (slice_get nodes) (sym e) ∙ at) in
        let same : node ≡ y = same_Some node y (sym there ∙ ap (slice_get g) one ∙ other) in
        (p, ap (slice_get new) (e ∙ sym each) ∙ ap (λ (xs : List Node). slice_get xs (length part)) is ∙ last part, subst (λ (z : Node). IsPlacedNode nodes z p) same at_p)
