-- Walks from roots, and the cones that they give.
use Rattle.std.proofs.Common.{◌≡◌, ℕ, zero, suc, ◌+◌, ◌*◌, ◌/◌, ◌<◌, ◌≤◌, ◌==◌, ◌⊎◌, inl, inr, Bool, true, false, if◌then◌else◌, List, [], ◌∷◌, ◌++◌, length, map, get_or, sum_by, slice_get, Some, Contains, refl, sym, ap, subst, ◌∙◌, arith, true≢false, ◌||◌}
use Rattle.std.specs.List.{list_any, IsDistinct}
use Rattle.std.specs.List.Sorted.{IsStrictlyIncreasing, IsPermutation, IsSorted}
use Rattle.std.proofs.lemmas.Bool.Decides.{Decides-eqb}
use Rattle.std.proofs.lemmas.Option.{slice_get_within, slice_get-get_or, get_or_from_slice_get, same_Some, none-some}
use Rattle.std.proofs.lemmas.List.{length-append}
use Rattle.std.proofs.lemmas.List.Folds.{list_any_at}
use Rattle.std.proofs.lemmas.List.Sums.{sum_by-cons}
use Rattle.std.proofs.lemmas.List.Sorted.{Contains-permutation, IsPermutation-sym, IsNonDecreasingBy-from_sort}
use Rattle.std.proofs.lemmas.Map.Keys.{IsStrictlyIncreasing-from_distinct, IsDistinct-IsPermutation}
use Rattle.std.proofs.lemmas.Map.Made.{IsDistinct-from_AllPairs}
use Rattle.std.specs.Ordering.{nat_cmp}
use Rattle.sec_base.proofs.circuit_theory.Lists.{Contains-head, Contains-tail, Contains-map_from, at_of, of_at}
use Rattle.sec_base.proofs.circuit_theory.Sums.{sum_within}
use Rattle.base_tables.specs.unique_table.Places.{IsWith}
use Rattle.base_tables.proofs.unique_table.Keys.{all-differ}
use Rattle.base_tables.specs.Table.{AreDistinct}
use Rattle.aig.specs.declared.node.Lit.{Lit}
use Rattle.aig.specs.declared.node.Node.{Node}
use Rattle.aig.specs.declared.node.Node.TheVariants.{Constant, Input, And}
use Rattle.aig.specs.Graph.{IsGraph}
use Rattle.aig.specs.Cone.{Reads, IsReached, IsConeOf, IsClosed, with_number, HasOperands, IsSeen, IsWalk}
use Rattle.aig.proofs.Growth.{slice_get-append}
use Rattle.aig.proofs.Insert.{push-cases}

-- a number that equals one of the numbers is among them
among : (seen : List ℕ) (n : ℕ) → list_any (λ m. n == m) seen ≡ true → Contains seen n
among [] n e = absurd (true≢false (sym e))
among (m ∷ seen) n e = by (n == m) refl (λ later. among seen n later)
  where
    by : (b : Bool) → (n == m) ≡ b → (list_any (λ k. n == k) seen ≡ true → Contains seen n) → Contains (m ∷ seen) n
    by true same later = subst (Contains (m ∷ seen)) (sym ((Decides-eqb n m).0 same)) (Contains-head m seen)
    by false other later = Contains-tail m n seen (later (sym (ap (λ (b : Bool). b || list_any (λ k. n == k) seen) other) ∙ e))

-- a number that is put behind others is among them, or goes last
pub with_number-cases : (seen : List ℕ) (n : ℕ) → (Contains seen n × (with_number seen n ≡ seen)) ⊎ ((Contains seen n → ⊥) × (with_number seen n ≡ seen ++ n ∷ []))
with_number-cases seen n = by (list_any (λ m. n == m) seen) refl
  where
    by : (b : Bool) → list_any (λ m. n == m) seen ≡ b → (Contains seen n × ((if b then seen else seen ++ n ∷ []) ≡ seen)) ⊎ ((Contains seen n → ⊥) × ((if b then seen else seen ++ n ∷ []) ≡ seen ++ n ∷ []))
    by true e = inl (among seen n e, refl)
    by false e = inr ((λ there. absent there), refl)
      where
        absent : Contains seen n → ⊥
        absent there =
            let at = at_of seen n there in
            true≢false (sym (list_any_at (λ m. n == m) seen at.0 n (slice_get_within seen at.0 n at.1) ((Decides-eqb n (get_or seen at.0 n)).1 (sym (get_or_from_slice_get seen at.0 n n at.1)))) ∙ e)

-- so a table of numbers puts it
pub number-inserted : (seen new : List ℕ) (n : ℕ) → IsWith seen n new → new ≡ with_number seen n
number-inserted seen new n is = by is (with_number-cases seen n)
  where
    by : IsWith seen n new → (Contains seen n × (with_number seen n ≡ seen)) ⊎ ((Contains seen n → ⊥) × (with_number seen n ≡ seen ++ n ∷ [])) → new ≡ with_number seen n
    by (inl (there, e)) (inl (_, f)) = e ∙ sym f
    by (inl (there, e)) (inr (absent, f)) = absurd (absent there)
    by (inr (absent, e)) (inl (there, f)) = absurd (absent there)
    by (inr (_, e)) (inr (absent, f)) = e ∙ sym f

pub with_number-front : (seen : List ℕ) (n i : ℕ) (m : ℕ) → slice_get seen i ≡ Some m → slice_get (with_number seen n) i ≡ Some m
with_number-front seen n i m at = by (with_number-cases seen n)
  where
    by : (Contains seen n × (with_number seen n ≡ seen)) ⊎ ((Contains seen n → ⊥) × (with_number seen n ≡ seen ++ n ∷ [])) → slice_get (with_number seen n) i ≡ Some m
    by (inl (_, e)) = subst (λ (s : List ℕ). slice_get s i ≡ Some m) (sym e) at
    by (inr (_, e)) = subst (λ (s : List ℕ). slice_get s i ≡ Some m) (sym e) (slice_get-append seen (n ∷ []) i m at)

pub with_number-keeps : (seen : List ℕ) (n m : ℕ) → Contains seen m → Contains (with_number seen n) m
with_number-keeps seen n m there = let at = at_of seen m there in of_at (with_number seen n) at.0 m (with_number-front seen n at.0 m at.1)

-- the last of a list
last : (seen : List ℕ) (n : ℕ) → slice_get (seen ++ n ∷ []) (length seen) ≡ Some n
last [] n = refl
last (m ∷ seen) n = last seen n

pub with_number-has : (seen : List ℕ) (n : ℕ) → Contains (with_number seen n) n
with_number-has seen n = by (with_number-cases seen n)
  where
    by : (Contains seen n × (with_number seen n ≡ seen)) ⊎ ((Contains seen n → ⊥) × (with_number seen n ≡ seen ++ n ∷ [])) → Contains (with_number seen n) n
    by (inl (there, e)) = subst (λ (s : List ℕ). Contains s n) (sym e) there
    by (inr (_, e)) = subst (λ (s : List ℕ). Contains s n) (sym e) (of_at (seen ++ n ∷ []) (length seen) n (last seen n))

pub with_number-length : (seen : List ℕ) (n : ℕ) → length seen ≤ length (with_number seen n)
with_number-length seen n = by (with_number-cases seen n)
  where
    by : (Contains seen n × (with_number seen n ≡ seen)) ⊎ ((Contains seen n → ⊥) × (with_number seen n ≡ seen ++ n ∷ [])) → length seen ≤ length (with_number seen n)
    by (inl (_, e)) = omega (arith, ap length e)
    by (inr (_, e)) = omega (arith, ap length e, length-append seen (n ∷ []))

-- one more node that is reached
pub seen-number : (g : List Node) (roots seen : List ℕ) (n : ℕ) → IsSeen g roots seen → n < length g → IsReached g roots n → IsSeen g roots (with_number seen n)
seen-number g roots seen n sound small reach = by (with_number-cases seen n)
  where
    by : (Contains seen n × (with_number seen n ≡ seen)) ⊎ ((Contains seen n → ⊥) × (with_number seen n ≡ seen ++ n ∷ [])) → IsSeen g roots (with_number seen n)
    by (inl (_, e)) = subst (IsSeen g roots) (sym e) sound
    by (inr (new, e)) = subst (IsSeen g roots) (sym e) (record {
      distinct = λ i j x at other. once i j x (push-cases seen n i x at) (push-cases seen n j x other);
      within = λ i m at. small_at i m (push-cases seen n i m at);
      reached = λ i m at. reach_at i m (push-cases seen n i m at);
    })
      where
        once : (i j x : ℕ) → (slice_get seen i ≡ Some x) ⊎ ((i ≡ length seen) × (x ≡ n)) → (slice_get seen j ≡ Some x) ⊎ ((j ≡ length seen) × (x ≡ n)) → i ≡ j
        once i j x (inl at) (inl other) = sound.distinct i j x at other
        once i j x (inl at) (inr (p, q)) = absurd (new (of_at seen i n (at ∙ ap Some q)))
        once i j x (inr (p, q)) (inl other) = absurd (new (of_at seen j n (other ∙ ap Some q)))
        once i j x (inr (p, _)) (inr (q, _)) = p ∙ sym q

        small_at : (i m : ℕ) → (slice_get seen i ≡ Some m) ⊎ ((i ≡ length seen) × (m ≡ n)) → m < length g
        small_at i m (inl at) = sound.within i m at
        small_at i m (inr (_, q)) = subst (λ (k : ℕ). k < length g) (sym q) small

        reach_at : (i m : ℕ) → (slice_get seen i ≡ Some m) ⊎ ((i ≡ length seen) × (m ≡ n)) → IsReached g roots m
        reach_at i m (inl at) = sound.reached i m at
        reach_at i m (inr (_, q)) = subst (IsReached g roots) (sym q) reach

-- the node at the end of the first ones has its operands among those that were seen now
module _ (g : List Node) (graph : IsGraph g) (roots seen : List ℕ) (at n : ℕ) (node : Node) (walk : IsWalk g roots seen at) (here : slice_get seen at ≡ Some n) (is : slice_get g n ≡ Some node) where
  -- what is seen now has what was seen in front, and what the node reads
  closed_on : (new : List ℕ) → IsSeen g roots new → ((i m : ℕ) → slice_get seen i ≡ Some m → slice_get new i ≡ Some m) → ((x : ℕ) → Reads node x → Contains new (x / 2)) → length seen ≤ length new → IsWalk g roots new (at + 1)
  closed_on new sound front reads more = record {
    sound = sound;
    front = omega (arith, slice_get_within seen at n here);
    rooted = λ x root. keeps (x / 2) (walk.rooted x root);
    closed = λ i m x node' below place other reading. by i m x node' (before i below) place other reading;
  }
    where
      keeps : (m : ℕ) → Contains seen m → Contains new m
      keeps m there = let place = at_of seen m there in of_at new place.0 m (front place.0 m place.1)

      before : (i : ℕ) → i < at + 1 → (i < at) ⊎ (i ≡ at)
      before i below = grind arith

      -- an old place has what it had
      old : (i m : ℕ) → i < length seen → slice_get new i ≡ Some m → slice_get seen i ≡ Some m
      old i m inside place =
          let was = slice_get-get_or seen i m inside in
          was ∙ sym (front i (get_or seen i m) was) ∙ place

      by : (i m x : ℕ) (node' : Node) → (i < at) ⊎ (i ≡ at) → slice_get new i ≡ Some m → slice_get g m ≡ Some node' → Reads node' x → Contains new (x / 2)
      by i m x node' (inl below) place other reading =
          keeps (x / 2) (walk.closed i m x node' below (old i m (omega (arith, slice_get_within seen at n here)) place) other reading)
      by i m x node' (inr e) place other reading =
          let same : n ≡ m = same_Some n m (sym (front at n here) ∙ ap (slice_get new) (sym e) ∙ place) in
          let one : node' ≡ node = same_Some node' node (sym other ∙ ap (slice_get g) (sym same) ∙ is) in
          reads x (subst (λ (k : Node). Reads k x) one reading)

  operand_small : (x l : ℕ) → l < length g → x < 2 * l → x / 2 < length g
  operand_small x l inside below = omega arith

  walk-with : (node' : Node) (new : List ℕ) → node ≡ node' → HasOperands seen node' new → IsWalk g roots new (at + 1)
  walk-with Constant new e h =
      subst (λ (s : List ℕ). IsWalk g roots s (at + 1)) (sym h) (closed_on seen walk.sound (λ i m place. place) (λ x reading. absurd (subst (λ (k : Node). Reads k x) e reading)) (omega arith))
  walk-with (Input v) new e h =
      subst (λ (s : List ℕ). IsWalk g roots s (at + 1)) (sym h) (closed_on seen walk.sound (λ i m place. place) (λ x reading. absurd (subst (λ (k : Node). Reads k x) e reading)) (omega arith))
  walk-with (And l r) new e h =
      let reach : IsReached g roots n = walk.sound.reached at n here in
      let inside : n < length g = walk.sound.within at n here in
      let above : (l.0 < r.0) × (r.0 < 2 * n) = graph.ordered n (And l r) (is ∙ ap Some e) in
      let one = with_number seen (l.0 / 2) in
      let both = with_number one (r.0 / 2) in
      let first : IsSeen g roots one =
      seen-number g roots seen (l.0 / 2) walk.sound (operand_small l.0 n inside (omega arith)) (IsReached.operand n l.0 (And l r) reach (is ∙ ap Some e) (inl refl)) in
      let second : IsSeen g roots both =
      seen-number g roots one (r.0 / 2) first (operand_small r.0 n inside above.1) (IsReached.operand n r.0 (And l r) reach (is ∙ ap Some e) (inr refl)) in
      subst (λ (s : List ℕ). IsWalk g roots s (at + 1)) (sym h)
      (closed_on both second (λ i m place. with_number-front one (r.0 / 2) i m (with_number-front seen (l.0 / 2) i m place)) (λ x reading. read_of l r x (subst (λ (k : Node). Reads k x) e reading))
      (omega (arith, with_number-length seen (l.0 / 2), with_number-length one (r.0 / 2))))
    where
      read_of : (l r : Lit) (x : ℕ) → Reads (And l r) x → Contains (with_number (with_number seen (l.0 / 2)) (r.0 / 2)) (x / 2)
      read_of l r x (inl f) =
          subst (λ (k : ℕ). Contains (with_number (with_number seen (l.0 / 2)) (r.0 / 2)) (k / 2)) (sym f) (with_number-keeps (with_number seen (l.0 / 2)) (r.0 / 2) (l.0 / 2) (with_number-has seen (l.0 / 2)))
      read_of l r x (inr f) = subst (λ (k : ℕ). Contains (with_number (with_number seen (l.0 / 2)) (r.0 / 2)) (k / 2)) (sym f) (with_number-has (with_number seen (l.0 / 2)) (r.0 / 2))

  pub walk-step : (new : List ℕ) → HasOperands seen node new → IsWalk g roots new (at + 1)
  walk-step new h = walk-with node new refl h

-- numbers below n, each once, are at most n
abbrev upto : ℕ → List ℕ
upto zero = []
upto (suc n) = n ∷ upto n

upto-has : (n m : ℕ) → m < n → Contains (upto n) m
upto-has zero m h = absurd (omega arith)
upto-has (suc n) m h = by (grind arith) (λ l. upto-has n m l)
  where
    by : (m ≡ n) ⊎ (m < n) → (m < n → Contains (upto n) m) → Contains (n ∷ upto n) m
    by (inl e) later = subst (Contains (n ∷ upto n)) (sym e) (Contains-head n (upto n))
    by (inr l) later = Contains-tail n m (upto n) (later l)

ones-length : (xs : List ℕ) → sum_by (λ (x : ℕ). 1) xs ≡ length xs
ones-length [] = refl
ones-length (x ∷ xs) = omega (arith, sum_by-cons (λ (y : ℕ). 1) x xs, ones-length xs)

upto-length : (n : ℕ) → length (upto n) ≡ n
upto-length zero = refl
upto-length (suc n) = ap suc (upto-length n)

pub few-below : (xs : List ℕ) (n : ℕ) → AreDistinct xs → ((i x : ℕ) → slice_get xs i ≡ Some x → x < n) → length xs ≤ n
few-below xs n distinct small =
    let sums : sum_by (λ (x : ℕ). 1) xs ≤ sum_by (λ (x : ℕ). 1) (upto n) =
    sum_within (λ (x : ℕ). 1) (λ (x y : ℕ). x ≡ y) (λ x y z p q. p ∙ sym q) xs (upto n) apart (λ x there. (x, upto-has n x (small_of x there), refl, refl)) in
    omega (arith, ones-length xs, ones-length (upto n), upto-length n)
  where
    small_of : (x : ℕ) → Contains xs x → x < n
    small_of x there = let at = at_of xs x there in small at.0 x at.1

    apart : (i j d : ℕ) → i < j → j < length xs → get_or xs i d ≡ get_or xs j d → ⊥
    apart i j d below inside e =
        let same : i ≡ j = distinct i j (get_or xs j d) (slice_get-get_or xs i d (omega arith) ∙ ap Some e) (slice_get-get_or xs j d inside) in
        omega arith

-- a walk that is done has all that is reached
pub walk-all : (g : List Node) (roots seen : List ℕ) → IsWalk g roots seen (length seen) → {n : ℕ} → IsReached g roots n → Contains seen n
walk-all g roots seen walk (IsReached.root x root) = walk.rooted x root
walk-all g roots seen walk (IsReached.operand n x node reach is reading) =
    let at = at_of seen n (walk-all g roots seen walk reach) in
    walk.closed at.0 n x node (slice_get_within seen at.0 n at.1) at.1 is reading

-- the numbers of a walk that is done, in their order
module _ (g : List Node) (roots seen nodes : List ℕ) (walk : IsWalk g roots seen (length seen)) (same : IsPermutation seen nodes) (increasing : IsStrictlyIncreasing nodes) where
  was : (n : ℕ) → Contains nodes n → (i : ℕ) × (slice_get seen i ≡ Some n)
  was n there = at_of seen n (Contains-permutation nodes seen n (IsPermutation-sym seen nodes same) there)

  pub walk-cone : IsConeOf g roots nodes
  walk-cone = record {
    increasing = increasing;
    reached = λ n there. let at = was n there in walk.sound.reached at.0 n at.1;
    all = λ n reach. Contains-permutation seen nodes n same (walk-all g roots seen walk reach);
  }

  pub walk-closed : IsClosed g nodes
  walk-closed = record {
    increasing = increasing;
    within = λ n there. let at = was n there in walk.sound.within at.0 n at.1;
    operands = λ n x node there is reading. let at = was n there in Contains-permutation seen nodes (x / 2) same (walk.closed at.0 n x node (slice_get_within seen at.0 n at.1) at.1 is reading);
  }

-- before the first step
pub walk-begun : (g : List Node) (roots : List Lit) (seen : List ℕ) → IsSeen g (map (λ l. l.0) roots) seen → ((j : ℕ) (l : Lit) → slice_get roots j ≡ Some l → Contains seen (l.0 / 2)) → IsWalk g (map (λ l. l.0) roots) seen 0
walk-begun g roots seen sound rooted = record {
  sound = sound;
  front = omega arith;
  rooted = λ x there. root_of x (Contains-map_from (λ l. l.0) roots x there);
  closed = λ i n x node below. absurd (omega arith);
}
  where
    root_of : (x : ℕ) → ((l : Lit) × Contains roots l × (l.0 ≡ x)) → Contains seen (x / 2)
    root_of x (l, there, e) = let at = at_of roots l there in subst (λ (k : ℕ). Contains seen (k / 2)) e (rooted at.0 l at.1)

-- equality of numbers is one both ways
eqb-swap : (x y : ℕ) → (x == y) ≡ (y == x)
eqb-swap x y = by (x == y) (y == x) refl refl
  where
    by : (b c : Bool) → (x == y) ≡ b → (y == x) ≡ c → b ≡ c
    by true true p q = refl
    by false false p q = refl
    by true false p q = absurd (true≢false (sym ((Decides-eqb y x).1 (sym ((Decides-eqb x y).0 p))) ∙ q))
    by false true p q = absurd (true≢false (sym ((Decides-eqb x y).1 (sym ((Decides-eqb y x).0 q))) ∙ p))

-- nothing was seen yet
pub seen-none : (g : List Node) (roots : List ℕ) → IsSeen g roots []
seen-none g roots = record {
  distinct = λ i j x at. absurd (none-some x at);
  within = λ i n at. absurd (none-some n at);
  reached = λ i n at. absurd (none-some n at);
}

-- the numbers of a walk that is done, sorted
pub cone-made : (g : List Node) (roots seen items sorted made : List ℕ) → IsWalk g roots seen (length seen) → items ≡ seen → IsPermutation items sorted → IsSorted nat_cmp sorted → made ≡ sorted → IsConeOf g roots made × IsClosed g made
cone-made g roots seen items sorted made walk is same order e =
    let distinct : IsDistinct (λ x y. x == y) seen = IsDistinct-from_AllPairs Decides-eqb seen (all-differ seen walk.sound.distinct) in
    let moved : IsPermutation seen sorted = subst (λ (xs : List ℕ). IsPermutation xs sorted) is same in
    let apart : IsDistinct (λ x y. x == y) sorted = IsDistinct-IsPermutation (λ x y. x == y) eqb-swap seen sorted moved distinct in
    let increasing : IsStrictlyIncreasing sorted = IsStrictlyIncreasing-from_distinct sorted (IsNonDecreasingBy-from_sort (λ x. x) sorted order) apart in
    (subst (IsConeOf g roots) (sym e) (walk-cone g roots seen sorted walk moved increasing), subst (IsClosed g) (sym e) (walk-closed g roots seen sorted walk moved increasing))
