-- One graph while its latches are tried in turn.
use Rattle.std.proofs.Common.{◌≡◌, ◌≢◌, ℕ, ◌+◌, ◌<◌, ◌≤◌, Bool, true, false, List, [], ◌∷◌, ◌++◌, length, get_or, Option, Some, refl, sym, ◌∙◌, ap, subst, arith, inl, inr}
use Rattle.std.specs.Prelude.{◌⊎◌, slice_get}
use Rattle.std.specs.List.{All, Contains}
use Rattle.std.proofs.lemmas.Option.{slice_get_within, slice_get-get_or, get_or_from_slice_get}
use Rattle.std.proofs.lemmas.List.Elements.{All-contains, Contains-append_left, Contains-append_right}
use Rattle.circuit_theory.proofs.Lists.{Contains-head, Contains-map_from, at_of}
use Rattle.circuit_theory.proofs.Sums.{same_or_not}
use Rattle.base_tables.specs.Table.{AreDistinct}
use Rattle.latch_graph.specs.minimal_cut.graph_components.flat_net.LatchAt.{LatchAt}
use Rattle.latch_graph.specs.minimal_cut.graph_components.flat_net.Driver.TheVariants as driver
use Rattle.latch_graph.specs.minimal_cut.graph_components.flat_net.View.{NetView}
use Rattle.latch_graph.specs.minimal_cut.graph_components.flat_net.Cut.{no_latch}
use Rattle.latch_graph.proofs.minimal_cut.graph_components.flat_net.Places.{one_at, All-at}
use Rattle.latch_graph.proofs.minimal_cut.graph_components.flat_net.Growth.{slice_get-push_cases}
use Rattle.latch_graph.specs.minimal_cut.graph_components.Node.{Node}
use Rattle.latch_graph.specs.minimal_cut.graph_components.Graph.{GraphView, IsGraphOf, AreNodes}
use Rattle.latch_graph.specs.declared.minimal_cut.marks.Direction.{Direction}
use Rattle.latch_graph.specs.declared.minimal_cut.marks.Direction.TheVariants.{Back}
use Rattle.latch_graph.specs.declared.minimal_cut.marks.Mark.{Mark}
use Rattle.latch_graph.specs.declared.minimal_cut.marks.Mark.TheVariants.{Out, Met}
use Rattle.latch_graph.specs.minimal_cut.Chosen.{IsFree, names_at}
use Rattle.latch_graph.specs.minimal_cut.Readers.{WayBack}
use Rattle.latch_graph.specs.minimal_cut.Marks.{IsBlocked, AreMarks, AreFirst, IsTried, signal_of}
use Rattle.latch_graph.specs.minimal_cut.Trying.{IsSide}
use Rattle.latch_graph.proofs.minimal_cut.WayLemmas.{way_map, still_free}
use Rattle.latch_graph.proofs.minimal_cut.Marking.{out_met, met_same}
use Rattle.latch_graph.proofs.minimal_cut.Edges.{ring_cycle}

-- the latch at a position
pub latch_of : (latches : List LatchAt) (j : ℕ) → j < length latches → slice_get latches j ≡ Some (get_or latches j no_latch)
latch_of latches j l = slice_get-get_or latches j no_latch l

pub signal_is : (latches : List LatchAt) (j : ℕ) (l : LatchAt) → slice_get latches j ≡ Some l → signal_of latches j ≡ l.out.0
signal_is latches j l h = ap (λ (z : LatchAt). z.out.0) (get_or_from_slice_get latches j l no_latch h)

module _ (g : GraphView) (are : AreNodes g.nodes g.latches) where
  -- two latches of one signal are one
  pub one_signal : (i j : ℕ) → i < length g.latches → j < length g.latches → signal_of g.latches i ≡ signal_of g.latches j → i ≡ j
  one_signal i j l m e =
      let a = are.out i (get_or g.latches i no_latch) (latch_of g.latches i l) in
      let b = are.out j (get_or g.latches j no_latch) (latch_of g.latches j m) in
      let same : a.0 ≡ b.0 = one_at g.nodes (signal_of g.latches j) a.0 b.0 (subst (λ z. slice_get g.nodes z ≡ Some a.0) e a.1) b.1 in
      some_one (sym a.2 ∙ ap (λ (z : Node). z.latch) same ∙ b.2)
    where
      some_one : ◌≡◌ {A = Option ℕ} (Some i) (Some j) → i ≡ j
      some_one h = cc

  -- a latch's signal is one of the graph
  pub signal_within : (j : ℕ) → j < length g.latches → signal_of g.latches j < length g.nodes
  signal_within j l = let a = are.out j (get_or g.latches j no_latch) (latch_of g.latches j l) in slice_get_within g.nodes (signal_of g.latches j) a.0 a.1

-- two latches of one name are one
pub one_name : (n : NetView) (g : GraphView) → IsGraphOf n g → (i j : ℕ) (k l : LatchAt) → slice_get g.latches i ≡ Some k → slice_get g.latches j ≡ Some l → k.name ≡ l.name → i ≡ j
one_name n g of i j k l h m e =
    let a = of.sound.latches i k (subst (λ (z : List LatchAt). slice_get z i ≡ Some k) of.latches h) in
    let b = of.sound.latches j l (subst (λ (z : List LatchAt). slice_get z j ≡ Some l) of.latches m) in
    let out : k.out.0 ≡ l.out.0 = of.sound.distinct k.out.0 l.out.0 l.name (subst (λ z. slice_get n.names k.out.0 ≡ Some z) e a.named) b.named in
    same_latch (one_at n.drivers l.out.0 (driver.Latch i) (driver.Latch j) (subst (λ z. slice_get n.drivers z ≡ Some (driver.Latch i)) out a.owner) b.owner)
  where
    same_latch : driver.Latch i ≡ driver.Latch j → i ≡ j
    same_latch e = cc

-- before the first turn
pub side_first : (g : GraphView) (positions : List ℕ) (marks : List Mark) → All (λ j. j < length g.latches) positions → length marks ≡ length g.nodes → AreFirst g.latches positions (length positions) marks →
    IsFree g positions → IsSide g positions 0 [] marks
side_first g positions marks within size first none = record {
  table = record { size = size; early = λ s t way h. early t way (first.from s (Met way t) h) };
  waiting = λ i j l h. first.out i j (slice_get_within positions i j h) h;
  exposed = λ i p j h. absurd (let l = slice_get_within [] i p h in omega (arith, l));
  blocked = λ s b. blocked s (first.from s Out b);
  free = free;
}
  where
    early : {s : ℕ} (t : ℕ) (way : Direction) → (Met way t ≡ Met Back 0) ⊎ ((Met way t ≡ Out) × (i : ℕ) × (j : ℕ) × (slice_get positions i ≡ Some j) × (signal_of g.latches j ≡ s)) → t < 0 + 1
    early t way (inl e) = let same = (met_same e).1 in omega (arith, same)
    early t way (inr x) = absurd (out_met (sym x.0))

    blocked : (s : ℕ) → (Out ≡ Met Back 0) ⊎ ((Out ≡ Out) × (i : ℕ) × (j : ℕ) × (slice_get positions i ≡ Some j) × (signal_of g.latches j ≡ s)) →
        (i : ℕ) × (j : ℕ) × (slice_get positions i ≡ Some j) × (signal_of g.latches j ≡ s) × ((0 ≤ i) ⊎ Contains [] i)
    blocked s (inl e) = absurd (out_met e)
    blocked s (inr x) = (x.1, x.2, x.3, x.4, inl (omega arith))

    free : (n : NetView) → IsGraphOf n g → (j : ℕ) → j < length g.latches → (IsBlocked marks (signal_of g.latches j) → ⊥) → WayBack g.nodes (IsBlocked marks) (signal_of g.latches j) (signal_of g.latches j) → ⊥
    free n of j l away way =
        none n of (ring_cycle n g of (IsBlocked marks) (names_at g.latches positions) own j (get_or g.latches j no_latch) (latch_of g.latches j l) away way)
      where
        own : (i : ℕ) (k : LatchAt) → slice_get g.latches i ≡ Some k → Contains (names_at g.latches positions) k.name → IsBlocked marks k.out.0
        own i k h name =
            let x = Contains-map_from (λ (z : ℕ). (get_or g.latches z no_latch).name) positions k.name name in
            let place = at_of positions x.0 x.1 in
            let inside = All-contains (λ z. z < length g.latches) positions x.0 within x.1 in
            let same : x.0 ≡ i = one_name n g of x.0 i (get_or g.latches x.0 no_latch) k (latch_of g.latches x.0 inside) h x.2 in
            let out = first.out place.0 x.0 (slice_get_within positions place.0 x.0 place.1) place.1 in
            subst (λ z. IsBlocked marks z) (ap (λ z. signal_of g.latches z) same ∙ signal_is g.latches i k h) out

-- one turn
module _ (g : GraphView) (are : AreNodes g.nodes g.latches) (positions : List ℕ) (within : All (λ j. j < length g.latches) positions) (distinct : AreDistinct positions) (k j : ℕ) (at : slice_get positions k ≡ Some j)
    (places : List ℕ) (marks new : List Mark) (below : (i p : ℕ) → slice_get places i ≡ Some p → p < k) (side : IsSide g positions k places marks) (table : AreMarks g.nodes new (k + 1 + 1)) where
  abbrev root : ℕ
  root = signal_of g.latches j

  in_graph : (i m : ℕ) → slice_get positions i ≡ Some m → m < length g.latches
  in_graph i m h = All-at (λ z. z < length g.latches) positions i m h within

  apart : (i m : ℕ) → slice_get positions i ≡ Some m → i ≢ k → signal_of g.latches m ≢ root
  apart i m h n e =
      let same : m ≡ j = one_signal g are m j (in_graph i m h) (in_graph k j at) e in
      n (distinct i k j (subst (λ z. slice_get positions i ≡ Some z) same h) at)

  -- the latch was taken out before
  pub waited : IsBlocked marks root
  waited = side.waiting k j (omega arith) at

  pub blocked_before : (needed : Bool) → IsTried marks new root needed → (s : ℕ) → IsBlocked new s → IsBlocked marks s
  blocked_before needed tried s b = go (same_or_not s root)
    where
      go : (s ≡ root) ⊎ (s ≢ root) → IsBlocked marks s
      go (inl e) = subst (λ z. IsBlocked marks z) (sym e) waited
      go (inr n) = tried.were s n b

  blocked_after : (needed : Bool) → IsTried marks new root needed → (s : ℕ) → IsBlocked marks s → s ≢ root → IsBlocked new s
  blocked_after needed tried s b n = tried.stay s n b

  waiting : (needed : Bool) → IsTried marks new root needed → (i m : ℕ) → k + 1 ≤ i → slice_get positions i ≡ Some m → IsBlocked new (signal_of g.latches m)
  waiting needed tried i m l h = tried.stay (signal_of g.latches m) (apart i m h (λ e. omega (arith, l, e))) (side.waiting i m (omega (arith, l)) h)

  exposed : (needed : Bool) → IsTried marks new root needed → (i p m : ℕ) → slice_get places i ≡ Some p → slice_get positions p ≡ Some m → IsBlocked new (signal_of g.latches m)
  exposed needed tried i p m h o = tried.stay (signal_of g.latches m) (apart p m o (λ e. let l = below i p h in omega (arith, l, e))) (side.exposed i p m h o)

  -- what is still taken out
  still : (needed : Bool) → IsTried marks new root needed → (s : ℕ) → IsBlocked new s → s ≢ root → (i : ℕ) × (m : ℕ) × (slice_get positions i ≡ Some m) × (signal_of g.latches m ≡ s) × ((k + 1 ≤ i) ⊎ Contains places i)
  still needed tried s b n =
      let x = side.blocked s (blocked_before needed tried s b) in
      (x.0, x.1, x.2, x.3, later x.0 x.1 x.2 x.3 x.4)
    where
      later : (i m : ℕ) → slice_get positions i ≡ Some m → signal_of g.latches m ≡ s → (k ≤ i) ⊎ Contains places i → (k + 1 ≤ i) ⊎ Contains places i
      later i m h e (inr c) = inr c
      later i m h e (inl l) = go (same_or_not i k)
        where
          go : (i ≡ k) ⊎ (i ≢ k) → (k + 1 ≤ i) ⊎ Contains places i
          go (inl same) = absurd (n (sym e ∙ ap (λ z. signal_of g.latches z) (one_at positions k m j (subst (λ z. slice_get positions z ≡ Some m) same h) at)))
          go (inr other) = inl (omega (arith, l, other))

  -- it stays taken out
  pub side_exposed : IsTried marks new root true → IsSide g positions (k + 1) (places ++ k ∷ []) new
  side_exposed tried = record {
    table = table;
    waiting = waiting true tried;
    exposed = λ i p m h o. shown i p m o (slice_get-push_cases places k i p h);
    blocked = λ s b. blocked s b (same_or_not s root);
    free = λ n of m l away way. side.free n of m l (λ b. away (kept (signal_of g.latches m) b)) (way_map g.nodes (IsBlocked new) (IsBlocked marks) kept way);
  }
    where
      kept : (s : ℕ) → IsBlocked marks s → IsBlocked new s
      kept s b = go (same_or_not s root)
        where
          go : (s ≡ root) ⊎ (s ≢ root) → IsBlocked new s
          go (inl e) = subst (λ z. IsBlocked new z) (sym e) (tried.out refl)
          go (inr n) = blocked_after true tried s b n

      shown : (i p m : ℕ) → slice_get positions p ≡ Some m → (slice_get places i ≡ Some p) ⊎ ((i ≡ length places) × (k ≡ p)) → IsBlocked new (signal_of g.latches m)
      shown i p m o (inl h) = exposed true tried i p m h o
      shown i p m o (inr h) =
          let same : j ≡ m = one_at positions k j m at (subst (λ z. slice_get positions z ≡ Some m) (sym h.1) o) in
          subst (λ z. IsBlocked new (signal_of g.latches z)) same (tried.out refl)

      blocked : (s : ℕ) → IsBlocked new s → (s ≡ root) ⊎ (s ≢ root) → (i : ℕ) × (m : ℕ) × (slice_get positions i ≡ Some m) × (signal_of g.latches m ≡ s) × ((k + 1 ≤ i) ⊎ Contains (places ++ k ∷ []) i)
      blocked s b (inl e) = (k, j, at, sym e, inr (Contains-append_right places (k ∷ []) k (Contains-head k [])))
      blocked s b (inr n) = let x = still true tried s b n in (x.0, x.1, x.2, x.3, more x.0 x.4)
        where
          more : (i : ℕ) → (k + 1 ≤ i) ⊎ Contains places i → (k + 1 ≤ i) ⊎ Contains (places ++ k ∷ []) i
          more i (inl l) = inl l
          more i (inr c) = inr (Contains-append_left places (k ∷ []) i c)

  -- it is put back
  pub side_back : IsTried marks new root false → (WayBack g.nodes (IsBlocked new) root root → ⊥) → IsSide g positions (k + 1) places new
  side_back tried none = record {
    table = table;
    waiting = waiting false tried;
    exposed = exposed false tried;
    blocked = λ s b. still false tried s b (λ e. tried.back refl (subst (λ z. IsBlocked new z) e b));
    free = λ n of m l away way. still_free g.nodes (IsBlocked marks) (IsBlocked new) root (blocked_after false tried) (IsLatchSignal) (λ s asked free way. before n of s asked free way) none (signal_of g.latches m) (m, l, refl) away way;
  }
    where
      IsLatchSignal : ℕ → Type 0
      IsLatchSignal s = (m : ℕ) × (m < length g.latches) × (signal_of g.latches m ≡ s)

      before : (n : NetView) → IsGraphOf n g → (s : ℕ) → IsLatchSignal s → (IsBlocked marks s → ⊥) → WayBack g.nodes (IsBlocked marks) s s → ⊥
      before n of s asked free way =
          side.free n of asked.0 asked.1 (subst (λ z. IsBlocked marks z → ⊥) (sym asked.2) free) (subst (λ z. WayBack g.nodes (IsBlocked marks) z z) (sym asked.2) way)
