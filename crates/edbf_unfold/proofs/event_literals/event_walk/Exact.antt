-- The count of a walk: what it visits, counts and makes is what its start visits and reaches.
use Rattle.std.proofs.Common.{◌≡◌, ◌∙◌, ◌+◌, ◌<◌, ◌≤◌, ℕ, List, [], ◌∷◌, length, slice_get, Some, refl, sym, ap, subst, arith, inl, inr}
use Rattle.std.specs.Prelude.{◌⊎◌}
use Rattle.std.specs.List.{All, Contains}
use Rattle.std.proofs.lemmas.Bool.{cases_lt}
use Rattle.std.proofs.lemmas.List.Elements.{All-append, All-weaker}
use Rattle.std.proofs.lemmas.Option.{slice_get_within}
use Rattle.circuit_theory.specs.EventSizes.{Start, EventVisits}
use Rattle.circuit_theory.specs.EventTotals.{StartLatches}
use Rattle.circuit_theory.specs.Frame.{IsNode}
use Rattle.circuit_theory.proofs.Lists.{Contains-cases}
use Rattle.event_nodes.proofs.flat_net.Nets.{some_at}
use Rattle.event_nodes.proofs.flat_net.Places.{one_at, All-at}
use Rattle.event_nodes.specs.Adds.{Adds}
use Rattle.event_nodes.specs.Nodes.{EventGraphView, IsTree, GrowsEvents, path_of}
use Rattle.event_nodes.specs.View.{EventCircuitView, side_of, Enabled}
use Rattle.event_nodes.specs.Visited.{CounterView, IsWeighed, IsVisitedPair, AreNodesFrom}
use Rattle.event_nodes.proofs.Growing.{children_more}
use Rattle.event_nodes.proofs.Lists.{adds_none, adds_trans, adds_weaker, adds_contains, adds_at}
use Rattle.event_nodes.proofs.Paths.{path_grows}
use Rattle.event_nodes.proofs.Visits.{visits_more}
use Rattle.edbf_unfold.specs.declared.event_literals.event_walk.frames.Frame.{Frame}
use Rattle.edbf_unfold.specs.event_literals.event_walk.Ready.{EventWalkerView}
use Rattle.edbf_unfold.specs.event_literals.event_walk.Walk.{IsOpened, IsVisitedPlace, AreVisitedPlaces, IsCounted, IsCounting, IsExact}

-- a node keeps its path
path_later : (w x : EventGraphView) → GrowsEvents w x → (n : ℕ) → n ≤ length w.children → path_of x.children n ≡ path_of w.children n
path_later w x grows n inside = ap (λ (es : List (ℕ × ℕ)). path_of es n) grows.children.1 ∙ path_grows w.children grows.children.0 n inside

module _ (w x : EventGraphView) (grows : GrowsEvents w x) where
  -- what was visited goes on to be
  pub visited_later : (u v : EventWalkerView) → v.circuit ≡ u.circuit → Adds (λ f. Unit {0}) u.frames v.frames → (s : Start ℕ) (p : ℕ × ℕ) → IsVisitedPlace u.circuit u.frames w.children s p → IsVisitedPlace v.circuit v.frames x.children s p
  visited_later u v same adds s p k =
      subst (λ (e : EventCircuitView). IsVisitedPlace e v.frames x.children s p) (sym same)
      (record {
        frame = k.frame;
        at = adds_at (λ (f : Frame). Unit {0}) u.frames v.frames p.0 k.frame adds k.at;
        node = let more = children_more w x grows in omega (arith, k.node, more);
        out = k.out;
        fits = k.fits;
        visit = subst (λ (n : List ℕ). EventVisits (side_of u.circuit) (Enabled u.circuit) (s ∷ []) k.out p.1 n) (sym (path_later w x grows k.frame.node k.node)) k.visit;
      })

  pair_later : (e : EventCircuitView) (starts : List (Start ℕ)) (p : ℕ × ℕ) → IsVisitedPair e w.children starts p → IsVisitedPair e x.children starts p
  pair_later e starts p k = record {
    node = let more = children_more w x grows in omega (arith, k.node, more);
    within = k.within;
    out = k.out;
    visit = subst (λ (n : List ℕ). EventVisits (side_of e) (Enabled e) starts k.out p.1 n) (sym (path_later w x grows p.0 k.node)) k.visit;
  }

  -- the nodes so far and those that were made since
  nodes_on : (e : EventCircuitView) (s : Start ℕ) (first : ℕ) → IsTree w.children → AreNodesFrom e w.children s first → AreNodesFrom e x.children s (length w.children) → AreNodesFrom e x.children s first
  nodes_on e s first tree before after k n class from at = go (cases_lt k (length w.children))
    where
      go : (k < length w.children) ⊎ (length w.children ≤ k) → IsNode (side_of e) (Enabled e) (StartLatches (side_of e) (s ∷ [])) (class ∷ path_of x.children n)
      go (inl l) =
          let was = some_at w.children k l in
          let there : slice_get x.children k ≡ Some was.0 = adds_at (λ (q : ℕ × ℕ). Unit {0}) w.children x.children k was.0 (record { more = grows.children.0; is = grows.children.1; each = λ i d h. tt }) was.1 in
          let same : was.0 ≡ (n, class) = one_at x.children k was.0 (n, class) there at in
          let own : slice_get w.children k ≡ Some (n, class) = was.1 ∙ ap Some same in
          let below = tree k n class own in
          subst (λ (m : List ℕ). IsNode (side_of e) (Enabled e) (StartLatches (side_of e) (s ∷ [])) (class ∷ m)) (sym (path_later w x grows n (omega (arith, below, l)))) (before k n class from own)
      go (inr l) = after k n class l at

  -- the count goes on while event nodes are made that the start reaches
  pub counting_on : (e : EventCircuitView) (s : Start ℕ) (old : List (ℕ × ℕ)) (c d : CounterView) → IsTree w.children → IsCounting e s old w.children c d → AreNodesFrom e x.children s (length w.children) → IsCounting e s old x.children c d
  counting_on e s old c d tree k nodes = record {
    more = adds_trans (λ (q : ℕ × ℕ). Unit {0}) old w.children x.children k.more (record { more = grows.children.0; is = grows.children.1; each = λ i q h. tt });
    nodes = nodes_on e s (length old) tree k.nodes nodes;
    counted = λ starts there all. All-weaker (IsVisitedPair e w.children starts) (IsVisitedPair e x.children starts) (pair_later e starts) d.places (k.counted starts there all);
  }

-- one place more is counted
pub counting_more : (e : EventCircuitView) (frames : List Frame) (s : Start ℕ) (old children : List (ℕ × ℕ)) (c d b : CounterView) (p : ℕ × ℕ) (f : Frame) → IsCounting e s old children c d → IsVisitedPlace e frames children s p → p.1 < length e.net.drivers →
    slice_get frames p.0 ≡ Some f → Adds (λ q. q ≡ (f.node, p.1)) d.places b.places → IsCounting e s old children c b
counting_more e frames s old children c d b p f k visited inside at adds = record {
  more = k.more;
  nodes = k.nodes;
  counted = λ starts there all.
      let more = adds_weaker (λ (q : ℕ × ℕ). q ≡ (f.node, p.1)) (IsVisitedPair e children starts) d.places b.places (λ q same. subst (IsVisitedPair e children starts) (sym same) (own starts there)) adds in
      subst (All (IsVisitedPair e children starts)) (sym more.is) (All-append (IsVisitedPair e children starts) d.places more.more (k.counted starts there all) more.each);
}
  where
    frame_is : visited.frame ≡ f
    frame_is = one_at frames p.0 visited.frame f visited.at at

    among : (starts : List (Start ℕ)) → Contains starts s → (y : Start ℕ) → Contains (s ∷ []) y → Contains starts y
    among starts there y h = elim (Contains-cases s y [] h) [ inl same ↦ subst (Contains starts) same there | inr none ↦ absurd (omega (arith, none.1)) ]

    own : (starts : List (Start ℕ)) → Contains starts s → IsVisitedPair e children starts (f.node, p.1)
    own starts there = record {
      node = subst (λ (g : Frame). g.node ≤ length children) frame_is visited.node;
      within = inside;
      out = visited.out;
      visit = visits_more (side_of e) (Enabled e) (s ∷ []) starts (among starts there) (subst (λ (g : Frame). EventVisits (side_of e) (Enabled e) (s ∷ []) visited.out p.1 (path_of children g.node)) frame_is visited.visit);
    }

pub exact_first : (u : EventWalkerView) (w : EventGraphView) (c : CounterView) (root beside : ℕ × ℕ) (table : List (ℕ × ℕ)) → ((s : Start ℕ) → AreVisitedPlaces u.circuit u.frames w.children s root beside → All (IsVisitedPlace u.circuit u.frames w.children s) table) →
    IsWeighed u.circuit.net c → length w.children < 10000 → IsExact u u w w c c root beside table 0
exact_first u w c root beside table visits weighed few = record {
  visits = visits;
  counting = λ s visited. record { more = adds_none (λ (q : ℕ × ℕ). Unit {0}) w.children w.children refl; nodes = λ k n class from at. absurd (let inside = slice_get_within w.children k (n, class) at in omega (arith, inside, from)); counted = λ starts there all. all };
  done = λ i p below at. absurd (omega (arith, below));
  weighed = weighed;
  few = few;
  more = adds_none (λ (q : ℕ × ℕ). Unit {0}) c.places c.places refl;
}

-- one place more is counted and expanded
pub exact_more : (u v t : EventWalkerView) (w x y : EventGraphView) (c d b : CounterView) (root beside : ℕ × ℕ) (table new : List (ℕ × ℕ)) (at : ℕ) (p : ℕ × ℕ) (f : Frame) → IsTree x.children → IsExact u v w x c d root beside table at → v.circuit ≡ u.circuit →
    slice_get table at ≡ Some p → p.1 < length v.circuit.net.drivers → slice_get v.frames p.0 ≡ Some f → IsOpened v t x y 1 → Adds (λ q. Unit {0}) table new → Adds (λ q. q ≡ (f.node, p.1)) d.places b.places → Contains b.places (f.node, p.1) → IsWeighed u.circuit.net b →
    length y.children < 10000 → ((s : Start ℕ) → IsVisitedPlace v.circuit v.frames x.children s p → Adds (IsVisitedPlace t.circuit t.frames y.children s) table new × AreNodesFrom v.circuit y.children s (length x.children)) → IsExact u t w y c b root beside new (at + 1)
exact_more u v t w x y c d b root beside table new at p f tree exact circuit here inside framed opened adds counted there weighed few going = record {
  visits = λ s root_visited.
      let all = exact.visits s root_visited in
      let more = (going s (All-at (IsVisitedPlace v.circuit v.frames x.children s) table at p here all)).0 in
      subst (All (IsVisitedPlace t.circuit t.frames y.children s)) (sym more.is)
      (All-append (IsVisitedPlace t.circuit t.frames y.children s) table more.more
      (All-weaker (IsVisitedPlace v.circuit v.frames x.children s) (IsVisitedPlace t.circuit t.frames y.children s) (visited_later x y opened.grows v t opened.circuit opened.frames s) table all) more.each);
  counting = λ s root_visited.
      let visited = All-at (IsVisitedPlace v.circuit v.frames x.children s) table at p here (exact.visits s root_visited) in
      let k = counting_more u.circuit v.frames s w.children x.children c d b p f (exact.counting s root_visited) (subst (λ (e : EventCircuitView). IsVisitedPlace e v.frames x.children s p) circuit visited) (subst (λ (e : EventCircuitView). p.1 < length e.net.drivers) circuit inside) framed counted in
      counting_on x y opened.grows u.circuit s w.children c b tree k (subst (λ (e : EventCircuitView). AreNodesFrom e y.children s (length x.children)) circuit (going s visited).1);
  done = λ i q below place. go i q place (cases_lt i at) below;
  weighed = weighed;
  few = few;
  more = adds_trans (λ (q : ℕ × ℕ). Unit {0}) c.places d.places b.places exact.more (adds_weaker (λ (q : ℕ × ℕ). q ≡ (f.node, p.1)) (λ (q : ℕ × ℕ). Unit {0}) d.places b.places (λ q e. tt) counted);
}
  where
    kept : (q : ℕ × ℕ) → IsCounted v.frames d.places q → IsCounted t.frames b.places q
    kept q k = (k.0, adds_at (λ (g : Frame). Unit {0}) v.frames t.frames q.0 k.0 opened.frames k.1, adds_contains (λ (r : ℕ × ℕ). r ≡ (f.node, p.1)) d.places b.places (k.0.node, q.1) counted k.2)

    go : (i : ℕ) (q : ℕ × ℕ) → slice_get new i ≡ Some q → (i < at) ⊎ (at ≤ i) → i < at + 1 → IsCounted t.frames b.places q
    go i q place (inl l) below =
        let early = slice_get_within table at p here in
        let was = some_at table i (omega (arith, l, early)) in
        let same : was.0 ≡ q = one_at new i was.0 q (adds_at (λ (r : ℕ × ℕ). Unit {0}) table new i was.0 adds was.1) place in
        kept q (exact.done i q l (was.1 ∙ ap Some same))
    go i q place (inr l) below =
        let last : i ≡ at = omega (arith, l, below) in
        let same : p ≡ q = one_at new at p q (adds_at (λ (r : ℕ × ℕ). Unit {0}) table new at p adds here) (subst (λ (k : ℕ). slice_get new k ≡ Some q) last place) in
        subst (IsCounted t.frames b.places) same (f, adds_at (λ (g : Frame). Unit {0}) v.frames t.frames p.0 f opened.frames framed, there)
