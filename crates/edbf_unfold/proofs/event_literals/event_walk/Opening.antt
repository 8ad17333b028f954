-- Frames and event nodes are added while places are expanded.
use Rattle.std.proofs.Common.{◌≡◌, ◌∙◌, ◌+◌, ◌*◌, ◌<◌, ◌≤◌, ℕ, List, [], ◌∷◌, ◌++◌, length, take, get_or, slice_get, Some, refl, sym, ap, subst, arith, inl, inr}
use Rattle.std.specs.Prelude.{◌⊎◌}
use Rattle.std.specs.List.{All, Contains, sum_by}
use Rattle.std.proofs.lemmas.List.Sums.{sum_by_more}
use Rattle.std.proofs.lemmas.List.Elements.{All-nil, All-append, All-weaker}
use Rattle.std.proofs.lemmas.Option.{slice_get_within, get_or_from_slice_get, none-some}
use Rattle.event_nodes.specs.flat_net.Signal.{Signal}
use Rattle.event_nodes.specs.flat_net.LatchAt.{LatchAt}
use Rattle.event_nodes.proofs.flat_net.Growth.{length-push, slice_get-append, slice_get-push_cases}
use Rattle.event_nodes.proofs.flat_net.Nets.{some_at}
use Rattle.event_nodes.proofs.flat_net.Places.{one_at, All-at}
use Rattle.event_nodes.specs.Adds.{Adds}
use Rattle.edbf_unfold.specs.declared.event_literals.event_walk.frames.Frame.{Frame}
use Rattle.edbf_unfold.specs.declared.event_literals.event_walk.frames.Step.{Step}
use Rattle.event_nodes.specs.Nodes.{EventGraphView, GrowsEvents, IsChild}
use Rattle.event_nodes.specs.View.{EventCircuitView, side_of}
use Rattle.edbf_unfold.specs.event_literals.event_walk.Ready.{EventWalkerView, IsReadyBy, IsFreeOf, IsBoundTo}
use Rattle.event_nodes.specs.flat_net.Weights.{weight_at}
use Rattle.edbf_unfold.specs.declared.event_literals.event_walk.frames.Ways.{Ways}
use Rattle.edbf_unfold.specs.event_literals.event_walk.Walk.{IsSeen, IsExpanded, IsEntry, IsOpened, IsWalk, IsReadPlace, IsOwnPlace}
use Rattle.edbf_unfold.specs.declared.event_literals.event_walk.frames.Put.TheVariants.{Free}
use Rattle.edbf_unfold.proofs.event_literals.event_walk.Fitting.{met_in_later}
use Rattle.edbf_unfold.proofs.event_literals.event_walk.Owning.{own_later}
use Rattle.event_nodes.proofs.Lists.{adds_none, adds_trans, adds_contains, adds_at, adds_length, adds_take}
use Rattle.event_nodes.proofs.Growing.{grows_refl, grows_trans, children_more}

pub opened_none : (u : EventWalkerView) (w : EventGraphView) (room : ℕ) → IsOpened u u w w room
opened_none u w room = record {
  circuit = refl;
  frames = adds_none (λ (f : Frame). Unit {0}) u.frames u.frames refl;
  grows = grows_refl w;
  graph = refl;
  places = refl;
  few_frames = omega arith;
}

-- a child more and two frames more at most
pub opened_one : (i u : EventWalkerView) → i ≡ u → (w x : EventGraphView) → GrowsEvents w x → x ≡ record w { children = x.children } → (frames : List Frame) → Adds (λ f. Unit {0}) i.frames frames → length frames ≤ length i.frames + 2 →
    IsOpened u (record { circuit = i.circuit; frames = frames }) w x 1
opened_one i u same w x grows is frames adds few =
    subst (λ (k : EventWalkerView). IsOpened k (record { circuit = i.circuit; frames = frames }) w x 1) same
    (record {
      circuit = refl;
      frames = adds;
      grows = grows;
      graph = ap (λ (y : EventGraphView). y.graph) is;
      places = ap (λ (y : EventGraphView). y.places) is;
      few_frames = omega (arith, few);
    })

-- a seen place is seen with more frames and event nodes
pub seen_later : (u v : EventWalkerView) (w x : EventGraphView) (room : ℕ) (p : ℕ × ℕ) → IsOpened u v w x room → length w.children ≤ length x.children → IsSeen u.circuit u.frames w.children p → IsSeen v.circuit v.frames x.children p
seen_later u v w x room p opened more seen =
    subst (λ (e : EventCircuitView). IsSeen e v.frames x.children p) (sym opened.circuit) (seen.0, adds_at (λ (f : Frame). Unit {0}) u.frames v.frames p.0 seen.0 opened.frames seen.1, omega (arith, seen.2, more), seen.3)

-- fan-ins in their frames are seen
pub fanins_seen : (e : EventCircuitView) (frames more : List Frame) (children : List (ℕ × ℕ)) (p : ℕ × ℕ) (fanins : List Signal) → (seen : IsSeen e frames children p) → Adds (λ f. Unit {0}) frames more → ((f : Signal) → Contains fanins f → f.0 < p.1) → (q : ℕ × ℕ) →
    IsReadPlace e.net more seen.0 p.0 fanins q → IsSeen e more children q
fanins_seen e frames more children p fanins seen adds lower q h = subst (λ (s : ℕ). IsSeen e more children (q.0, s)) (sym h.signal) (go h.frame)
  where
    inside : h.fanin.0 < length e.net.drivers
    inside = let below = lower h.fanin h.reads in omega (arith, below, seen.3)

    go : ((q.0 ≡ p.0) × IsBoundTo e.net seen.0.put h.fanin.0) ⊎ ((slice_get more q.0 ≡ Some (record { node = seen.0.node; put = Free })) × IsFreeOf e.net seen.0.put h.fanin.0) → IsSeen e more children (q.0, h.fanin.0)
    go (inl own) = (seen.0, adds_at (λ (f : Frame). Unit {0}) frames more q.0 seen.0 adds (subst (λ (k : ℕ). slice_get frames k ≡ Some seen.0) (sym own.0) seen.1), seen.2, inside)
    go (inr free) = (record { node = seen.0.node; put = Free }, free.0, seen.2, inside)

-- the place where a latch takes over its data is seen
pub entry_seen : (e : EventCircuitView) (frames : List Frame) (children : List (ℕ × ℕ)) (node class child : ℕ) → IsChild children node class child → (l : LatchAt) → l.next.0 < length e.net.drivers → (q : ℕ × ℕ) → IsEntry e frames child l q → IsSeen e frames children q
entry_seen e frames children node class child is_child l inside q h = (
  h.0,
  h.1,
  (let k = slice_get_within children is_child.0 (node, class) is_child.2 in omega (arith, k, is_child.1, h.2)),
  subst (λ (s : ℕ). s < length e.net.drivers) (sym h.4) inside,
)

pub opened_trans : (u v t : EventWalkerView) (w x y : EventGraphView) (room more : ℕ) → IsOpened u v w x room → IsOpened v t x y more → IsOpened u t w y (room + more)
opened_trans u v t w x y room more a b = record {
  circuit = b.circuit ∙ a.circuit;
  frames = adds_trans (λ (f : Frame). Unit {0}) u.frames v.frames t.frames a.frames b.frames;
  grows = grows_trans w x y a.grows b.grows;
  graph = b.graph ∙ a.graph;
  places = b.places ∙ a.places;
  few_frames = omega (arith, a.few_frames, b.few_frames);
}

-- what can be done goes on to be, with more frames, event nodes and places
pub ready_later : (e : EventCircuitView) (frames new : List Frame) (w x : EventGraphView) (M N : ℕ × ℕ → Type 0) (step : Step) → Adds (λ f. Unit {0}) frames new → GrowsEvents w x → ((p : ℕ × ℕ) → M p → N p) →
    IsReadyBy e frames w.children M step → IsReadyBy e new x.children N step
ready_later e frames new w x M N step adds grows to r = record {
  frame = r.frame;
  at = adds_at (λ (f : Frame). Unit {0}) frames new step.frame r.frame adds r.at;
  node = let more = children_more w x grows in omega (arith, r.node, more);
  within = r.within;
  reads = λ q h. met_in_later e.net frames new M N r.frame step.frame step.onward q adds to (r.reads q h);
  onward = λ name next latch free.
      let o = r.onward name next latch free in (
        o.0,
        adds_at (λ (f : Frame). Unit {0}) frames new step.onward o.0 adds o.1,
        record {
          child = (o.2.child.0, o.2.child.1, ap (λ (es : List (ℕ × ℕ)). slice_get es o.2.child.0) grows.children.1 ∙ slice_get-append w.children grows.children.0 o.2.child.0 (r.frame.node, (side_of e).class step.signal) o.2.child.2);
          own = o.2.own;
        },
        to (step.onward, next) o.3,
      );
  high = λ name next latch free on.
      let o = r.high name next latch free on in (
        o.0,
        adds_at (λ (f : Frame). Unit {0}) frames new step.high o.0 adds o.1,
        (
          (o.2.0.0, o.2.0.1, ap (λ (es : List (ℕ × ℕ)). slice_get es o.2.0.0) grows.children.1 ∙ slice_get-append w.children grows.children.0 o.2.0.0 (r.frame.node, (side_of e).class step.signal) o.2.0.2),
          o.2.1,
        ),
        to (step.high, next) o.3,
      );
}

-- one place more is expanded
pub walk_more : (u v t : EventWalkerView) (w x y : EventGraphView) (root beside : ℕ × ℕ) (table new : List (ℕ × ℕ)) (ways : List Ways) (at weight more cap room : ℕ) (p : ℕ × ℕ) (g : Ways) → IsWalk u v w x root beside table ways at weight cap → slice_get table at ≡ Some p →
    IsOpened v t x y 1 → Adds (IsSeen t.circuit t.frames y.children) table new → ((IsOwnPlace v.circuit.net v.frames root.0 beside.0 p) → Adds (IsOwnPlace t.circuit.net t.frames root.0 beside.0) table new) → IsExpanded t.circuit t.frames y.children new p g → length new ≤ length table + 2 * more → 1 ≤ more → weight + more ≤ room → more ≡ weight_at v.circuit.net p.1 →
    IsWalk u t w y root beside new (ways ++ g ∷ []) (at + 1) (weight + more) room
walk_more u v t w x y root beside table new ways at weight more cap room p g walk here opened adds own expanded few some light heavy = record {
  begins = adds_contains (IsSeen t.circuit t.frames y.children) table new root adds walk.begins;
  begins_beside = adds_contains (IsSeen t.circuit t.frames y.children) table new beside adds walk.begins_beside;
  seen = subst (All (IsSeen t.circuit t.frames y.children)) (sym adds.is)
      (All-append (IsSeen t.circuit t.frames y.children) table adds.more
      (All-weaker (IsSeen v.circuit v.frames x.children) (IsSeen t.circuit t.frames y.children) (λ q s. seen_later v t x y 1 q opened (children_more x y opened.grows) s) table walk.seen) adds.each);
  own =
      let own_adds = own (All-at (IsOwnPlace v.circuit.net v.frames root.0 beside.0) table at p here walk.own) in
      subst (All (IsOwnPlace t.circuit.net t.frames root.0 beside.0)) (sym own_adds.is)
      (All-append (IsOwnPlace t.circuit.net t.frames root.0 beside.0) table own_adds.more
      (All-weaker (IsOwnPlace v.circuit.net v.frames root.0 beside.0) (IsOwnPlace t.circuit.net t.frames root.0 beside.0)
      (λ q s. subst (λ (e : EventCircuitView). IsOwnPlace e.net t.frames root.0 beside.0 q) (sym opened.circuit) (own_later v.circuit.net v.frames t.frames opened.frames root.0 beside.0 q s)) table walk.own) own_adds.each);
  each = omega (arith, length-push ways g, walk.each);
  expanded = λ i q h at_i over. go i q h at_i (slice_get-push_cases ways g i h over);
  opened = opened_trans u v t w x y at 1 walk.opened opened;
  inside = let l = slice_get_within table at p here in let m = adds_length (IsSeen t.circuit t.frames y.children) table new adds in omega (arith, l, m);
  weighs =
      let l = slice_get_within table at p here in
      let f : ℕ × ℕ → ℕ = λ q. weight_at v.circuit.net q.1 in
      ap (λ (e : EventCircuitView). sum_by (λ (q : ℕ × ℕ). weight_at e.net q.1) (take (at + 1) new)) opened.circuit
      ∙ (ap (sum_by f) (adds_take (IsSeen t.circuit t.frames y.children) table new (at + 1) adds (omega (arith, l)))
      ∙ (let one = sum_by_more f table at p l in let at_p : get_or table at p ≡ p = get_or_from_slice_get table at p p here in let own = ap f at_p in omega (arith, one, own, walk.weighs, heavy)));
  few = omega (arith, few, walk.few);
  passed = omega (arith, walk.passed, some);
  small = omega (arith, light);
}
  where
    go : (i : ℕ) (q : ℕ × ℕ) (h : Ways) → slice_get new i ≡ Some q → (slice_get ways i ≡ Some h) ⊎ ((i ≡ length ways) × (g ≡ h)) → IsExpanded t.circuit t.frames y.children new q h
    go i q h at_i (inl old) =
        let early = slice_get_within ways i h old in
        let inside = slice_get_within table at p here in
        let there = some_at table i (omega (arith, early, inside, walk.each)) in
        let same : there.0 ≡ q = one_at new i there.0 q (adds_at (IsSeen t.circuit t.frames y.children) table new i there.0 adds there.1) at_i in
        subst (λ (r : ℕ × ℕ). IsExpanded t.circuit t.frames y.children new r h) same
        (subst (λ (e : EventCircuitView). IsExpanded e t.frames y.children new there.0 h) (sym opened.circuit)
        (ready_later v.circuit v.frames t.frames x y (Contains table) (Contains new) _ opened.frames opened.grows (λ r k. adds_contains (IsSeen t.circuit t.frames y.children) table new r adds k) (walk.expanded i there.0 h there.1 old)))
    go i q h at_i (inr e) =
        let place : i ≡ at = e.0 ∙ walk.each in
        let same : p ≡ q = one_at new at p q (adds_at (IsSeen t.circuit t.frames y.children) table new at p adds here) (subst (λ (k : ℕ). slice_get new k ≡ Some q) place at_i) in
        subst (λ (r : ℕ × ℕ). IsExpanded t.circuit t.frames y.children new r h) same (subst (λ (k : Ways). IsExpanded t.circuit t.frames y.children new p k) e.1 expanded)

-- what holds of two places holds of all in a table of these two
pub both_hold : (P : ℕ × ℕ → Type 0) (none one two : List (ℕ × ℕ)) (p q : ℕ × ℕ) → none ≡ [] → Adds (λ r. r ≡ p) none one → Adds (λ r. r ≡ q) one two → P p → P q → All P two
both_hold P none one two p q empty first second holds other = more one two q (more none one p (subst (All P) (sym empty) (All-nil P)) first holds) second other
  where
    more : (xs ys : List (ℕ × ℕ)) (x : ℕ × ℕ) → All P xs → Adds (λ r. r ≡ x) xs ys → P x → All P ys
    more xs ys x all adds own = subst (All P) (sym adds.is) (All-append P xs adds.more all (All-weaker (λ (r : ℕ × ℕ). r ≡ x) P (λ r same. subst P (sym same) own) adds.more adds.each))

pub walk_first : (u : EventWalkerView) (w : EventGraphView) (root beside : ℕ × ℕ) (table : List (ℕ × ℕ)) (cap : ℕ) → All (IsSeen u.circuit u.frames w.children) table → All (IsOwnPlace u.circuit.net u.frames root.0 beside.0) table → Contains table root → Contains table beside → length table ≤ 2 → IsWalk u u w w root beside table [] 0 0 cap
walk_first u w root beside table cap seen own begins also few = record {
  begins = begins;
  begins_beside = also;
  seen = seen;
  own = own;
  each = refl;
  expanded = λ i p g at over. absurd (none-some g over);
  opened = opened_none u w 0;
  inside = omega arith;
  weighs = refl;
  few = omega (arith, few);
  passed = omega arith;
  small = omega arith;
}
