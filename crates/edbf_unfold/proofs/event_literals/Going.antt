-- How an unfolder goes on from step to step.
use Rattle.std.proofs.Common.{◌≡◌, ◌∙◌, ◌+◌, ◌<◌, ◌≤◌, ℕ, zero, suc, List, [], ◌∷◌, ◌++◌, length, take, get_or, slice_get, Some, Result, Ok, Err, refl, sym, ap, subst, arith, inl, inr, length-append}
use Rattle.std.specs.Prelude.{◌⊎◌, OnOk, OnErr}
use Rattle.std.specs.List.{Contains, sum_by}
use Rattle.std.proofs.lemmas.Bool.{cases_lt}
use Rattle.std.proofs.lemmas.List.Elements.{Contains-push, Contains-push_cases}
use Rattle.std.proofs.lemmas.List.Sums.{sum_by-cons, sum_by_more}
use Rattle.std.proofs.lemmas.Option.{get_or_from_slice_get}
use Rattle.event_nodes.specs.Lit.{Lit}
use Rattle.edbf_unfold.specs.declared.event_literals.event_walk.frames.Frame.{Frame}
use Rattle.edbf_unfold.specs.declared.event_literals.event_walk.frames.Step.{Step}
use Rattle.event_nodes.specs.Nodes.{EventGraphView, IsEventGraph, GrowsEvents}
use Rattle.event_nodes.specs.View.{EventCircuitView}
use Rattle.edbf_unfold.specs.event_literals.Known.{EventUnfolderView, IsKnownIn, AreKnown, IsMet, IsReady, IsLater, HasGrown}
use Rattle.edbf_unfold.specs.event_literals.event_walk.Ready.{IsReadyBy, StandsBefore, IsPlan}
use Rattle.event_nodes.specs.flat_net.Weights.{weight_at}
use Rattle.edbf_unfold.proofs.event_literals.Known.{known_later}
use Rattle.event_nodes.proofs.Growing.{grows_trans}
use Rattle.edbf_unfold.proofs.event_literals.event_walk.Fitting.{met_in_later}
use Rattle.event_nodes.proofs.Lists.{adds_none, adds_trans, adds_push, adds_contains}
use Rattle.edbf_unfold.proofs.event_literals.Lits.{grown_none}

-- what holds after a value and after a refusal
pub ok_or_err : {X E A B C : Type 0} (r : Result X E) → OnOk r A → OnErr r B → (A → C) → (B → C) → C
ok_or_err (Ok x) a b f g = f a
ok_or_err (Err e) a b f g = g b

abbrev Entry : Type 0
Entry = (ℕ × ℕ) × Lit

abbrev AnyEntry : Entry → Type 0
AnyEntry e = Unit {0}

pub grown_within : (w v : EventGraphView) (room all : ℕ) → HasGrown w v room → room ≤ all → HasGrown w v all
grown_within w v room all a few = record { grows = a.grows; children = a.children; nodes = omega (arith, a.nodes, few); places = omega (arith, a.places, few) }

pub grown_trans : (w v x : EventGraphView) (room more all : ℕ) → HasGrown w v room → HasGrown v x more → room + more ≤ all → HasGrown w x all
grown_trans w v x room more all a b few = record {
  grows = grows_trans w v x a.grows b.grows;
  children = b.children ∙ a.children;
  nodes = omega (arith, a.nodes, b.nodes, few);
  places = omega (arith, a.places, b.places, few);
}

pub later_none : (u : EventUnfolderView) (w : EventGraphView) (room : ℕ) → IsLater u u w w room
later_none u w room = record { circuit = refl; frames = refl; memo = adds_none AnyEntry u.memo u.memo refl; grown = grown_none w room }

pub later_trans : (u v t : EventUnfolderView) (w x y : EventGraphView) (room more all : ℕ) → IsLater u v w x room → IsLater v t x y more → room + more ≤ all → IsLater u t w y all
later_trans u v t w x y room more all a b few = record {
  circuit = b.circuit ∙ a.circuit;
  frames = b.frames ∙ a.frames;
  memo = adds_trans AnyEntry u.memo v.memo t.memo a.memo b.memo;
  grown = record {
    grows = grows_trans w x y a.grown.grows b.grown.grows;
    children = b.grown.children ∙ a.grown.children;
    nodes = omega (arith, a.grown.nodes, b.grown.nodes, few);
    places = omega (arith, a.grown.places, b.grown.places, few);
  };
}

more_length : (xs ys more : List (ℕ × ℕ)) → ys ≡ xs ++ more → length xs ≤ length ys
more_length xs ys more e = omega (arith, ap length e, length-append xs more)

-- all that is known stays known
pub are_known_later : (e : EventCircuitView) (w v : EventGraphView) (fs : List Frame) (memo : List Entry) → IsEventGraph w → GrowsEvents w v → AreKnown e w fs memo → AreKnown e v fs memo
are_known_later e w v fs memo is grows known = λ p x h.
    let k = known p x h in
    let l = more_length w.children v.children grows.children.0 grows.children.1 in
    (k.0, k.1, omega (arith, k.2, l), known_later e w v is grows k.0 p.1 x.0 k.2 k.3)

-- one entry more
pub put_known : (e : EventCircuitView) (w v : EventGraphView) (fs : List Frame) (memo new : List Entry) (p : ℕ × ℕ) (x : Lit) (f : Frame) → IsEventGraph w → GrowsEvents w v → AreKnown e w fs memo → new ≡ memo ++ (p, x) ∷ [] →
    slice_get fs p.0 ≡ Some f → f.node ≤ length v.children → IsKnownIn e v f p.1 x.0 → AreKnown e v fs new
put_known e w v fs memo new p x f is grows known pushed at node own = λ q y h. go q y (Contains-push_cases memo (p, x) (q, y) (subst (λ (l : List Entry). Contains l (q, y)) pushed h))
  where
    go : (q : ℕ × ℕ) (y : Lit) → Contains memo (q, y) ⊎ ◌≡◌ {A = Entry} (p, x) (q, y) → (g : Frame) × (slice_get fs q.0 ≡ Some g) × (g.node ≤ length v.children) × IsKnownIn e v g q.1 y.0
    go q y (inl h) = are_known_later e w v fs memo is grows known q y h
    go q y (inr same) = subst (λ (n : Entry). (g : Frame) × (slice_get fs n.0.0 ≡ Some g) × (g.node ≤ length v.children) × IsKnownIn e v g n.0.1 n.1.0) same (f, at, node, own)

-- the next step of a plan can be done
pub ready_next : (u v : EventUnfolderView) (w x : EventGraphView) (plan : List Step) (i room : ℕ) (step : Step) → IsPlan u.circuit u.frames w.children plan → IsLater u v w x room → slice_get plan i ≡ Some step →
    ((j : ℕ) (q : Step) → j < i → slice_get plan j ≡ Some q → IsMet v.memo (q.frame, q.signal)) → IsReady v x step
ready_next u v w x plan i room step is later at met =
    subst (λ (e : EventCircuitView). IsReadyBy e v.frames x.children (IsMet v.memo) step) (sym later.circuit)
    (subst (λ (fs : List Frame). IsReadyBy u.circuit fs x.children (IsMet v.memo) step) (sym later.frames)
    (subst (λ (cs : List (ℕ × ℕ)). IsReadyBy u.circuit u.frames cs (IsMet v.memo) step) (sym later.grown.children)
    (let r = is i step at in
    record {
      frame = r.frame;
      at = r.at;
      node = r.node;
      within = r.within;
      reads = λ q h. met_in_later u.circuit.net u.frames u.frames (StandsBefore plan i) (IsMet v.memo) r.frame step.frame step.onward q (adds_none (λ (f : Frame). Unit {0}) u.frames u.frames refl) there (r.reads q h);
      onward = λ name next latch free. let o = r.onward name next latch free in (o.0, o.1, o.2, there (step.onward, next) o.3);
      high = λ name next latch free on. let o = r.high name next latch free on in (o.0, o.1, o.2, there (step.high, next) o.3);
    })))
  where
    there : (p : ℕ × ℕ) → StandsBefore plan i p → IsMet v.memo p
    there p b = subst (IsMet v.memo) b.4 (met b.0 b.1 b.2 b.3)

pub met_later : (u v : EventUnfolderView) (w x : EventGraphView) (room : ℕ) (p : ℕ × ℕ) → IsLater u v w x room → IsMet u.memo p → IsMet v.memo p
met_later u v w x room p later met = (met.0, adds_contains AnyEntry u.memo v.memo (p, met.0) later.memo met.1)

-- the steps so far, and one more
pub met_next : (u v : EventUnfolderView) (w x : EventGraphView) (room : ℕ) (plan : List Step) (i : ℕ) (d : Step) → i < length plan → IsLater u v w x room → IsMet v.memo ((get_or plan i d).frame, (get_or plan i d).signal) →
    ((j : ℕ) (q : Step) → j < i → slice_get plan j ≡ Some q → IsMet u.memo (q.frame, q.signal)) → (j : ℕ) (q : Step) → j < i + 1 → slice_get plan j ≡ Some q → IsMet v.memo (q.frame, q.signal)
met_next u v w x room plan i d inside later here before j q below at = go (cases_lt j i)
  where
    go : (j < i) ⊎ (i ≤ j) → IsMet v.memo (q.frame, q.signal)
    go (inl l) = met_later u v w x room (q.frame, q.signal) later (before j q l at)
    go (inr l) =
        let same : j ≡ i = omega arith in
        let one : get_or plan i d ≡ q = get_or_from_slice_get plan i q d (subst (λ (k : ℕ). slice_get plan k ≡ Some q) same at) in
        subst (λ (s : Step). IsMet v.memo (s.frame, s.signal)) one here

-- what the first steps weigh
pub sum_take : (w : Step → ℕ) (xs : List Step) (i : ℕ) → sum_by w (take i xs) ≤ sum_by w xs
sum_take w [] zero = omega arith
sum_take w [] (suc i) = omega arith
sum_take w (x ∷ xs) zero = omega arith
sum_take w (x ∷ xs) (suc i) = omega (arith, sum_by-cons w x (take i xs), sum_by-cons w x xs, sum_take w xs i)

pub room_next : (u v : EventUnfolderView) (w x : EventGraphView) (plan : List Step) (i : ℕ) (d : Step) (bound : ℕ) → IsLater u v w x (sum_by (λ (p : Step). weight_at u.circuit.net p.signal) (take i plan)) → i < length plan →
    length w.graph + sum_by (λ (p : Step). weight_at u.circuit.net p.signal) plan < bound → length x.graph + weight_at v.circuit.net (get_or plan i d).signal < bound
room_next u v w x plan i d bound later inside room =
    let f : Step → ℕ = λ p. weight_at u.circuit.net p.signal in
    let one = sum_by_more f plan i d inside in
    let top = sum_take f plan (i + 1) in
    let same : weight_at v.circuit.net (get_or plan i d).signal ≡ weight_at u.circuit.net (get_or plan i d).signal = ap (λ (e : EventCircuitView). weight_at e.net (get_or plan i d).signal) later.circuit in
    omega (arith, one, top, same, later.grown.nodes, room)

-- one step further, within what the first steps weigh
pub step_later : (u v t : EventUnfolderView) (w x y : EventGraphView) (plan : List Step) (i : ℕ) (d : Step) → i < length plan → IsLater u v w x (sum_by (λ (p : Step). weight_at u.circuit.net p.signal) (take i plan)) →
    IsLater v t x y (weight_at v.circuit.net (get_or plan i d).signal) → IsLater u t w y (sum_by (λ (p : Step). weight_at u.circuit.net p.signal) (take (i + 1) plan))
step_later u v t w x y plan i d inside a b =
    let f : Step → ℕ = λ p. weight_at u.circuit.net p.signal in
    let one = sum_by_more f plan i d inside in
    let same : weight_at v.circuit.net (get_or plan i d).signal ≡ weight_at u.circuit.net (get_or plan i d).signal = ap (λ (e : EventCircuitView). weight_at e.net (get_or plan i d).signal) a.circuit in
    later_trans u v t w x y (sum_by f (take i plan)) (weight_at v.circuit.net (get_or plan i d).signal) (sum_by f (take (i + 1) plan)) a b (omega (arith, one, same))

pub later_within : (u v : EventUnfolderView) (w x : EventGraphView) (room all : ℕ) → IsLater u v w x room → room ≤ all → IsLater u v w x all
later_within u v w x room all a few = later_trans u v v w x x room 0 all a (later_none v x 0) (omega (arith, few))

-- the literal of a step is kept
module _ (i u : EventUnfolderView) (same : i ≡ u) (w v : EventGraphView) (step : Step) (room : ℕ) (grown : HasGrown w v room) (new : List Entry) where
  pub kept_known : (x : Lit) → IsEventGraph w → IsReady u w step → AreKnown u.circuit w u.frames u.memo → ((f : Frame) → slice_get u.frames step.frame ≡ Some f → IsKnownIn u.circuit v f step.signal x.0) →
      new ≡ i.memo ++ ((step.frame, step.signal), x) ∷ [] → AreKnown i.circuit v i.frames new
  kept_known x is ready known own pushed =
      subst (λ (k : EventUnfolderView). new ≡ k.memo ++ ((step.frame, step.signal), x) ∷ [] → AreKnown k.circuit v k.frames new) (sym same)
      (λ h. put_known u.circuit w v u.frames u.memo new (step.frame, step.signal) x ready.frame is grown.grows known h ready.at (let e = ap length grown.children in omega (arith, e, ready.node)) (own ready.frame ready.at)) pushed

  pub kept_later : (x : Lit) → new ≡ i.memo ++ ((step.frame, step.signal), x) ∷ [] → IsLater u (record { circuit = i.circuit; frames = i.frames; memo = new }) w v room
  kept_later x pushed =
      subst (λ (k : EventUnfolderView). IsLater k (record { circuit = i.circuit; frames = i.frames; memo = new }) w v room) same
      (record { circuit = refl; frames = refl; memo = adds_push AnyEntry i.memo new ((step.frame, step.signal), x) pushed tt; grown = grown })

  pub kept_none : new ≡ i.memo → IsLater u (record { circuit = i.circuit; frames = i.frames; memo = new }) w v room
  kept_none none =
      subst (λ (k : EventUnfolderView). IsLater k (record { circuit = i.circuit; frames = i.frames; memo = new }) w v room) same
      (record { circuit = refl; frames = refl; memo = adds_none AnyEntry i.memo new none; grown = grown })

  pub none_known : IsEventGraph w → AreKnown u.circuit w u.frames u.memo → new ≡ i.memo → AreKnown i.circuit v i.frames new
  none_known is known none =
      subst (λ (k : EventUnfolderView). new ≡ k.memo → AreKnown k.circuit v k.frames new) (sym same)
      (λ h. subst (λ (m : List Entry). AreKnown u.circuit v u.frames m) (sym h) (are_known_later u.circuit w v u.frames u.memo is grown.grows known)) none

  pub kept_met : (x : Lit) → new ≡ i.memo ++ ((step.frame, step.signal), x) ∷ [] → IsMet new (step.frame, step.signal)
  kept_met x pushed = (x, subst (λ (m : List Entry). Contains m ((step.frame, step.signal), x)) (sym pushed) (Contains-push i.memo ((step.frame, step.signal), x)))
