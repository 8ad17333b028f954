-- What event unfoldings visit, and which latches they reach: a latch is reached at a node exactly where it is visited there, not as the one
-- that is left out.
use Rattle.std.proofs.Common.{◌≡◌, List, [], ◌∷◌, Option, Some, None, refl, sym, subst, inl, inr}
use Rattle.std.specs.Prelude.{◌⊎◌, ℕ}
use Rattle.std.specs.List.{Contains}
use Rattle.flat_net.specs.circuit_theory.Circuit.{Circuit, IsLatch, Reads, Reaches}
use Rattle.flat_net.specs.circuit_theory.Frame.{EventSide, ConeOthers, ReachedAt}
use Rattle.flat_net.specs.circuit_theory.EventSizes.{Start, IsOther, EventVisits}
use Rattle.flat_net.specs.circuit_theory.EventTotals.{StartLatches}
use Rattle.flat_net.proofs.circuit_theory.Lists.{Contains-head}

-- one reading more
pub reaches_on : {P : Type 0} (c : Circuit P) {p q r : P} → Reaches c p q → Reads c q r → Reaches c p r
reaches_on c Reaches.here read = Reaches.there read Reaches.here
reaches_on c (Reaches.there first rest) read = Reaches.there first (reaches_on c rest read)

module _ {P : Type 0} (s : EventSide P) (on : P → Type 0) (starts : List (Start P)) where
  -- the latches that the starts reach
  abbrev pub ReachedFrom : List ℕ → P → Type 0
  ReachedFrom node v = ReachedAt s on (StartLatches s starts) node v

  -- where a visit comes from: a start at the root, and else what a reached latch takes over
  abbrev Comes : Option P → P → List ℕ → Type 0
  Comes out q [] = (x : Start P) × Contains starts x × (x.left_out ≡ out) × Reaches s.circuit x.place q
  Comes out q (k ∷ node) =
      (u : P) × (name : List ℕ) × (next : P) × ReachedFrom node u × (s.class u ≡ k) × IsLatch s.circuit name u next × Reaches s.circuit next q × ((on u × (out ≡ Some u)) ⊎ ((on u → ⊥) × (out ≡ None)))

  comes_on : (out : Option P) (q r : P) (node : List ℕ) → Comes out q node → Reads s.circuit q r → Comes out r node
  comes_on out q r [] h read = (h.0, h.1, h.2, reaches_on s.circuit h.3 read)
  comes_on out q r (k ∷ node) h read = (h.0, h.1, h.2, h.3, h.4, h.5, reaches_on s.circuit h.6 read, h.7)

  comes_latch : (out : Option P) (q next : P) (name : List ℕ) (node : List ℕ) → Comes out q node → IsLatch s.circuit name q next → IsOther out q → ReachedFrom node q
  comes_latch out q next name [] h latch other = (h.0, h.1, (name, next, latch, h.3), subst (λ (o : Option P). IsOther o q) (sym h.2) other)
  comes_latch out q next name (k ∷ node) h latch other = (h.0, h.3, h.4, (h.1, h.2, h.5, (name, next, latch, h.6), away h.7))
    where
      away : (on h.0 × (out ≡ Some h.0)) ⊎ ((on h.0 → ⊥) × (out ≡ None)) → on h.0 → IsOther (Some h.0) q
      away (inl e) enabled = subst (λ (o : Option P). IsOther o q) e.1 other
      away (inr e) enabled = absurd (e.0 enabled)

  comes : {out : Option P} {q : P} {node : List ℕ} → EventVisits s on starts out q node → Comes out q node
  comes (EventVisits.start {s = x} h) = (x, h, refl, Reaches.here)
  comes (EventVisits.reads {out = out} {q = q} {r = r} {node = node} visit read) = comes_on out q r node (comes visit) read
  comes (EventVisits.plain {out = out} {q = q} {next = next} {node = node} {name = name} visit other latch off) =
      (q, name, next, comes_latch out q next name node (comes visit) latch other, refl, latch, Reaches.here, inr (off, refl))
  comes (EventVisits.held {out = out} {q = q} {next = next} {node = node} {name = name} visit other latch enabled) =
      (q, name, next, comes_latch out q next name node (comes visit) latch other, refl, latch, Reaches.here, inl (enabled, refl))

  pub visited_reached : {out : Option P} {q next : P} {name node : List ℕ} → EventVisits s on starts out q node → IsLatch s.circuit name q next → IsOther out q → ReachedFrom node q
  visited_reached {out} {q} {next} {name} {node} visit latch other = comes_latch out q next name node (comes visit) latch other

  pub visits_along : {out : Option P} {p q : P} {node : List ℕ} → EventVisits s on starts out p node → Reaches s.circuit p q → EventVisits s on starts out q node
  visits_along visit Reaches.here = visit
  visits_along visit (Reaches.there read rest) = visits_along (EventVisits.reads visit read) rest

  -- the latch is visited there, and not as the one that is left out
  pub record IsMetAt (v : P) (node : List ℕ) : Type 0 where
    pub out : Option P
    pub visit : EventVisits s on starts out v node
    pub other : IsOther out v

  pub reached_visited : ((name : List ℕ) (u next : P) → IsLatch s.circuit name u next → on u ⊎ (on u → ⊥)) → (node : List ℕ) (v : P) → ReachedFrom node v → IsMetAt v node
  reached_visited decided [] v r =
      let x = r.0 in
      let cone = r.2 in
      record { out = x.left_out; visit = visits_along (EventVisits.start r.1) cone.3; other = r.3 }
  reached_visited decided (k ∷ node) v r =
      let up = reached_visited decided node r.0 r.1 in
      let o = r.3 in
      subst (λ (j : ℕ). IsMetAt v (j ∷ node)) r.2 (go up o (decided o.0 r.0 o.1 o.2))
    where
      go : IsMetAt r.0 node → ConeOthers s.circuit on r.0 v → on r.0 ⊎ (on r.0 → ⊥) → IsMetAt v (s.class r.0 ∷ node)
      go up o (inl enabled) = let cone = o.3 in record { out = Some r.0; visit = visits_along (EventVisits.held up.visit up.other o.2 enabled) cone.3; other = o.4 enabled }
      go up o (inr off) = let cone = o.3 in record { out = None; visit = visits_along (EventVisits.plain up.visit up.other o.2 off) cone.3; other = tt }

-- what is visited from some starts is visited from more
pub visits_more : {P : Type 0} (s : EventSide P) (on : P → Type 0) (starts more : List (Start P)) → ((x : Start P) → Contains starts x → Contains more x) → {out : Option P} {q : P} {node : List ℕ} → EventVisits s on starts out q node → EventVisits s on more out q node
visits_more s on starts more to (EventVisits.start {s = x} h) = EventVisits.start (to x h)
visits_more s on starts more to (EventVisits.reads visit read) = EventVisits.reads (visits_more s on starts more to visit) read
visits_more s on starts more to (EventVisits.plain visit other latch off) = EventVisits.plain (visits_more s on starts more to visit) other latch off
visits_more s on starts more to (EventVisits.held visit other latch enabled) = EventVisits.held (visits_more s on starts more to visit) other latch enabled

-- each visit is one from a single start
pub visits_one : {P : Type 0} (s : EventSide P) (on : P → Type 0) (starts : List (Start P)) → {out : Option P} {q : P} {node : List ℕ} → EventVisits s on starts out q node → (x : Start P) × Contains starts x × EventVisits s on (x ∷ []) out q node
visits_one s on starts (EventVisits.start {s = x} h) = (x, h, EventVisits.start (Contains-head x []))
visits_one s on starts (EventVisits.reads visit read) = let k = visits_one s on starts visit in (k.0, k.1, EventVisits.reads k.2 read)
visits_one s on starts (EventVisits.plain visit other latch off) = let k = visits_one s on starts visit in (k.0, k.1, EventVisits.plain k.2 other latch off)
visits_one s on starts (EventVisits.held visit other latch enabled) = let k = visits_one s on starts visit in (k.0, k.1, EventVisits.held k.2 other latch enabled)
