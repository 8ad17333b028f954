-- Circuits in which no latch reads another one: at most one event is behind each place.
use Rattle.std.proofs.Common.{◌≡◌, ℕ, zero, suc, ◌*◌, ◌<◌, ◌≤◌, List, [], ◌∷◌, length, map, refl, sym, ap, subst, arith, inl, inr, Option, Some, None}
use Rattle.std.specs.Prelude.{◌⊎◌}
use Rattle.std.specs.List.{Contains, sum_by}
use Rattle.circuit_theory.specs.Circuit.{Circuit, IsLatch, Reads, Reaches}
use Rattle.circuit_theory.specs.Depth.{LatchReads, LatchPath, LatchChain, HasCycle, LatchesHaveDepths}
use Rattle.circuit_theory.specs.Run.{IsEnabled}
use Rattle.circuit_theory.specs.Sizes.{Weighed, WeighsAt, IsConeOver}
use Rattle.circuit_theory.proofs.Lists.{Contains-head, Contains-tail, Contains-map, length-map}
use Rattle.circuit_theory.specs.EventSizes.{EventVisits, IsEventOver, IsOther, Start, WeighedAtNode}
use Rattle.circuit_theory.specs.EventTotals.{IsNodesOver, StartLatches}
use Rattle.circuit_theory.specs.Frame.{ConeLatches, ConeOthers, EventSide, IsNode}
use Rattle.circuit_laws.proofs.Counting.{fewer, fewer_by, pairs, pairs_length, has_pair, sum_bound}
use Rattle.std.proofs.Math.Nat.{mul-le-mul_left}

-- each latch is among these, and reads no other one
pub record IsShallow {P : Type 0} (c : Circuit P) (latches : List P) : Type 0 where
  pub listed : (name : List ℕ) (u next : P) → IsLatch c name u next → Contains latches u
  pub alone : (name : List ℕ) (u next v : P) → IsLatch c name u next → ConeLatches c next v → v ≡ u

-- each place that weighs something is among these, and weighs no more than this
pub record IsLightCircuit {P : Type 0} (c : Circuit P) (places : List P) (most : ℕ) : Type 0 where
  pub driven : (p : P) (w : ℕ) → WeighsAt c p w → Contains places p
  pub light : (p : P) (w : ℕ) → WeighsAt c p w → w ≤ most

reaches_on : {P : Type 0} (c : Circuit P) {p q r : P} → Reaches c p q → Reads c q r → Reaches c p r
reaches_on c Reaches.here r = Reaches.there r Reaches.here
reaches_on c (Reaches.there s rest) r = Reaches.there s (reaches_on c rest r)

-- the root, and its children by the classes of the latches
abbrev pub nodes_of : {P : Type 0} → (P → ℕ) → List P → List (List ℕ)
nodes_of class latches = [] ∷ map (λ u. class u ∷ []) latches

pub nodes_length : {P : Type 0} (class : P → ℕ) (latches : List P) → length (nodes_of class latches) ≡ suc (length latches)
nodes_length {P} class latches = ap suc (length-map (λ (u : P). class u ∷ []) latches)

has_child : {P : Type 0} (class : P → ℕ) (latches : List P) (u : P) → Contains latches u → Contains (nodes_of class latches) (class u ∷ [])
has_child {P} class latches u h =
    Contains-tail [] (class u ∷ []) (map (λ (v : P). class v ∷ []) latches) (Contains-map (λ (v : P). class v ∷ []) latches u h)

module _ {P : Type 0} (c : Circuit P) (latches : List P) (shallow : IsShallow c latches) where
  -- a cycle of latches is one of a latch that reads itself
  pub no_cycle : ((name : List ℕ) (u next : P) → IsLatch c name u next → Reaches c next u → IsEnabled c u) → (removed : List (List ℕ)) → HasCycle c (IsEnabled c) removed → ⊥
  no_cycle on removed (u, path) = by path
    where
      edge : {v w : P} → LatchReads c (IsEnabled c) removed v w → ⊥
      edge {v} {w} r =
          let same : w ≡ v = shallow.alone r.name v r.next w r.latch (r.other_name, r.other_next, r.other, r.cone.1) in
          r.no_self_edge (on r.name v r.next r.latch (subst (Reaches c r.next) same r.cone.1)) (sym same)

      by : {v w : P} → LatchPath c (IsEnabled c) removed v w → ⊥
      by (LatchPath.edge r) = edge r
      by (LatchPath.step r rest) = edge r

  module _ (depths : LatchesHaveDepths c (IsEnabled c)) where
    -- a latch that isn't enabled doesn't read itself
    plain_cycle : (name : List ℕ) (u next : P) → IsLatch c name u next → Reaches c next u → (IsEnabled c u → ⊥) → ⊥
    plain_cycle name u next latch reaches plain =
        let d = depths name u next latch in
        let over : suc d.0 ≤ d.0 = d.1.greatest (suc d.0) (inr (u, (inr (name, next, latch), Reaches.here), chain d.0)) in
        omega (arith, over)
      where
        edge : LatchReads c (IsEnabled c) [] u u
        edge = record {
          name = name;
          next = next;
          latch = latch;
          kept = λ h. (let m = h.1 in omega (arith, m));
          other_name = name;
          other_next = next;
          other = latch;
          other_kept = λ h. (let m = h.1 in omega (arith, m));
          cone = (inr (name, next, latch), reaches);
          no_self_edge = λ on same. plain on;
        }

        chain : (n : ℕ) → LatchChain c (IsEnabled c) u (suc n)
        chain zero = LatchChain.last latch
        chain (suc n) = LatchChain.more edge (chain n)

    pub no_others : (u v : P) → ConeOthers c (IsEnabled c) u v → ⊥
    no_others u v h =
        let same : v ≡ u = shallow.alone h.0 u h.1 v h.2 h.3 in
        plain_cycle h.0 u h.1 h.2 (subst (Reaches c h.1) same h.3.3) (λ on. h.4 on same)

    module _ (order : List ℕ) (class : P → ℕ) where
      abbrev pub s : EventSide P
      s = record { circuit = c; order = order; class = class }

      abbrev pub nodes : List (List ℕ)
      nodes = nodes_of class latches

      node_is : (starts : List (Start P)) (node : List ℕ) → IsNode s (IsEnabled c) (StartLatches s starts) node → Contains nodes node
      node_is starts [] h = Contains-head [] (map (λ (u : P). class u ∷ []) latches)
      node_is starts (k ∷ []) h =
          let cone = h.1.2 in
          subst (λ (z : ℕ). Contains nodes (z ∷ [])) h.2 (has_child class latches h.0 (shallow.listed cone.0 h.0 cone.1 cone.2))
      node_is starts (k ∷ j ∷ node) h = absurd (no_others h.1.0 h.0 h.1.3)

      -- no more event nodes than latches are reached besides the root
      pub few_nodes : (starts : List (Start P)) (cap : ℕ) → IsNodesOver s starts cap → cap ≤ length latches
      few_nodes starts cap over =
          let h : length over.nodes ≤ length nodes = fewer over.nodes nodes over.distinct (λ node k. node_is starts node (over.each node k)) in
          let long : length nodes ≡ suc (length latches) = nodes_length class latches in
          let total : cap < length over.nodes = over.total in
          omega (arith, h, long, total)

      -- a place is visited at the root, or at the child by the class of a latch that reads it
      abbrev pub IsAt : Option P → P → List ℕ → Type 0
      IsAt out q node = (node ≡ []) ⊎ ((u : P) × (name : List ℕ) × (next : P) × IsLatch c name u next × Reaches c next q × (node ≡ class u ∷ []) × (IsEnabled c u → out ≡ Some u))

      further : {out : Option P} {q r : P} {node : List ℕ} → IsAt out q node → Reads c q r → IsAt out r node
      further (inl e) r = inl e
      further (inr h) r = inr (h.0, h.1, h.2, h.3, reaches_on c h.4 r, h.5, h.6)

      by_plain : {out : Option P} {q next : P} {node name : List ℕ} → IsAt out q node → IsLatch c name q next → (IsEnabled c q → ⊥) → IsAt None next (class q ∷ node)
      by_plain {q = q} {next = next} {name = name} (inl e) latch free = inr (q, name, next, latch, Reaches.here, ap (λ (n : List ℕ). class q ∷ n) e, λ on. absurd (free on))
      by_plain {q = q} {next = next} {name = name} (inr h) latch free =
          let same : q ≡ h.0 = shallow.alone h.1 h.0 h.2 q h.3 (name, next, latch, h.4) in
          absurd (plain_cycle h.1 h.0 h.2 h.3 (subst (Reaches c h.2) same h.4) (λ on. free (subst (IsEnabled c) (sym same) on)))

      by_held : {out : Option P} {q next : P} {node name : List ℕ} → IsAt out q node → IsOther out q → IsLatch c name q next → IsEnabled c q → IsAt (Some q) next (class q ∷ node)
      by_held {q = q} {next = next} {name = name} (inl e) other latch on = inr (q, name, next, latch, Reaches.here, ap (λ (n : List ℕ). class q ∷ n) e, λ held. refl)
      by_held {q = q} {next = next} {name = name} (inr h) other latch on =
          let same : q ≡ h.0 = shallow.alone h.1 h.0 h.2 q h.3 (name, next, latch, h.4) in
          let out_is = h.6 (subst (IsEnabled c) same on) in
          absurd ((subst (λ (o : Option P). IsOther o q) out_is other) same)

      pub stands : (starts : List (Start P)) {out : Option P} {q : P} {node : List ℕ} → EventVisits s (IsEnabled c) starts out q node → IsAt out q node
      stands starts (EventVisits.start h) = inl refl
      stands starts (EventVisits.reads v r) = further (stands starts v) r
      stands starts (EventVisits.plain v other latch free) = by_plain (stands starts v) latch free
      stands starts (EventVisits.held v other latch on) = by_held (stands starts v) other latch on

      pub at_node : {out : Option P} {q : P} {node : List ℕ} → IsAt out q node → Contains nodes node
      at_node (inl e) = subst (Contains nodes) (sym e) (Contains-head [] (map (λ (u : P). class u ∷ []) latches))
      at_node (inr h) = subst (Contains nodes) (sym h.5) (has_child class latches h.0 (shallow.listed h.1 h.0 h.2 h.3))

      -- what is visited is no heavier than all places at all of these nodes
      pub light_visits : (places : List P) (most : ℕ) → IsLightCircuit c places most → (starts : List (Start P)) (cap : ℕ) → IsEventOver s (IsEnabled c) starts cap → cap < most * (length places * suc (length latches))
      light_visits places most light starts cap over =
          let few : length over.places ≤ length (pairs places nodes) =
          fewer_by (λ (x : WeighedAtNode P). (x.place, x.node)) over.places (pairs places nodes)
          (λ i j d l m e. over.distinct i j d l m (ap (λ (z : P × List ℕ). z.0) e) (ap (λ (z : P × List ℕ). z.1) e))
          (λ x k. has_pair places nodes x.place x.node (light.driven x.place x.weight (over.weighed x k)) (at_node (stands starts (over.met x k).1))) in
          let sum : sum_by (λ (x : WeighedAtNode P). x.weight) over.places ≤ most * length over.places = sum_bound (λ (x : WeighedAtNode P). x.weight) most over.places (λ x k. light.light x.place x.weight (over.weighed x k)) in
          let product : length (pairs places nodes) ≡ length places * length nodes = pairs_length places nodes in
          let bound : length over.places ≤ length places * suc (length latches) = subst (λ (n : ℕ). length over.places ≤ length places * n) (nodes_length class latches) (subst (λ (n : ℕ). length over.places ≤ n) product few) in
          let times : most * length over.places ≤ most * (length places * suc (length latches)) = mul-le-mul_left most bound in
          let total : cap < sum_by (λ (x : WeighedAtNode P). x.weight) over.places = over.total in
          omega (arith, sum, times, total)

-- so is the cone of a latch
pub light_cone : {P : Type 0} (c : Circuit P) (places : List P) (most : ℕ) → IsLightCircuit c places most → (next : P) (cap : ℕ) → IsConeOver c next cap → cap < most * length places
light_cone {P} c places most light next cap over =
    let few : length over.places ≤ length places = fewer_by (λ (x : Weighed P). x.place) over.places places over.distinct (λ x k. light.driven x.place x.weight (over.weighed x k).1) in
    let sum : sum_by (λ (x : Weighed P). x.weight) over.places ≤ most * length over.places = sum_bound (λ (x : Weighed P). x.weight) most over.places (λ x k. light.light x.place x.weight (over.weighed x k).1) in
    let times : most * length over.places ≤ most * length places = mul-le-mul_left most few in
    let total : cap < sum_by (λ (x : Weighed P). x.weight) over.places = over.total in
    omega (arith, sum, times, total)
