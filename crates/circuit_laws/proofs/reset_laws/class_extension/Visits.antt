-- What enables visit and reach looks at the classes of latches of lower rank alone.
use Rattle.std.proofs.Common.{◌≡◌, ◌∙◌, ℕ, ◌<◌, ◌≤◌, List, [], ◌∷◌, ◌++◌, sym, ap, subst, arith, Option, Some, None}
use Rattle.std.specs.Prelude.{◌↔◌}
use Rattle.std.specs.List.{Contains}
use Rattle.circuit_theory.specs.Circuit.{Circuit, IsLatch, Reaches}
use Rattle.circuit_theory.specs.Joined.{Either, Left, Right, joined}
use Rattle.circuit_theory.specs.Run.{IsEnabled}
use Rattle.circuit_laws.proofs.JoinedParts.{joined_same, joined_single}
use Rattle.circuit_theory.specs.EventSizes.{Start, IsOther, EventVisits}
use Rattle.circuit_theory.specs.EventTotals.{StartLatches}
use Rattle.circuit_theory.specs.Frame.{EventSide, ConeLatches, ConeOthers, ReachedAt, IsNode}
use Rattle.circuit_laws.proofs.event_laws.EventAgreement.{rank_falls}
use Rattle.circuit_laws.proofs.event_laws.OneClassMap.{rank_of}
use Rattle.circuit_laws.specs.reset_laws.class_extension.Sides.{IsEnableAmong}
use Rattle.circuit_laws.specs.reset_laws.class_extension.Laws.{IsNextGiven, UnfoldAlike, left_side, right_side, VisitsStay}
use Rattle.circuit_laws.proofs.reset_laws.class_extension.Keeping.{low_of}
use Rattle.circuit_laws.proofs.reset_laws.class_extension.Sides.{left_others, right_others}

module _ {P : Type 0} (c : Circuit P) (rank : P → ℕ) (falls : (u w : P) → ConeOthers c (IsEnabled c) u w → rank w < rank u) (o : List ℕ) (R : ℕ) (starts : List (Start P))
    (begins : (x : Start P) → Contains starts x → (name : List ℕ) × (u : P) × IsLatch c name u x.place × (x.left_out ≡ Some u) × (rank u ≤ R)) where
  abbrev S : (P → ℕ) → EventSide P
  S f = record { circuit = c; order = o; class = f }

  -- all latches in its cone but the one that is left out are of lower rank
  abbrev Low : Option P → P → Type 0
  Low out p = (v : P) → ConeLatches c p v → IsOther out v → rank v < R

  start_low : (x : Start P) → Contains starts x → Low x.left_out x.place
  start_low x h v cone other =
      let s = begins x h in
      let down = falls s.1 v (s.0, x.place, s.2, cone, λ en. subst (λ (out : Option P). IsOther out v) s.3 other) in
      omega (arith, down, s.4)

  module _ (f g : P → ℕ) (agrees : (name : List ℕ) (w next : P) → IsLatch c name w next → rank w < R → f w ≡ g w) where
    visit_to : {out : Option P} {q : P} {node : List ℕ} → EventVisits (S f) (IsEnabled c) starts out q node → EventVisits (S g) (IsEnabled c) starts out q node × Low out q
    visit_to (EventVisits.start {s = x} h) = (EventVisits.start h, start_low x h)
    visit_to (EventVisits.reads visit read) =
        let up = visit_to visit in
        (EventVisits.reads up.0 read, λ v cone other. up.1 v (cone.0, cone.1, cone.2, Reaches.there read cone.3) other)
    visit_to (EventVisits.plain {out = out} {q = q} {next = next} {node = node} {name = name} visit other latch off) =
        let up = visit_to visit in
        let here = up.1 q (name, next, latch, Reaches.here) other in (
          subst (λ (k : ℕ). EventVisits (S g) (IsEnabled c) starts None next (k ∷ node)) (sym (agrees name q next latch here)) (EventVisits.plain up.0 other latch off),
          λ v cone free. let down = falls q v (name, next, latch, cone, λ en. absurd (off en)) in omega (arith, down, here),
        )
    visit_to (EventVisits.held {out = out} {q = q} {next = next} {node = node} {name = name} visit other latch on) =
        let up = visit_to visit in
        let here = up.1 q (name, next, latch, Reaches.here) other in (
          subst (λ (k : ℕ). EventVisits (S g) (IsEnabled c) starts (Some q) next (k ∷ node)) (sym (agrees name q next latch here)) (EventVisits.held up.0 other latch on),
          λ v cone free. let down = falls q v (name, next, latch, cone, λ en. free) in omega (arith, down, here),
        )

    reached_to : (node : List ℕ) (v : P) → ReachedAt (S f) (IsEnabled c) (StartLatches (S f) starts) node v → ReachedAt (S g) (IsEnabled c) (StartLatches (S g) starts) node v × (rank v < R)
    reached_to [] v r = (r, start_low r.0 r.1 v r.2 r.3)
    reached_to (k ∷ node) v r =
        let up = reached_to node r.0 r.1 in
        let others = r.3 in
        let down = falls r.0 v others in
        ((r.0, up.0, sym (agrees others.0 r.0 others.1 others.2 up.1) ∙ r.2, others), omega (arith, down, up.1))

    latch_at : (node : List ℕ) (v : P) → ReachedAt (S f) (IsEnabled c) (StartLatches (S f) starts) node v → (name : List ℕ) × (next : P) × IsLatch c name v next
    latch_at [] v r = let cone = r.2 in (cone.0, cone.1, cone.2)
    latch_at (k ∷ node) v r = let cone = r.3.3 in (cone.0, cone.1, cone.2)

    node_to : (node : List ℕ) → IsNode (S f) (IsEnabled c) (StartLatches (S f) starts) node → IsNode (S g) (IsEnabled c) (StartLatches (S g) starts) node
    node_to [] h = tt
    node_to (k ∷ node) h =
        let up = reached_to node h.0 h.1 in
        let l = latch_at node h.0 h.1 in
        (h.0, up.0, sym (agrees l.0 h.0 l.1 l.2 up.1) ∙ h.2)

  module _ (f g : P → ℕ) (agrees : (name : List ℕ) (w next : P) → IsLatch c name w next → rank w < R → f w ≡ g w) where
    back : (name : List ℕ) (w next : P) → IsLatch c name w next → rank w < R → g w ≡ f w
    back name w next latch low = sym (agrees name w next latch low)

    pub visits_same : (out : Option P) (q : P) (node : List ℕ) → EventVisits (S f) (IsEnabled c) starts out q node ↔ EventVisits (S g) (IsEnabled c) starts out q node
    visits_same out q node = (λ v. (visit_to f g agrees v).0, λ v. (visit_to g f back v).0)

    pub nodes_same : (node : List ℕ) → IsNode (S f) (IsEnabled c) (StartLatches (S f) starts) node ↔ IsNode (S g) (IsEnabled c) (StartLatches (S g) starts) node
    nodes_same node = (node_to f g agrees node, node_to g f back node)

module _ (a b : Circuit ℕ) (m n : ℕ) (left right : List ℕ) (f g : Either ℕ ℕ → ℕ) (taken rest : List (Either ℕ ℕ)) (v : Either ℕ ℕ) (next : IsNextGiven a b m n left right f g taken rest v) (starts : List (Start ℕ)) where
  abbrev ranks : Either ℕ ℕ → ℕ
  ranks = rank_of (joined a b) (joined_single a b m n next.left_net next.right_net) joined_same next.depths (left ++ right)

  left_lower : (u w : ℕ) → ConeOthers a (IsEnabled a) u w → ranks (Left w) < ranks (Left u)
  left_lower u w others = rank_falls (joined a b) (joined_single a b m n next.left_net next.right_net) joined_same next.depths (Left u) (Left w) (left_others a b m n next.left_net next.right_net u w others)

  right_lower : (u w : ℕ) → ConeOthers b (IsEnabled b) u w → ranks (Right w) < ranks (Right u)
  right_lower u w others = rank_falls (joined a b) (joined_single a b m n next.left_net next.right_net) joined_same next.depths (Right u) (Right w) (right_others a b m n next.left_net next.right_net u w others)

  low : (u : Either ℕ ℕ) → Contains (taken ++ v ∷ []) u → ranks u ≤ ranks v
  low u h = low_of (joined a b) (joined_single a b m n next.left_net next.right_net) joined_same next.depths (left ++ right) f g taken rest v next.map next.others u h

  all_agree : (u : Either ℕ ℕ) → ranks u < ranks v → f u ≡ g u
  all_agree u below = next.others u (λ e. let q : ranks u ≡ ranks v = ap ranks e in omega (arith, q, below))

  left_alike : ((x : Start ℕ) → Contains starts x → IsEnableAmong a Left (taken ++ v ∷ []) x) → UnfoldAlike (left_side a left f) (left_side a left g) starts
  left_alike among = record {
    visits = visits_same a (λ p. ranks (Left p)) left_lower left (ranks v) starts (λ x h. let k = among x h in (k.0, k.1, k.2, k.3, low (Left k.1) k.4)) (λ p. f (Left p)) (λ p. g (Left p)) (λ name w to latch below. all_agree (Left w) below);
    nodes = nodes_same a (λ p. ranks (Left p)) left_lower left (ranks v) starts (λ x h. let k = among x h in (k.0, k.1, k.2, k.3, low (Left k.1) k.4)) (λ p. f (Left p)) (λ p. g (Left p)) (λ name w to latch below. all_agree (Left w) below);
  }

  right_alike : ((x : Start ℕ) → Contains starts x → IsEnableAmong b Right (taken ++ v ∷ []) x) → UnfoldAlike (right_side b right f) (right_side b right g) starts
  right_alike among = record {
    visits = visits_same b (λ q. ranks (Right q)) right_lower right (ranks v) starts (λ x h. let k = among x h in (k.0, k.1, k.2, k.3, low (Right k.1) k.4)) (λ q. f (Right q)) (λ q. g (Right q)) (λ name w to latch below. all_agree (Right w) below);
    nodes = nodes_same b (λ q. ranks (Right q)) right_lower right (ranks v) starts (λ x h. let k = among x h in (k.0, k.1, k.2, k.3, low (Right k.1) k.4)) (λ q. f (Right q)) (λ q. g (Right q)) (λ name w to latch below. all_agree (Right w) below);
  }

pub visits_stay_in_nets : VisitsStay
visits_stay_in_nets a b m n left right f g taken rest v next starts = (left_alike a b m n left right f g taken rest v next starts, right_alike a b m n left right f g taken rest v next starts)
