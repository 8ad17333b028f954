-- A place that reaches latches of class 0 alone is settled from its depth on, and the sequence of a frame gives it, in every run and in
-- the last cycle, the value of its tree in the frame.
use Rattle.std.proofs.Common.{◌≡◌, ◌≢◌, ℕ, zero, suc, ◌+◌, ◌-◌, ◌<◌, ◌≤◌, max, Bool, true, false, cond, List, [], ◌∷◌, ◌++◌, length, refl, sym, ◌∙◌, ap, subst, arith, inl, inr, None}
use Rattle.std.specs.Prelude.{◌⊎◌, ◌==◌}
use Rattle.std.specs.List.{Contains}
use Rattle.circuit_theory.specs.Circuit.{Circuit, Named, IsLatch, InCone, Reads, Reaches}
use Rattle.circuit_theory.specs.Run.{IsRun, IsEnabled, Loads, IsDetermined, Marked}
use Rattle.circuit_theory.specs.Tree.{Tree, tree_value, StandsBeside, IsInputNumber, AreNumbered}
use Rattle.circuit_theory.specs.Net.{IsNet}
use Rattle.circuit_theory.specs.Depth.{IsDepth, LatchesHaveDepths}
use Rattle.circuit_theory.specs.Sequence.{sequence_rows, row_value, TakesInputs}
use Rattle.circuit_theory.specs.Frame.{EventSide, EventUnfolds, EventUnfoldsAll, ConeLatches, ConeOthers, ReachedAt, EventCycle, IsNumberedRun, IsNode, IsFilled, always_node, bits_as_shifts}
use Rattle.circuit_theory.specs.Joined.{Either, Left, Right, joined, beside}
use Rattle.circuit_theory.specs.Classes.{HasClasses}
use Rattle.circuit_theory.specs.EventFits.{side_by_side, ReachesAlways}
use Rattle.circuit_laws.specs.event_laws.Laws.{EventWitnessMakesDiffer}
use Rattle.circuit_theory.proofs.Lists.{Contains-head, Contains-tail, Contains-cases}
use Rattle.circuit_theory.proofs.Inputs.{beside_is_input, test_same, test_refl}
use Rattle.circuit_theory.proofs.Numbers.{one_number}
use Rattle.circuit_laws.proofs.Finite.{bits_same}
use Rattle.circuit_laws.proofs.NetLaws.{net_run, net_run-runs, net_run-inputs}
use Rattle.circuit_laws.proofs.Windows.{row_value-is, rows_length}
use Rattle.circuit_laws.proofs.Joined.{run_joined}
use Rattle.circuit_laws.proofs.JoinedParts.{joined_same, joined_single, joined_determined, joined_number}
use Rattle.circuit_laws.proofs.event_laws.EventAgreement.{rank, rank_one, rank_within, falls, kind, known, loads_always}
use Rattle.circuit_laws.proofs.event_laws.SettledEvents.{settled_has_events_in_nets}

module _ {P : Type 0} (side : EventSide P) (n : ℕ) (run : ℕ → P → Bool) (kind_is : (v : P) → IsEnabled side.circuit v ⊎ (IsEnabled side.circuit v → ⊥))
    (det : (name : List ℕ) (u next : P) → IsLatch side.circuit name u next → IsDetermined side.circuit next)
    (loads : (name : List ℕ) (u next : P) (t : ℕ) → t < n → IsLatch side.circuit name u next → IsEnabled side.circuit u → side.class u ≡ 0 →
    ((w : P) → InCone side.circuit next w → w ≢ u → Marked side.circuit (IsEnabled side.circuit) run t w) → Loads side.circuit (run t) u next)
    (rank : P → ℕ) (rank_down : (u w : P) → ConeOthers side.circuit (IsEnabled side.circuit) u w → rank w < rank u)
    (rank_low : (name : List ℕ) (u next : P) → IsLatch side.circuit name u next → 1 ≤ rank u) where
  abbrev M : ℕ → P → Type 0
  M t p = Marked side.circuit (IsEnabled side.circuit) run t p

  -- what reads settled latches alone is settled
  marked_by_cone : (t : ℕ) {p : P} → IsDetermined side.circuit p → ((w : P) → ConeLatches side.circuit p w → M t w) → M t p
  marked_by_cone t {p} (IsDetermined.source (inl i)) cone = Marked.input i
  marked_by_cone t {p} (IsDetermined.source (inr l)) cone = cone p (l.0, l.1, l.2, Reaches.here)
  marked_by_cone t (IsDetermined.gate eq each) cone = Marked.gate eq (λ q h. marked_by_cone t (each q h) (λ w k. cone w (k.0, k.1, k.2, Reaches.there (Reads.by_gate eq h) k.3)))
  marked_by_cone t (IsDetermined.port eq rest) cone = Marked.port eq (marked_by_cone t rest (λ w k. cone w (k.0, k.1, k.2, Reaches.there (Reads.by_port eq) k.3)))

  mutual
    unfolds_marked : (t : ℕ) {p : P} {node : List ℕ} {tree : Tree (List ℕ)} → EventUnfolds side (IsEnabled side.circuit) None p node tree → ((w : P) → ConeLatches side.circuit p w → M t w) → M t p
    unfolds_marked t (EventUnfolds.input {p = p} {i = i} h) cone = Marked.input (beside_is_input side.circuit.inputs side.order p i h)
    unfolds_marked t (EventUnfolds.gate eq each) cone = Marked.gate eq (λ q h. all_marked t each (λ r m w k. cone w (k.0, k.1, k.2, Reaches.there (Reads.by_gate eq m) k.3)) q h)
    unfolds_marked t (EventUnfolds.port eq rest) cone = Marked.port eq (unfolds_marked t rest (λ w k. cone w (k.0, k.1, k.2, Reaches.there (Reads.by_port eq) k.3)))
    unfolds_marked t (EventUnfolds.plain {name = name} {u = u} {next = next} latch free off rest) cone = cone u (name, next, latch, Reaches.here)
    unfolds_marked t (EventUnfolds.held {name = name} {u = u} {next = next} latch free on rest) cone = cone u (name, next, latch, Reaches.here)

    all_marked : (t : ℕ) {ps : List P} {node : List ℕ} {trees : _} → EventUnfoldsAll side (IsEnabled side.circuit) None ps node trees → ((q : P) → Contains ps q → (w : P) → ConeLatches side.circuit q w → M t w) →
        (q : P) → Contains ps q → M t q
    all_marked t EventUnfoldsAll.none cone q h = absurd (omega (arith, h.1))
    all_marked t (EventUnfoldsAll.more {p = p} {ps = ps} one rest) cone q h = pick (Contains-cases p q ps h) (unfolds_marked t one (cone p (Contains-head p ps))) (λ k. all_marked t rest (λ r m. cone r (Contains-tail p r ps m)) q k)
      where
        pick : (p ≡ q) ⊎ Contains ps q → M t p → (Contains ps q → M t q) → M t q
        pick (inl e) mark later = subst (M t) e mark
        pick (inr k) mark later = later k

  module _ (p : P) (only : ReachesAlways side p) where
    latch_settled : (R : ℕ) (node : List ℕ) (u : P) → ReachedAt side (IsEnabled side.circuit) (ConeLatches side.circuit p) node u → ((name : List ℕ) × (next : P) × IsLatch side.circuit name u next) →
        rank u ≤ R → (t : ℕ) → rank u ≤ t → t < n → M t u
    latch_settled zero node u reached l low t le h = absurd (let one = rank_low l.0 u l.1 l.2 in omega arith)
    latch_settled (suc R) node u reached l low zero le h = absurd (let one = rank_low l.0 u l.1 l.2 in omega arith)
    latch_settled (suc R) node u reached l low (suc t) le h =
        go (kind_is u) (λ w o. let down = rank_down u w o in let cone = o.3 in
        latch_settled R (side.class u ∷ node) w (u, reached, refl, o) (cone.0, cone.1, cone.2) (omega (arith, down, low)) t (omega (arith, down, le)) (omega arith))
      where
        go : IsEnabled side.circuit u ⊎ (IsEnabled side.circuit u → ⊥) → ((w : P) → ConeOthers side.circuit (IsEnabled side.circuit) u w → M t w) → M (suc t) u
        go (inr off) others = Marked.plain l.2 off (marked_by_cone t (det l.0 u l.1 l.2) (λ w cone. others w (l.0, l.1, l.2, cone, λ en. absurd (off en))))
        go (inl on) others = Marked.loads l.2 on each (loads l.0 u l.1 t (omega arith) l.2 on (only node u reached) each)
          where
            each : (w : P) → InCone side.circuit l.1 w → w ≢ u → M t w
            each w (inl i, reaches) ne = Marked.input i
            each w (inr k, reaches) ne = others w (l.0, l.1, l.2, (k.0, k.1, k.2, reaches), λ en. ne)

    -- it is settled from its depth on
    pub always_settled : (d : ℕ) → ((u : P) → ConeLatches side.circuit p u → rank u ≤ d) → (tree : Tree (List ℕ)) → EventUnfolds side (IsEnabled side.circuit) None p [] tree → (t : ℕ) → d ≤ t → t < n → M t p
    always_settled d within tree unfolds t le h =
        unfolds_marked t unfolds (λ w cone. let low = within w cone in latch_settled (rank w) [] w cone (cone.0, cone.1, cone.2) (omega arith) t (omega (arith, low, le)) h)

module _ {P : Type 0} (side : EventSide P) (n : ℕ) (run : ℕ → P → Bool) where
  module _ (p : P) (only : ReachesAlways side p) where
    -- a node that is reached is so many steps of class 0
    always_is : (node : List ℕ) → IsNode side (IsEnabled side.circuit) (ConeLatches side.circuit p) node → node ≡ always_node (length node)
    always_is [] i = refl
    always_is (k ∷ node) i =
        let zero_class : 0 ≡ k = sym (only node i.0 i.1) ∙ i.2 in
        let rest = always_is node (above node i.0 i.1) in
        λ x. sym zero_class x ∷ rest x
      where
        above : (node : List ℕ) (u : P) → ReachedAt side (IsEnabled side.circuit) (ConeLatches side.circuit p) node u → IsNode side (IsEnabled side.circuit) (ConeLatches side.circuit p) node
        above [] u r = tt
        above (j ∷ node) u r = (r.0, r.1, r.2)

  -- and its cycle is as many before
  cycle_is : (start : P → Type 0) (t k cycle : ℕ) → EventCycle side (IsEnabled side.circuit) start run t (always_node k) cycle → cycle + k ≡ t
  cycle_is start t zero cycle e = omega (arith, e)
  cycle_is start t (suc k) cycle e = let up = cycle_is start t k (cycle + 1) e in omega (arith, up)

-- the number of an input, or 0
abbrev number_of : List (Named ℕ) → List ℕ → ℕ → ℕ
number_of [] order q = 0
number_of (m ∷ inputs) [] q = 0
number_of (m ∷ inputs) (j ∷ order) q = cond (m.place == q) j (number_of inputs order q)

number_found : (inputs : List (Named ℕ)) (order : List ℕ) (q i : ℕ) → StandsBeside inputs order q i → StandsBeside inputs order q (number_of inputs order q)
number_found [] order q i h = absurd h
number_found (m ∷ inputs) [] q i h = absurd h
number_found (m ∷ inputs) (j ∷ order) q i h = go (m.place == q) refl h (λ k. number_found inputs order q i k)
  where
    go : (b : Bool) → (m.place == q) ≡ b → ((m.place ≡ q) × (j ≡ i)) ⊎ StandsBeside inputs order q i → (StandsBeside inputs order q i → StandsBeside inputs order q (number_of inputs order q)) →
        StandsBeside (m ∷ inputs) (j ∷ order) q (number_of (m ∷ inputs) (j ∷ order) q)
    go true e k later = inl (test_same m.place q e, sym (ap (λ b. cond b j (number_of inputs order q)) e))
    go false e (inl x) later = absurd (let z : (m.place == q) ≡ true = subst (λ y. (m.place == y) ≡ true) x.0 (test_refl m.place) in cc)
    go false e (inr k) later = subst (StandsBeside (m ∷ inputs) (j ∷ order) q) (sym (ap (λ b. cond b j (number_of inputs order q)) e)) (inr (later k))

-- a net has a run over a stimulus
stimulus_run : (c : Circuit ℕ) (size : ℕ) → IsNet c size → (order : List ℕ) (stimulus : ℕ → ℕ → Bool) (n : ℕ) → (run : ℕ → ℕ → Bool) × IsRun c n run × TakesInputs c order stimulus n run
stimulus_run c size net order stimulus n = (
  net_run c (λ p. false) (λ t p. stimulus (number_of c.inputs order p) t),
  net_run-runs c size net (λ p. false) (λ t p. stimulus (number_of c.inputs order p) t) n,
  λ t p i h k.
      net_run-inputs c size net (λ p. false) (λ t p. stimulus (number_of c.inputs order p) t) t p (beside_is_input c.inputs order p i k)
      ∙ ap (λ j. stimulus j t) (one_number c.inputs order net.inputs p (number_of c.inputs order p) i (number_found c.inputs order p i k) k),
)

shorter_run : {P : Type 0} (c : Circuit P) (n m : ℕ) (run : ℕ → P → Bool) → m ≤ n → IsRun c n run → IsRun c m run
shorter_run c n m run le is_run = record { meets = λ t h. is_run.meets t (omega arith); carries = λ t h. is_run.carries t (omega arith) }

module _ (a b : Circuit ℕ) (m n : ℕ) (left right : List ℕ) (class : Either ℕ ℕ → ℕ) (na : IsNet a m) (nb : IsNet b n) (numbered : AreNumbered a b left right)
    (left_long : length left ≡ length a.inputs) (right_long : length right ≡ length b.inputs) (classes : HasClasses (side_by_side a b left right class))
    (depths : LatchesHaveDepths (joined a b) (IsEnabled (joined a b))) where
  abbrev side_ : EventSide (Either ℕ ℕ)
  side_ = side_by_side a b left right class

  abbrev whole_ : Circuit (Either ℕ ℕ)
  whole_ = joined a b

  module _ (last count : ℕ) (bits : ℕ → List ℕ → Bool) (above : (i k : ℕ) → count ≤ i → bits_as_shifts bits i k ≡ false) (l r : ℕ → ℕ → Bool)
      (is_l : IsRun a (last + 1) l) (is_r : IsRun b (last + 1) r)
      (takes_l : TakesInputs a left (row_value (sequence_rows last (bits_as_shifts bits) count)) (last + 1) l)
      (takes_r : TakesInputs b right (row_value (sequence_rows last (bits_as_shifts bits) count)) (last + 1) r) where
    abbrev run : ℕ → Either ℕ ℕ → Bool
    run t = beside (l t) (r t)

    value_at : (t : ℕ) (x : Either ℕ ℕ) (i : ℕ) → t < last + 1 → IsInputNumber whole_ (left ++ right) x i → run t x ≡ row_value (sequence_rows last (bits_as_shifts bits) count) i t
    value_at t x i h number = go (joined_number a b left right left_long x i number)
      where
        go : ((p : ℕ) × (Left p ≡ x) × IsInputNumber a left p i) ⊎ ((q : ℕ) × (Right q ≡ x) × IsInputNumber b right q i) → run t x ≡ row_value (sequence_rows last (bits_as_shifts bits) count) i t
        go (inl p) = sym (ap (run t) p.1) ∙ takes_l t p.0 i h p.2
        go (inr q) = sym (ap (run t) q.1) ∙ takes_r t q.0 i h q.2

    shared : IsNumberedRun side_ (last + 1) run
    shared = record { is_run = run_joined a b (last + 1) l r is_l is_r; inputs = λ t x y i h kx ky. value_at t x i h kx ∙ sym (value_at t y i h ky) }

    -- in the last cycle the place has its tree's value in the frame
    pub event_window : (p : Either ℕ ℕ) (d : ℕ) (tree : Tree (List ℕ)) → IsDepth whole_ (IsEnabled whole_) p d → d ≤ last → ReachesAlways side_ p → EventUnfolds side_ (IsEnabled whole_) None p [] tree →
        run last p ≡ tree_value bits tree
    event_window p d tree depth deep only unfolds =
        bits_same (run last p) (tree_value bits tree) (known a b m n left right class na nb numbered left_long right_long classes depths (last + 1) run shared (λ kinds facts.
        sym ((settled_has_events_in_nets a b m n left right class na nb numbered left_long right_long classes depths (last + 1) run shared last p (omega arith)
        (always_settled side_ (last + 1) run (kind a b m n left right class na nb numbered left_long right_long classes depths (last + 1) run shared kinds facts) (joined_determined a b m n na nb)
        (loads_always a b m n left right class na nb numbered left_long right_long classes depths (last + 1) run shared kinds facts)
        (rank whole_ (joined_single a b m n na nb) joined_same depths) (falls a b m n left right class na nb numbered left_long right_long classes depths) (rank_one whole_ (joined_single a b m n na nb) joined_same depths)
        p only d (rank_within whole_ (joined_single a b m n na nb) joined_same depths p d depth) tree unfolds last deep (omega arith))).value bits tree filled unfolds)))
      where
        filled : IsFilled side_ (IsEnabled whole_) (ConeLatches whole_ p) run last bits
        filled node cycle x i here is number =
            let k : ℕ = length node in
            let shape : node ≡ always_node k = always_is side_ (last + 1) run p only node here in
            let back : cycle + k ≡ last = cycle_is side_ (last + 1) run (ConeLatches whole_ p) last k cycle (subst (λ o. EventCycle side_ (IsEnabled whole_) (ConeLatches whole_ p) run last o cycle) shape is) in
            let now : cycle ≡ last - k = omega (arith, back) in
            ap (bits i) shape
            ∙ (sym (row_value-is last (bits_as_shifts bits) count i k (omega (arith, back)) (above i k))
            ∙ (ap (row_value (sequence_rows last (bits_as_shifts bits) count) i) (sym now) ∙ sym (value_at cycle x i (omega (arith, back)) number)))

pub event_witness_makes_differ_in_nets : EventWitnessMakesDiffer
event_witness_makes_differ_in_nets a b m n left right class na nb numbered left_long right_long classes depths p q count rows last l r w = record {
  cycles = ap length w.rows_are ∙ (rows_length last (bits_as_shifts w.bits) count 0 (suc last) ∙ (let e : suc last ≡ last + 1 = omega arith in e));
  left_is = λ size run is_run h takes.
      let other = stimulus_run b n nb right (row_value (sequence_rows last (bits_as_shifts w.bits) count)) (last + 1) in
      event_window a b m n left right class na nb numbered left_long right_long classes depths last count w.bits w.above run other.0 (shorter_run a size (last + 1) run (omega arith) is_run) other.1
      (subst (λ (rs : List (List Bool)). TakesInputs a left (row_value rs) (last + 1) run) w.rows_are takes) other.2 (Left p) w.left_depth w.left_tree w.left_is (deep_left w.left_depth w.right_depth last w.last_is) w.left_always w.left_unfolds
      ∙ sym w.left_value;
  right_is = λ size run is_run h takes.
      let other = stimulus_run a m na left (row_value (sequence_rows last (bits_as_shifts w.bits) count)) (last + 1) in
      event_window a b m n left right class na nb numbered left_long right_long classes depths last count w.bits w.above other.0 run other.1 (shorter_run b size (last + 1) run (omega arith) is_run) other.2
      (subst (λ (rs : List (List Bool)). TakesInputs b right (row_value rs) (last + 1) run) w.rows_are takes) (Right q) w.right_depth w.right_tree w.right_is (deep_right w.left_depth w.right_depth last w.last_is) w.right_always w.right_unfolds
      ∙ sym w.right_value;
  differ = w.differ;
}
  where
    deep_left : (d e m : ℕ) → m ≡ max d e → d ≤ m
    deep_left d e m h = omega (arith, h)

    deep_right : (d e m : ℕ) → m ≡ max d e → e ≤ m
    deep_right d e m h = omega (arith, h)
