-- Latches of one class load together, once both are settled.
use Rattle.std.proofs.Common.{◌≡◌, ◌≢◌, ℕ, zero, suc, ◌+◌, ◌-◌, ◌<◌, ◌≤◌, Bool, true, false, List, [], ◌∷◌, refl, sym, ◌∙◌, ap, subst, arith, inl, inr, Option, Some, None}
use Rattle.std.specs.Prelude.{◌⊎◌, ◌||◌, not}
use Rattle.circuit_theory.specs.Circuit.{Equation, Gate, Latch, Port, IsLatch, IsSingleDriven, InCone, Reaches}
use Rattle.circuit_theory.specs.Run.{IsRun, IsEnabled, ExtendsWith, Loads, CanPut, IsDetermined, Marked}
use Rattle.circuit_theory.specs.Tree.{Tree, tree_value, IsInputNumber}
use Rattle.circuit_theory.specs.Frame.{EventSide, EventUnfolds, ConeLatches, ConeOthers, ReachedAt, IsEnable, HasCare, IsLastLoad}
use Rattle.circuit_theory.specs.Classes.{EnableCare, EnableAtRoot, EnablesEqual, AlwaysEnabled}
use Rattle.circuit_laws.proofs.Marks.{marks_stay, mark_says, marks_down, MarkSays}
use Rattle.circuit_laws.proofs.event_laws.Events.{AreEvents, from_put, event_tree_is_run, events_have_care}
use Rattle.circuit_laws.proofs.Loads.{put_unique}

-- One circuit (two side by side) with its classes, and one run of it.
module _ {P : Type 0} (side : EventSide P) (same : (p q : P) → (p ≡ q) ⊎ (p ≢ q)) (single : IsSingleDriven side.circuit) (can_put : CanPut side.circuit)
    (det : (name : List ℕ) (u next : P) → IsLatch side.circuit name u next → IsDetermined side.circuit next)
    (rises : (name : List ℕ) (u next : P) → IsLatch side.circuit name u next → IsEnabled side.circuit u →
    (x low high : P → Bool) → ExtendsWith side.circuit u false x low → ExtendsWith side.circuit u true x high → low next ≡ true → high next ≡ true)
    (kind : (v : P) → IsEnabled side.circuit v ⊎ (IsEnabled side.circuit v → ⊥))
    (plain_zero : (name : List ℕ) (u next : P) → IsLatch side.circuit name u next → (IsEnabled side.circuit u → ⊥) → side.class u ≡ 0)
    (equal : (u v : P) (k : ℕ) → IsEnabled side.circuit u → IsEnabled side.circuit v → side.class u ≡ suc k → side.class v ≡ suc k → EnablesEqual side u v)
    (always : (u : P) → IsEnabled side.circuit u → side.class u ≡ 0 → AlwaysEnabled side u)
    (rank : P → ℕ) (rank_down : (u w : P) → ConeOthers side.circuit (IsEnabled side.circuit) u w → rank w < rank u)
    (trees : (name : List ℕ) (v next : P) (bit : Bool) (node : List ℕ) → IsLatch side.circuit name v next → IsEnabled side.circuit v →
    (tree : Tree (List ℕ)) × EventUnfolds side (IsEnabled side.circuit) (Some (v, bit)) next node tree)
    (n : ℕ) (run : ℕ → P → Bool) (is_run : IsRun side.circuit n run)
    (x : ℕ → ℕ → Bool) (inputs : (t : ℕ) (p : P) (i : ℕ) → t < n → IsInputNumber side.circuit side.order p i → x i t ≡ run t p) where
  abbrev pub OthersMarked : P → P → ℕ → Type 0
  OthersMarked u next t = (w : P) → InCone side.circuit next w → w ≢ u → Marked side.circuit (IsEnabled side.circuit) run t w

  -- an enabled latch of the class, of a rank below R, loads, and the others of its cone are marked
  pub record Qualifies (R k t : ℕ) : Type 0 where
    pub in_run : t < n
    pub name : List ℕ
    pub u : P
    pub next : P
    pub latch : IsLatch side.circuit name u next
    pub enabled : IsEnabled side.circuit u
    pub class_is : side.class u ≡ k
    pub low_rank : rank u < R
    pub others : OthersMarked u next t
    pub loads : Loads side.circuit (run t) u next

  module _ (decide : (R k t : ℕ) → Qualifies R k t ⊎ (Qualifies R k t → ⊥)) where
    abbrev choose : {A B : Type 0} → A ⊎ B → ℕ → ℕ → ℕ
    choose (inl a) m n = m
    choose (inr b) m n = n

    -- the last cycle before t in which the class loads
    pub event : ℕ → ℕ → ℕ → ℕ
    event R zero t = t - 1
    event R (suc k) zero = 0
    event R (suc k) (suc t) = choose (decide R (suc k) t) t (event R (suc k) t)

    pub event-zero : (R t : ℕ) → event R zero t ≡ t - 1
    unfolding event
    event-zero R t = refl

    pub event-le : (R k t : ℕ) → event R k t ≤ t
    unfolding event
    event-le R zero t = omega arith
    event-le R (suc k) zero = omega arith
    event-le R (suc k) (suc t) = go (event-le R (suc k) t) (decide R (suc k) t)
      where
        go : event R (suc k) t ≤ t → (d : Qualifies R (suc k) t ⊎ (Qualifies R (suc k) t → ⊥)) → choose d t (event R (suc k) t) ≤ suc t
        go ih (inl q) = omega arith
        go ih (inr q) = omega (arith, ih)

    pub record IsLastOf (R k t e : ℕ) : Type 0 where
      pub earlier : e < t
      pub qualifies : Qualifies R k e
      pub none_since : (s : ℕ) → e < s → s < t → Qualifies R k s → ⊥

    pub event-last : (R k t s : ℕ) → s < t → Qualifies R (suc k) s → IsLastOf R (suc k) t (event R (suc k) t)
    unfolding event
    event-last R k zero s h q = absurd (omega arith)
    event-last R k (suc t) s h q = go (λ l. event-last R k t s l q) (decide R (suc k) t)
      where
        Last : ℕ → Type 0
        Last e = IsLastOf R (suc k) (suc t) e

        split : (m : ℕ) → m < suc t → (m < t) ⊎ (m ≡ t)
        split m h = grind arith

        go : (s < t → IsLastOf R (suc k) t (event R (suc k) t)) → (d : Qualifies R (suc k) t ⊎ (Qualifies R (suc k) t → ⊥)) → Last (choose d t (event R (suc k) t))
        go ih (inl now) = record { earlier = omega arith; qualifies = now; none_since = λ m a b q'. absurd (omega arith) }
        go ih (inr none) = found (split s h)
          where
            found : (s < t) ⊎ (s ≡ t) → Last (event R (suc k) t)
            found (inr e) = absurd (none (subst (Qualifies R (suc k)) e q))
            found (inl l) =
                let r = ih l in
                record { earlier = omega (arith, r.earlier); qualifies = r.qualifies; none_since = λ m a b q'. last_step m (split m b) a q' }
              where
                last_step : (m : ℕ) → (m < t) ⊎ (m ≡ t) → event R (suc k) t < m → Qualifies R (suc k) m → ⊥
                last_step m (inl b) a q' = (ih l).none_since m a b q'
                last_step m (inr e) a q' = none (subst (Qualifies R (suc k)) e q')

    -- the cycle of a node, and the frame of the inputs there
    pub at : ℕ → ℕ → List ℕ → ℕ
    at R t [] = t
    at R t (k ∷ node) = event R k (at R t node)

    pub bits : ℕ → ℕ → ℕ → List ℕ → Bool
    bits R t i node = x i (at R t node)

    pub at-le : (R t : ℕ) (node : List ℕ) → at R t node ≤ t
    unfolding at
    at-le R t [] = omega arith
    at-le R t (k ∷ node) = let a = event-le R k (at R t node) in let b = at-le R t node in omega arith

    -- each enabled latch of a rank below R that is settled has its last load where its class has it
    pub Good : ℕ → Type 0
    Good R = (name : List ℕ) (v next : P) (t : ℕ) → IsLatch side.circuit name v next → rank v < R → t < n → Marked side.circuit (IsEnabled side.circuit) run t v → IsEnabled side.circuit v →
        IsLastLoad side.circuit run v next t (event R (side.class v) t)

    -- what is reached from settled latches is settled at its event
    pub reached_marked : (R t : ℕ) → Good R → t < n → (start : P → Type 0) →
        ((w : P) → start w → ((name : List ℕ) × (next : P) × IsLatch side.circuit name w next) × (rank w < R) × Marked side.circuit (IsEnabled side.circuit) run t w) →
        (node : List ℕ) (w : P) → ReachedAt side (IsEnabled side.circuit) start node w →
        ((name : List ℕ) × (next : P) × IsLatch side.circuit name w next) × (rank w < R) × Marked side.circuit (IsEnabled side.circuit) run (at R t node) w
    unfolding Good at event
    reached_marked R t good h start first [] w reached = first w reached
    reached_marked R t good h start first (k ∷ node) w reached =
        let u = reached.0 in
        let above = reached_marked R t good h start first node u reached.1 in
        let others = reached.3 in
        let cone = others.3 in
        let low = rank_down u w others in
        ((cone.0, cone.1, cone.2), (omega (arith, above.1, low)), go (kind u) (mark_says side.circuit (IsEnabled side.circuit) run single above.2 (Latch others.0 u others.1) others.2 refl) above)
      where
        go : (IsEnabled side.circuit reached.0 ⊎ (IsEnabled side.circuit reached.0 → ⊥)) →
            MarkSays side.circuit (IsEnabled side.circuit) run single (at R t node) (Latch reached.3.0 reached.0 reached.3.1) →
            (((name : List ℕ) × (next : P) × IsLatch side.circuit name reached.0 next) × (rank reached.0 < R) × Marked side.circuit (IsEnabled side.circuit) run (at R t node) reached.0) →
            Marked side.circuit (IsEnabled side.circuit) run (event R k (at R t node)) w
        go (inr no_enable) (inl plain) above =
            let k_zero : k ≡ 0 = sym reached.2 ∙ plain_zero above.0.0 reached.0 above.0.1 above.0.2 no_enable in
            let back : event R k (at R t node) ≡ at R t node - 1 = ap (λ m. event R m (at R t node)) k_zero in
            let here : event R k (at R t node) ≡ plain.1.0 = omega (arith, back, plain.1.1) in
            subst (λ m. Marked side.circuit (IsEnabled side.circuit) run m w) (sym here) (marks_down side.circuit (IsEnabled side.circuit) run single reached.3.3.3 plain.1.0 plain.1.2)
        go (inr no_enable) (inr held) above = absurd (no_enable held.0)
        go (inl en) (inl plain) above = absurd (plain.0 en)
        go (inl en) (inr held) above =
            let in_run : at R t node < n = omega (arith, at-le R t node) in
            let last = good reached.3.0 reached.0 reached.3.1 (at R t node) reached.3.2 above.1 in_run above.2 en in
            let cycle = event R (side.class reached.0) (at R t node) in
            let same_event : cycle ≡ event R k (at R t node) = ap (λ m. event R m (at R t node)) reached.2 in
            let at_load : Marked side.circuit (IsEnabled side.circuit) run held.1.0 w = held.1.3 w (inr (reached.3.3.0, reached.3.3.1, reached.3.3.2), reached.3.3.3) (reached.3.4 en) in
            subst (λ m. Marked side.circuit (IsEnabled side.circuit) run m w) same_event (later held.1.0 cycle at_load (not_before cycle held.1.0 (λ l. last.not_since held.1.0 l held.1.1 held.1.2)))
          where
            not_before : (e s : ℕ) → (e < s → ⊥) → s ≤ e
            not_before e s h = grind arith

            later : (s e : ℕ) → Marked side.circuit (IsEnabled side.circuit) run s w → s ≤ e → Marked side.circuit (IsEnabled side.circuit) run e w
            later s e m le = subst (λ q. Marked side.circuit (IsEnabled side.circuit) run q w) (let z : s + (e - s) ≡ e = omega arith in z) (marks_stay side.circuit (IsEnabled side.circuit) run s (e - s) m)

    pub StartsSettled : ℕ → ℕ → (P → Type 0) → Type 0
    StartsSettled R t start = (w : P) → start w → ((name : List ℕ) × (next : P) × IsLatch side.circuit name w next) × (rank w < R) × Marked side.circuit (IsEnabled side.circuit) run t w

    -- the cycles of the nodes are events, and the frame is that of their inputs
    pub frame_events : (R t : ℕ) → Good R → t < n → (start : P → Type 0) → StartsSettled R t start → AreEvents side (IsEnabled side.circuit) start n run (at R t) (bits R t)
    unfolding StartsSettled Good at bits event
    frame_events R t good h start first = record {
      in_range = λ node. omega (arith, at-le R t node);
      plain = λ node name v next reached latch no_enable. plain_step node name v next latch no_enable
          (mark_says side.circuit (IsEnabled side.circuit) run single (reached_marked R t good h start first node v reached).2 (Latch name v next) latch refl);
      held = λ node name v next reached latch en.
          let m = reached_marked R t good h start first node v reached in
          good name v next (at R t node) latch m.1 (omega (arith, at-le R t node)) m.2 en;
      bits_are = λ node p i k. inputs (at R t node) p i (omega (arith, at-le R t node)) k;
    }
      where
        plain_step : (node : List ℕ) (name : List ℕ) (v next : P) → IsLatch side.circuit name v next → (IsEnabled side.circuit v → ⊥) →
            MarkSays side.circuit (IsEnabled side.circuit) run single (at R t node) (Latch name v next) → at R t node ≡ event R (side.class v) (at R t node) + 1
        plain_step node name v next latch no_enable (inl plain) =
            let zero_class : event R (side.class v) (at R t node) ≡ at R t node - 1 = ap (λ m. event R m (at R t node)) (plain_zero name v next latch no_enable) in
            omega (arith, zero_class, plain.1.1)
        plain_step node name v next latch no_enable (inr held) = absurd (no_enable held.0)

    -- an enable in the frame of a cycle in which the others of its cone are settled
    pub record EnableThere (R t : ℕ) (v next : P) : Type 0 where
      pub bit : Bool
      pub care : EnableCare side (bits R t) v
      pub at_root : EnableAtRoot side (bits R t) v bit
      pub then_loads : bit ≡ true → Loads side.circuit (run t) v next
      pub if_loads : Loads side.circuit (run t) v next → bit ≡ true

    pub enable_there : (R t : ℕ) → Good R → t < n → (name : List ℕ) (v next : P) → IsLatch side.circuit name v next → IsEnabled side.circuit v → rank v ≤ R → OthersMarked v next t → EnableThere R t v next
    unfolding StartsSettled at
    enable_there R t good h name v next latch en low others = record {
      bit = tree_value (bits R t) low_tree.0 || not (tree_value (bits R t) high_tree.0);
      care = events_have_care side same single can_put det rises n run is_run start (at R t) (bits R t) events kind (λ w k. (first w k).0)
          (λ node name v next bit reached latch en. trees name v next bit (side.class v ∷ node) latch en);
      at_root = IsEnable.own en latch low_tree.1 high_tree.1 refl;
      then_loads = λ e. record {
        low = l.0;
        high = r.0;
        low_is = l.1;
        high_is = r.1;
        same = or_same (l.0 next) (r.0 next) (rises name v next latch en (run t) l.0 r.0 l.1 r.1) (sym (ap2 low_value high_value) ∙ e);
      };
      if_loads = λ loads. ap2 low_value high_value ∙ or_not (l.0 next) (r.0 next)
          (put_unique side.circuit same v false (run t) l.0 loads.low l.1 loads.low_is (det name v next latch) ∙ (loads.same ∙ put_unique side.circuit same v true (run t) loads.high r.0 loads.high_is r.1 (det name v next latch)));
    }
      where
        start : P → Type 0
        start w = ConeOthers side.circuit (IsEnabled side.circuit) v w

        first : StartsSettled R t (λ w. ConeOthers side.circuit (IsEnabled side.circuit) v w)
        first w k =
            let cone = k.3 in
            let one : Latch k.0 v k.1 ≡ Latch name v next = single.one (Latch k.0 v k.1) (Latch name v next) k.2 latch refl in
            let next_is : k.1 ≡ next = ap next_of one in
            ((cone.0, cone.1, cone.2), omega (arith, rank_down v w k), others w (inr (cone.0, cone.1, cone.2), subst (λ (q : P). Reaches side.circuit q w) next_is cone.3) (k.4 en))
          where
            next_of : Equation P → P
            next_of (Gate out fanins cover) = out
            next_of (Latch m out to) = to
            next_of (Port out from) = out

        events : AreEvents side (IsEnabled side.circuit) (λ w. ConeOthers side.circuit (IsEnabled side.circuit) v w) n run (at R t) (bits R t)
        events = frame_events R t good h (λ w. ConeOthers side.circuit (IsEnabled side.circuit) v w) first

        l : (y : P → Bool) × ExtendsWith side.circuit v false (run t) y
        l = can_put (run t) name v next false latch (is_run.meets t h)

        r : (y : P → Bool) × ExtendsWith side.circuit v true (run t) y
        r = can_put (run t) name v next true latch (is_run.meets t h)

        low_tree : (tree : Tree (List ℕ)) × EventUnfolds side (IsEnabled side.circuit) (Some (v, false)) next [] tree
        low_tree = trees name v next false [] latch en

        high_tree : (tree : Tree (List ℕ)) × EventUnfolds side (IsEnabled side.circuit) (Some (v, true)) next [] tree
        high_tree = trees name v next true [] latch en

        low_value : tree_value (bits R t) low_tree.0 ≡ l.0 next
        low_value = event_tree_is_run side same single can_put det rises n run is_run (λ w. ConeOthers side.circuit (IsEnabled side.circuit) v w) (at R t) (bits R t) events low_tree.1 l.0
            (from_put side same single can_put det rises n run is_run (λ w. ConeOthers side.circuit (IsEnabled side.circuit) v w) (at R t) (bits R t) events name v next false (run t) l.0 latch l.1)
            (λ w cone k. (name, next, latch, cone, λ e. k))

        high_value : tree_value (bits R t) high_tree.0 ≡ r.0 next
        high_value = event_tree_is_run side same single can_put det rises n run is_run (λ w. ConeOthers side.circuit (IsEnabled side.circuit) v w) (at R t) (bits R t) events high_tree.1 r.0
            (from_put side same single can_put det rises n run is_run (λ w. ConeOthers side.circuit (IsEnabled side.circuit) v w) (at R t) (bits R t) events name v next true (run t) r.0 latch r.1)
            (λ w cone k. (name, next, latch, cone, λ e. k))

        ap2 : {a b c d : Bool} → a ≡ b → c ≡ d → (a || not c) ≡ (b || not d)
        ap2 p q = λ i. p i || not (q i)

        or_same : (x y : Bool) → (x ≡ true → y ≡ true) → (x || not y) ≡ true → x ≡ y
        or_same true y f e = sym (f refl)
        or_same false true f e = cc
        or_same false false f e = refl

        or_not : (x y : Bool) → x ≡ y → (x || not y) ≡ true
        or_not true y e = refl
        or_not false true e = cc
        or_not false false e = refl

    -- at the later of two last loads both cones are settled, so both enables agree there
    pub good_step : (R : ℕ) → Good R → Good (suc R)
    unfolding Good event
    good_step R good name v next t latch low h mark en =
        go (mark_says side.circuit (IsEnabled side.circuit) run single mark (Latch name v next) latch refl) (side.class v) refl
      where
        stay : (s e : ℕ) → OthersMarked v next s → s ≤ e → OthersMarked v next e
        stay s e o le w cone ne = subst (λ q. Marked side.circuit (IsEnabled side.circuit) run q w) (let z : s + (e - s) ≡ e = omega arith in z) (marks_stay side.circuit (IsEnabled side.circuit) run s (e - s) (o w cone ne))

        not_before : (e s : ℕ) → (e < s → ⊥) → s ≤ e
        not_before e s h = grind arith

        go : MarkSays side.circuit (IsEnabled side.circuit) run single t (Latch name v next) → (k : ℕ) → side.class v ≡ k → IsLastLoad side.circuit run v next t (event (suc R) (side.class v) t)
        go (inl plain) k e = absurd (plain.0 en)
        go (inr held) zero e =
            let there = enable_there R (t - 1) good (omega arith) name v next latch en (omega arith) (stay held.1.0 (t - 1) held.1.3 (omega (arith, held.1.1))) in
            let loads = there.then_loads (always v en e (bits R (t - 1)) there.bit there.care there.at_root) in
            let last : IsLastLoad side.circuit run v next t (t - 1) = record { earlier = omega (arith, held.1.1); loads = loads; not_since = λ m a b q. absurd (omega arith) } in
            subst (λ (k : ℕ). IsLastLoad side.circuit run v next t (event (suc R) k t)) (sym e) last
        go (inr held) (suc k) e =
            let own : Qualifies (suc R) (suc k) held.1.0 = record { in_run = omega (arith, held.1.1); name = name; u = v; next = next; latch = latch; enabled = en; class_is = e; low_rank = low; others = held.1.3; loads = held.1.2 } in
            let last = event-last (suc R) k t held.1.0 held.1.1 own in
            let cycle = event (suc R) (suc k) t in
            let q = last.qualifies in
            let after : held.1.0 ≤ cycle = not_before cycle held.1.0 (λ l. last.none_since held.1.0 l held.1.1 own) in
            let others = stay held.1.0 cycle held.1.3 after in
            let in_run : cycle < n = omega (arith, last.earlier) in
            let mine = enable_there R cycle good in_run name v next latch en (omega arith) others in
            let theirs = enable_there R cycle good in_run q.name q.u q.next q.latch q.enabled (omega (arith, q.low_rank)) q.others in
            let agree : theirs.bit ≡ mine.bit = equal q.u v k q.enabled en q.class_is e (bits R cycle) theirs.bit mine.bit theirs.care mine.care theirs.at_root mine.at_root in
            let found : IsLastLoad side.circuit run v next t cycle = record {
              earlier = last.earlier;
              loads = mine.then_loads (sym agree ∙ theirs.if_loads q.loads);
              not_since = λ m a b l. last.none_since m a b (record { in_run = omega arith; name = name; u = v; next = next; latch = latch; enabled = en; class_is = e; low_rank = low; others = stay held.1.0 m held.1.3 (omega arith); loads = l });
            } in
            subst (λ (c : ℕ). IsLastLoad side.circuit run v next t (event (suc R) c t)) (sym e) found

    pub good : (R : ℕ) → Good R
    unfolding Good
    good zero name v next t latch low h mark en = absurd (omega arith)
    good (suc R) name v next t latch low h mark en = good_step R (good R) name v next t latch low h mark en

    -- a latch of class 0 loads wherever the others of its cone are settled
    pub always_loads : (R t : ℕ) → t < n → (name : List ℕ) (v next : P) → IsLatch side.circuit name v next → IsEnabled side.circuit v → side.class v ≡ 0 → rank v ≤ R → OthersMarked v next t → Loads side.circuit (run t) v next
    always_loads R t h name v next latch en e low others =
        let there = enable_there R t (good R) h name v next latch en low others in
        there.then_loads (always v en e (bits R t) there.bit there.care there.at_root)

    pub good_last : (R : ℕ) (name : List ℕ) (v next : P) (t : ℕ) → IsLatch side.circuit name v next → rank v < R → t < n → Marked side.circuit (IsEnabled side.circuit) run t v → IsEnabled side.circuit v →
        IsLastLoad side.circuit run v next t (event R (side.class v) t)
    unfolding Good
    good_last R name v next t latch low h mark en = good R name v next t latch low h mark en

    -- Where p is settled in cycle t, the frame of the inputs at the cycles of the nodes gives p's value in the run.
    pub settled_is_frame : (R t : ℕ) (p : P) (tree : Tree (List ℕ)) → t < n → ((w : P) → ConeLatches side.circuit p w → rank w < R) → Marked side.circuit (IsEnabled side.circuit) run t p →
        EventUnfolds side (IsEnabled side.circuit) None p [] tree → tree_value (bits R t) tree ≡ run t p
    unfolding StartsSettled at
    settled_is_frame R t p tree h low mark unfolds =
        event_tree_is_run side same single can_put det rises n run is_run (λ w. ConeLatches side.circuit p w) (at R t) (bits R t) events unfolds (run t)
        (record { meets = is_run.meets t h; inputs = λ q i. refl; latches = λ m q o l k. refl; fixed = none_is }) (λ w cone k. cone)
      where
        events : AreEvents side (IsEnabled side.circuit) (λ w. ConeLatches side.circuit p w) n run (at R t) (bits R t)
        events = frame_events R t (good R) h (λ w. ConeLatches side.circuit p w)
            (λ w cone. ((cone.0, cone.1, cone.2), low w cone, marks_down side.circuit (IsEnabled side.circuit) run single cone.3 t mark))

        none_is : (w : P) (b : Bool) → ◌≡◌ {A = Option (P × Bool)} None (Some (w, b)) → run t w ≡ b
        none_is w b e = cc

    -- and has care for p
    pub settled_has_care : (R t : ℕ) (p : P) → t < n → ((w : P) → ConeLatches side.circuit p w → rank w < R) → Marked side.circuit (IsEnabled side.circuit) run t p →
        HasCare side (IsEnabled side.circuit) (λ w. ConeLatches side.circuit p w) (bits R t)
    unfolding StartsSettled at
    settled_has_care R t p h low mark =
        events_have_care side same single can_put det rises n run is_run (λ w. ConeLatches side.circuit p w) (at R t) (bits R t) events kind (λ w cone. (cone.0, cone.1, cone.2))
        (λ node name v next bit reached latch en. trees name v next bit (side.class v ∷ node) latch en)
      where
        events : AreEvents side (IsEnabled side.circuit) (λ w. ConeLatches side.circuit p w) n run (at R t) (bits R t)
        events = frame_events R t (good R) h (λ w. ConeLatches side.circuit p w)
            (λ w cone. ((cone.0, cone.1, cone.2), low w cone, marks_down side.circuit (IsEnabled side.circuit) run single cone.3 t mark))

    -- Two places that are settled in one cycle, and whose functions agree wherever both have care, have one value.
    pub event_functions_agree : (R t : ℕ) (p q : P) (l r : Tree (List ℕ)) → t < n →
        ((w : P) → ConeLatches side.circuit p w → rank w < R) → ((w : P) → ConeLatches side.circuit q w → rank w < R) →
        Marked side.circuit (IsEnabled side.circuit) run t p → Marked side.circuit (IsEnabled side.circuit) run t q →
        EventUnfolds side (IsEnabled side.circuit) None p [] l → EventUnfolds side (IsEnabled side.circuit) None q [] r →
        ((frame : ℕ → List ℕ → Bool) → HasCare side (IsEnabled side.circuit) (λ w. ConeLatches side.circuit p w) frame → HasCare side (IsEnabled side.circuit) (λ w. ConeLatches side.circuit q w) frame →
        tree_value frame l ≡ tree_value frame r) → run t p ≡ run t q
    event_functions_agree R t p q l r h lp lq mp mq ul ur equal_where_care =
        sym (settled_is_frame R t p l h lp mp ul)
        ∙ (equal_where_care (bits R t) (settled_has_care R t p h lp mp) (settled_has_care R t q h lq mq) ∙ settled_is_frame R t q r h lq mq ur)
