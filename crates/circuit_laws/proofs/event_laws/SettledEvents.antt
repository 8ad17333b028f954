-- Where a place is settled in a run, each event that it reaches exists, and the frame of their inputs has care and gives its value; a
-- node that two settled places reach has one cycle.
use Rattle.std.proofs.Common.{◌≡◌, ◌≢◌, ℕ, zero, suc, ◌+◌, ◌-◌, ◌<◌, ◌≤◌, Bool, true, false, List, [], ◌∷◌, map, refl, sym, ◌∙◌, ap, subst, arith, inl, inr, Option, Some, None}
use Rattle.std.specs.Prelude.{◌⊎◌, ◌||◌, not}
use Rattle.std.specs.List.{Contains}
use Rattle.std.proofs.lemmas.List.Elements.{All-contains}
use Rattle.circuit_theory.specs.Cover.{cover_value}
use Rattle.circuit_theory.specs.Circuit.{Circuit, Latch, IsInput, IsLatch, IsSingleDriven, Carries, Holds, Reads, Reaches, InCone}
use Rattle.circuit_theory.specs.Run.{IsRun, IsEnabled, ExtendsWith, Loads, CanPut, IsDetermined, Marked}
use Rattle.circuit_theory.specs.Tree.{Tree, Trees, tree_value, tree_values}
use Rattle.circuit_theory.specs.Frame.{EventSide, NotPut, EventUnfolds, EventUnfoldsAll, ConeLatches, ReachedAt, IsEnable, HasCare, IsLastLoad, EventCycle, IsNode, IsFilled, HasEvents}
use Rattle.circuit_theory.specs.Joined.{joined}
use Rattle.circuit_theory.specs.EventFits.{side_by_side}
use Rattle.circuit_laws.specs.event_laws.Laws.{SettledHasEvents, EventsAreCommon}
use Rattle.circuit_theory.proofs.Lists.{Contains-head, Contains-tail}
use Rattle.circuit_theory.proofs.Inputs.{beside_is_input}
use Rattle.circuit_laws.proofs.finite_laws.EnabledDecided.{enabled_in_nets_beside}
use Rattle.circuit_laws.proofs.Marks.{marks_stay, mark_says, marks_down, MarkSays}
use Rattle.circuit_laws.proofs.event_laws.Events.{PutAt, last_load_value}
use Rattle.circuit_laws.proofs.Loads.{put_unique}
use Rattle.circuit_laws.proofs.JoinedParts.{joined_same, joined_can_put, joined_determined, joined_single}
use Rattle.circuit_laws.proofs.event_laws.EventAgreement.{rises_at, trees_of, loads_are_one, loads_before}

-- values with a latch put
pub put_at : {P : Type 0} (c : Circuit P) → IsSingleDriven c → (name : List ℕ) (u next : P) (bit : Bool) (v x : P → Bool) → IsLatch c name u next → ExtendsWith c u bit v x → PutAt c (Some (u, bit)) v x
put_at {P} c single name u next bit v x latch ex = record {
  meets = ex.meets;
  inputs = λ p i. ex.sources p (inl i) (λ e. single.no_input (Latch name u next) latch (subst (IsInput c) e i));
  latches = λ m p q l ne. ex.sources p (inr (m, q, l)) ne;
  fixed = λ w b e. fixed_is w b e;
}
  where
    fixed_is : (w : P) (b : Bool) → ◌≡◌ {A = Option (P × Bool)} (Some (u, bit)) (Some (w, b)) → x w ≡ b
    fixed_is w b e = let pair : ◌≡◌ {A = P × Bool} (u, bit) (w, b) = unwrap (u, bit) (w, b) e in sym (ap (λ (z : P × Bool). x z.0) pair) ∙ (ex.put ∙ ap (λ (z : P × Bool). z.1) pair)
      where
        unwrap : (y z : P × Bool) → Some y ≡ Some z → y ≡ z
        unwrap y z e = cc

order_of : (i j : ℕ) → (i ≡ j) ⊎ ((i < j) ⊎ (j < i))
order_of i j = grind arith

module _ {P : Type 0} (side : EventSide P) (enabled : P → Type 0) (run : ℕ → P → Bool) (start : P → Type 0) (t : ℕ) where
  -- a node has one cycle at most
  pub cycle_once : (node : List ℕ) (e d : ℕ) → EventCycle side enabled start run t node e → EventCycle side enabled start run t node d → e ≡ d
  cycle_once [] e d x y = x ∙ sym y
  cycle_once (zero ∷ node) e d x y = omega (arith, cycle_once node (e + 1) (d + 1) x y)
  cycle_once (suc k ∷ node) e d x y = go (cycle_once node x.0 y.0 x.1 y.1) (order_of e d)
    where
      go : x.0 ≡ y.0 → (e ≡ d) ⊎ ((e < d) ⊎ (d < e)) → e ≡ d
      go parent (inl q) = q
      go parent (inr (inl l)) = absurd (x.4 d y.3.0 y.3.1 y.3.2 l (omega (arith, y.2, parent)) y.3.3 y.3.4 y.3.5 y.3.6)
      go parent (inr (inr l)) = absurd (y.4 e x.3.0 x.3.1 x.3.2 l (omega (arith, x.2, parent)) x.3.3 x.3.4 x.3.5 x.3.6)

  pub is_node : (node : List ℕ) (u : P) → ReachedAt side enabled start node u → IsNode side enabled start node
  is_node [] u r = tt
  is_node (k ∷ node) u r = (r.0, r.1, r.2)

module _ {P : Type 0} (side : EventSide P) (same : (p q : P) → (p ≡ q) ⊎ (p ≢ q)) (single : IsSingleDriven side.circuit) (can_put : CanPut side.circuit)
    (det : (name : List ℕ) (u next : P) → IsLatch side.circuit name u next → IsDetermined side.circuit next)
    (rises : (name : List ℕ) (u next : P) → IsLatch side.circuit name u next → IsEnabled side.circuit u →
    (x low high : P → Bool) → ExtendsWith side.circuit u false x low → ExtendsWith side.circuit u true x high → low next ≡ true → high next ≡ true)
    (plain_zero : (name : List ℕ) (u next : P) → IsLatch side.circuit name u next → (IsEnabled side.circuit u → ⊥) → side.class u ≡ 0)
    (n : ℕ) (run : ℕ → P → Bool) (is_run : IsRun side.circuit n run)
    (one_load : (name name' : List ℕ) (u next v next' : P) (t e d : ℕ) → t < n → IsLatch side.circuit name u next → IsLatch side.circuit name' v next' → IsEnabled side.circuit u → IsEnabled side.circuit v →
    side.class u ≡ side.class v → Marked side.circuit (IsEnabled side.circuit) run t u → Marked side.circuit (IsEnabled side.circuit) run t v → IsLastLoad side.circuit run u next t e → IsLastLoad side.circuit run v next' t d → e ≡ d)
    (load_before : (name : List ℕ) (u next : P) (t e : ℕ) → t < n → IsLatch side.circuit name u next → IsEnabled side.circuit u → side.class u ≡ 0 → Marked side.circuit (IsEnabled side.circuit) run t u →
    IsLastLoad side.circuit run u next t e → e ≡ t - 1) where
  abbrev c : Circuit P
  c = side.circuit

  abbrev On : P → Type 0
  On = IsEnabled side.circuit

  abbrev M : ℕ → P → Type 0
  M t p = Marked side.circuit (IsEnabled side.circuit) run t p

  abbrev Others : P → P → ℕ → Type 0
  Others u next t = (w : P) → InCone c next w → w ≢ u → M t w

  later : (s e : ℕ) (w : P) → M s w → s ≤ e → M e w
  later s e w m le = subst (λ q. M q w) (let z : s + (e - s) ≡ e = omega arith in z) (marks_stay c On run s (e - s) m)

  says : (s : ℕ) (name : List ℕ) (u next : P) → IsLatch c name u next → M s u → MarkSays c On run single s (Latch name u next)
  says s name u next latch mark = mark_says c On run single mark (Latch name u next) latch refl

  -- a latch loads in a cycle, or it doesn't
  loads_or : (t : ℕ) → t < n → (name : List ℕ) (u next : P) → IsLatch c name u next → Loads c (run t) u next ⊎ (Loads c (run t) u next → ⊥)
  loads_or t h name u next latch = go (can_put (run t) name u next false latch (is_run.meets t h)) (can_put (run t) name u next true latch (is_run.meets t h))
    where
      bits_or : (x y : Bool) → (x ≡ y) ⊎ (x ≢ y)
      bits_or true true = inl refl
      bits_or true false = inr (λ e. cc)
      bits_or false true = inr (λ e. cc)
      bits_or false false = inl refl

      go : (y : P → Bool) × ExtendsWith c u false (run t) y → (y : P → Bool) × ExtendsWith c u true (run t) y → Loads c (run t) u next ⊎ (Loads c (run t) u next → ⊥)
      go l r = pick (bits_or (l.0 next) (r.0 next))
        where
          pick : (l.0 next ≡ r.0 next) ⊎ (l.0 next ≢ r.0 next) → Loads c (run t) u next ⊎ (Loads c (run t) u next → ⊥)
          pick (inl e) = inl (record { low = l.0; high = r.0; low_is = l.1; high_is = r.1; same = e })
          pick (inr ne) = inr (λ loads. ne (put_unique c same u false (run t) l.0 loads.low l.1 loads.low_is (det name u next latch)
              ∙ (loads.same ∙ put_unique c same u true (run t) loads.high r.0 loads.high_is r.1 (det name u next latch))))

  -- the last load from a load on
  last_from : (t s : ℕ) → s < t → t ≤ n → (name : List ℕ) (u next : P) → IsLatch c name u next → Loads c (run s) u next → (e : ℕ) × (s ≤ e) × IsLastLoad c run u next t e
  last_from zero s h le name u next latch loads = absurd (omega arith)
  last_from (suc t) s h le name u next latch loads = go (loads_or t (omega arith) name u next latch) (which s t h) (λ l. last_from t s l (omega arith) name u next latch loads)
    where
      which : (s t : ℕ) → s < suc t → (s < t) ⊎ (s ≡ t)
      which s t h = grind arith

      go : Loads c (run t) u next ⊎ (Loads c (run t) u next → ⊥) → (s < t) ⊎ (s ≡ t) → (s < t → (e : ℕ) × (s ≤ e) × IsLastLoad c run u next t e) → (e : ℕ) × (s ≤ e) × IsLastLoad c run u next (suc t) e
      go (inl now) w ih = (t, omega arith, record { earlier = omega arith; loads = now; not_since = λ m a b k. absurd (omega arith) })
      go (inr none) (inr e) ih = absurd (none (subst (λ m. Loads c (run m) u next) e loads))
      go (inr none) (inl l) ih =
          let r = ih l in
          (r.0, r.1, record { earlier = omega (arith, r.2.earlier); loads = r.2.loads; not_since = λ m a b k. step m (which m t b) a k })
        where
          step : (m : ℕ) → (m < t) ⊎ (m ≡ t) → (ih l).0 < m → Loads c (run m) u next → ⊥
          step m (inl b) a k = (ih l).2.not_since m a b k
          step m (inr e) a k = none (subst (λ m. Loads c (run m) u next) e k)

  -- an enabled latch that is settled has a last load, and the others of its cone are settled there
  abbrev LastLoad : P → P → ℕ → Type 0
  LastLoad u next t = (e : ℕ) × IsLastLoad c run u next t e × Others u next e

  settled_last : (t : ℕ) → t < n → (name : List ℕ) (u next : P) → IsLatch c name u next → On u → M t u → LastLoad u next t
  settled_last t h name u next latch en mark = go (says t name u next latch mark)
    where
      go : MarkSays c On run single t (Latch name u next) → LastLoad u next t
      go (inl plain) = absurd (plain.0 en)
      go (inr held) =
          let r = last_from t held.1.0 held.1.1 (omega (arith, h)) name u next latch held.1.2 in
          (r.0, r.2, λ w cone ne. later held.1.0 r.0 w (held.1.3 w cone ne) r.1)

  module _ (start : P → Type 0) (t : ℕ) (h : t < n) (start_is : (w : P) → start w → ((name : List ℕ) × (next : P) × IsLatch c name w next) × M t w) where
    abbrev Reach : List ℕ → P → Type 0
    Reach node w = ReachedAt side On start node w

    abbrev Cycle : List ℕ → ℕ → Type 0
    Cycle node e = EventCycle side On start run t node e

    latch_of : (node : List ℕ) (w : P) → Reach node w → (name : List ℕ) × (next : P) × IsLatch c name w next
    latch_of [] w r = (start_is w r).0
    latch_of (k ∷ node) w r = let cone = r.3.3 in (cone.0, cone.1, cone.2)

    -- the event of a node, and what is reached there is settled then
    pub record There (node : List ℕ) : Type 0 where
      pub cycle : ℕ
      pub is : Cycle node cycle
      pub low : cycle ≤ t
      pub marked : (w : P) → Reach node w → M cycle w

    module _ (k : ℕ) (node : List ℕ) (at : There node) where
      -- a latch of a class other than 0 that is reached is enabled
      held_of : (name : List ℕ) (v next : P) → IsLatch c name v next → Reach node v → side.class v ≡ suc k → On v
      held_of name v next latch reached e = go (says at.cycle name v next latch (at.marked v reached))
        where
          go : MarkSays c On run single at.cycle (Latch name v next) → On v
          go (inl plain) = absurd (omega (arith, plain_zero name v next latch plain.0, e))
          go (inr held) = held.0

      -- the last load of one such latch is the event
      held_cycle : (name : List ℕ) (u next : P) → IsLatch c name u next → Reach node u → side.class u ≡ suc k → (d : ℕ) → IsLastLoad c run u next at.cycle d → Cycle (suc k ∷ node) d
      held_cycle name u next latch reached e d last = (at.cycle, at.is, last.earlier, (u, name, next, reached, e, latch, last.loads), none)
        where
          none : (s : ℕ) (v : P) (name' : List ℕ) (next' : P) → d < s → s < at.cycle → Reach node v → side.class v ≡ suc k → IsLatch c name' v next' → Loads c (run s) v next' → ⊥
          none s v name' next' after before reached' e' latch' loads =
              let on = held_of name u next latch reached e in
              let on' = held_of name' v next' latch' reached' e' in
              let y = settled_last at.cycle (omega (arith, h, at.low)) name' v next' latch' on' (at.marked v reached') in
              let one : d ≡ y.0 = one_load name name' u next v next' at.cycle d y.0 (omega (arith, h, at.low)) latch latch' on on' (e ∙ sym e') (at.marked u reached) (at.marked v reached') last y.1 in
              y.1.not_since s (omega (arith, one, after)) before loads

    child : (k : ℕ) (node : List ℕ) → There node → (u : P) → Reach node u → side.class u ≡ k → There (k ∷ node)
    child zero node at u r e = go (latch_of node u r)
      where
        before : (s : ℕ) → at.cycle ≡ suc s → There (0 ∷ node)
        before s q = record { cycle = s; is = subst (Cycle node) (let z : at.cycle ≡ s + 1 = omega (arith, q) in z) at.is; low = omega (arith, at.low, q); marked = marked }
          where
            marked : (w : P) → Reach (0 ∷ node) w → M s w
            marked w reached = pick (says at.cycle reached.3.0 reached.0 reached.3.1 reached.3.2 (at.marked reached.0 reached.1))
              where
                pick : MarkSays c On run single at.cycle (Latch reached.3.0 reached.0 reached.3.1) → M s w
                pick (inl plain) = subst (λ m. M m w) (let z : plain.1.0 ≡ s = omega (arith, plain.1.1, q) in z) (marks_down c On run single reached.3.3.3 plain.1.0 plain.1.2)
                pick (inr held) = later held.1.0 s w (held.1.3 w (inr (reached.3.3.0, reached.3.3.1, reached.3.3.2), reached.3.3.3) (reached.3.4 held.0)) (omega (arith, held.1.1, q))

        go : (name : List ℕ) × (next : P) × IsLatch c name u next → There (0 ∷ node)
        go l = pick (says at.cycle l.0 u l.1 l.2 (at.marked u r))
          where
            pick : MarkSays c On run single at.cycle (Latch l.0 u l.1) → There (0 ∷ node)
            pick (inl plain) = before plain.1.0 plain.1.1
            pick (inr held) = before (at.cycle - 1) (omega (arith, held.1.1))
    child (suc k) node at u r e = record {
      cycle = x.0;
      is = held_cycle k node at l.0 u l.1 l.2 r e x.0 x.1;
      low = omega (arith, x.1.earlier, at.low);
      marked = marked;
    }
      where
        l : (name : List ℕ) × (next : P) × IsLatch c name u next
        l = latch_of node u r

        on : On u
        on = held_of k node at l.0 u l.1 l.2 r e

        in_run : at.cycle < n
        in_run = omega (arith, at.low, h)

        x : LastLoad u l.1 at.cycle
        x = settled_last at.cycle in_run l.0 u l.1 l.2 on (at.marked u r)

        marked : (w : P) → Reach (suc k ∷ node) w → M x.0 w
        marked w reached =
            let v = reached.0 in
            let others = reached.3 in
            let on' = held_of k node at others.0 v others.1 others.2 reached.1 reached.2 in
            let y = settled_last at.cycle in_run others.0 v others.1 others.2 on' (at.marked v reached.1) in
            let one : y.0 ≡ x.0 = one_load others.0 l.0 v others.1 u l.1 at.cycle y.0 x.0 in_run others.2 l.2 on' on (reached.2 ∙ sym e) (at.marked v reached.1) (at.marked u r) y.1 x.1 in
            subst (λ m. M m w) one (y.2 w (inr (others.3.0, others.3.1, others.3.2), others.3.3) (others.4 on'))

    pub there : (node : List ℕ) → IsNode side On start node → There node
    there [] i = record { cycle = t; is = refl; low = omega arith; marked = λ w r. (start_is w r).1 }
    there (k ∷ node) i = child k node (there node (is_node side On run start t node i.0 i.1)) i.0 i.1 i.2

    -- an enabled latch that is reached has its last load at the event of its class
    last_at : (node : List ℕ) (at : There node) (name : List ℕ) (u next : P) → Reach node u → IsLatch c name u next → On u → (k : ℕ) → side.class u ≡ k →
        (e d : ℕ) → Cycle (k ∷ node) e → IsLastLoad c run u next at.cycle d → d ≡ e
    last_at node at name u next reached latch on zero class_is e d is last =
        let back = load_before name u next at.cycle d (omega (arith, at.low, h)) latch on class_is (at.marked u reached) last in
        let parent = cycle_once side On run start t node (e + 1) at.cycle is at.is in
        omega (arith, back, parent, last.earlier)
    last_at node at name u next reached latch on (suc k) class_is e d is last =
        cycle_once side On run start t (suc k ∷ node) d e (held_cycle k node at name u next latch reached class_is d last) is

    pub together : (node : List ℕ) (parent cycle : ℕ) (name : List ℕ) (u next : P) → Reach node u → IsLatch c name u next → On u → Cycle node parent → Cycle (side.class u ∷ node) cycle → IsLastLoad c run u next parent cycle
    together node parent cycle name u next reached latch on above below =
        let at = there node (is_node side On run start t node u reached) in
        let x = settled_last at.cycle (omega (arith, at.low, h)) name u next latch on (at.marked u reached) in
        let same_parent = cycle_once side On run start t node at.cycle parent at.is above in
        let same_child = last_at node at name u next reached latch on (side.class u) refl cycle x.0 below x.1 in
        subst (λ m. IsLastLoad c run u next m cycle) same_parent (subst (λ m. IsLastLoad c run u next at.cycle m) same_child x.1)

    module _ (bits : ℕ → List ℕ → Bool) (filled : IsFilled side On start run t bits) where
      below : (node : List ℕ) → There node → (u : P) → Reach node u → There (side.class u ∷ node)
      below node at u r = child (side.class u) node at u r refl

      mutual
        unfolding tree_value

        tree_is : {put : Option (P × Bool)} {p : P} {node : List ℕ} {tree : Tree (List ℕ)} → EventUnfolds side On put p node tree → (at : There node) → IsNode side On start node →
            (x : P → Bool) → PutAt c put (run at.cycle) x → ((v : P) → ConeLatches c p v → NotPut put v → Reach node v) → tree_value bits tree ≡ x p
        tree_is (EventUnfolds.input {p = p} {node = node} {i = i} number) at here x ex reached =
            filled node at.cycle p i here at.is number ∙ sym (ex.inputs p (beside_is_input c.inputs side.order p i number))
        tree_is (EventUnfolds.gate {fanins = fanins} {cover = cover} eq each) at here x ex reached =
            ap (cover_value cover) (trees_are each at here x ex (λ p m v cone. reached v (cone.0, cone.1, cone.2, Reaches.there (Reads.by_gate eq m) cone.3)))
            ∙ sym (All-contains (Holds x) c.equations _ ex.meets eq)
        tree_is (EventUnfolds.port eq rest) at here x ex reached =
            tree_is rest at here x ex (λ v cone. reached v (cone.0, cone.1, cone.2, Reaches.there (Reads.by_port eq) cone.3)) ∙ sym (All-contains (Holds x) c.equations _ ex.meets eq)
        tree_is (EventUnfolds.plain {name = name} {u = u} {next = next} {node = node} {tree = tree} latch not_put off rest) at here x ex reached =
            let r = reached u (name, next, latch, Reaches.here) not_put in
            let down = below node at u r in
            let zero_class = plain_zero name u next latch off in
            let step : down.cycle + 1 ≡ at.cycle = cycle_once side On run start t node (down.cycle + 1) at.cycle (subst (λ k. Cycle (k ∷ node) down.cycle) zero_class down.is) at.is in
            let ih : tree_value bits tree ≡ run down.cycle next = tree_is rest down (u, r, refl) (run down.cycle)
            (record { meets = is_run.meets down.cycle (omega (arith, down.low, h)); inputs = λ p i. refl; latches = λ m p q l k. refl; fixed = λ w b e. none_is down.cycle w b e })
            (λ v cone k. (u, r, refl, (name, next, latch, cone, λ en. absurd (off en)))) in
            let carried : run (down.cycle + 1) u ≡ run down.cycle next = All-contains (Carries (run down.cycle) (run (down.cycle + 1))) c.equations _ (is_run.carries down.cycle (omega (arith, step, at.low, h))) latch in
            ih ∙ (sym carried ∙ (ap (λ s. run s u) step ∙ sym (ex.latches name u next latch not_put)))
          where
            none_is : (s : ℕ) (w : P) (b : Bool) → ◌≡◌ {A = Option (P × Bool)} None (Some (w, b)) → run s w ≡ b
            none_is s w b e = cc
        tree_is (EventUnfolds.held {name = name} {u = u} {next = next} {node = node} {tree = tree} latch not_put on rest) at here x ex reached =
            let r = reached u (name, next, latch, Reaches.here) not_put in
            let down = below node at u r in
            let last = together node at.cycle down.cycle name u next r latch on at.is down.is in
            let value = last_load_value c same n run is_run name u next latch (det name u next latch) can_put (rises name u next latch on) at.cycle down.cycle (omega (arith, at.low, h)) last in
            let ih : tree_value bits tree ≡ last.loads.low next = tree_is rest down (u, r, refl) last.loads.low (put_at c single name u next false (run down.cycle) last.loads.low latch last.loads.low_is)
            (λ v cone k. (u, r, refl, (name, next, latch, cone, λ en. k))) in
            ih ∙ (sym value ∙ sym (ex.latches name u next latch not_put))
        tree_is (EventUnfolds.fixed {u = u} {bit = bit}) at here x ex reached = sym (ex.fixed u bit refl)

        trees_are : {put : Option (P × Bool)} {ps : List P} {node : List ℕ} {trees : Trees (List ℕ)} → EventUnfoldsAll side On put ps node trees → (at : There node) → IsNode side On start node →
            (x : P → Bool) → PutAt c put (run at.cycle) x → ((p : P) → Contains ps p → (v : P) → ConeLatches c p v → NotPut put v → Reach node v) → tree_values bits trees ≡ map x ps
        trees_are EventUnfoldsAll.none at here x ex reached = refl
        trees_are (EventUnfoldsAll.more {p = p} {ps = ps} one rest) at here x ex reached =
            let head = tree_is one at here x ex (reached p (Contains-head p ps)) in
            let tail = trees_are rest at here x ex (λ q m. reached q (Contains-tail p q ps m)) in
            cc

      pub has_value : (p : P) (tree : Tree (List ℕ)) → ((v : P) → ConeLatches c p v → start v) → EventUnfolds side On None p [] tree → tree_value bits tree ≡ run t p
      unfolding there
      has_value p tree all unfolds =
          tree_is unfolds (there [] tt) tt (run t) (record { meets = is_run.meets t h; inputs = λ q i. refl; latches = λ m q o l k. refl; fixed = none_is }) (λ v cone k. all v cone)
        where
          none_is : (w : P) (b : Bool) → ◌≡◌ {A = Option (P × Bool)} None (Some (w, b)) → run t w ≡ b
          none_is w b e = cc

      pub has_care : ((v : P) → On v ⊎ (On v → ⊥)) →
          ((name : List ℕ) (v next : P) (bit : Bool) (node : List ℕ) → IsLatch c name v next → (tree : Tree (List ℕ)) × EventUnfolds side On (Some (v, bit)) next node tree) → HasCare side On start bits
      has_care kind trees node v reached = go (kind v) (latch_of node v reached)
        where
          or_not : (x y : Bool) → x ≡ y → (x || not y) ≡ true
          or_not true y e = refl
          or_not false true e = cc
          or_not false false e = refl

          go : On v ⊎ (On v → ⊥) → (name : List ℕ) × (next : P) × IsLatch c name v next → IsEnable side On bits v (side.class v ∷ node) true
          go (inr off) latch = IsEnable.always off refl
          go (inl on) (name, next, latch) =
              let at = there node (is_node side On run start t node v reached) in
              let down = below node at v reached in
              let last = together node at.cycle down.cycle name v next reached latch on at.is down.is in
              let low = trees name v next false (side.class v ∷ node) latch in
              let high = trees name v next true (side.class v ∷ node) latch in
              let inner : (w : P) → ConeLatches c next w → w ≢ v → Reach (side.class v ∷ node) w = λ w cone k. (v, reached, refl, (name, next, latch, cone, λ en. k)) in
              let l = tree_is low.1 down (v, reached, refl) last.loads.low (put_at c single name v next false (run down.cycle) last.loads.low latch last.loads.low_is) inner in
              let r = tree_is high.1 down (v, reached, refl) last.loads.high (put_at c single name v next true (run down.cycle) last.loads.high latch last.loads.high_is) inner in
              IsEnable.own on latch low.1 high.1 (or_not _ _ (l ∙ (last.loads.same ∙ sym r)))

  -- the latches of the cone of a settled place are settled
  abbrev cone_of : P → P → Type 0
  cone_of p w = ConeLatches side.circuit p w

  cone_marked : (t : ℕ) (p : P) → M t p → (w : P) → cone_of p w → ((name : List ℕ) × (next : P) × IsLatch c name w next) × M t w
  cone_marked t p mark w cone = ((cone.0, cone.1, cone.2), marks_down c On run single cone.3 t mark)

  pub has_events : (t : ℕ) (p : P) → t < n → M t p → ((v : P) → On v ⊎ (On v → ⊥)) →
      ((name : List ℕ) (v next : P) (bit : Bool) (node : List ℕ) → IsLatch c name v next → (tree : Tree (List ℕ)) × EventUnfolds side On (Some (v, bit)) next node tree) → HasEvents side On run t p
  has_events t p h mark kind trees = record {
    exist = λ node i. let x = there (ConeLatches c p) t h (cone_marked t p mark) node i in (x.cycle, x.is);
    together = together (ConeLatches c p) t h (cone_marked t p mark);
    value = λ bits tree filled unfolds. has_value (ConeLatches c p) t h (cone_marked t p mark) bits filled p tree (λ v cone. cone) unfolds;
    care = λ bits filled. has_care (ConeLatches c p) t h (cone_marked t p mark) bits filled kind trees;
  }

  -- a node that two settled places reach has one cycle
  pub common_cycle : (t : ℕ) (p q : P) → t < n → M t p → M t q → (node : List ℕ) (e d : ℕ) → IsNode side On (ConeLatches c p) node → IsNode side On (ConeLatches c q) node →
      EventCycle side On (ConeLatches c p) run t node e → EventCycle side On (ConeLatches c q) run t node d → e ≡ d
  common_cycle t p q h mp mq [] e d i j x y = x ∙ sym y
  common_cycle t p q h mp mq (zero ∷ node) e d i j x y =
      let up = common_cycle t p q h mp mq node (e + 1) (d + 1) (is_node side On run (ConeLatches c p) t node i.0 i.1) (is_node side On run (ConeLatches c q) t node j.0 j.1) x y in
      omega (arith, up)
  common_cycle t p q h mp mq (suc k ∷ node) e d i j x y =
      let ip = is_node side On run (ConeLatches c p) t node i.0 i.1 in
      let jq = is_node side On run (ConeLatches c q) t node j.0 j.1 in
      let at = there (ConeLatches c p) t h (cone_marked t p mp) node ip in
      let bt = there (ConeLatches c q) t h (cone_marked t q mq) node jq in
      let l = latch_of (ConeLatches c p) t h (cone_marked t p mp) node i.0 i.1 in
      let r = latch_of (ConeLatches c q) t h (cone_marked t q mq) node j.0 j.1 in
      let on = held_of (ConeLatches c p) t h (cone_marked t p mp) k node at l.0 i.0 l.1 l.2 i.1 i.2 in
      let on' = held_of (ConeLatches c q) t h (cone_marked t q mq) k node bt r.0 j.0 r.1 r.2 j.1 j.2 in
      let one_parent : at.cycle ≡ bt.cycle = common_cycle t p q h mp mq node at.cycle bt.cycle ip jq at.is bt.is in
      let a_run : at.cycle < n = omega (arith, at.low, h) in
      let u = settled_last at.cycle a_run l.0 i.0 l.1 l.2 on (at.marked i.0 i.1) in
      let mark' : M at.cycle j.0 = subst (λ s. M s j.0) (sym one_parent) (bt.marked j.0 j.1) in
      let v = settled_last at.cycle a_run r.0 j.0 r.1 r.2 on' mark' in
      let one : u.0 ≡ v.0 = one_load l.0 r.0 i.0 l.1 j.0 r.1 at.cycle u.0 v.0 a_run l.2 r.2 on on' (i.2 ∙ sym j.2) (at.marked i.0 i.1) mark' u.1 v.1 in
      let first : u.0 ≡ e = last_at (ConeLatches c p) t h (cone_marked t p mp) node at l.0 i.0 l.1 i.1 l.2 on (suc k) i.2 e u.0 x u.1 in
      let second : v.0 ≡ d = last_at (ConeLatches c q) t h (cone_marked t q mq) node bt r.0 j.0 r.1 j.1 r.2 on' (suc k) j.2 d v.0 y (subst (λ s. IsLastLoad c run j.0 r.1 s v.0) one_parent v.1) in
      sym first ∙ (one ∙ second)

pub settled_has_events_in_nets : SettledHasEvents
settled_has_events_in_nets a b m n left right class na nb numbered left_long right_long classes depths size run shared t p h mark =
    has_events (side_by_side a b left right class) joined_same (joined_single a b m n na nb) (joined_can_put a b m n na nb) (joined_determined a b m n na nb)
    (rises_at (joined a b) (joined_single a b m n na nb) joined_same depths) classes.is_map.plain size run shared.is_run
    (loads_are_one a b m n left right class na nb numbered left_long right_long classes depths size run shared) (loads_before a b m n left right class na nb numbered left_long right_long classes depths size run shared)
    t p h mark (enabled_in_nets_beside a b m n na nb) (trees_of a b m n left right class na nb numbered left_long right_long classes depths (enabled_in_nets_beside a b m n na nb))

pub events_are_common_in_nets : EventsAreCommon
events_are_common_in_nets a b m n left right class na nb numbered left_long right_long classes depths size run shared t p q h mp mq node e d i j x y =
    common_cycle (side_by_side a b left right class) joined_same (joined_single a b m n na nb) (joined_can_put a b m n na nb) (joined_determined a b m n na nb)
    (rises_at (joined a b) (joined_single a b m n na nb) joined_same depths) classes.is_map.plain size run shared.is_run
    (loads_are_one a b m n left right class na nb numbered left_long right_long classes depths size run shared) (loads_before a b m n left right class na nb numbered left_long right_long classes depths size run shared)
    t p q h mp mq node e d i j x y
