-- The frame that a run fills at the events of its nodes: each of its rows is one of the run. So event functions that are equal under a
-- care that holds along the runs mean agreement.
use Rattle.std.proofs.Common.{◌≡◌, ◌≢◌, ℕ, zero, suc, ◌+◌, ◌-◌, ◌<◌, ◌≤◌, Bool, List, [], ◌∷◌, ◌++◌, length, map, refl, sym, ◌∙◌, ap, subst, arith, inl, inr, None}
use Rattle.std.specs.Prelude.{◌⊎◌}
use Rattle.std.specs.List.{Contains}
use Rattle.circuit_theory.specs.Circuit.{Circuit, Equation, Gate, Latch, Port, Named, IsLatch, Reaches, out_of}
use Rattle.circuit_theory.specs.Run.{IsEnabled, Marked}
use Rattle.circuit_theory.specs.Tree.{Tree, IsInputNumber, StandsBeside, AreNumbered, tree_value}
use Rattle.circuit_theory.specs.Net.{IsNet}
use Rattle.circuit_theory.specs.Frame.{EventSide, EventUnfolds, ConeLatches, ReachedAt, HasCare, IsLastLoad, EventCycle, IsNumberedRun, IsNode, IsFilled, HasEvents}
use Rattle.circuit_theory.specs.Joined.{Either, Left, Right, joined, moved_name, beside}
use Rattle.circuit_theory.specs.Classes.{HasClasses}
use Rattle.circuit_theory.specs.Agree.{AreAlike}
use Rattle.circuit_theory.specs.EventFits.{side_by_side}
use Rattle.circuit_theory.specs.Depth.{LatchesHaveDepths}
use Rattle.circuit_laws.proofs.Agreement.{value_of_number, value_found, first_value}
use Rattle.circuit_laws.proofs.Finite.{Decided, Weakly, weakly_decided, weakly_each, weakly_below, bits_same, find_or}
use Rattle.circuit_theory.proofs.Sums.{same_or_not}
use Rattle.circuit_laws.proofs.JoinedParts.{joined_same, joined_single, joined_can_put, joined_determined}
use Rattle.circuit_laws.proofs.Marks.{marks_down}
use Rattle.circuit_laws.proofs.event_laws.EventAgreement.{rises_at, kind_of, loads_are_one, loads_before, side_run, left_mark, right_mark}
use Rattle.circuit_laws.proofs.event_laws.SettledEvents.{cycle_once, is_node, there, settled_has_events_in_nets}
use Rattle.circuit_laws.proofs.reset_laws.ResetAgreement.{HoldsAlong}

-- the cycle of each node, reached or not, where `last` has the last loads of classes
abbrev pub cycle_by : (ℕ → ℕ → ℕ) → ℕ → List ℕ → ℕ
cycle_by last t [] = t
cycle_by last t (k ∷ node) = last k (cycle_by last t node)

-- an input of the left circuit has its number in both side by side
pub beside_left : (inputs : List (Named ℕ)) (order : List ℕ) (others : List (Named (Either ℕ ℕ))) (more : List ℕ) (p i : ℕ) → StandsBeside inputs order p i → StandsBeside (map (moved_name Left) inputs ++ others) (order ++ more) (Left p) i
beside_left [] order others more p i h = absurd h
beside_left (m ∷ inputs) [] others more p i h = absurd h
beside_left (m ∷ inputs) (j ∷ order) others more p i (inl h) = inl (ap Left h.0, h.1)
beside_left (m ∷ inputs) (j ∷ order) others more p i (inr h) = inr (beside_left inputs order others more p i h)

module _ (a b : Circuit ℕ) (m n : ℕ) (left right : List ℕ) (class : Either ℕ ℕ → ℕ) (na : IsNet a m) (nb : IsNet b n) (numbered : AreNumbered a b left right)
    (left_long : length left ≡ length a.inputs) (right_long : length right ≡ length b.inputs) (classes : HasClasses (side_by_side a b left right class))
    (depths : LatchesHaveDepths (joined a b) (IsEnabled (joined a b))) where
  abbrev whole : Circuit (Either ℕ ℕ)
  whole = joined a b

  abbrev side : EventSide (Either ℕ ℕ)
  side = side_by_side a b left right class

  module _ (size : ℕ) (run : ℕ → Either ℕ ℕ → Bool) (shared : IsNumberedRun side size run) where
    abbrev M : ℕ → Either ℕ ℕ → Type 0
    M t p = Marked whole (IsEnabled whole) run t p

    abbrev run_row : ℕ → ℕ → Bool
    run_row t i = first_value (value_of_number (run t) whole.inputs (left ++ right) i) None

    run_row-is : (t : ℕ) (x : Either ℕ ℕ) (i : ℕ) → t < size → IsInputNumber whole (left ++ right) x i → run_row t i ≡ run t x
    run_row-is t x i h number =
        let f = value_found (run t) whole.inputs (left ++ right) x i number in
        ap (λ o. first_value o None) f.2 ∙ shared.inputs t f.0 x i h f.1 number

    events : (t : ℕ) (p : Either ℕ ℕ) → t < size → M t p → HasEvents side (IsEnabled whole) run t p
    events t p h mark = settled_has_events_in_nets a b m n left right class na nb numbered left_long right_long classes depths size run shared t p h mark

    -- a settled enabled latch, in a cycle
    abbrev pub SettledLatch : Equation (Either ℕ ℕ) → ℕ → Type 0
    SettledLatch (Gate out fanins cover) t = ⊥
    SettledLatch (Latch name u next) t = IsEnabled whole u × M t u
    SettledLatch (Port out from) t = ⊥

    -- what is known of each equation and each cycle: which latches are enabled, and which of them are settled
    module _ (kinds : (e : Equation (Either ℕ ℕ)) → Contains whole.equations e → Decided (IsEnabled whole (out_of e)))
        (facts : (e : Equation (Either ℕ ℕ)) → Contains whole.equations e → (s : ℕ) → s < size → Decided (SettledLatch e s)) where
      enabled_or : (v : Either ℕ ℕ) → IsEnabled whole v ⊎ (IsEnabled whole v → ⊥)
      enabled_or = kind_of whole (joined_single a b m n na nb) joined_same depths kinds

      -- such a latch of a class
      abbrev Member : ℕ → ℕ → Equation (Either ℕ ℕ) → Type 0
      Member k t (Gate out fanins cover) = ⊥
      Member k t (Latch name u next) = (t < size) × (class u ≡ k) × (IsEnabled whole u × M t u)
      Member k t (Port out from) = ⊥

      member_decided : (k t : ℕ) (e : Equation (Either ℕ ℕ)) → Contains whole.equations e → Decided (Member k t e)
      member_decided k t (Gate out fanins cover) there = inr (λ x. x)
      member_decided k t (Port out from) there = inr (λ x. x)
      member_decided k t (Latch name u next) there = go (which t size) (same_or_not (class u) k)
        where
          which : (x y : ℕ) → (x < y) ⊎ (y ≤ x)
          which x y = grind arith

          go : (t < size) ⊎ (size ≤ t) → (class u ≡ k) ⊎ (class u ≢ k) → Decided (Member k t (Latch name u next))
          go (inr past) other = inr (λ x. let l = x.0 in omega arith)
          go (inl low) (inr other) = inr (λ x. other x.1)
          go (inl low) (inl e) = pick (facts (Latch name u next) there t low)
            where
              pick : Decided (IsEnabled whole u × M t u) → Decided (Member k t (Latch name u next))
              pick (inl y) = inl (low, e, y)
              pick (inr unsettled) = inr (λ x. unsettled x.2)

      -- its last load
      own_last : (t : ℕ) (name : List ℕ) (u next : Either ℕ ℕ) → t < size → IsLatch whole name u next → IsEnabled whole u → M t u → (e : ℕ) × IsLastLoad whole run u next t e
      own_last t name u next h latch on mark =
          let all = events t u h mark in
          let cone : ConeLatches whole u u = (name, next, latch, Reaches.here) in
          let at = all.exist (class u ∷ []) (u, cone, refl) in
          (at.0, all.together [] t at.0 name u next cone latch on refl at.1)

      abbrev Members : ℕ → ℕ → Type 0
      Members k t = ((e : Equation (Either ℕ ℕ)) × Contains whole.equations e × Member k t e) ⊎ ((e : Equation (Either ℕ ℕ)) → Contains whole.equations e → Member k t e → ⊥)

      member_last : (k t : ℕ) (e : Equation (Either ℕ ℕ)) → Contains whole.equations e → Member k t e → ℕ
      member_last k t (Gate out fanins cover) there x = 0
      member_last k t (Latch name u next) there x = (own_last t name u next x.0 there x.2.0 x.2.1).0
      member_last k t (Port out from) there x = 0

      pick_last : (k t : ℕ) → Members k t → ℕ
      pick_last k t (inl x) = member_last k t x.0 x.1 x.2
      pick_last k t (inr none) = 0

      -- the last load of a class before a cycle
      last_load : ℕ → ℕ → ℕ
      last_load zero t = t - 1
      last_load (suc k) t = pick_last (suc k) t (find_or (Member (suc k) t) whole.equations (member_decided (suc k) t))

      last_load-is : (k t : ℕ) (name : List ℕ) (v next : Either ℕ ℕ) (d : ℕ) → t < size → IsLatch whole name v next → IsEnabled whole v → class v ≡ suc k → M t v → IsLastLoad whole run v next t d → last_load (suc k) t ≡ d
      unfolding last_load pick_last member_last
      last_load-is k t name v next d h latch on class_is mark last = go (find_or (Member (suc k) t) whole.equations (member_decided (suc k) t))
        where
          of_member : (e : Equation (Either ℕ ℕ)) (there : Contains whole.equations e) (x : Member (suc k) t e) → member_last (suc k) t e there x ≡ d
          of_member (Gate out fanins cover) there x = absurd x
          of_member (Port out from) there x = absurd x
          of_member (Latch name' u next') there x =
              let own = own_last t name' u next' x.0 there x.2.0 x.2.1 in
              loads_are_one a b m n left right class na nb numbered left_long right_long classes depths size run shared name' name u next' v next t own.0 d h there latch x.2.0 on (x.1 ∙ sym class_is) x.2.1 mark own.1 last

          go : (found : Members (suc k) t) → pick_last (suc k) t found ≡ d
          go (inl x) = of_member x.0 x.1 x.2
          go (inr none) = absurd (none (Latch name v next) latch (h, class_is, (on, mark)))

      last_load-zero : (t : ℕ) → last_load zero t ≡ t - 1
      unfolding last_load
      last_load-zero t = refl

      module _ (t : ℕ) (h : t < size) (p : Either ℕ ℕ) (mark : M t p) where
        Cycle : List ℕ → ℕ → Type 0
        Cycle node e = EventCycle side (IsEnabled whole) (ConeLatches whole p) run t node e

        start_is : (w : Either ℕ ℕ) → ConeLatches whole p w → ((name : List ℕ) × (next : Either ℕ ℕ) × IsLatch whole name w next) × M t w
        start_is w cone = ((cone.0, cone.1, cone.2), marks_down whole (IsEnabled whole) run (joined_single a b m n na nb) cone.3 t mark)

        abbrev Reach : List ℕ → Either ℕ ℕ → Type 0
        Reach node w = ReachedAt side (IsEnabled whole) (ConeLatches whole p) node w

        -- what is reached at a node is settled in its cycle, which isn't past t
        at_node : (node : List ℕ) (cycle : ℕ) → IsNode side (IsEnabled whole) (ConeLatches whole p) node → Cycle node cycle → (cycle ≤ t) × ((w : Either ℕ ℕ) → Reach node w → M cycle w)
        unfolding Cycle
        at_node node cycle here is =
            let x = there side joined_same (joined_single a b m n na nb) (joined_can_put a b m n na nb) (joined_determined a b m n na nb) (rises_at whole (joined_single a b m n na nb) joined_same depths) classes.is_map.plain
            size run shared.is_run (loads_are_one a b m n left right class na nb numbered left_long right_long classes depths size run shared)
            (loads_before a b m n left right class na nb numbered left_long right_long classes depths size run shared) (ConeLatches whole p) t h start_is node here in
            let one : x.cycle ≡ cycle = cycle_once side (IsEnabled whole) run (ConeLatches whole p) t node x.cycle cycle x.is is in
            (omega (arith, x.low, one), λ w reached. subst (λ s. M s w) one (x.marked w reached))

        -- the event of a node that is reached is the cycle that the last loads give
        cycle_is : (node : List ℕ) (cycle : ℕ) → IsNode side (IsEnabled whole) (ConeLatches whole p) node → Cycle node cycle → cycle_by last_load t node ≡ cycle
        unfolding Cycle
        cycle_is [] cycle here is = sym is
        cycle_is (zero ∷ node) cycle here is =
            let up = cycle_is node (cycle + 1) (is_node side (IsEnabled whole) run (ConeLatches whole p) t node here.0 here.1) is in
            let back = last_load-zero (cycle_by last_load t node) in
            omega (arith, up, back)
        cycle_is (suc k ∷ node) cycle here is =
            let up = cycle_is node is.0 (is_node side (IsEnabled whole) run (ConeLatches whole p) t node here.0 here.1) is.1 in
            let at = at_node node is.0 (is_node side (IsEnabled whole) run (ConeLatches whole p) t node here.0 here.1) is.1 in
            let own : IsLastLoad whole run is.3.0 is.3.2 is.0 cycle = record { earlier = is.2; loads = is.3.6; not_since = λ s after before loads. is.4 s is.3.0 is.3.1 is.3.2 after before is.3.3 is.3.4 is.3.5 loads } in
            ap (last_load (suc k)) up ∙ go (enabled_or is.3.0) at own
          where
            go : IsEnabled whole is.3.0 ⊎ (IsEnabled whole is.3.0 → ⊥) → (is.0 ≤ t) × ((w : Either ℕ ℕ) → Reach node w → M is.0 w) → IsLastLoad whole run is.3.0 is.3.2 is.0 cycle → last_load (suc k) is.0 ≡ cycle
            go (inr off) at own = absurd (let z : class is.3.0 ≡ 0 = classes.is_map.plain is.3.1 is.3.0 is.3.2 is.3.5 off in let e : class is.3.0 ≡ suc k = is.3.4 in omega arith)
            go (inl on) at own =
                last_load-is k is.0 is.3.1 is.3.0 is.3.2 cycle (omega (arith, at.0, h)) is.3.5 on is.3.4 (at.1 is.3.0 is.3.3) own

      -- the frame of the run's rows at these cycles, none past the run's end
      abbrev frame_cycle : ℕ → List ℕ → ℕ
      frame_cycle t node = (size - 1) - ((size - 1) - cycle_by last_load t node)

      pub run_frame : ℕ → ℕ → List ℕ → Bool
      run_frame t i node = run_row (frame_cycle t node) i

      pub run_frame-filled : (t : ℕ) (p : Either ℕ ℕ) → t < size → M t p → IsFilled side (IsEnabled whole) (ConeLatches whole p) run t (run_frame t)
      unfolding run_frame Cycle
      run_frame-filled t p h mark node cycle x i here is number =
          let at = at_node t h p mark node cycle here is in
          let same = cycle_is t h p mark node cycle here is in
          let now : frame_cycle t node ≡ cycle = omega (arith, at.0, same) in
          run_row-is (frame_cycle t node) x i (omega (arith, now, at.0)) number ∙ ap (λ s. run s x) now

      pub run_frame-rows : (care : (ℕ → Bool) → Type 0) → HoldsAlong care whole (left ++ right) size run → (t : ℕ) → t < size → (node : List ℕ) → care (λ i. run_frame t i node)
      unfolding run_frame
      run_frame-rows care along t h node =
          along (frame_cycle t node) (omega arith) (λ i. run_frame t i node) (λ x i number. run_row-is (frame_cycle t node) x i (omega arith) number)

    -- all that isn't impossible may be used for an equation of bits
    known : {A : Type 0} → (((e : Equation (Either ℕ ℕ)) → Contains whole.equations e → Decided (IsEnabled whole (out_of e))) →
        ((e : Equation (Either ℕ ℕ)) → Contains whole.equations e → (s : ℕ) → s < size → Decided (SettledLatch e s)) → A) → Weakly A
    known from apart =
        weakly_each (λ e. Decided (IsEnabled whole (out_of e))) whole.equations (λ e c. weakly_decided) (λ kinds.
        weakly_each (λ e. (s : ℕ) → s < size → Decided (SettledLatch e s)) whole.equations
        (λ e c. weakly_below (λ s. Decided (SettledLatch e s)) size (λ s low. weakly_decided)) (λ facts.
        apart (from kinds facts)))

    -- two settled places whose functions agree in each frame with care of which each row is cared for have one value
    pub event_same_under : (care : (ℕ → Bool) → Type 0) → HoldsAlong care whole (left ++ right) size run → (t : ℕ) (p q : Either ℕ ℕ) (l r : Tree (List ℕ)) → t < size →
        EventUnfolds side (IsEnabled whole) None p [] l → EventUnfolds side (IsEnabled whole) None q [] r →
        ((bits : ℕ → List ℕ → Bool) → HasCare side (IsEnabled whole) (ConeLatches whole p) bits → HasCare side (IsEnabled whole) (ConeLatches whole q) bits → ((node : List ℕ) → care (λ i. bits i node)) →
        tree_value bits l ≡ tree_value bits r) → M t p → M t q → run t p ≡ run t q
    event_same_under care along t p q l r h ul ur equal mp mq =
        bits_same (run t p) (run t q) (known (λ kinds facts.
        let bits = run_frame kinds facts t in
        let fp = run_frame-filled kinds facts t p h mp in
        let fq = run_frame-filled kinds facts t q h mq in
        let ep = events t p h mp in
        let eq = events t q h mq in
        sym (ep.value bits l fp ul)
        ∙ (equal bits (ep.care bits fp) (eq.care bits fq) (run_frame-rows kinds facts care along t h) ∙ eq.value bits r fq ur)))

  -- of two runs with equal inputs
  pub event_pair_under : (care : (ℕ → Bool) → Type 0) (size : ℕ) (l r : ℕ → ℕ → Bool) → AreAlike a b size l r → HoldsAlong care a left size l → (t p q : ℕ) (lt rt : Tree (List ℕ)) → t < size →
      EventUnfolds side (IsEnabled whole) None (Left p) [] lt → EventUnfolds side (IsEnabled whole) None (Right q) [] rt →
      ((bits : ℕ → List ℕ → Bool) → HasCare side (IsEnabled whole) (ConeLatches whole (Left p)) bits → HasCare side (IsEnabled whole) (ConeLatches whole (Right q)) bits → ((node : List ℕ) → care (λ i. bits i node)) →
      tree_value bits lt ≡ tree_value bits rt) → Marked a (IsEnabled a) l t p → Marked b (IsEnabled b) r t q → l t p ≡ r t q
  event_pair_under care size l r alike along t p q lt rt h ul ur equal lm rm =
      event_same_under size (λ s. beside (l s) (r s)) (side_run a b m n left right class na nb numbered left_long right_long classes depths size l r alike) care
      (λ s k row are. along s k row (λ x i number. are (Left x) i (beside_left a.inputs left (map (moved_name Right) b.inputs) right x i number)))
      t (Left p) (Right q) lt rt h ul ur equal
      (left_mark a b m n left right class na nb numbered left_long right_long classes depths size l r alike t p h lm)
      (right_mark a b m n left right class na nb numbered left_long right_long classes depths size l r alike t q h rm)
