-- Equal event functions mean agreement in the event mode, for two nets without exposed latches.
use Rattle.std.proofs.Common.{◌≡◌, ◌≢◌, ℕ, suc, ◌<◌, ◌≤◌, max, Bool, true, false, List, [], ◌∷◌, ◌++◌, length, ◌-◌, refl, sym, ◌∙◌, ap, subst, arith, inl, inr, Some, None}
use Rattle.std.specs.Prelude.{◌⊎◌}
use Rattle.std.specs.List.{Contains}
use Rattle.circuit_theory.specs.declared.Mode.TheVariants.{Event}
use Rattle.circuit_theory.specs.Circuit.{Circuit, Equation, Gate, Latch, Port, IsLatch, Meets, IsSingleDriven, InCone, Reads, Reaches, out_of}
use Rattle.circuit_theory.specs.Run.{ExtendsWith, Loads, IsEnabled, Marked}
use Rattle.circuit_theory.specs.Depth.{LatchReads, LatchChain, ChainFrom, IsDepth, LatchesHaveDepths}
use Rattle.circuit_theory.specs.Tree.{Tree, IsInputNumber, AreNumbered}
use Rattle.circuit_theory.specs.Net.{IsNet}
use Rattle.circuit_theory.specs.Frame.{EventSide, EventUnfolds, ConeLatches, ConeOthers, IsLastLoad, IsNumberedRun}
use Rattle.circuit_theory.specs.Joined.{Either, Left, Right, joined, beside}
use Rattle.circuit_theory.specs.Classes.{EnablesEqual, HasClasses}
use Rattle.circuit_theory.specs.Agree.{Agree, AreAlike, IsPair}
use Rattle.circuit_theory.specs.EventFits.{side_by_side, HaveEqualEvents}
use Rattle.circuit_laws.specs.event_laws.Laws.{EventFunctionsAgree}
use Rattle.circuit_theory.proofs.Lists.{Contains-cases}
use Rattle.circuit_laws.proofs.Agreement.{value_of_number, value_found, first_value}
use Rattle.circuit_theory.proofs.Sums.{same_or_not}
use Rattle.circuit_laws.proofs.Finite.{Decided, Weakly, weakly_decided, weakly_each, weakly_below, bits_same, find_or}
use Rattle.circuit_laws.proofs.finite_laws.Deciding.{latch_or}
use Rattle.circuit_laws.proofs.Joined.{run_joined}
use Rattle.circuit_laws.proofs.Parts.{marks_up}
use Rattle.circuit_laws.proofs.JoinedParts.{left_part, right_part, replace_left, replace_right, joined_same, joined_single, joined_can_put, joined_determined, joined_number, joined_number_once}
use Rattle.circuit_laws.proofs.event_laws.EventTrees.{event_tree, one_enable}
use Rattle.circuit_laws.proofs.event_laws.ClassMaps.{class_equal, class_always}
use Rattle.circuit_laws.proofs.event_laws.ClassEvents.{Qualifies, event, event-zero, always_loads, good_last, event_functions_agree}

-- a number above those of all that is driven
pub bound_of : {P : Type 0} (rank : P → ℕ) (es : List (Equation P)) → (R : ℕ) × ((e : Equation P) → Contains es e → rank (out_of e) < R)
bound_of rank [] = (0, λ e h. absurd (omega (arith, h.1)))
bound_of {P} rank (x ∷ es) = go (bound_of rank es)
  where
    go : (R : ℕ) × ((e : Equation P) → Contains es e → rank (out_of e) < R) → (R : ℕ) × ((e : Equation P) → Contains (x ∷ es) e → rank (out_of e) < R)
    go r = (max (suc (rank (out_of x))) r.0, λ e h. pick e (Contains-cases x e es h))
      where
        pick : (e : Equation P) → (x ≡ e) ⊎ Contains es e → rank (out_of e) < max (suc (rank (out_of x))) r.0
        pick e (inl q) = let same_rank : rank (out_of x) ≡ rank (out_of e) = ap (λ y. rank (out_of y)) q in omega arith
        pick e (inr k) = let l = r.1 e k in omega arith

module _ {P : Type 0} (c : Circuit P) (single : IsSingleDriven c) (same : (p q : P) → (p ≡ q) ⊎ (p ≢ q)) (depths : LatchesHaveDepths c (IsEnabled c)) where
  abbrev rank_by : (v : P) → ((name : List ℕ) × (next : P) × IsLatch c name v next) ⊎ ((name : List ℕ) (next : P) → IsLatch c name v next → ⊥) → ℕ
  rank_by v (inl l) = (depths l.0 v l.1 l.2).0
  rank_by v (inr none) = 0

  -- the depth of a latch in the event graph
  abbrev pub rank : P → ℕ
  rank v = rank_by v (latch_or same c.equations v)

  pub rank_is : (name : List ℕ) (v next : P) → IsLatch c name v next → IsDepth c (IsEnabled c) v (rank v)
  rank_is name v next latch = go (latch_or same c.equations v)
    where
      go : (x : ((name : List ℕ) × (next : P) × IsLatch c name v next) ⊎ ((name : List ℕ) (next : P) → IsLatch c name v next → ⊥)) → IsDepth c (IsEnabled c) v (rank_by v x)
      go (inl l) = (depths l.0 v l.1 l.2).1
      go (inr none) = absurd (none name next latch)

  -- a latch reads nothing in its own cycle
  reads_nothing : {w x : P} → Reaches c w x → (name : List ℕ) (next : P) → IsLatch c name w next → w ≡ x
  reads_nothing Reaches.here name next latch = refl
  reads_nothing {w} (Reaches.there (Reads.by_gate {fanins = fanins} {cover = cover} eq h) rest) name next latch = absurd (wrong (single.one (Gate w fanins cover) (Latch name w next) eq latch refl))
    where
      wrong : Gate w fanins cover ≡ Latch name w next → ⊥
      wrong e = cc
  reads_nothing {w} (Reaches.there (Reads.by_port {from = from} eq) rest) name next latch = absurd (wrong (single.one (Port w from) (Latch name w next) eq latch refl))
    where
      wrong : Port w from ≡ Latch name w next → ⊥
      wrong e = cc

  pub rank_falls : (u w : P) → ConeOthers c (IsEnabled c) u w → rank w < rank u
  rank_falls u w others = go (lower.reached)
    where
      name : List ℕ
      name = others.0

      next : P
      next = others.1

      latch : IsLatch c name u next
      latch = others.2

      cone : ConeLatches c next w
      cone = others.3

      upper : IsDepth c (IsEnabled c) u (rank u)
      upper = rank_is name u next latch

      lower : IsDepth c (IsEnabled c) w (rank w)
      lower = rank_is cone.0 w cone.1 cone.2

      from_u : (n : ℕ) → LatchChain c (IsEnabled c) u n → n ≤ rank u
      from_u n chain = upper.greatest n (inr (u, (inr (name, next, latch), Reaches.here), chain))

      reads : LatchReads c (IsEnabled c) [] u w
      reads = record {
        name = name;
        next = next;
        latch = latch;
        kept = λ h. omega (arith, h.1);
        other_name = cone.0;
        other_next = cone.1;
        other = cone.2;
        other_kept = λ h. omega (arith, h.1);
        cone = (inr (cone.0, cone.1, cone.2), cone.3);
        no_self_edge = λ en e. others.4 en (sym e);
      }

      go : ChainFrom c (IsEnabled c) w (rank w) → rank w < rank u
      go (inl e) = let one = from_u 1 (LatchChain.last latch) in omega arith
      go (inr x) =
          let here : w ≡ x.0 = reads_nothing x.1.1 cone.0 cone.1 cone.2 in
          let long = from_u (suc (rank w)) (LatchChain.more reads (subst (λ (z : P). LatchChain c (IsEnabled c) z (rank w)) (sym here) x.2)) in
          omega arith

  -- a latch counts itself
  pub rank_one : (name : List ℕ) (u next : P) → IsLatch c name u next → 1 ≤ rank u
  rank_one name u next latch = (rank_is name u next latch).greatest 1 (inr (u, (inr (name, next, latch), Reaches.here), LatchChain.last latch))

  -- the latches of a place's cone are no deeper than the place
  pub rank_within : (p : P) (d : ℕ) → IsDepth c (IsEnabled c) p d → (u : P) → ConeLatches c p u → rank u ≤ d
  rank_within p d depth u cone = go own.reached
    where
      own : IsDepth c (IsEnabled c) u (rank u)
      own = rank_is cone.0 u cone.1 cone.2

      go : ChainFrom c (IsEnabled c) u (rank u) → rank u ≤ d
      go (inl e) = omega (arith, e)
      go (inr x) =
          let here : u ≡ x.0 = reads_nothing x.1.1 cone.0 cone.1 cone.2 in
          depth.greatest (rank u) (inr (u, (inr (cone.0, cone.1, cone.2), cone.3), subst (λ (z : P). LatchChain c (IsEnabled c) z (rank u)) (sym here) x.2))

  pub rises_at : (name : List ℕ) (u next : P) → IsLatch c name u next → IsEnabled c u →
      (x low high : P → Bool) → ExtendsWith c u false x low → ExtendsWith c u true x high → low next ≡ true → high next ≡ true
  rises_at name u next latch en x low high l h e =
      let at : en.next ≡ next = ap next_of (single.one (Latch en.name u en.next) (Latch name u next) en.latch latch refl) in
      ap high (sym at) ∙ en.rises x low high l h (ap low at ∙ e)
    where
      next_of : Equation P → P
      next_of (Gate out fanins cover) = out
      next_of (Latch m out to) = to
      next_of (Port out from) = from

  -- what is said of each equation decides what counts as enabled
  pub kind_of : ((e : Equation P) → Contains c.equations e → Decided (IsEnabled c (out_of e))) → (v : P) → IsEnabled c v ⊎ (IsEnabled c v → ⊥)
  kind_of each v = go (latch_or same c.equations v)
    where
      go : ((name : List ℕ) × (next : P) × IsLatch c name v next) ⊎ ((name : List ℕ) (next : P) → IsLatch c name v next → ⊥) → IsEnabled c v ⊎ (IsEnabled c v → ⊥)
      go (inl l) = each (Latch l.0 v l.1) l.2
      go (inr none) = inr (λ en. none en.name en.next en.latch)

both_decided : {A B : Type 0} → Decided A → Decided B → Decided (A × B)
both_decided (inl a) (inl b) = inl (a, b)
both_decided (inl a) (inr absent) = inr (λ x. absent x.1)
both_decided (inr absent) b = inr (λ x. absent x.0)

number_decided : (m n : ℕ) → Decided (m < n)
number_decided m n = by (which m n)
  where
    which : (m n : ℕ) → (m < n) ⊎ (n ≤ m)
    which m n = grind arith

    by : (m < n) ⊎ (n ≤ m) → Decided (m < n)
    by (inl l) = inl l
    by (inr l) = inr (λ k. omega arith)

pub numbers_same : (i j : ℕ) → Weakly (i ≡ j) → i ≡ j
numbers_same i j weak = elim (same_or_not i j) [ inl e ↦ e | inr n ↦ absurd (weak n) ]

-- there is one last load
pub one_last_load : {P : Type 0} (c : Circuit P) (run : ℕ → P → Bool) (u next : P) (t e d : ℕ) → IsLastLoad c run u next t e → IsLastLoad c run u next t d → e ≡ d
one_last_load c run u next t e d x y = go (order e d)
  where
    order : (i j : ℕ) → (i ≡ j) ⊎ ((i < j) ⊎ (j < i))
    order i j = grind arith

    go : (e ≡ d) ⊎ ((e < d) ⊎ (d < e)) → e ≡ d
    go (inl q) = q
    go (inr (inl l)) = absurd (x.not_since d l y.earlier y.loads)
    go (inr (inr l)) = absurd (y.not_since e l x.earlier x.loads)

module _ (a b : Circuit ℕ) (m n : ℕ) (left right : List ℕ) (class : Either ℕ ℕ → ℕ) (na : IsNet a m) (nb : IsNet b n) (numbered : AreNumbered a b left right)
    (left_long : length left ≡ length a.inputs) (right_long : length right ≡ length b.inputs) (classes : HasClasses (side_by_side a b left right class))
    (depths : LatchesHaveDepths (joined a b) (IsEnabled (joined a b))) where
  abbrev whole : Circuit (Either ℕ ℕ)
  whole = joined a b

  abbrev side : EventSide (Either ℕ ℕ)
  side = side_by_side a b left right class

  abbrev single : IsSingleDriven whole
  single = joined_single a b m n na nb

  abbrev rank_of : Either ℕ ℕ → ℕ
  rank_of = rank whole single joined_same depths

  number_once : (r : Either ℕ ℕ) (i j : ℕ) → IsInputNumber whole (left ++ right) r i → IsInputNumber whole (left ++ right) r j → i ≡ j
  number_once r i j h k = joined_number_once a b m n na nb left right left_long r i j h k

  itself : (u : Either ℕ ℕ) → EnablesEqual side u u
  itself u bits x y cx cy ax ay = one_enable side (IsEnabled whole) single number_once bits u [] x y ax ay

  pub falls : (u w : Either ℕ ℕ) → ConeOthers whole (IsEnabled whole) u w → rank_of w < rank_of u
  falls = rank_falls whole single joined_same depths

  -- the two functions of an enabled latch have trees, where it is known what counts as enabled
  pub trees_of : ((v : Either ℕ ℕ) → IsEnabled whole v ⊎ (IsEnabled whole v → ⊥)) → (name : List ℕ) (v next : Either ℕ ℕ) (bit : Bool) (node : List ℕ) → IsLatch whole name v next →
      (tree : Tree (List ℕ)) × EventUnfolds side (IsEnabled whole) (Some (v, bit)) next node tree
  trees_of kind name v next bit node latch =
      event_tree side (IsEnabled whole) joined_same kind classes.numbered (joined_determined a b m n na nb) rank_of falls (rank_of v) next (Some (v, bit)) node
      (joined_determined a b m n na nb name v next latch) (λ w cone free. falls v w (name, next, latch, cone, λ e. free))

  -- a run of both circuits side by side, in which inputs of one number have one value
  module _ (length_ : ℕ) (run : ℕ → Either ℕ ℕ → Bool) (shared : IsNumberedRun side length_ run) where
    abbrev shared_bits : ℕ → ℕ → Bool
    shared_bits i t = first_value (value_of_number (run t) whole.inputs (left ++ right) i) None

    shared_are : (t : ℕ) (p : Either ℕ ℕ) (i : ℕ) → t < length_ → IsInputNumber whole (left ++ right) p i → shared_bits i t ≡ run t p
    shared_are t p i h k =
        let f = value_found (run t) whole.inputs (left ++ right) p i k in
        ap (λ o. first_value o None) f.2 ∙ shared.inputs t f.0 p i h f.1 k

    -- what has to be known of an equation in a cycle
    abbrev pub Fact : Equation (Either ℕ ℕ) → ℕ → Type 0
    Fact (Gate out fanins cover) t = ⊥
    Fact (Latch name u next) t = Loads whole (run t) u next × ((w : Either ℕ ℕ) → InCone whole next w → w ≢ u → Marked whole (IsEnabled whole) run t w)
    Fact (Port out from) t = ⊥

    -- where it is known what counts as enabled, and the facts of each cycle
    module _ (kinds : (e : Equation (Either ℕ ℕ)) → Contains whole.equations e → Decided (IsEnabled whole (out_of e)))
        (facts : (e : Equation (Either ℕ ℕ)) → Contains whole.equations e → (s : ℕ) → s < length_ → Decided (Fact e s)) where
      pub kind : (v : Either ℕ ℕ) → IsEnabled whole v ⊎ (IsEnabled whole v → ⊥)
      kind = kind_of whole single joined_same depths kinds

      bound : (R : ℕ) × ((e : Equation (Either ℕ ℕ)) → Contains whole.equations e → rank_of (out_of e) < R)
      bound = bound_of rank_of whole.equations

      trees : (name : List ℕ) (v next : Either ℕ ℕ) (bit : Bool) (node : List ℕ) → IsLatch whole name v next → IsEnabled whole v →
          (tree : Tree (List ℕ)) × EventUnfolds side (IsEnabled whole) (Some (v, bit)) next node tree
      trees name v next bit node latch en = trees_of kind name v next bit node latch

      abbrev Qualified : ℕ → ℕ → ℕ → Type 0
      Qualified R k s =
          Qualifies side joined_same single (joined_can_put a b m n na nb) (joined_determined a b m n na nb) (rises_at whole single joined_same depths) kind classes.is_map.plain
          (class_equal side classes itself) (class_always side classes itself) rank_of falls trees length_ run shared.is_run shared_bits shared_are R k s

      -- the same of one equation
      abbrev Of : ℕ → ℕ → ℕ → Equation (Either ℕ ℕ) → Type 0
      Of R k s (Gate out fanins cover) = ⊥
      Of R k s (Latch name u next) = (s < length_) × ((IsEnabled whole u × ((side.class u ≡ k) × (rank_of u < R))) × Fact (Latch name u next) s)
      Of R k s (Port out from) = ⊥

      of_decided : (R k s : ℕ) (e : Equation (Either ℕ ℕ)) → Contains whole.equations e → Decided (Of R k s e)
      of_decided R k s (Gate out fanins cover) c = inr (λ x. x)
      of_decided R k s (Port out from) c = inr (λ x. x)
      of_decided R k s (Latch name u next) c = by (number_decided s length_)
        where
          by : Decided (s < length_) → Decided (Of R k s (Latch name u next))
          by (inl low) =
              both_decided (inl low) (both_decided (both_decided (kinds (Latch name u next) c) (both_decided (same_or_not (side.class u) k) (number_decided (rank_of u) R))) (facts (Latch name u next) c s low))
          by (inr high) = inr (λ x. high x.0)

      decide : (R k s : ℕ) → Qualified R k s ⊎ (Qualified R k s → ⊥)
      decide R k s = go (find_or (Of R k s) whole.equations (of_decided R k s))
        where
          found : (e : Equation (Either ℕ ℕ)) → Contains whole.equations e → Of R k s e → Qualified R k s
          found (Gate out fanins cover) c x = absurd x
          found (Port out from) c x = absurd x
          found (Latch name u next) c x = record {
            in_run = x.0;
            name = name;
            u = u;
            next = next;
            latch = c;
            enabled = x.1.0.0;
            class_is = x.1.0.1.0;
            low_rank = x.1.0.1.1;
            others = x.1.1.1;
            loads = x.1.1.0;
          }

          go : ((e : Equation (Either ℕ ℕ)) × Contains whole.equations e × Of R k s e) ⊎ ((e : Equation (Either ℕ ℕ)) → Contains whole.equations e → Of R k s e → ⊥) →
              Qualified R k s ⊎ (Qualified R k s → ⊥)
          go (inl x) = inl (found x.0 x.1 x.2)
          go (inr none) = inr (λ x. none (Latch x.name x.u x.next) x.latch (x.in_run, ((x.enabled, (x.class_is, x.low_rank)), (x.loads, x.others))))

      agree_at : (t : ℕ) (p q : Either ℕ ℕ) → t < length_ → HaveEqualEvents side p q → Marked whole (IsEnabled whole) run t p → Marked whole (IsEnabled whole) run t q → run t p ≡ run t q
      agree_at t p q h equal mp mq =
          event_functions_agree side joined_same single (joined_can_put a b m n na nb) (joined_determined a b m n na nb) (rises_at whole single joined_same depths) kind classes.is_map.plain
          (class_equal side classes itself) (class_always side classes itself) rank_of falls trees length_ run shared.is_run shared_bits shared_are decide bound.0 t p q equal.left_tree equal.right_tree h
          (λ w cone. bound.1 (Latch cone.0 w cone.1) cone.2) (λ w cone. bound.1 (Latch cone.0 w cone.1) cone.2) mp mq equal.left_unfolds equal.right_unfolds (λ bits l r. equal.same bits (l, r))

      -- the last load of each settled latch is one that its class has, and of class 0 the cycle before
      last_is : (last : ℕ → ℕ → ℕ) × ((t : ℕ) → last 0 t ≡ t - 1)
          × ((name : List ℕ) (v next : Either ℕ ℕ) (t : ℕ) → IsLatch whole name v next → t < length_ → Marked whole (IsEnabled whole) run t v → IsEnabled whole v → IsLastLoad whole run v next t (last (side.class v) t))
      last_is = (
        event side joined_same single (joined_can_put a b m n na nb) (joined_determined a b m n na nb) (rises_at whole single joined_same depths) kind classes.is_map.plain
            (class_equal side classes itself) (class_always side classes itself) rank_of falls trees length_ run shared.is_run shared_bits shared_are decide bound.0,
        event-zero side joined_same single (joined_can_put a b m n na nb) (joined_determined a b m n na nb) (rises_at whole single joined_same depths) kind classes.is_map.plain
            (class_equal side classes itself) (class_always side classes itself) rank_of falls trees length_ run shared.is_run shared_bits shared_are decide bound.0,
        λ name v next t latch h mark en.
            good_last side joined_same single (joined_can_put a b m n na nb) (joined_determined a b m n na nb) (rises_at whole single joined_same depths) kind classes.is_map.plain
            (class_equal side classes itself) (class_always side classes itself) rank_of falls trees length_ run shared.is_run shared_bits shared_are decide bound.0
            name v next t latch (bound.1 (Latch name v next) latch) h mark en,
      )

      -- a latch of class 0 loads wherever the others of its cone are settled
      pub loads_always : (name : List ℕ) (u next : Either ℕ ℕ) (t : ℕ) → t < length_ → IsLatch whole name u next → IsEnabled whole u → side.class u ≡ 0 →
          ((w : Either ℕ ℕ) → InCone whole next w → w ≢ u → Marked whole (IsEnabled whole) run t w) → Loads whole (run t) u next
      loads_always name u next t h latch en e others =
          let low = bound.1 (Latch name u next) latch in
          always_loads side joined_same single (joined_can_put a b m n na nb) (joined_determined a b m n na nb) (rises_at whole single joined_same depths) kind classes.is_map.plain
          (class_equal side classes itself) (class_always side classes itself) rank_of falls trees length_ run shared.is_run shared_bits shared_are decide bound.0 t h name u next latch en e (omega arith) others

    -- all that isn't impossible may be used for what isn't impossible
    pub known : {A : Type 0} → (((e : Equation (Either ℕ ℕ)) → Contains whole.equations e → Decided (IsEnabled whole (out_of e))) →
        ((e : Equation (Either ℕ ℕ)) → Contains whole.equations e → (s : ℕ) → s < length_ → Decided (Fact e s)) → A) → Weakly A
    known from apart =
        weakly_each (λ e. Decided (IsEnabled whole (out_of e))) whole.equations (λ e c. weakly_decided) (λ kinds.
        weakly_each (λ e. (s : ℕ) → s < length_ → Decided (Fact e s)) whole.equations
        (λ e c. weakly_below (λ s. Decided (Fact e s)) length_ (λ s low. weakly_decided)) (λ facts.
        apart (from kinds facts)))

    -- settled latches of one class have one last load
    pub loads_are_one : (name name' : List ℕ) (u next v next' : Either ℕ ℕ) (t e d : ℕ) → t < length_ → IsLatch whole name u next → IsLatch whole name' v next' → IsEnabled whole u → IsEnabled whole v →
        side.class u ≡ side.class v → Marked whole (IsEnabled whole) run t u → Marked whole (IsEnabled whole) run t v → IsLastLoad whole run u next t e → IsLastLoad whole run v next' t d → e ≡ d
    loads_are_one name name' u next v next' t e d h lu lv eu ev class_is mu mv last_u last_v =
        numbers_same e d (known (λ kinds facts.
        let l = last_is kinds facts in
        one_last_load whole run u next t e _ last_u (l.2 name u next t lu h mu eu) ∙ (ap (λ k. l.0 k t) class_is ∙ one_last_load whole run v next' t _ d (l.2 name' v next' t lv h mv ev) last_v)))

    -- one of class 0 has it in the cycle before
    pub loads_before : (name : List ℕ) (u next : Either ℕ ℕ) (t e : ℕ) → t < length_ → IsLatch whole name u next → IsEnabled whole u → side.class u ≡ 0 → Marked whole (IsEnabled whole) run t u →
        IsLastLoad whole run u next t e → e ≡ t - 1
    loads_before name u next t e h lu eu class_is mu last_u =
        numbers_same e (t - 1) (known (λ kinds facts.
        let l = last_is kinds facts in
        one_last_load whole run u next t e _ last_u (l.2 name u next t lu h mu eu) ∙ (ap (λ k. l.0 k t) class_is ∙ l.1 t)))

    -- two settled places with equal event functions have one value
    pub event_places_agree : (t : ℕ) (p q : Either ℕ ℕ) → t < length_ → HaveEqualEvents side p q → Marked whole (IsEnabled whole) run t p → Marked whole (IsEnabled whole) run t q → run t p ≡ run t q
    event_places_agree t p q h equal mp mq = bits_same (run t p) (run t q) (known (λ kinds facts. agree_at kinds facts t p q h equal mp mq))

  -- two runs with equal inputs, side by side
  module _ (length_ : ℕ) (l : ℕ → ℕ → Bool) (r : ℕ → ℕ → Bool) (alike : AreAlike a b length_ l r) where
    pub side_run : IsNumberedRun side length_ (λ t. beside (l t) (r t))
    side_run = record { is_run = run_joined a b length_ l r alike.left_run alike.right_run; inputs = number_same }
      where
        number_same : (t : ℕ) (x y : Either ℕ ℕ) (i : ℕ) → t < length_ → IsInputNumber whole (left ++ right) x i → IsInputNumber whole (left ++ right) y i → beside (l t) (r t) x ≡ beside (l t) (r t) y
        number_same t x y i h hx hy = go (joined_number a b left right left_long x i hx) (joined_number a b left right left_long y i hy)
          where
            run : Either ℕ ℕ → Bool
            run = beside (l t) (r t)

            Of : Either ℕ ℕ → Type 0
            Of z = ((p : ℕ) × (Left p ≡ z) × IsInputNumber a left p i) ⊎ ((q : ℕ) × (Right q ≡ z) × IsInputNumber b right q i)

            across : (p q : ℕ) → IsInputNumber a left p i → IsInputNumber b right q i → l t p ≡ r t q
            across p q hp hq = let name = numbered.shared p q i hp hq in alike.equal_inputs name.0 p q name.1 name.2 t h

            go : Of x → Of y → run x ≡ run y
            go (inl p) (inl q) = ap run (sym p.1) ∙ (ap (l t) (numbered.left_once p.0 q.0 i p.2 q.2) ∙ ap run q.1)
            go (inl p) (inr q) = ap run (sym p.1) ∙ (across p.0 q.0 p.2 q.2 ∙ ap run q.1)
            go (inr p) (inl q) = ap run (sym p.1) ∙ (sym (across q.0 p.0 q.2 p.2) ∙ ap run q.1)
            go (inr p) (inr q) = ap run (sym p.1) ∙ (ap (r t) (numbered.right_once p.0 q.0 i p.2 q.2) ∙ ap run q.1)

    runs : (s : ℕ) → s < length_ → Meets whole (beside (l s) (r s))
    runs s low = side_run.is_run.meets s low

    -- what is settled in one of them is settled there
    pub left_mark : (t p : ℕ) → t < length_ → Marked a (IsEnabled a) l t p → Marked whole (IsEnabled whole) (λ s. beside (l s) (r s)) t (Left p)
    left_mark t p h mark = marks_up a whole Left (replace_left a b) (left_part a b) (beside (l t) (r t)) (runs t h) length_ (λ s. beside (l s) (r s)) runs mark h

    pub right_mark : (t q : ℕ) → t < length_ → Marked b (IsEnabled b) r t q → Marked whole (IsEnabled whole) (λ s. beside (l s) (r s)) t (Right q)
    right_mark t q h mark = marks_up b whole Right (replace_right a b) (right_part a b) (beside (l t) (r t)) (runs t h) length_ (λ s. beside (l s) (r s)) runs mark h

    -- two places that are settled in their circuits, with equal event functions, have one value
    pub event_pair_agrees : (t p q : ℕ) → t < length_ → HaveEqualEvents side (Left p) (Right q) → Marked a (IsEnabled a) l t p → Marked b (IsEnabled b) r t q → l t p ≡ r t q
    event_pair_agrees t p q h equal lm rm = event_places_agree length_ (λ s. beside (l s) (r s)) side_run t (Left p) (Right q) h equal (left_mark t p h lm) (right_mark t q h rm)

  pub events_agree : ((p q : ℕ) → IsPair [] a b p q → HaveEqualEvents side (Left p) (Right q)) → Agree Event a b
  events_agree equal length_ l r alike t p q h pair lm rm = event_pair_agrees length_ l r alike t p q h (equal p q pair) lm rm

pub event_functions_agree_in_nets : EventFunctionsAgree
event_functions_agree_in_nets a b m n left right class na nb numbered left_long right_long classes depths equal =
    events_agree a b m n left right class na nb numbered left_long right_long classes depths equal
