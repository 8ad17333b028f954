-- The cycles of events are those of runs in which exposed latches are exchanged, where all is settled that is read.
use Rattle.std.proofs.Common.{◌≡◌, ◌≢◌, ℕ, zero, suc, ◌+◌, ◌-◌, ◌<◌, ◌≤◌, Bool, true, false, List, [], ◌∷◌, length, refl, sym, ◌∙◌, ap, subst, arith, inl, inr}
use Rattle.std.specs.Prelude.{◌⊎◌}
use Rattle.circuit_theory.specs.declared.Mode.TheVariants.{Event}
use Rattle.circuit_theory.specs.Circuit.{Circuit, Latch, IsLatch, IsSingleDriven, Meets, InCone}
use Rattle.circuit_theory.specs.Run.{IsEnabled, ExtendsWith, Loads, CanPut, IsDetermined, Marked}
use Rattle.circuit_theory.specs.Tree.{AreNumbered}
use Rattle.circuit_theory.specs.Net.{IsNet, HasDistinctNames}
use Rattle.circuit_theory.specs.Frame.{EventSide, ConeLatches, ReachedAt, EventCycle, IsNode}
use Rattle.circuit_theory.specs.Joined.{Either, Left, Right, joined, beside}
use Rattle.circuit_theory.specs.Classes.{HasClasses}
use Rattle.circuit_theory.specs.Agree.{cut, AreAlike, IsMinimalCut}
use Rattle.circuit_theory.specs.EventFits.{side_by_side}
use Rattle.circuit_theory.specs.Depth.{LatchesHaveDepths}
use Rattle.circuit_laws.specs.event_laws.Laws.{ExposedEventsAreCommon}
use Rattle.circuit_laws.proofs.Marks.{MarkSays, mark_says, marks_stay, marks_down}
use Rattle.circuit_laws.proofs.SameMarks.{values_by_cone}
use Rattle.circuit_laws.proofs.Parts.{IsPart, latch_from, cone_from, enabled_up, enabled_from, loads_up}
use Rattle.circuit_laws.proofs.Joined.{run_joined}
use Rattle.circuit_laws.proofs.JoinedParts.{left_part, right_part, replace_left, replace_right, joined_same, joined_can_put, joined_determined}
use Rattle.circuit_laws.proofs.Onward.{cut_run}
use Rattle.circuit_laws.proofs.Parted.{kept_equation}
use Rattle.circuit_laws.proofs.event_laws.CutParts.{cone_uncut, extends_cut, enabled_uncut, enabled_cut}
use Rattle.circuit_laws.proofs.event_laws.EventAgreement.{side_run, left_mark, right_mark}
use Rattle.circuit_laws.proofs.event_laws.SettledEvents.{events_are_common_in_nets}
use Rattle.circuit_laws.proofs.event_laws.ExposedEvents.{left_net, right_net, new_left, new_right, new_alike, left_kept, right_kept}

-- values that are one at the other sources of the cone make the latch load alike
loads_between : {P : Type 0} (c : Circuit P) (same : (p q : P) → (p ≡ q) ⊎ (p ≢ q)) → CanPut c → (x y : P → Bool) → Meets c y → (name : List ℕ) (u next : P) → IsLatch c name u next → IsDetermined c next →
    ((w : P) → InCone c next w → w ≢ u → x w ≡ y w) → Loads c x u next → Loads c y u next
loads_between {P} c same can_put x y meets name u next latch det others loads = record {
  low = low.0;
  high = high.0;
  low_is = low.1;
  high_is = high.1;
  same = sym (one false loads.low low.0 loads.low_is low.1) ∙ (loads.same ∙ one true loads.high high.0 loads.high_is high.1);
}
  where
    low : (z : P → Bool) × ExtendsWith c u false y z
    low = can_put y name u next false latch meets

    high : (z : P → Bool) × ExtendsWith c u true y z
    high = can_put y name u next true latch meets

    one : (bit : Bool) (v w : P → Bool) → ExtendsWith c u bit x v → ExtendsWith c u bit y w → v next ≡ w next
    one bit v w ev ew = values_by_cone c v w ev.meets ew.meets det at
      where
        at : (p : P) → InCone c next p → v p ≡ w p
        at p cone = go (same p u)
          where
            go : (p ≡ u) ⊎ (p ≢ u) → v p ≡ w p
            go (inl e) = ap v e ∙ (ev.put ∙ (sym ew.put ∙ sym (ap w e)))
            go (inr ne) = ev.sources p cone.0 ne ∙ (others p cone ne ∙ sym (ew.sources p cone.0 ne))

-- Two runs of one circuit, and places that are known to be one in both.
module _ {P : Type 0} (side : EventSide P) (same : (p q : P) → (p ≡ q) ⊎ (p ≢ q)) (can_put : CanPut side.circuit)
    (det : (name : List ℕ) (u next : P) → IsLatch side.circuit name u next → IsDetermined side.circuit next)
    (plain_zero : (name : List ℕ) (u next : P) → IsLatch side.circuit name u next → (IsEnabled side.circuit u → ⊥) → side.class u ≡ 0)
    (n : ℕ) (run other : ℕ → P → Bool) (meets : (t : ℕ) → t < n → Meets side.circuit (run t)) (meets_other : (t : ℕ) → t < n → Meets side.circuit (other t))
    (Z : ℕ → P → Type 0) (one : (t : ℕ) (w : P) → t < n → Z t w → run t w ≡ other t w) (stays : (s t : ℕ) (w : P) → s ≤ t → Z s w → Z t w)
    (says : (t : ℕ) (name : List ℕ) (u next : P) → t < n → IsLatch side.circuit name u next → Z t u →
    ((IsEnabled side.circuit u → ⊥) × ((s : ℕ) × (t ≡ suc s) × ((w : P) → InCone side.circuit next w → Z s w)))
    ⊎ (IsEnabled side.circuit u × ((s : ℕ) × (s < t) × Loads side.circuit (run s) u next × ((w : P) → InCone side.circuit next w → w ≢ u → Z s w)))) where
  abbrev c : Circuit P
  c = side.circuit

  abbrev On : P → Type 0
  On = IsEnabled side.circuit

  -- what is said of a latch in a cycle
  abbrev Says : ℕ → P → P → Type 0
  Says t u next = ((On u → ⊥) × ((s : ℕ) × (t ≡ suc s) × ((w : P) → InCone c next w → Z s w))) ⊎ (On u × ((s : ℕ) × (s < t) × Loads c (run s) u next × ((w : P) → InCone c next w → w ≢ u → Z s w)))

  module _ (start : P → Type 0) (t : ℕ) (h : t < n) (start_is : (w : P) → start w → ((name : List ℕ) × (next : P) × IsLatch c name w next) × Z t w) where
    abbrev Reach : List ℕ → P → Type 0
    Reach node w = ReachedAt side On start node w

    latch_of : (node : List ℕ) (w : P) → Reach node w → (name : List ℕ) × (next : P) × IsLatch c name w next
    latch_of [] w r = (start_is w r).0
    latch_of (k ∷ node) w r = let cone = r.3.3 in (cone.0, cone.1, cone.2)

    -- the node has this cycle in the other run too, and what is reached is known there
    abbrev Moved : List ℕ → ℕ → Type 0
    Moved node e = EventCycle side On start other t node e × (e ≤ t) × ((w : P) → Reach node w → Z e w)

    module _ (k : ℕ) (node : List ℕ) (parent e : ℕ) (up : Moved node parent) (before : e < parent)
        (none : (s : ℕ) (v : P) (name : List ℕ) (next : P) → e < s → s < parent → Reach node v → side.class v ≡ suc k → IsLatch c name v next → Loads c (run s) v next → ⊥) where
      -- the others of the cone of a latch that is reached are known from the event on
      known_from : (name : List ℕ) (v next : P) → IsLatch c name v next → Reach node v → side.class v ≡ suc k → On v × ((s : ℕ) → e ≤ s → (w : P) → InCone c next w → w ≢ v → Z s w)
      known_from name v next latch r class_is = go (says parent name v next (omega (arith, up.1, h)) latch (up.2 v r))
        where
          no_load_after : (s : ℕ) → (e < s → ⊥) → s ≤ e
          no_load_after s f = grind arith

          go : Says parent v next → On v × ((s : ℕ) → e ≤ s → (w : P) → InCone c next w → w ≢ v → Z s w)
          go (inl plain) = absurd (omega (arith, plain_zero name v next latch plain.0, class_is))
          go (inr held) =
              let early : held.1.0 ≤ e = no_load_after held.1.0 (λ l. none held.1.0 v name next l held.1.1 r class_is latch held.1.2) in
              (held.0, λ s le w cone ne. stays held.1.0 s w (omega (arith, early, le)) (held.1.3 w cone ne))

      moved_held : (u : P) (name : List ℕ) (next : P) → Reach node u → side.class u ≡ suc k → IsLatch c name u next → Loads c (run e) u next → Moved (suc k ∷ node) e
      moved_held u name next r class_is latch loads = (
        (parent, up.0, before, (u, name, next, r, class_is, latch, there), none_there),
        omega (arith, before, up.1),
        marked,
      )
        where
          in_run : e < n
          in_run = omega (arith, before, up.1, h)

          there : Loads c (other e) u next
          there = loads_between c same can_put (run e) (other e) (meets_other e in_run) name u next latch (det name u next latch)
              (λ w cone ne. one e w in_run ((known_from name u next latch r class_is).1 e (omega arith) w cone ne)) loads

          none_there : (s : ℕ) (v : P) (m : List ℕ) (to : P) → e < s → s < parent → Reach node v → side.class v ≡ suc k → IsLatch c m v to → Loads c (other s) v to → ⊥
          none_there s v m to after early r' class_is' latch' loads' =
              let s_run : s < n = omega (arith, early, up.1, h) in
              none s v m to after early r' class_is' latch'
              (loads_between c same can_put (other s) (run s) (meets s s_run) m v to latch' (det m v to latch') (λ w cone ne. sym (one s w s_run ((known_from m v to latch' r' class_is').1 s (omega arith) w cone ne))) loads')

          marked : (w : P) → Reach (suc k ∷ node) w → Z e w
          marked w reached =
              let others = reached.3 in
              let from = known_from others.0 reached.0 others.1 others.2 reached.1 reached.2 in
              from.1 e (omega arith) w (inr (others.3.0, others.3.1, others.3.2), others.3.3) (others.4 from.0)

    pub moved : (node : List ℕ) (e : ℕ) → EventCycle side On start run t node e → Moved node e
    moved [] e is = (is, omega (arith, is), λ w r. subst (λ s. Z s w) (sym is) (start_is w r).1)
    moved (zero ∷ node) e is = go (moved node (e + 1) is)
      where
        go : Moved node (e + 1) → Moved (0 ∷ node) e
        go up = (up.0, omega (arith, up.1), marked)
          where
            marked : (w : P) → Reach (0 ∷ node) w → Z e w
            marked w reached = pick (says (e + 1) reached.3.0 reached.0 reached.3.1 (omega (arith, up.1, h)) reached.3.2 (up.2 reached.0 reached.1))
              where
                cone : InCone c reached.3.1 w
                cone = (inr (reached.3.3.0, reached.3.3.1, reached.3.3.2), reached.3.3.3)

                pick : Says (e + 1) reached.0 reached.3.1 → Z e w
                pick (inl plain) = subst (λ s. Z s w) (let z : plain.1.0 ≡ e = omega (arith, plain.1.1) in z) (plain.1.2 w cone)
                pick (inr held) = stays held.1.0 e w (omega (arith, held.1.1)) (held.1.3 w cone (reached.3.4 held.0))
    moved (suc k ∷ node) e is =
        moved_held k node is.0 e (moved node is.0 is.1) is.2 is.4 is.3.0 is.3.1 is.3.2 is.3.3 is.3.4 is.3.5 is.3.6

-- One side: what is settled in the circuit itself is read from what is settled there.
module _ {R : Type 0} (names : List (List ℕ)) (c : Circuit ℕ) (single : IsSingleDriven c) (distinct : HasDistinctNames c) (j : Circuit R) (f : ℕ → R) (replace : (R → Bool) → (ℕ → Bool) → R → Bool)
    (part : IsPart (cut names c) j f replace) (size : ℕ) (run : ℕ → R → Bool) (meets : (t : ℕ) → t < size → Meets j (run t)) (Z : ℕ → R → Type 0)
    (into : (t p : ℕ) → Marked c (IsEnabled c) (λ s q. run s (f q)) t p → Z t (f p)) where
  abbrev pub own : ℕ → ℕ → Bool
  own s q = run s (f q)

  pub cone_known : (s nx : ℕ) (w : R) → Marked c (IsEnabled c) own s nx → InCone j (f nx) w → Z s w
  cone_known s nx w mark cone =
      let v = cone_from (cut names c) j f replace part nx w cone in
      subst (Z s) v.1 (into s v.0 (marks_down c (IsEnabled c) own single (cone_uncut names c single distinct nx v.0 v.2).1 s mark))

  pub part_says : (t : ℕ) (name : List ℕ) (u : ℕ) (next : R) → t < size → IsLatch j name (f u) next → Marked c (IsEnabled c) own t u →
      ((IsEnabled j (f u) → ⊥) × ((s : ℕ) × (t ≡ suc s) × ((w : R) → InCone j next w → Z s w)))
      ⊎ (IsEnabled j (f u) × ((s : ℕ) × (s < t) × Loads j (run s) (f u) next × ((w : R) → InCone j next w → w ≢ f u → Z s w)))
  part_says t name u next h latch mark = go (mark_says c (IsEnabled c) own single mark (Latch name u mine.0) (kept_equation names c (Latch name u mine.0) mine.1) refl)
    where
      mine : (nx : ℕ) × IsLatch (cut names c) name u nx × (f nx ≡ next)
      mine = latch_from (cut names c) j f replace part name u next latch

      go : MarkSays c (IsEnabled c) own single t (Latch name u mine.0) →
          ((IsEnabled j (f u) → ⊥) × ((s : ℕ) × (t ≡ suc s) × ((w : R) → InCone j next w → Z s w)))
          ⊎ (IsEnabled j (f u) × ((s : ℕ) × (s < t) × Loads j (run s) (f u) next × ((w : R) → InCone j next w → w ≢ f u → Z s w)))
      go (inl plain) = inl (
        λ en. plain.0 (enabled_uncut names c single distinct u (enabled_from (cut names c) j f replace part (run t) (meets t h) u en)),
        (plain.1.0, plain.1.1, λ w cone. cone_known plain.1.0 mine.0 w plain.1.2 (subst (λ z. InCone j z w) (sym mine.2) cone)),
      )
      go (inr held) = inr (
        enabled_up (cut names c) j f replace part u (enabled_cut names c single distinct u held.0 name mine.0 mine.1),
        (held.1.0, held.1.1, loads, others),
      )
        where
          s : ℕ
          s = held.1.0

          in_cut : Loads (cut names c) (own held.1.0) u mine.0
          in_cut = record {
            low = held.1.2.low;
            high = held.1.2.high;
            low_is = extends_cut names c single distinct u false (own held.1.0) held.1.2.low held.1.2.low_is;
            high_is = extends_cut names c single distinct u true (own held.1.0) held.1.2.high held.1.2.high_is;
            same = held.1.2.same;
          }

          loads : Loads j (run held.1.0) (f u) next
          loads = subst (Loads j (run held.1.0) (f u)) mine.2 (loads_up (cut names c) j f replace part (run held.1.0) u mine.0 (meets held.1.0 (omega (arith, held.1.1, h))) in_cut)

          others : (w : R) → InCone j next w → w ≢ f u → Z held.1.0 w
          others w cone ne =
              let v = cone_from (cut names c) j f replace part mine.0 w (subst (λ z. InCone j z w) (sym mine.2) cone) in
              subst (Z held.1.0) v.1 (into held.1.0 v.0 (held.1.3 v.0 (cone_uncut names c single distinct mine.0 v.0 v.2) (λ e. ne (sym v.1 ∙ ap f e))))

  start_known : (t p : ℕ) → Marked c (IsEnabled c) own t p → (w : R) → ConeLatches j (f p) w → ((name : List ℕ) × (next : R) × IsLatch j name w next) × Z t w
  start_known t p mark w cone = ((cone.0, cone.1, cone.2), cone_known t p w mark (inr (cone.0, cone.1, cone.2), cone.3))

module _ (a b : Circuit ℕ) (m n : ℕ) (names : List (List ℕ)) (left right : List ℕ) (class : Either ℕ ℕ → ℕ) (na : IsNet a m) (nb : IsNet b n) (da : HasDistinctNames a) (db : HasDistinctNames b)
    (least : IsMinimalCut Event a b names) (numbered : AreNumbered (cut names a) (cut names b) left right) (left_long : length left ≡ length (cut names a).inputs) (right_long : length right ≡ length (cut names b).inputs)
    (classes : HasClasses (side_by_side (cut names a) (cut names b) left right class)) (depths : LatchesHaveDepths (joined (cut names a) (cut names b)) (IsEnabled (joined (cut names a) (cut names b))))
    (size : ℕ) (l r : ℕ → ℕ → Bool) (alike : AreAlike a b size l r) where
  abbrev ca : Circuit ℕ
  ca = cut names a

  abbrev cb : Circuit ℕ
  cb = cut names b

  abbrev whole : Circuit (Either ℕ ℕ)
  whole = joined ca cb

  abbrev run : ℕ → Either ℕ ℕ → Bool
  run s = beside (l s) (r s)

  abbrev other : ℕ → Either ℕ ℕ → Bool
  other s = beside (new_left a b m n names na nb da db least size l r alike s) (new_right a b m n names na nb da db least size l r alike s)

  meets_run : (t : ℕ) → t < size → Meets whole (run t)
  meets_run t h = (run_joined ca cb size l r (cut_run names a size size l (omega arith) alike.left_run) (cut_run names b size size r (omega arith) alike.right_run)).meets t h

  exchanged_alike : AreAlike ca cb size (new_left a b m n names na nb da db least size l r alike) (new_right a b m n names na nb da db least size l r alike)
  exchanged_alike = new_alike a b m n names na nb da db least size l r alike

  meets_new : (t : ℕ) → t < size → Meets whole (other t)
  meets_new t h = (run_joined ca cb size (new_left a b m n names na nb da db least size l r alike) (new_right a b m n names na nb da db least size l r alike) exchanged_alike.left_run exchanged_alike.right_run).meets t h

  -- settled in the circuit itself
  abbrev Z : ℕ → Either ℕ ℕ → Type 0
  Z t (Left p) = Marked a (IsEnabled a) l t p
  Z t (Right q) = Marked b (IsEnabled b) r t q

  one : (t : ℕ) (w : Either ℕ ℕ) → t < size → Z t w → run t w ≡ other t w
  one t (Left p) h mark = (left_kept a b m n names na nb da db least size l r alike t p h mark).1
  one t (Right q) h mark = (right_kept a b m n names na nb da db least size l r alike t q h mark).1

  stays : (s t : ℕ) (w : Either ℕ ℕ) → s ≤ t → Z s w → Z t w
  stays s t (Left p) le mark = subst (λ k. Marked a (IsEnabled a) l k p) (let z : s + (t - s) ≡ t = omega arith in z) (marks_stay a (IsEnabled a) l s (t - s) mark)
  stays s t (Right q) le mark = subst (λ k. Marked b (IsEnabled b) r k q) (let z : s + (t - s) ≡ t = omega arith in z) (marks_stay b (IsEnabled b) r s (t - s) mark)

  says : (t : ℕ) (name : List ℕ) (u next : Either ℕ ℕ) → t < size → IsLatch whole name u next → Z t u →
      ((IsEnabled whole u → ⊥) × ((s : ℕ) × (t ≡ suc s) × ((w : Either ℕ ℕ) → InCone whole next w → Z s w)))
      ⊎ (IsEnabled whole u × ((s : ℕ) × (s < t) × Loads whole (run s) u next × ((w : Either ℕ ℕ) → InCone whole next w → w ≢ u → Z s w)))
  says t name (Left u) next h latch mark =
      part_says names a na.single da whole Left (replace_left ca cb) (left_part ca cb) size run meets_run Z (λ s p k. k) t name u next h latch mark
  says t name (Right u) next h latch mark =
      part_says names b nb.single db whole Right (replace_right ca cb) (right_part ca cb) size run meets_run Z (λ s p k. k) t name u next h latch mark

  pub common : (t p q : ℕ) → t < size → Marked a (IsEnabled a) l t p → Marked b (IsEnabled b) r t q → (node : List ℕ) (e d : ℕ) →
      IsNode (side_by_side ca cb left right class) (IsEnabled whole) (ConeLatches whole (Left p)) node → IsNode (side_by_side ca cb left right class) (IsEnabled whole) (ConeLatches whole (Right q)) node →
      EventCycle (side_by_side ca cb left right class) (IsEnabled whole) (ConeLatches whole (Left p)) run t node e → EventCycle (side_by_side ca cb left right class) (IsEnabled whole) (ConeLatches whole (Right q)) run t node d → e ≡ d
  common t p q h mp mq node e d i j x y =
      events_are_common_in_nets ca cb m n left right class ln rn numbered left_long right_long classes depths size other
      (side_run ca cb m n left right class ln rn numbered left_long right_long classes depths size (new_left a b m n names na nb da db least size l r alike) (new_right a b m n names na nb da db least size l r alike) exchanged_alike)
      t (Left p) (Right q) h
      (left_mark ca cb m n left right class ln rn numbered left_long right_long classes depths size (new_left a b m n names na nb da db least size l r alike) (new_right a b m n names na nb da db least size l r alike) exchanged_alike t p h
      (left_kept a b m n names na nb da db least size l r alike t p h mp).0)
      (right_mark ca cb m n left right class ln rn numbered left_long right_long classes depths size (new_left a b m n names na nb da db least size l r alike) (new_right a b m n names na nb da db least size l r alike) exchanged_alike t q h
      (right_kept a b m n names na nb da db least size l r alike t q h mq).0)
      node e d i j (there (Left p) (start_known names a na.single da whole Left (replace_left ca cb) (left_part ca cb) size run meets_run Z (λ s v k. k) t p mp) e x)
      (there (Right q) (start_known names b nb.single db whole Right (replace_right ca cb) (right_part ca cb) size run meets_run Z (λ s v k. k) t q mq) d y)
    where
      ln : IsNet ca m
      ln = left_net a b m n names na nb da db least

      rn : IsNet cb n
      rn = right_net a b m n names na nb da db least

      there : (v : Either ℕ ℕ) → ((w : Either ℕ ℕ) → ConeLatches whole v w → ((name : List ℕ) × (next : Either ℕ ℕ) × IsLatch whole name w next) × Z t w) → (k : ℕ) →
          EventCycle (side_by_side ca cb left right class) (IsEnabled whole) (ConeLatches whole v) run t node k → EventCycle (side_by_side ca cb left right class) (IsEnabled whole) (ConeLatches whole v) other t node k
      there v first k is =
          (moved (side_by_side ca cb left right class) joined_same (joined_can_put ca cb m n ln rn) (joined_determined ca cb m n ln rn) classes.is_map.plain size run other meets_run meets_new Z one stays says
          (ConeLatches whole v) t h first node k is).0

pub exposed_events_are_common_in_nets : ExposedEventsAreCommon
exposed_events_are_common_in_nets a b m n names left right class na nb da db least numbered left_long right_long classes depths size l r alike t p q h mp mq node e d i j x y =
    common a b m n names left right class na nb da db least numbered left_long right_long classes depths size l r alike t p q h mp mq node e d i j x y
