-- Where a class query met the limit.
use Rattle.std.proofs.Common.{◌≡◌, ◌∙◌, ◌<◌, ℕ, List, ◌∷◌, length, slice_get, Option, Some, None, Result, Ok, Err, true, true≢false, inl, sym, ap, subst, arith}
use Rattle.std.specs.Prelude.{is_ok, OnOk}
use Rattle.std.specs.List.{All}
use Rattle.std.proofs.lemmas.Option.{slice_get_within}
use Rattle.circuit_theory.specs.declared.Side.{Side}
use Rattle.circuit_theory.specs.Joined.{Either}
use Rattle.circuit_theory.specs.EventFrames.{AreNodeVariables, IsClassTree}
use Rattle.circuit_theory.specs.EventTotals.{IsAsked}
use Rattle.circuit_theory.specs.Frame.{EventSide}
use Rattle.aig.specs.declared.node.Lit.{Lit}
use Rattle.flat_net.proofs.Nets.{some_at}
use Rattle.flat_net.proofs.Places.{one_at}
use Rattle.sec_base.specs.declared.basics.Tag.{Tag}
use Rattle.class_search.specs.pair_decide.Proof.{Proof}
use Rattle.event_nodes.specs.Nodes.{EventGraphView, GrowsEvents}
use Rattle.class_search.specs.event_order.Order.{IsTagOf}
use Rattle.event_nodes.specs.event_variables.Variables.{variables_of}
use Rattle.class_search.specs.pair_decide.Query.{Query}
use Rattle.class_search.specs.Comparing.{IsReadyEnable}
use Rattle.class_search.specs.declared.compare.Enable.{Enable}
use Rattle.edbf_unfold.specs.class_queries.Enables.{both_of, IsEnableFunction, AsksEnables}
use Rattle.edbf_unfold.specs.class_queries.Laws.{AreKept}
use Rattle.edbf_unfold.proofs.class_queries.Staying.{functions_grow_with_graph}
use Rattle.class_search.specs.declared.class.Class.{Class}
use Rattle.class_search.specs.declared.search.Unfit.{Unfit}
use Rattle.class_search.specs.declared.search.Unfit.TheVariants as unfit
use Rattle.class_search.specs.Search.{IsUnfit}
use Rattle.class_search.specs.class_fits.Members.{HaveMembers}
use Rattle.class_search.proofs.class_fits.Fitting.{limit_asked}
use Rattle.class_search.proofs.class_separations.Variables.{variables_same, merged_variables}
use Rattle.event_classes.specs.declared.error.EventError.{EventError}
use Rattle.event_classes.specs.declared.error.EventError.TheVariants as event_error
use Rattle.event_classes.specs.declared.map.ClassMap.{ClassMap}
use Rattle.event_classes.specs.Limits.{HaveTwoEnables, HasMetLimit, IsLimitQuery, IsNamed, IsErrorOf}
use Rattle.event_classes.specs.Map.{IsMade, IsEnableAt, IsOwnAt, places_in, taken_of}
use Rattle.event_classes.specs.Steps.{IsLimitAt}
use Rattle.event_classes.proofs.Setting.{next_enabled}
use Rattle.event_classes.proofs.EnableLits.{lit_grows, two_enables}

-- the places of the class and of the member are of the list
pub named_of : (s : EventSide (Either ℕ ℕ)) (v w : EventGraphView) (place : Tag → Either ℕ ℕ) (taken : List (Either ℕ ℕ)) (classes : List Class) (latch : Enable) (conflicts : ℕ) → HaveMembers s v place taken classes → (u : Unfit) → IsUnfit v w classes latch conflicts u → IsNamed classes u
named_of s v w place taken classes latch conflicts have (unfit.Always proof) is = tt
named_of s v w place taken classes latch conflicts have (unfit.Member at member proof) ((always, off), (told, are, long, (c, at_c, (vars, is)))) =
    (c, at_c, let inside = slice_get_within c.enables.items member is.enable is.is in omega (arith, inside, (have at c at_c).paired))
named_of s v w place taken classes latch conflicts have unfit.NoMemory is = tt

first_of : {s t : Tag} {o p : Option Tag} {x y : Proof} → event_error.Limit s o x ≡ event_error.Limit t p y → s ≡ t
first_of e = cc

second_of : {s t : Tag} {o p : Option Tag} {x y : Proof} → event_error.Limit s o x ≡ event_error.Limit t p y → o ≡ p
second_of e = cc

third_of : {s t : Tag} {o p : Option Tag} {x y : Proof} → event_error.Limit s o x ≡ event_error.Limit t p y → x ≡ y
third_of e = cc

-- two facts of what is done give a third
pub both_ok : {T E : Type 0} (r : Result T E) (P Q : Type 0) {X : Type 0} → (P → Q → X) → OnOk r P → OnOk r Q → OnOk r X
both_ok (Ok x) P Q f p q = f p q
both_ok (Err e) P Q f p q = tt

pub error_is : {X : Type 0} {e f : EventError} → ◌≡◌ {A = Result X EventError} (Err e) (Err f) → e ≡ f
error_is q = cc

-- what is made isn't refused, and neither is memory that is wanted one of the other causes
pub no_error : {X : Type 0} {x : X} {e : EventError} → ◌≡◌ {A = Result X EventError} (Ok x) (Err e) → ⊥
no_error q = cc

pub many_no_large : {side : Side} → event_error.TooManyEvents ≡ event_error.TooLarge side → ⊥
many_no_large q = cc

pub many_no_limit : {t : Tag} {p : Option Tag} {y : Proof} → event_error.TooManyEvents ≡ event_error.Limit t p y → ⊥
many_no_limit q = cc

pub memory_no_many : {X : Type 0} {r : Result X EventError} {e : EventError} → r ≡ Err e → e ≡ event_error.NoMemory → r ≡ Err event_error.TooManyEvents → ⊥
memory_no_many p q is = cc

pub memory_no_large : {X : Type 0} {r : Result X EventError} {e : EventError} {side : Side} → r ≡ Err e → e ≡ event_error.NoMemory → r ≡ Err (event_error.TooLarge side) → ⊥
memory_no_large p q is = cc

pub memory_no_limit : {X : Type 0} {r : Result X EventError} {e : EventError} {t : Tag} {o : Option Tag} {y : Proof} → r ≡ Err e → e ≡ event_error.NoMemory → r ≡ Err (event_error.Limit t o y) → ⊥
memory_no_limit p q is = cc

-- what holds where it is done
pub when_ok : {X E P : Type 0} (r : Result X E) → is_ok r ≡ true → OnOk r P → P
when_ok (Ok x) e h = h
when_ok (Err x) e h = absurd (true≢false (sym e))

not_memory : {t : Tag} {p : Option Tag} {y : Proof} → event_error.NoMemory ≡ event_error.Limit t p y → ⊥
not_memory e = cc

same_tag : {s t : Tag} → Some s ≡ Some t → s ≡ t
same_tag e = cc

no_tag : {t : Tag} → None ≡ Some t → ⊥
no_tag e = cc

module _ (m n : ClassMap) (tag : Tag) (x : Enable) (conflicts : ℕ) (kept : AreKept m.left m.right m.events) (enable : IsEnableAt m tag x) (ready : IsReadyEnable m.events x) (own : IsOwnAt m tag x) where
  abbrev s : EventSide (Either ℕ ℕ)
  s = both_of m.left m.right

  abbrev Query_of : Option Tag → Proof → Type 0
  Query_of other proof = IsLimitQuery s (places_in m) (taken_of m) (places_in m tag) other conflicts proof

  abbrev Names : Option Tag → Type 0
  Names other = (t : Tag) → other ≡ Some t → IsTagOf m.left.net m.right.net t

  at_limit : (latch : Tag) (other o : Option Tag) (proof p : Proof) → event_error.Limit tag o p ≡ event_error.Limit latch other proof → ((rest : List (Either ℕ ℕ)) → IsMade m (places_in m tag ∷ rest) → Names o × Query_of o p) → IsLimitAt m tag latch other conflicts proof
  at_limit latch other o proof p e query = (
    sym (first_of e),
    λ rest made. subst (λ (q : Proof). Names other × Query_of other q) (third_of e) (subst (λ (q : Option Tag). Names q × Query_of q p) (second_of e) (query rest made)),
  )

  module _ (rest : List (Either ℕ ℕ)) (made : IsMade m (places_in m tag ∷ rest)) where
    function : IsEnableFunction s m.events (places_in m tag) x.value.0 x.care.0
    function = enable (next_enabled m.left m.right (taken_of m) rest (places_in m tag) made.stand.so_far)

    variables : AreNodeVariables (IsClassTree s (places_in m tag) (places_in m tag)) (variables_of m.events x.vars)
    variables = (own (next_enabled m.left m.right (taken_of m) rest (places_in m tag) made.stand.so_far)).0

    -- against 1
    always_query : (p : Proof) → IsUnfit m.events n.events m.classes.items x conflicts (unfit.Always p) → Query_of None p
    always_query p (vars, k) = (
      m.events,
      k.query,
      subst (λ (y : Lit). IsEnableFunction s m.events (places_in m tag) y.0 k.query.care.0) (sym k.left) (subst (λ (y : Lit). IsEnableFunction s m.events (places_in m tag) x.value.0 y.0) (sym k.care) function),
      k.right,
      record {
        events = kept.events;
        variables = subst (λ (vs : List ℕ). AreNodeVariables (IsClassTree s (places_in m tag) (places_in m tag)) (variables_of m.events vs)) (sym (k.vars ∙ k.own)) variables;
        limit = k.decided;
      },
    )

    later : (w : EventGraphView) → GrowsEvents m.events w → (u : Either ℕ ℕ) (vars : List ℕ) → All (λ v. v < length m.events.places) vars → AreNodeVariables (IsClassTree s u u) (variables_of m.events vars) → AreNodeVariables (IsClassTree s u u) (variables_of w vars)
    later w grows u vars within are = subst (AreNodeVariables (IsClassTree s u u)) (sym (variables_same m.events w kept.events grows vars within)) are

    -- against the enable of a member
    member_query : (at member : ℕ) (p : Proof) → IsUnfit m.events n.events m.classes.items x conflicts (unfit.Member at member p) →
        (c : Class) × (slice_get m.classes.items at ≡ Some c) × ((t : Tag) × (slice_get c.tags.items member ≡ Some t)
        × (((w : EventGraphView) × (q : Query) × AsksEnables s w (places_in m t) (places_in m tag) q.left.0 q.right.0 q.care.0 × HasMetLimit s w (places_in m t) (places_in m tag) q conflicts p) × HaveTwoEnables s (places_in m t) (places_in m tag)))
    member_query at member p ((always, off), (told, are, long, (c, at_c, (vars, is)))) =
        let has = made.stand.members at c at_c in
        let inside = slice_get_within c.enables.items member is.enable is.is in
        let t = some_at c.tags.items member (omega (arith, inside, has.paired)) in
        let f = (has.each member t.0 is.enable t.1 is.is).function in
        let o = made.told.own at member c t.0 is.enable at_c t.1 is.is in
        let k = is.compared in
        let asks : AsksEnables s is.at (places_in m t.0) (places_in m tag) is.enable.value.0 x.value.0 k.query.care.0 = record {
          left_care = is.enable.care.0;
          right_care = x.care.0;
          left_is = functions_grow_with_graph s m.events is.at (places_in m t.0) is.enable.value.0 is.enable.care.0 kept.events is.since f;
          right_is = functions_grow_with_graph s m.events is.at (places_in m tag) x.value.0 x.care.0 kept.events is.since function;
          both = k.both;
        } in
        let merged = merged_variables s (places_in m t.0) (places_in m tag) is.at is.enable.vars x.vars vars k.merged (later is.at is.since (places_in m t.0) is.enable.vars o.0 o.1) (later is.at is.since (places_in m tag) x.vars ready.in_order.within variables) in (
          c,
          at_c,
          (
            t.0,
            t.1,
            (
              (
                is.at,
                k.query,
                subst (λ (y : Lit). AsksEnables s is.at (places_in m t.0) (places_in m tag) y.0 k.query.right.0 k.query.care.0) (sym k.left) (subst (λ (y : Lit). AsksEnables s is.at (places_in m t.0) (places_in m tag) is.enable.value.0 y.0 k.query.care.0) (sym k.right) asks),
                record { events = is.kept; variables = subst (λ (vs : List ℕ). AreNodeVariables (IsClassTree s (places_in m t.0) (places_in m tag)) (variables_of is.at vs)) (sym k.vars) merged; limit = k.decided },
              ),
              two_enables s is.at is.kept (places_in m t.0) (places_in m tag) is.enable.value.0 x.value.0
                  (lit_grows s m.events is.at (places_in m t.0) is.enable.value.0 kept.events is.since (made.lits at member c t.0 is.enable at_c t.1 is.is))
                  (lit_grows s m.events is.at (places_in m tag) x.value.0 kept.events is.since (own (next_enabled m.left m.right (taken_of m) rest (places_in m tag) made.stand.so_far)).1)
                  (λ e. k.decided.wide.apart (inl (ap (λ (y : Lit). y.0) k.left ∙ e ∙ sym (ap (λ (y : Lit). y.0) k.right)))),
            ),
          ),
        )

    abbrev Met : Tag → Proof → Type 0
    Met t p = ((w : EventGraphView) × (q : Query) × AsksEnables s w (places_in m t) (places_in m tag) q.left.0 q.right.0 q.care.0 × HasMetLimit s w (places_in m t) (places_in m tag) q conflicts p) × HaveTwoEnables s (places_in m t) (places_in m tag)

    -- the member is the one that is named
    one_member : (at member : ℕ) (c d : Class) (t u : Tag) → slice_get m.classes.items at ≡ Some c → slice_get c.tags.items member ≡ Some t → slice_get m.classes.items at ≡ Some d → slice_get d.tags.items member ≡ Some u → t ≡ u
    one_member at member c d t u at_c at_t at_d at_u = one_at d.tags.items member t u (subst (λ (e : Class). slice_get e.tags.items member ≡ Some t) (one_at m.classes.items at c d at_c at_d) at_t) at_u

    of_member : (at member : ℕ) (p : Proof) → IsUnfit m.events n.events m.classes.items x conflicts (unfit.Member at member p) → (c : Class) (t : Tag) → slice_get m.classes.items at ≡ Some c → slice_get c.tags.items member ≡ Some t → Query_of (Some t) p
    of_member at member p is c t at_c at_t =
        let k = limit_asked m.left m.right m.events n.events (places_in m) (taken_of m) (places_in m tag) m.classes.items x conflicts kept made.stand.members function at member p is in
        let q = member_query at member p is in
        let met = subst (λ (o : Tag). Met o p) (one_member at member q.0 c q.2.0 t q.1 q.2.1 at_c at_t) q.2.2 in (
          subst (λ (o : Tag). IsAsked s (taken_of m) (places_in m tag) (Some (places_in m o))) (one_member at member k.0 c k.2.0 t k.1 k.2.1 at_c at_t) k.2.2,
          met.0,
          met.1,
        )

  pub limit_at : (u : Unfit) → IsUnfit m.events n.events m.classes.items x conflicts u → (e : EventError) → IsErrorOf m.classes.items tag e u → (latch : Tag) (other : Option Tag) (proof : Proof) → e ≡ event_error.Limit latch other proof → IsLimitAt m tag latch other conflicts proof
  limit_at (unfit.Always p) is e reply latch other proof same = at_limit latch other None proof p (sym reply ∙ same) (λ rest made. ((λ t q. absurd (no_tag q)), always_query rest made p is))
  limit_at (unfit.Member at member p) is e reply latch other proof same =
      at_limit latch other (Some reply.2.0) proof p (sym reply.2.2 ∙ same) (λ rest made.
      ((λ t q. subst (IsTagOf m.left.net m.right.net) (same_tag q) (made.named.members at member reply.0 reply.2.0 reply.1 reply.2.1)), of_member rest made at member p is reply.0 reply.2.0 reply.1 reply.2.1))
  limit_at unfit.NoMemory is e reply latch other proof same = absurd (not_memory (sym reply ∙ same))

-- a limit or want of memory is no other refusal
pub limit_alone : (classes : List Class) (tag : Tag) (u : Unfit) (e : EventError) → IsErrorOf classes tag e u → (e ≡ event_error.TooManyEvents → ⊥) × ((side : Side) → e ≡ event_error.TooLarge side → ⊥)
limit_alone classes tag (unfit.Always p) e reply = ((λ q. no_many (sym reply ∙ q)), λ side q. no_large (sym reply ∙ q))
  where
    no_many : event_error.Limit tag None p ≡ event_error.TooManyEvents → ⊥
    no_many q = cc

    no_large : {side : Side} → event_error.Limit tag None p ≡ event_error.TooLarge side → ⊥
    no_large q = cc
limit_alone classes tag (unfit.Member at member p) e reply = ((λ q. no_many (sym reply.2.2 ∙ q)), λ side q. no_large (sym reply.2.2 ∙ q))
  where
    no_many : {o : Option Tag} → event_error.Limit tag o p ≡ event_error.TooManyEvents → ⊥
    no_many q = cc

    no_large : {o : Option Tag} {side : Side} → event_error.Limit tag o p ≡ event_error.TooLarge side → ⊥
    no_large q = cc
limit_alone classes tag unfit.NoMemory e reply = ((λ q. no_many (sym reply ∙ q)), λ side q. no_large (sym reply ∙ q))
  where
    no_many : event_error.NoMemory ≡ event_error.TooManyEvents → ⊥
    no_many q = cc

    no_large : {side : Side} → event_error.NoMemory ≡ event_error.TooLarge side → ⊥
    no_large q = cc
