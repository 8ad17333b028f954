-- What the search gives where a latch founds a class.
use Rattle.std.proofs.Common.{◌≡◌, ◌∙◌, ◌<◌, ℕ, suc, Bool, List, [], ◌∷◌, length, slice_get, Some, sym, ap, subst, arith, inl, inr}
use Rattle.std.specs.Prelude.{◌⊎◌, not, Contains}
use Rattle.std.specs.List.{All}
use Rattle.std.proofs.lemmas.List.Elements.{All-contains}
use Rattle.std.proofs.lemmas.Option.{slice_get_within}
use Rattle.circuit_theory.specs.Joined.{Either}
use Rattle.circuit_theory.specs.Query.{Variable}
use Rattle.circuit_theory.specs.Run.{IsEnabled}
use Rattle.circuit_theory.proofs.Lists.{All-from_each, Contains-head}
use Rattle.circuit_theory.specs.Classes.{EnablesEqual}
use Rattle.circuit_theory.specs.EventFrames.{IsClassTree, AreNodeVariables}
use Rattle.circuit_theory.specs.Frame.{EventSide}
use Rattle.flat_net.proofs.Nets.{some_at}
use Rattle.flat_net.proofs.Places.{All-at, one_at}
use Rattle.aig.specs.Values.{value}
use Rattle.aig.proofs.Meaning.{value-grows}
use Rattle.sec_base.specs.declared.basics.Tag.{Tag}
use Rattle.class_search.specs.pair_decide.Queries.{assigned_to}
use Rattle.event_nodes.specs.Nodes.{EventGraphView, IsEventGraph, GrowsEvents}
use Rattle.event_nodes.specs.View.{EventCircuitView}
use Rattle.event_nodes.specs.event_variables.Variables.{variables_of}
use Rattle.aig.proofs.Supports.{reached_among}
use Rattle.class_search.specs.declared.compare.Enable.{Enable}
use Rattle.class_search.specs.Comparing.{IsReadyEnable}
use Rattle.class_search.proofs.Queries.{distinct_in_order}
use Rattle.edbf_unfold.specs.class_queries.Enables.{both_of, IsEnableFunction}
use Rattle.edbf_unfold.specs.class_queries.Laws.{AreKept}
use Rattle.edbf_unfold.proofs.class_queries.Meaning.{equal_law}
use Rattle.edbf_unfold.proofs.class_queries.Staying.{functions_grow_with_graph}
use Rattle.class_search.specs.declared.class.Class.{Class}
use Rattle.class_search.specs.declared.told.Difference.{Difference}
use Rattle.class_search.specs.declared.told.Told.{Told}
use Rattle.class_search.specs.Told.{IsTold, IsAlwaysTold}
use Rattle.class_search.specs.Search.{AreReadyClasses, AreTold, IsFit}
use Rattle.class_search.specs.class_fits.Members.{HasMembers, HaveMembers}
use Rattle.circuit_laws.specs.reset_laws.class_extension.Telling.{TellsApart, TellsFromAlways}
use Rattle.class_search.specs.class_separations.Telling.{IsToldIn, AreToldIn}
use Rattle.class_search.specs.class_separations.Apart.{HaveOwnVariables, IsToldOf, AreToldOf}
use Rattle.class_search.proofs.class_separations.Variables.{variables_same, within_later}
use Rattle.class_search.specs.class_separations.Least.{DifferIn, IsOffIn, IsLeastFrame}
use Rattle.class_search.proofs.class_separations.Telling.{told_apart, told_least, told_always, always_least}
use Rattle.event_classes.specs.declared.map.ClassMap.{ClassMap}
use Rattle.class_search.specs.declared.search.Fit.{Fit}
use Rattle.class_search.specs.declared.search.Fit.TheVariants as fit
use Rattle.event_classes.specs.Map.{IsMade, IsEnableAt, IsOwnAt, AreToldAt, AreToldBy, places_in, taken_of, HasEnableLit}
use Rattle.event_classes.proofs.EnableLits.{lit_grows}
use Rattle.event_classes.proofs.Setting.{next_enabled}

module _ (a b : EventCircuitView) (v w : EventGraphView) (kept : AreKept a b v) (grows_to : GrowsEvents v w) (place : Tag → Either ℕ ℕ) (taken : List (Either ℕ ℕ)) (u : Either ℕ ℕ) (latch : Enable) (conflicts : ℕ)
    (function : IsEnableFunction (both_of a b) v u latch.value.0 latch.care.0) (within_latch : All (λ n. n < length v.places) latch.vars) (own : AreNodeVariables (IsClassTree (both_of a b) u u) (variables_of v latch.vars)) where
  abbrev s : EventSide (Either ℕ ℕ)
  s = both_of a b

  kept_at : (at : EventGraphView) → IsEventGraph at → AreKept a b at
  kept_at at is = record { left_sound = kept.left_sound; right_sound = kept.right_sound; left = kept.left; right = kept.right; events = is }

  own_at : (at : EventGraphView) → GrowsEvents v at → (p : Either ℕ ℕ) (vars : List ℕ) → All (λ n. n < length v.places) vars → AreNodeVariables (IsClassTree s p p) (variables_of v vars) → AreNodeVariables (IsClassTree s p p) (variables_of at vars)
  own_at at grows p vars within are = subst (AreNodeVariables (IsClassTree s p p)) (sym (variables_same v at kept.events grows vars within)) are

  later : (at : EventGraphView) → GrowsEvents v at → (p : Either ℕ ℕ) (x : Enable) → IsEnableFunction s v p x.value.0 x.care.0 → IsEnableFunction s at p x.value.0 x.care.0
  later at grows p x is = functions_grow_with_graph s v at p x.value.0 x.care.0 kept.events grows is

  -- what tells the latch from a class
  module _ (class : ℕ) (c : Class) (members : HasMembers s v place taken class c) (ready : All (IsReadyEnable w) c.enables.items)
      (owns : (i : ℕ) (t : Tag) (x : Enable) → slice_get c.tags.items i ≡ Some t → slice_get c.enables.items i ≡ Some x → All (λ n. n < length v.places) x.vars × AreNodeVariables (IsClassTree s (place t) (place t)) (variables_of v x.vars)) (t : Told)
      (told : IsTold v w c.enables.items latch conflicts t) where
    inside : t.member < length c.tags.items
    inside = let j = slice_get_within c.enables.items t.member told.enable told.is in omega (arith, j, members.paired)

    named : (k : Tag) × (slice_get c.tags.items t.member ≡ Some k)
    named = some_at c.tags.items t.member inside

    ready_member : IsReadyEnable w told.enable
    ready_member = All-at (IsReadyEnable w) c.enables.items t.member told.enable told.is ready

    pub told_in : IsToldIn w c t
    told_in = record {
      tag = named.0;
      enable = told.enable;
      tag_at = named.1;
      enable_at = told.is;
      within = ready_member.value_within;
      each = told.compared.decided.each ∙ ap length told.compared.vars;
      distinct = distinct_in_order told.at t.difference.vars told.compared.merged.ordered;
      covers = λ n x reached at. (told.compared.merged.exactly x).1 (inl (ready_member.covers n x (reached_among w.graph told.enable.value.0 (told.enable.value.0 ∷ told.enable.care.0 ∷ []) (Contains-head told.enable.value.0 (told.enable.care.0 ∷ [])) reached) at));
    }

    pub told_of : IsToldOf s w place taken u class c t
    told_of =
        let at = told.at in
        let p = place named.0 in
        let x = told.enable in
        let vars = t.difference.vars in
        let bits = t.difference.bits in
        let m = members.each t.member named.0 x named.1 told.is in
        let mine = owns t.member named.0 x named.1 told.is in
        let within_old : All (λ n. n < length v.places) vars = All-from_each (λ n. n < length v.places) vars (λ n h. low n mine.0 ((told.compared.merged.exactly n).0 h)) in
        let within_at = within_later v at kept.events told.since vars within_old in
        let tells = told_apart a b at (kept_at at told.kept) taken u latch conflicts (later at told.since u latch function) (own_at at told.since u latch.vars within_latch own) t.difference p x class (later at told.since p x m.function) (own_at at told.since p x.vars mine.0 mine.1) within_at told.compared
        m.before m.after m.split m.class_is (λ q h e. earlier q (m.earlier q h e)) in
        let least = told_least a b at (kept_at at told.kept) taken u latch conflicts (later at told.since u latch function) (own_at at told.since u latch.vars within_latch own) t.difference p x (later at told.since p x m.function) within_at told.compared in
        let same_vars = variables_same at w told.kept told.until vars within_at in
        let same_value : value w.graph (assigned_to vars bits) x.value.0 ≡ value at.graph (assigned_to vars bits) x.value.0 = value-grows at.graph w.graph told.until.graph (assigned_to vars bits) x.value.0 (later at told.since p x m.function).enable_within in
        record {
          tag = named.0;
          enable = x;
          tag_at = named.1;
          enable_at = told.is;
          within = within_later v w kept.events grows_to vars within_old;
          tells = subst (λ (y : Bool). TellsApart s taken class p u (variables_of w vars) bits y (not y)) (sym same_value) (subst (λ (ys : List (Variable (List ℕ))). TellsApart s taken class p u ys bits (value at.graph (assigned_to vars bits) x.value.0) (not (value at.graph (assigned_to vars bits) x.value.0))) (sym same_vars) tells);
          least = subst (λ (ys : List (Variable (List ℕ))). IsLeastFrame (DifferIn s p u) ys bits) (sym same_vars) least;
        }
      where
        low : (n : ℕ) → All (λ i. i < length v.places) told.enable.vars → Contains told.enable.vars n ⊎ Contains latch.vars n → n < length v.places
        low n first (inl h) = All-contains (λ i. i < length v.places) told.enable.vars n first h
        low n first (inr h) = All-contains (λ i. i < length v.places) latch.vars n within_latch h

        earlier : (q : Either ℕ ℕ) → (j : ℕ) × (y : Enable) × (j < t.member) × (slice_get c.enables.items j ≡ Some y) × IsEnableFunction s v q y.value.0 y.care.0 → EnablesEqual s q u
        earlier q (j, y, less, at_y, fun) =
            let k = told.before j y less at_y in
            equal_law a b told.at (kept_at told.at told.kept) q u y.value.0 latch.value.0 k.care
            (record { left_care = y.care.0; right_care = latch.care.0; left_is = later told.at told.since q y fun; right_is = later told.at told.since u latch function; both = k.both }) k.same

  -- what tells it from `always` and from each class
  module _ (classes : List Class) (have : HaveMembers s v place taken classes) (ready : AreReadyClasses w classes) (owns : HaveOwnVariables s v place classes) (always : Difference) (told : List Told) (is : IsAlwaysTold v latch conflicts always × AreTold v w classes latch conflicts told × (length told ≡ length classes)) where
    told_at : (k : ℕ) (c : Class) (t : Told) → slice_get classes k ≡ Some c → slice_get told k ≡ Some t → IsTold v w c.enables.items latch conflicts t
    told_at k c t at_c at_t =
        let x = is.1 k t at_t in
        let same : x.0 ≡ c = one_at classes k x.0 c x.1 at_c in
        subst (λ (d : Class). IsTold v w d.enables.items latch conflicts t) same x.2

    pub are_told_in : AreToldIn w classes told
    are_told_in = record {
      few = omega (arith, is.2);
      each = λ k c t at_c at_t. told_in (suc k) c (have k c at_c) (All-at (λ (d : Class). All (IsReadyEnable w) d.enables.items) classes k c at_c ready) (λ i g x at_g at_x. owns k i c g x at_c at_g at_x) t (told_at k c t at_c at_t);
    }

    pub are_told_of : AreToldOf s w place taken u classes always told
    are_told_of =
        let within : All (λ n. n < length v.places) always.vars = subst (All (λ n. n < length v.places)) (sym is.0.own) within_latch in
        let tells = told_always a b v kept taken u latch conflicts function own always within is.0 in
        let least = always_least a b v kept taken u latch conflicts function own always within is.0 in
        record {
          long = is.2;
          within = within_later v w kept.events grows_to always.vars within;
          always_is = subst (λ (ys : List (Variable (List ℕ))). TellsFromAlways s u ys always.bits) (sym (variables_same v w kept.events grows_to always.vars within)) tells;
          always_least = subst (λ (ys : List (Variable (List ℕ))). IsLeastFrame (IsOffIn s u) ys always.bits) (sym (variables_same v w kept.events grows_to always.vars within)) least;
          each = λ k c t at_c at_t. told_of (suc k) c (have k c at_c) (All-at (λ (d : Class). All (IsReadyEnable w) d.enables.items) classes k c at_c ready) (λ i g x at_g at_x. owns k i c g x at_c at_g at_x) t (told_at k c t at_c at_t);
        }

-- the same of the map, whose event graph has grown
pub told_by : (m n : ClassMap) (tag : Tag) (x : Enable) (conflicts : ℕ) (rest : List (Either ℕ ℕ)) → n ≡ record m { events = n.events } → AreKept m.left m.right m.events → GrowsEvents m.events n.events → IsMade m (places_in m tag ∷ rest) → IsEnableAt m tag x → IsOwnAt m tag x →
    IsReadyEnable m.events x → AreReadyClasses n.events m.classes.items → (f : Fit) → IsFit m.events n.events m.classes.items x conflicts f → AreToldBy n tag f
told_by m n tag x conflicts rest same kept grows made enable own ready classes fit.Always is = tt
told_by m n tag x conflicts rest same kept grows made enable own ready classes (fit.Joins place) is = tt
told_by m n tag x conflicts rest same kept grows made enable own ready classes (fit.Founds always told) is =
    let on = next_enabled m.left m.right (taken_of m) rest (places_in m tag) made.stand.so_far in
    subst (λ (o : ClassMap). AreToldAt o tag always told.items) (sym same) (
      are_told_in m.left m.right m.events n.events kept grows (places_in m) (taken_of m) (places_in m tag) x conflicts (enable on) ready.in_order.within (own on).0 m.classes.items made.stand.members classes made.told.own always told.items is,
      λ later h. are_told_of m.left m.right m.events n.events kept grows (places_in m) (taken_of m) (places_in m tag) x conflicts (enable on) ready.in_order.within (own on).0 m.classes.items made.stand.members classes made.told.own always told.items is,
    )

-- the variables of an enable, and its literal, stay so while the graph grows
pub own_grows : (m n : ClassMap) (tag : Tag) (x : Enable) → n ≡ record m { events = n.events } → IsEventGraph m.events → GrowsEvents m.events n.events → IsReadyEnable m.events x → IsOwnAt m tag x → IsOwnAt n tag x
own_grows m n tag x same is grows ready own =
    subst (λ (o : ClassMap). IsEnabled (both_of o.left o.right).circuit (places_in o tag) → AreNodeVariables (IsClassTree (both_of o.left o.right) (places_in o tag) (places_in o tag)) (variables_of n.events x.vars) × HasEnableLit (both_of o.left o.right) n.events (places_in o tag) x.value.0) (sym same)
    (λ on. (subst (AreNodeVariables (IsClassTree (both_of m.left m.right) (places_in m tag) (places_in m tag))) (sym (variables_same m.events n.events is grows x.vars ready.in_order.within)) (own on).0, lit_grows (both_of m.left m.right) m.events n.events (places_in m tag) x.value.0 is grows (own on).1))
