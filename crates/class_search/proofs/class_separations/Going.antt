-- What tells classes apart, while the event graph grows and latches are given classes.
use Rattle.std.proofs.Common.{◌≡◌, ◌≢◌, ◌∙◌, ◌+◌, ◌<◌, ◌≤◌, ℕ, zero, suc, Bool, List, [], ◌∷◌, ◌++◌, length, slice_get, slice_set, Option, Some, None, refl, sym, ap, subst, arith, inl, inr, length-append}
use Rattle.std.specs.Prelude.{◌⊎◌, not, Contains}
use Rattle.std.specs.List.{All}
use Rattle.std.proofs.lemmas.List.Elements.{Contains-append_left, Contains-append_right}
use Rattle.std.proofs.lemmas.Option.{slice_get_within}
use Rattle.circuit_theory.specs.Joined.{Either}
use Rattle.circuit_theory.specs.Query.{Variable}
use Rattle.circuit_theory.proofs.Lists.{Contains-head}
use Rattle.circuit_theory.specs.EventFrames.{IsClassTree, AreNodeVariables, IsSeparation, IsSeparationFromAlways}
use Rattle.circuit_theory.specs.Frame.{EventSide}
use Rattle.class_search.specs.flat_net.View.{circuit_of}
use Rattle.class_search.proofs.flat_net.CutNets.{slice_get-append_cases}
use Rattle.class_search.proofs.flat_net.Growth.{slice_get-append}
use Rattle.class_search.proofs.flat_net.Nets.{some_at}
use Rattle.class_search.proofs.flat_net.Places.{one_at}
use Rattle.aig.specs.Values.{value}
use Rattle.sec_base.specs.declared.basics.Tag.{Tag}
use Rattle.pair_decide.specs.Queries.{assigned_to}
use Rattle.event_nodes.specs.Nodes.{EventGraphView, IsEventGraph, GrowsEvents}
use Rattle.event_nodes.specs.View.{EventCircuitView}
use Rattle.class_search.specs.event_variables.Variables.{variables_of}
use Rattle.class_search.specs.declared.compare.Enable.{Enable}
use Rattle.edbf_unfold.specs.class_queries.Enables.{both_of, class_map}
use Rattle.class_search.specs.declared.class.Class.{Class}
use Rattle.class_search.specs.declared.told.Difference.{Difference}
use Rattle.class_search.specs.declared.told.Told.{Told}
use Rattle.circuit_laws.specs.reset_laws.class_extension.Laws.{IsNextGiven}
use Rattle.circuit_laws.proofs.reset_laws.class_extension.Keeping.{variables_stay_in_nets, separations_stay_in_nets, separations_begin_in_nets}
use Rattle.class_search.specs.declared.class_separations.apart.Apart.{Apart}
use Rattle.class_search.specs.class_separations.Telling.{HasKept, IsApartOf, always_apart}
use Rattle.class_search.specs.class_separations.Apart.{IsSeparationBy, IsApart, AreApart, HaveOwnVariables, AreToldApart, AreTakenMembers, IsToldOf, AreToldOf, pairs_below, number_of}
use Rattle.class_search.specs.class_separations.Least.{DifferIn, IsOffIn, IsLeastFrame, TellsIn}
use Rattle.class_search.proofs.class_separations.Least.{least_of_fewer, off_before, differ_before}
use Rattle.class_search.proofs.class_separations.Variables.{variables_same, within_later}

-- no two classes stand behind those below the next one
number_in : (count low high : ℕ) → low < high → high ≤ count → pairs_below high + low < pairs_below (suc count)
number_in zero low high below within = absurd (omega (arith, below, within))
number_in (suc count) low high below within = go (either high within) (λ early. number_in count low high below early)
  where
    either : (high : ℕ) → high ≤ suc count → (high ≤ count) ⊎ (high ≡ suc count)
    either high within = grind (arith, within)

    go : (high ≤ count) ⊎ (high ≡ suc count) → (high ≤ count → pairs_below high + low < pairs_below (suc count)) → pairs_below high + low < pairs_below (suc (suc count))
    go (inl early) rest = let r = rest early in omega (arith, r)
    go (inr same) rest = let p = ap pairs_below same in omega (arith, p, below, same)

-- the list's places behind another list
at_behind : {X : Type 0} (xs ys : List X) (i : ℕ) (y : X) → slice_get ys i ≡ Some y → slice_get (xs ++ y ∷ []) (length xs) ≡ Some y
at_behind [] ys i y at = refl
at_behind (x ∷ xs) ys i y at = at_behind xs ys i y at

at_after : {X : Type 0} (xs ys : List X) (i : ℕ) (y : X) → slice_get ys i ≡ Some y → slice_get (xs ++ ys) (length xs + i) ≡ Some y
at_after [] ys i y at = subst (λ (n : ℕ). slice_get ys n ≡ Some y) (let e : i ≡ 0 + i = omega arith in e) at
at_after (x ∷ xs) ys i y at = subst (λ (n : ℕ). slice_get (x ∷ (xs ++ ys)) n ≡ Some y) (let e : suc (length xs + i) ≡ suc (length xs) + i = omega arith in e) (at_after xs ys i y at)

-- what tells two classes apart stays so while the graph grows
separates_grows : (s : EventSide (Either ℕ ℕ)) (w x : EventGraphView) (place : Tag → Either ℕ ℕ) (order : List (Either ℕ ℕ)) (low high : ℕ) (y : Apart) (t : Option Tag) → variables_of x y.vars ≡ variables_of w y.vars → IsSeparationBy s w place order low high y t → IsSeparationBy s x place order low high y t
separates_grows s w x place order low high y None same (e, l, r, h) = (e, l, r, subst (λ (vs : List (Variable (List ℕ))). IsSeparationFromAlways s order high (place y.high) vs y.bits) (sym same) h)
separates_grows s w x place order low high y (Some t) same (p, h) = (p, subst (λ (vs : List (Variable (List ℕ))). IsSeparation s order low high (place t) (place y.high) vs y.bits y.left y.right) (sym same) h)

pub told_grows : (a b : EventCircuitView) (w x : EventGraphView) (place : Tag → Either ℕ ℕ) (taken : List (Either ℕ ℕ)) (classes : List Class) (aparts : List Apart) → IsEventGraph w → GrowsEvents w x → AreToldApart a b w place taken classes aparts → AreToldApart a b x place taken classes aparts
told_grows a b w x place taken classes aparts is grows told = record {
  own = λ k i c t y at_c at_t at_y.
      let o = told.own k i c t y at_c at_t at_y in
      (within_later w x is grows y.vars o.0, subst (AreNodeVariables (IsClassTree (both_of a b) (place t) (place t))) (sym (variables_same w x is grows y.vars o.0)) o.1);
  apart = record {
    long = told.apart.long;
    each = λ low high below within.
        let y = told.apart.each low high below within in
        let same = variables_same w x is grows y.0.vars y.2.within in (
          y.0,
          y.1,
          record {
            within = within_later w x is grows y.0.vars y.2.within;
            separates = separates_grows (both_of a b) w x place taken low high y.0 y.0.low same y.2.separates;
            least = subst (λ (vs : List (Variable (List ℕ))). IsLeastFrame (TellsIn (both_of a b) place y.0.low y.0.high) vs y.0.bits) (sym same) y.2.least;
          },
        );
  };
}

-- the next latch is given its class
module _ (a b : EventCircuitView) (ks ls : List ℕ) (w : EventGraphView) (place : Tag → Either ℕ ℕ) (taken rest : List (Either ℕ ℕ)) (u : Either ℕ ℕ)
    (next : IsNextGiven (circuit_of a.net) (circuit_of b.net) (length a.net.drivers) (length b.net.drivers) a.order b.order (class_map a b) (class_map (record a { classes = ks }) (record b { classes = ls })) taken rest u) where
  abbrev S : EventSide (Either ℕ ℕ)
  S = both_of a b

  abbrev T : EventSide (Either ℕ ℕ)
  T = both_of (record a { classes = ks }) (record b { classes = ls })

  variables_stay : (p : Either ℕ ℕ) (variables : List (Variable (List ℕ))) → Contains (taken ++ u ∷ []) p → AreNodeVariables (IsClassTree S p p) variables → AreNodeVariables (IsClassTree T p p) variables
  variables_stay p variables h are =
      variables_stay_in_nets (circuit_of a.net) (circuit_of b.net) (length a.net.drivers) (length b.net.drivers) a.order b.order (class_map a b) (class_map (record a { classes = ks }) (record b { classes = ls })) taken rest u next p p variables h h are

  separates_stays : (low high : ℕ) (y : Apart) (t : Option Tag) → IsSeparationBy S w place taken low high y t → IsSeparationBy T w place (taken ++ u ∷ []) low high y t
  separates_stays low high y None (e, l, r, h) =
      (e, l, r, (separations_stay_in_nets (circuit_of a.net) (circuit_of b.net) (length a.net.drivers) (length b.net.drivers) a.order b.order (class_map a b) (class_map (record a { classes = ks }) (record b { classes = ls })) taken rest u next (variables_of w y.vars) y.bits).1 high (place y.high) h)
  separates_stays low high y (Some t) (p, h) =
      (p, (separations_stay_in_nets (circuit_of a.net) (circuit_of b.net) (length a.net.drivers) (length b.net.drivers) a.order b.order (class_map a b) (class_map (record a { classes = ks }) (record b { classes = ls })) taken rest u next (variables_of w y.vars) y.bits).0 low high (place t) (place y.high) y.left y.right h)

  -- a latch of these that were taken is one of those that have their class now
  among : (before after : List (Either ℕ ℕ)) (p : Either ℕ ℕ) → taken ≡ before ++ p ∷ after → Contains (taken ++ u ∷ []) p
  among before after p split = Contains-append_left taken (u ∷ []) p (subst (λ (ps : List (Either ℕ ℕ)). Contains ps p) (sym split) (Contains-append_right before (p ∷ after) p (Contains-head p after)))

  last : Contains (taken ++ u ∷ []) u
  last = Contains-append_right taken (u ∷ []) u (Contains-head u [])

  off_then : (p : Either ℕ ℕ) → Contains (taken ++ u ∷ []) p → (frame : ℕ → List ℕ → Bool) → IsOffIn T p frame → IsOffIn S p frame
  off_then p h frame e = off_before (circuit_of a.net) (circuit_of b.net) (length a.net.drivers) (length b.net.drivers) a.order b.order (class_map a b) (class_map (record a { classes = ks }) (record b { classes = ls })) taken rest u next p h frame e

  differ_then : (p q : Either ℕ ℕ) → Contains (taken ++ u ∷ []) p → Contains (taken ++ u ∷ []) q → (frame : ℕ → List ℕ → Bool) → DifferIn T p q frame → DifferIn S p q frame
  differ_then p q h k frame e = differ_before (circuit_of a.net) (circuit_of b.net) (length a.net.drivers) (length b.net.drivers) a.order b.order (class_map a b) (class_map (record a { classes = ks }) (record b { classes = ls })) taken rest u next p q h k frame e

  tells_then : (low high : ℕ) (y : Apart) (t : Option Tag) → IsSeparationBy S w place taken low high y t → (frame : ℕ → List ℕ → Bool) → TellsIn T place t y.high frame → TellsIn S place t y.high frame
  tells_then low high y None (e, l, r, h) frame k = off_then (place y.high) (among h.founder_is.before h.founder_is.after (place y.high) h.founder_is.split) frame k
  tells_then low high y (Some t) (p, h) frame k = differ_then (place t) (place y.high) (among h.before h.after (place t) h.split) (among h.founder_is.before h.founder_is.after (place y.high) h.founder_is.split) frame k

  apart_stays : (low high : ℕ) (y : Apart) → IsApart S w place taken low high y → IsApart T w place (taken ++ u ∷ []) low high y
  apart_stays low high y is = record {
    within = is.within;
    separates = separates_stays low high y y.low is.separates;
    least = least_of_fewer (TellsIn S place y.low y.high) (TellsIn T place y.low y.high) (variables_of w y.vars) y.bits (tells_then low high y y.low is.separates) is.least;
  }

  module _ (classes : List Class) (aparts : List Apart) (have : AreTakenMembers place taken classes) (told : AreToldApart a b w place taken classes aparts) where
    -- a member was taken
    member_taken : (k i : ℕ) (c : Class) (t : Tag) (y : Enable) → slice_get classes k ≡ Some c → slice_get c.tags.items i ≡ Some t → slice_get c.enables.items i ≡ Some y → Contains (taken ++ u ∷ []) (place t)
    member_taken k i c t y at_c at_t at_y =
        Contains-append_left taken (u ∷ []) (place t) ((have k c at_c).taken i t at_t)

    own_stays : HaveOwnVariables T w place classes
    own_stays k i c t y at_c at_t at_y = let o = told.own k i c t y at_c at_t at_y in (o.0, variables_stay (place t) (variables_of w y.vars) (member_taken k i c t y at_c at_t at_y) o.1)

    apart_goes_on : AreApart T w place (taken ++ u ∷ []) (length classes) aparts
    apart_goes_on = record { long = told.apart.long; each = λ low high below within. let y = told.apart.each low high below within in (y.0, y.1, apart_stays low high y.0 y.2) }

    pub told_stays : AreToldApart (record a { classes = ks }) (record b { classes = ls }) w place (taken ++ u ∷ []) classes aparts
    told_stays = record { own = own_stays; apart = apart_goes_on }

    -- it is a member
    module _ (tag : Tag) (is_u : place tag ≡ u) (x : Enable) (within : All (λ n. n < length w.places) x.vars) (own : AreNodeVariables (IsClassTree S u u) (variables_of w x.vars)) where
      own_new : All (λ n. n < length w.places) x.vars × AreNodeVariables (IsClassTree T (place tag) (place tag)) (variables_of w x.vars)
      own_new = (within, subst (λ (p : Either ℕ ℕ). AreNodeVariables (IsClassTree T p p) (variables_of w x.vars)) (sym is_u) (variables_stay u (variables_of w x.vars) (Contains-append_right taken (u ∷ []) u (Contains-head u [])) own))

      -- the members of a class with one more
      own_pushed : (o : List Tag) (e : List Enable) → length o ≡ length e → ((i : ℕ) (t : Tag) (y : Enable) → slice_get o i ≡ Some t → slice_get e i ≡ Some y → All (λ n. n < length w.places) y.vars × AreNodeVariables (IsClassTree T (place t) (place t)) (variables_of w y.vars)) →
          (i : ℕ) (t : Tag) (y : Enable) → slice_get (o ++ tag ∷ []) i ≡ Some t → slice_get (e ++ x ∷ []) i ≡ Some y → All (λ n. n < length w.places) y.vars × AreNodeVariables (IsClassTree T (place t) (place t)) (variables_of w y.vars)
      own_pushed o e paired each i t y at_t at_y = go (slice_get-append_cases o (tag ∷ []) i t at_t) (slice_get-append_cases e (x ∷ []) i y at_y)
        where
          go : (slice_get o i ≡ Some t) ⊎ ((j : ℕ) × (i ≡ length o + j) × (slice_get (tag ∷ []) j ≡ Some t)) → (slice_get e i ≡ Some y) ⊎ ((j : ℕ) × (i ≡ length e + j) × (slice_get (x ∷ []) j ≡ Some y)) →
              All (λ n. n < length w.places) y.vars × AreNodeVariables (IsClassTree T (place t) (place t)) (variables_of w y.vars)
          go (inl h) (inl k) = each i t y h k
          go (inl h) (inr (j, q, k)) = absurd (omega (arith, slice_get_within o i t h, q, paired))
          go (inr (j, q, h)) (inl k) = absurd (omega (arith, slice_get_within e i y k, q, paired))
          go (inr (j, q, h)) (inr (l, r, k)) =
              let low_j = slice_get_within (tag ∷ []) j t h in
              let low_l = slice_get_within (x ∷ []) l y k in
              let first_j : j ≡ 0 = omega (arith, low_j) in
              let first_l : l ≡ 0 = omega (arith, low_l) in
              let same_t : tag ≡ t = one_at (tag ∷ []) 0 tag t refl (subst (λ (n : ℕ). slice_get (tag ∷ []) n ≡ Some t) first_j h) in
              let same_y : x ≡ y = one_at (x ∷ []) 0 x y refl (subst (λ (n : ℕ). slice_get (x ∷ []) n ≡ Some y) first_l k) in
              subst (λ (z : Tag). All (λ n. n < length w.places) y.vars × AreNodeVariables (IsClassTree T (place z) (place z)) (variables_of w y.vars)) same_t
              (subst (λ (z : Enable). All (λ n. n < length w.places) z.vars × AreNodeVariables (IsClassTree T (place tag) (place tag)) (variables_of w z.vars)) same_y own_new)

      own_class : (o p : Class) → length o.tags.items ≡ length o.enables.items → p.tags.items ≡ o.tags.items ++ tag ∷ [] → p.enables.items ≡ o.enables.items ++ x ∷ [] →
          ((i : ℕ) (t : Tag) (y : Enable) → slice_get o.tags.items i ≡ Some t → slice_get o.enables.items i ≡ Some y → All (λ n. n < length w.places) y.vars × AreNodeVariables (IsClassTree T (place t) (place t)) (variables_of w y.vars)) →
          (i : ℕ) (t : Tag) (y : Enable) → slice_get p.tags.items i ≡ Some t → slice_get p.enables.items i ≡ Some y → All (λ n. n < length w.places) y.vars × AreNodeVariables (IsClassTree T (place t) (place t)) (variables_of w y.vars)
      own_class o p paired tags enables each i t y at_t at_y =
          own_pushed o.tags.items o.enables.items paired each i t y (subst (λ (ts : List Tag). slice_get ts i ≡ Some t) tags at_t) (subst (λ (es : List Enable). slice_get es i ≡ Some y) enables at_y)

      -- it joins a class as a new member
      pub told_joins : (at : ℕ) (o p : Class) → slice_get classes at ≡ Some o → p.tags.items ≡ o.tags.items ++ tag ∷ [] → p.enables.items ≡ o.enables.items ++ x ∷ [] → length (slice_set classes at p) ≡ length classes →
          ((j : ℕ) (c : Class) → slice_get (slice_set classes at p) j ≡ Some c → ((j ≡ at) × (c ≡ p)) ⊎ ((j ≢ at) × (slice_get classes j ≡ Some c))) →
          AreToldApart (record a { classes = ks }) (record b { classes = ls }) w place (taken ++ u ∷ []) (slice_set classes at p) aparts
      told_joins at o p at_o tags enables long cases = record {
        own = λ k i c t y at_c at_t at_y. go k i c t y (cases k c at_c) at_t at_y;
        apart = subst (λ (n : ℕ). AreApart T w place (taken ++ u ∷ []) n aparts) (sym long) apart_goes_on;
      }
        where
          go : (k i : ℕ) (c : Class) (t : Tag) (y : Enable) → ((k ≡ at) × (c ≡ p)) ⊎ ((k ≢ at) × (slice_get classes k ≡ Some c)) → slice_get c.tags.items i ≡ Some t → slice_get c.enables.items i ≡ Some y →
              All (λ n. n < length w.places) y.vars × AreNodeVariables (IsClassTree T (place t) (place t)) (variables_of w y.vars)
          go k i c t y (inr e) at_t at_y = own_stays k i c t y e.1 at_t at_y
          go k i c t y (inl e) at_t at_y =
              own_class o p (have at o at_o).paired tags enables (λ j r z at_r at_z. own_stays at j o r z at_o at_r at_z) i t y
              (subst (λ (q : Class). slice_get q.tags.items i ≡ Some t) e.1 at_t) (subst (λ (q : Class). slice_get q.enables.items i ≡ Some y) e.1 at_y)

      -- it founds a class
      module _ (class_is : T.class u ≡ suc (length classes)) (above : (p : Either ℕ ℕ) → Contains taken p → S.class p < T.class u) (always : Difference) (tells : List Told) (of : AreToldOf S w place taken u classes always tells) (new : List Apart) (keeps : HasKept w classes tag always tells aparts new) where
        abbrev founded : ℕ
        founded = suc (length classes)

        long_new : length new ≡ pairs_below (suc founded)
        long_new = let e = ap length keeps.is in omega (arith, e, keeps.long, of.long, told.apart.long, length-append (aparts ++ always_apart tag always ∷ []) keeps.more, length-append aparts (always_apart tag always ∷ []))

        -- what was there before stands there
        old_at : (low high : ℕ) → low < high → high ≤ length classes → (y : Apart) × (slice_get new (number_of low high) ≡ Some y) × IsApart T w place (taken ++ u ∷ []) low high y
        old_at low high below within =
            let y = apart_goes_on.each low high below within in
            (y.0, subst (λ (ys : List Apart). slice_get ys (number_of low high) ≡ Some y.0) (sym keeps.is) (slice_get-append (aparts ++ always_apart tag always ∷ []) keeps.more (number_of low high) y.0 (slice_get-append aparts (always_apart tag always ∷ []) (number_of low high) y.0 y.1)), y.2)

        always_at : (y : Apart) × (slice_get new (number_of 0 founded) ≡ Some y) × IsApart T w place (taken ++ u ∷ []) 0 founded y
        always_at =
            let y = always_apart tag always in
            let here : slice_get (aparts ++ y ∷ []) (length aparts) ≡ Some y = at_behind aparts (y ∷ []) 0 y refl in
            let number : length aparts ≡ number_of 0 founded = omega (arith, told.apart.long) in
            let begins = (separations_begin_in_nets (circuit_of a.net) (circuit_of b.net) (length a.net.drivers) (length b.net.drivers) a.order b.order (class_map a b) (class_map (record a { classes = ks }) (record b { classes = ls })) taken rest u next above (variables_of w always.vars) always.bits).1 (omega (arith, class_is)) of.always_is in (
              y,
              subst (λ (n : ℕ). slice_get new n ≡ Some y) number (subst (λ (ys : List Apart). slice_get ys (length aparts) ≡ Some y) (sym keeps.is) (slice_get-append (aparts ++ y ∷ []) keeps.more (length aparts) y here)),
              record {
                within = of.within;
                separates = (refl, refl, refl, subst (λ (p : Either ℕ ℕ). IsSeparationFromAlways T (taken ++ u ∷ []) founded p (variables_of w always.vars) always.bits) (sym is_u) (subst (λ (n : ℕ). IsSeparationFromAlways T (taken ++ u ∷ []) n u (variables_of w always.vars) always.bits) class_is begins));
                least = subst (λ (p : Either ℕ ℕ). IsLeastFrame (IsOffIn T p) (variables_of w always.vars) always.bits) (sym is_u) (least_of_fewer (IsOffIn S u) (IsOffIn T u) (variables_of w always.vars) always.bits (off_then u last) of.always_least);
              },
            )

        -- what tells the latch from the class at this place
        apart_of_class : (k : ℕ) (c : Class) (t : Told) (y : Apart) → slice_get classes k ≡ Some c → IsToldOf S w place taken u (suc k) c t → IsApartOf w c tag t y → IsApart T w place (taken ++ u ∷ []) (suc k) founded y
        apart_of_class k c t y at_c h is =
            let vars = t.difference.vars in
            let bits = t.difference.bits in
            let same_tag : h.tag ≡ is.tag = one_at c.tags.items t.member h.tag is.tag h.tag_at is.tag_at in
            let same_enable : h.enable ≡ is.enable = one_at c.enables.items t.member h.enable is.enable h.enable_at is.enable_at in
            let l : Bool = value w.graph (assigned_to vars bits) h.enable.value.0 in
            let left : y.left ≡ l = is.left ∙ ap (λ (e : Enable). value w.graph (assigned_to vars bits) e.value.0) (sym same_enable) in
            let right : y.right ≡ not l = is.right ∙ ap not left in
            let begins = (separations_begin_in_nets (circuit_of a.net) (circuit_of b.net) (length a.net.drivers) (length b.net.drivers) a.order b.order (class_map a b) (class_map (record a { classes = ks }) (record b { classes = ls })) taken rest u next above (variables_of w vars) bits).0 (suc k) (place h.tag) l (not l) h.tells in
            let numbered = subst (λ (n : ℕ). IsSeparation T (taken ++ u ∷ []) (suc k) n (place h.tag) u (variables_of w vars) bits l (not l)) class_is begins in
            let valued = subst (λ (q : Bool). IsSeparation T (taken ++ u ∷ []) (suc k) founded (place h.tag) u (variables_of w vars) bits y.left q) (sym right) (subst (λ (q : Bool). IsSeparation T (taken ++ u ∷ []) (suc k) founded (place h.tag) u (variables_of w vars) bits q (not l)) (sym left) numbered) in
            let framed = subst (λ (vs : List ℕ). IsSeparation T (taken ++ u ∷ []) (suc k) founded (place h.tag) u (variables_of w vs) y.bits y.left y.right) (sym is.vars) (subst (λ (bs : List Bool). IsSeparation T (taken ++ u ∷ []) (suc k) founded (place h.tag) u (variables_of w vars) bs y.left y.right) (sym is.bits) valued) in
            let high : u ≡ place y.high = sym is_u ∙ ap place (sym is.high) in
            let low : Some h.tag ≡ y.low = ap Some same_tag ∙ sym is.low in
            let member = among h.tells.before h.tells.after (place h.tag) h.tells.split in
            let least = least_of_fewer (DifferIn S (place h.tag) u) (DifferIn T (place h.tag) u) (variables_of w vars) bits (differ_then (place h.tag) u member last) h.least in
            let least_framed = subst (λ (vs : List ℕ). IsLeastFrame (DifferIn T (place h.tag) u) (variables_of w vs) y.bits) (sym is.vars) (subst (λ (bs : List Bool). IsLeastFrame (DifferIn T (place h.tag) u) (variables_of w vars) bs) (sym is.bits) least) in
            record {
              within = subst (λ (vs : List ℕ). All (λ n. n < length w.places) vs) (sym is.vars) h.within;
              separates = subst (IsSeparationBy T w place (taken ++ u ∷ []) (suc k) founded y) low (omega arith, subst (λ (p : Either ℕ ℕ). IsSeparation T (taken ++ u ∷ []) (suc k) founded (place h.tag) p (variables_of w y.vars) y.bits y.left y.right) high framed);
              least = subst (λ (t : Option Tag). IsLeastFrame (TellsIn T place t y.high) (variables_of w y.vars) y.bits) low (subst (λ (p : Either ℕ ℕ). IsLeastFrame (DifferIn T (place h.tag) p) (variables_of w y.vars) y.bits) high least_framed);
            }

        class_at : (k : ℕ) → suc k < founded → (y : Apart) × (slice_get new (number_of (suc k) founded) ≡ Some y) × IsApart T w place (taken ++ u ∷ []) (suc k) founded y
        class_at k below =
            let c = some_at classes k (omega (arith, below)) in
            let t = some_at tells k (omega (arith, below, of.long)) in
            let y = some_at keeps.more k (omega (arith, below, keeps.long, of.long)) in
            let number : length (aparts ++ always_apart tag always ∷ []) + k ≡ number_of (suc k) founded = omega (arith, told.apart.long, length-append aparts (always_apart tag always ∷ [])) in (
              y.0,
              subst (λ (n : ℕ). slice_get new n ≡ Some y.0) number (subst (λ (ys : List Apart). slice_get ys (length (aparts ++ always_apart tag always ∷ []) + k) ≡ Some y.0) (sym keeps.is) (at_after (aparts ++ always_apart tag always ∷ []) keeps.more k y.0 y.1)),
              apart_of_class k c.0 t.0 y.0 c.1 (of.each k c.0 t.0 c.1 t.1) (keeps.each k c.0 t.0 y.0 c.1 t.1 y.1),
            )

        new_at : (low high : ℕ) → low < high → high ≤ founded → (y : Apart) × (slice_get new (number_of low high) ≡ Some y) × IsApart T w place (taken ++ u ∷ []) low high y
        new_at low high below within = go low (either high within) below
          where
            either : (high : ℕ) → high ≤ founded → (high ≤ length classes) ⊎ (founded ≡ high)
            either high within = grind (arith, within)

            go : (low : ℕ) → (high ≤ length classes) ⊎ (founded ≡ high) → low < high → (y : Apart) × (slice_get new (number_of low high) ≡ Some y) × IsApart T w place (taken ++ u ∷ []) low high y
            go low (inl early) below = old_at low high below early
            go zero (inr same) below = subst (λ (n : ℕ). (y : Apart) × (slice_get new (number_of 0 n) ≡ Some y) × IsApart T w place (taken ++ u ∷ []) 0 n y) same always_at
            go (suc k) (inr same) below = subst (λ (n : ℕ). (y : Apart) × (slice_get new (number_of (suc k) n) ≡ Some y) × IsApart T w place (taken ++ u ∷ []) (suc k) n y) same (class_at k (omega (arith, below, same)))

        pub told_founds : (o p : Class) → o.tags.items ≡ [] → o.enables.items ≡ [] → p.tags.items ≡ o.tags.items ++ tag ∷ [] → p.enables.items ≡ o.enables.items ++ x ∷ [] → AreToldApart (record a { classes = ks }) (record b { classes = ls }) w place (taken ++ u ∷ []) (classes ++ p ∷ []) new
        told_founds o p no_tags no_enables tags enables = record {
          own = λ k i c t y at_c at_t at_y. own_of k i c t y (slice_get-append_cases classes (p ∷ []) k c at_c) at_t at_y;
          apart = subst (λ (n : ℕ). AreApart T w place (taken ++ u ∷ []) n new) (let e = length-append classes (p ∷ []) in omega (arith, e)) (record { long = long_new; each = new_at });
        }
          where
            none_at : {X : Type 0} (i : ℕ) (y : X) → slice_get [] i ≡ Some y → ⊥
            none_at zero y q = cc
            none_at (suc i) y q = cc

            own_of : (k i : ℕ) (c : Class) (t : Tag) (y : Enable) → (slice_get classes k ≡ Some c) ⊎ ((j : ℕ) × (k ≡ length classes + j) × (slice_get (p ∷ []) j ≡ Some c)) → slice_get c.tags.items i ≡ Some t → slice_get c.enables.items i ≡ Some y →
                All (λ n. n < length w.places) y.vars × AreNodeVariables (IsClassTree T (place t) (place t)) (variables_of w y.vars)
            own_of k i c t y (inl h) at_t at_y = own_stays k i c t y h at_t at_y
            own_of k i c t y (inr (j, q, h)) at_t at_y =
                let inside = slice_get_within (p ∷ []) j c h in
                let first : j ≡ 0 = omega (arith, inside) in
                let same : c ≡ p = sym (one_at (p ∷ []) 0 p c refl (subst (λ (n : ℕ). slice_get (p ∷ []) n ≡ Some c) first h)) in
                own_class o p (let d = ap length no_tags in let e = ap length no_enables in omega (arith, d, e)) tags enables
                (λ l r z at_r at_z. absurd (none_at l z (subst (λ (es : List Enable). slice_get es l ≡ Some z) no_enables at_z))) i t y
                (subst (λ (q : Class). slice_get q.tags.items i ≡ Some t) same at_t) (subst (λ (q : Class). slice_get q.enables.items i ≡ Some y) same at_y)
