-- A class map goes on.
use Rattle.std.proofs.Common.{◌≡◌, ◌≢◌, ◌∙◌, ◌+◌, ◌≤◌, ℕ, zero, suc, max, Bool, List, [], ◌∷◌, ◌++◌, length, slice_get, slice_set, Some, refl, sym, ap, subst, arith, inl, inr, length-append}
use Rattle.std.specs.Prelude.{◌⊎◌, Contains}
use Rattle.std.specs.List.{All}
use Rattle.std.proofs.lemmas.List.{length-set}
use Rattle.std.proofs.lemmas.List.Elements.{All-weaker, All-set, All-push}
use Rattle.std.proofs.lemmas.Option.{slice_get_within}
use Rattle.circuit_theory.specs.Joined.{Either}
use Rattle.circuit_theory.specs.Run.{IsEnabled}
use Rattle.circuit_laws.proofs.JoinedParts.{joined_single, joined_number_once}
use Rattle.circuit_theory.specs.Classes.{EnableAtRoot, classes_of}
use Rattle.circuit_laws.proofs.event_laws.ClassMaps.{fold_each}
use Rattle.circuit_laws.proofs.event_laws.EventTrees.{one_enable}
use Rattle.flat_net.specs.View.{circuit_of}
use Rattle.flat_net.proofs.CutNets.{slice_get-append_cases}
use Rattle.flat_net.proofs.Nets.{sound_is_net}
use Rattle.flat_net.proofs.Places.{one_at}
use Rattle.sec_base.specs.declared.basics.Tag.{Tag}
use Rattle.event_nodes.specs.Nodes.{EventGraphView, IsEventGraph, GrowsEvents}
use Rattle.event_nodes.specs.View.{EventCircuitView}
use Rattle.class_search.specs.declared.compare.Enable.{Enable}
use Rattle.class_search.specs.Comparing.{IsReadyEnable}
use Rattle.edbf_unfold.specs.class_queries.Enables.{both_of, IsEnableFunction}
use Rattle.edbf_unfold.specs.class_queries.Laws.{AreKept}
use Rattle.edbf_unfold.proofs.class_queries.Meaning.{numbered}
use Rattle.class_search.specs.class_fits.class_joining.Joining.{HasJoined, AreKnownEnables}
use Rattle.class_search.proofs.class_fits.class_joining.Tables.{goes_on, grows_on}
use Rattle.class_search.specs.declared.class.Class.{Class}
use Rattle.class_search.specs.Search.{AreReadyClasses}
use Rattle.class_search.specs.class_fits.Members.{IsAmong, HasMembers}
use Rattle.class_search.proofs.class_fits.Members.{members_grow_on, members_stay_on, members_join_on}
use Rattle.class_search.specs.class_fits.Stand.{IsStand}

-- the stand stays while the graph grows
pub stand_grows : (a b : EventCircuitView) (w x : EventGraphView) (place : Tag → Either ℕ ℕ) (taken rest : List (Either ℕ ℕ)) (table : List ((ℕ × ℕ) × ℕ)) (classes : List Class) → IsEventGraph w → GrowsEvents w x → AreReadyClasses x classes →
    IsStand a b w place taken rest table classes → IsStand a b x place taken rest table classes
stand_grows a b w x place taken rest table classes is grows ready stand = record {
  so_far = stand.so_far;
  number = stand.number;
  known = grows_on (both_of a b) w x taken table is grows stand.known;
  members = λ k c at. members_grow_on (both_of a b) w x place taken (suc k) c is grows (stand.members k c at);
  ready = ready;
}

pub classes_ready : (w x : EventGraphView) (classes : List Class) → ((e : Enable) → IsReadyEnable w e → IsReadyEnable x e) → AreReadyClasses w classes → AreReadyClasses x classes
classes_ready w x classes on ready =
    All-weaker (λ (c : Class). All (IsReadyEnable w) c.enables.items) (λ (c : Class). All (IsReadyEnable x) c.enables.items) (λ c all. All-weaker (IsReadyEnable w) (IsReadyEnable x) on c.enables.items all) classes ready

-- a latch that was taken is of a class that there is
pub class_within : (a b : EventCircuitView) (taken : List (Either ℕ ℕ)) (classes : List Class) → classes_of (both_of a b) taken ≡ length classes → (u : Either ℕ ℕ) → Contains taken u → (both_of a b).class u ≤ length classes
class_within a b taken classes number u h = let low = fold_each (both_of a b).class 0 taken u h in omega (arith, low, number)

-- two latches of one enable have each other's literals
pub function_moves : (a b : EventCircuitView) (w : EventGraphView) → AreKept a b w → (u v : Either ℕ ℕ) (enable care : ℕ) (x : Enable) → IsEnableFunction (both_of a b) w u enable care → IsEnableFunction (both_of a b) w v enable care →
    IsEnableFunction (both_of a b) w u x.value.0 x.care.0 → IsEnableFunction (both_of a b) w v x.value.0 x.care.0
function_moves a b w kept u v enable care x f g own = record {
  enable_within = own.enable_within;
  care_within = own.care_within;
  enable_is = λ bits y fits. subst (EnableAtRoot (both_of a b) bits v) (one bits u _ _ (f.enable_is bits y fits) (own.enable_is bits y fits)) (g.enable_is bits y fits);
  care_is = λ bits y fits. (
    λ set. (g.care_is bits y fits).0 ((f.care_is bits y fits).1 ((own.care_is bits y fits).0 set)),
    λ has. (own.care_is bits y fits).1 ((f.care_is bits y fits).0 ((g.care_is bits y fits).1 has)),
  );
}
  where
    one : (bits : ℕ → List ℕ → Bool) (p : Either ℕ ℕ) (y z : Bool) → EnableAtRoot (both_of a b) bits p y → EnableAtRoot (both_of a b) bits p z → y ≡ z
    one bits p y z h k =
        let na = sound_is_net a.net kept.left_sound in
        let nb = sound_is_net b.net kept.right_sound in
        one_enable (both_of a b) (IsEnabled (both_of a b).circuit) (joined_single (circuit_of a.net) (circuit_of b.net) (length a.net.drivers) (length b.net.drivers) na nb)
        (λ r i j l e. joined_number_once (circuit_of a.net) (circuit_of b.net) (length a.net.drivers) (length b.net.drivers) na nb a.order b.order (numbered a kept.left) r i j l e) bits p [] y z h k

pub at_set : (cs : List Class) (at : ℕ) (n : Class) (j : ℕ) (m : Class) → slice_get (slice_set cs at n) j ≡ Some m → ((j ≡ at) × (m ≡ n)) ⊎ ((j ≢ at) × (slice_get cs j ≡ Some m))
at_set [] at n j m h = inr ((λ e. none j h), h)
  where
    none : (i : ℕ) → slice_get [] i ≡ Some m → ⊥
    none zero q = cc
    none (suc i) q = cc
at_set (c ∷ cs) zero n zero m h = inl (refl, sym (unwrap h))
  where
    unwrap : Some n ≡ Some m → n ≡ m
    unwrap q = cc
at_set (c ∷ cs) zero n (suc j) m h = inr ((λ e. omega (arith, e)), h)
at_set (c ∷ cs) (suc at) n zero m h = inr ((λ e. omega (arith, e)), h)
at_set (c ∷ cs) (suc at) n (suc j) m h = up (at_set cs at n j m h)
  where
    up : ((j ≡ at) × (m ≡ n)) ⊎ ((j ≢ at) × (slice_get cs j ≡ Some m)) → ((suc j ≡ suc at) × (m ≡ n)) ⊎ ((suc j ≢ suc at) × (slice_get (c ∷ cs) (suc j) ≡ Some m))
    up (inl k) = inl (ap (λ (i : ℕ). suc i) k.0, k.1)
    up (inr k) = inr ((λ e. k.0 (omega (arith, e))), k.1)

module _ (a b c d : EventCircuitView) (w : EventGraphView) (place : Tag → Either ℕ ℕ) (taken rest : List (Either ℕ ℕ)) (t : Tag) (k : ℕ) (table : List ((ℕ × ℕ) × ℕ)) (classes : List Class) (joined : HasJoined a b c d taken rest (place t) k)
    (stand : IsStand a b w place taken (place t ∷ rest) table classes) where
  -- the number of classes
  number_is : (n : ℕ) → max (length classes) k ≡ n → classes_of (both_of c d) (taken ++ place t ∷ []) ≡ n
  number_is n e = joined.number ∙ (ap (λ i. max i k) stand.number ∙ e)

  members_stay : (j : ℕ) (m : Class) → slice_get classes j ≡ Some m → (k ≡ suc j → IsAmong (both_of a b) w m.enables.items (length m.enables.items) (place t)) → HasMembers (both_of c d) w place (taken ++ place t ∷ []) (suc j) m
  members_stay j m at own = members_stay_on a b c d w place taken rest (place t) (suc j) k m joined (stand.members j m at) own

  -- the latch joins a class with the literals of one of its members
  pub stand_known : k ≤ length classes → ((j : ℕ) (m : Class) → k ≡ suc j → slice_get classes j ≡ Some m → IsAmong (both_of a b) w m.enables.items (length m.enables.items) (place t)) →
      IsStand c d w place (taken ++ place t ∷ []) rest table classes
  stand_known low own = record {
    so_far = joined.map;
    number = number_is (length classes) (omega (arith, low));
    known = (goes_on a b c d w taken rest (place t) 0 0 k table joined stand.known).0;
    members = λ j m at. members_stay j m at (λ e. own j m e at);
    ready = stand.ready;
  }

  module _ (x : Enable) (function : IsEnableFunction (both_of a b) w (place t) x.value.0 x.care.0) where
    with_latch : AreKnownEnables (both_of c d) w (taken ++ place t ∷ []) (table ++ ((x.value.0, x.care.0), k) ∷ [])
    with_latch = (goes_on a b c d w taken rest (place t) x.value.0 x.care.0 k table joined stand.known).1 function

    -- it is always enabled
    pub stand_always : k ≡ 0 → IsStand c d w place (taken ++ place t ∷ []) rest (table ++ ((x.value.0, x.care.0), k) ∷ []) classes
    stand_always none = record {
      so_far = joined.map;
      number = number_is (length classes) (omega (arith, none));
      known = with_latch;
      members = λ j m at. members_stay j m at (λ e. absurd (omega (arith, e, none)));
      ready = stand.ready;
    }

    -- it joins a class as a new member
    pub stand_joined : (at : ℕ) (m n : Class) → k ≡ suc at → slice_get classes at ≡ Some m → n.tags.items ≡ m.tags.items ++ t ∷ [] → n.enables.items ≡ m.enables.items ++ x ∷ [] → All (IsReadyEnable w) n.enables.items →
        IsStand c d w place (taken ++ place t ∷ []) rest (table ++ ((x.value.0, x.care.0), k) ∷ []) (slice_set classes at n)
    stand_joined at m n is at_m tags enables ready = record {
      so_far = joined.map;
      number = let inside = slice_get_within classes at m at_m in number_is (length (slice_set classes at n)) (omega (arith, inside, is, length-set classes at n));
      known = with_latch;
      members = λ j o h. go j o (at_set classes at n j o h);
      ready = All-set (λ (o : Class). All (IsReadyEnable w) o.enables.items) classes at n ready stand.ready;
    }
      where
        own : HasMembers (both_of c d) w place (taken ++ place t ∷ []) (suc at) n
        own = members_join_on a b c d w place taken rest t x (suc at) m n (subst (HasJoined a b c d taken rest (place t)) is joined) (stand.members at m at_m) function tags enables

        go : (j : ℕ) (o : Class) → ((j ≡ at) × (o ≡ n)) ⊎ ((j ≢ at) × (slice_get classes j ≡ Some o)) → HasMembers (both_of c d) w place (taken ++ place t ∷ []) (suc j) o
        go j o (inl e) = subst (λ (i : ℕ). HasMembers (both_of c d) w place (taken ++ place t ∷ []) (suc i) o) (sym e.0) (subst (HasMembers (both_of c d) w place (taken ++ place t ∷ []) (suc at)) (sym e.1) own)
        go j o (inr e) = members_stay j o e.1 (λ s. absurd (e.0 (omega (arith, s, is))))

    -- it founds a class
    pub stand_founded : (m n : Class) → k ≡ suc (length classes) → m.tags.items ≡ [] → m.enables.items ≡ [] → n.tags.items ≡ m.tags.items ++ t ∷ [] → n.enables.items ≡ m.enables.items ++ x ∷ [] → All (IsReadyEnable w) n.enables.items →
        IsStand c d w place (taken ++ place t ∷ []) rest (table ++ ((x.value.0, x.care.0), k) ∷ []) (classes ++ n ∷ [])
    stand_founded m n is no_tags no_enables tags enables ready = record {
      so_far = joined.map;
      number = number_is (length (classes ++ n ∷ [])) (omega (arith, is, length-append classes (n ∷ [])));
      known = with_latch;
      members = λ j o h. go j o (slice_get-append_cases classes (n ∷ []) j o h);
      ready = All-push (λ (o : Class). All (IsReadyEnable w) o.enables.items) classes n stand.ready ready;
    }
      where
        none_at : {X : Type 0} (i : ℕ) (y : X) → slice_get [] i ≡ Some y → ⊥
        none_at zero y q = cc
        none_at (suc i) y q = cc

        empty : HasMembers (both_of a b) w place taken (suc (length classes)) m
        empty = record {
          paired = let p = ap length no_tags in let q = ap length no_enables in omega (arith, p, q);
          each = λ i s y at_s at_y. absurd (none_at i y (subst (λ (es : List Enable). slice_get es i ≡ Some y) no_enables at_y));
          all = λ u h e. absurd (let low = class_within a b taken classes stand.number u h in omega (arith, low, e));
        }

        own : HasMembers (both_of c d) w place (taken ++ place t ∷ []) (suc (length classes)) n
        own = members_join_on a b c d w place taken rest t x (suc (length classes)) m n (subst (HasJoined a b c d taken rest (place t)) is joined) empty function tags enables

        go : (j : ℕ) (o : Class) → (slice_get classes j ≡ Some o) ⊎ ((i : ℕ) × (j ≡ length classes + i) × (slice_get (n ∷ []) i ≡ Some o)) → HasMembers (both_of c d) w place (taken ++ place t ∷ []) (suc j) o
        go j o (inl h) = members_stay j o h (λ s. absurd (let inside = slice_get_within classes j o h in omega (arith, s, is, inside)))
        go j o (inr (i, e, h)) =
            let inside = slice_get_within (n ∷ []) i o h in
            let first : i ≡ 0 = omega (arith, inside) in
            let same : n ≡ o = one_at (n ∷ []) 0 n o refl (subst (λ (q : ℕ). slice_get (n ∷ []) q ≡ Some o) first h) in
            let here : length classes ≡ j = omega (arith, e, first) in
            subst (λ (q : ℕ). HasMembers (both_of c d) w place (taken ++ place t ∷ []) (suc q) o) here (subst (HasMembers (both_of c d) w place (taken ++ place t ∷ []) (suc (length classes))) same own)
