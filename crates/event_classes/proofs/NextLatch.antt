-- The class map goes on with the next latch, however its class is found.
use Rattle.std.proofs.Common.{◌≡◌, ◌∙◌, ◌<◌, ◌≤◌, ℕ, suc, List, [], ◌∷◌, ◌++◌, length, slice_get, slice_set, Some, refl, sym, subst, arith, length-append}
use Rattle.std.specs.Prelude.{Contains}
use Rattle.std.specs.List.{All}
use Rattle.std.proofs.lemmas.List.{length-set}
use Rattle.std.proofs.lemmas.List.Elements.{All-nil, All-push, Contains-append_right}
use Rattle.std.proofs.lemmas.Option.{slice_get_within}
use Rattle.circuit_theory.specs.Depth.{LatchesHaveDepths}
use Rattle.circuit_theory.specs.Joined.{Either}
use Rattle.circuit_theory.specs.Run.{IsEnabled}
use Rattle.sec_base.specs.declared.basics.Tag.{Tag}
use Rattle.event_nodes.specs.Nodes.{EventGraphView, IsEventGraph, GrowsEvents}
use Rattle.event_nodes.specs.View.{EventCircuitView}
use Rattle.event_nodes.specs.Visited.{IsWeighed}
use Rattle.class_search.specs.event_order.Order.{IsTagOf, place_of}
use Rattle.flat_net.proofs.Places.{All-at}
use Rattle.class_search.specs.declared.compare.Enable.{Enable}
use Rattle.class_search.specs.Comparing.{IsReadyEnable}
use Rattle.circuit_laws.specs.reset_laws.class_extension.Laws.{IsNextGiven}
use Rattle.flat_net.specs.View.{circuit_of}
use Rattle.edbf_unfold.specs.class_queries.Enables.{both_of, class_map, IsEnableFunction}
use Rattle.edbf_unfold.specs.class_queries.Laws.{AreKept}
use Rattle.edbf_unfold.proofs.class_queries.Staying.{functions_grow_with_graph}
use Rattle.class_search.specs.class_fits.class_joining.Joining.{HasJoined}
use Rattle.class_search.proofs.class_fits.class_joining.Tables.{found_fits}
use Rattle.class_search.specs.declared.class.Class.{Class}
use Rattle.class_search.specs.declared.search.Fit.{Fit}
use Rattle.class_search.specs.declared.search.Fit.TheVariants as fit
use Rattle.class_search.specs.Search.{IsFit}
use Rattle.class_search.specs.class_fits.Members.{IsAmong, HaveMembers, class_of_fit}
use Rattle.class_search.proofs.class_fits.Fitting.{fit_first}
use Rattle.event_classes.specs.declared.map.ClassMap.{ClassMap}
use Rattle.event_classes.specs.Named.{AreNamed}
use Rattle.class_search.specs.class_fits.Stand.{IsStand}
use Rattle.event_classes.specs.Map.{IsWithin, IsMade, HaveEnableLits, IsEnableAt, IsOwnAt, AreToldAt, FitsIn, IsClassSet, GoesOn, places_in, taken_of, with_next}
use Rattle.event_classes.proofs.Naming.{named_joins, named_founds}
use Rattle.event_classes.proofs.Ready.{ready_grows}
use Rattle.event_classes.proofs.EnableLits.{lits_grow, lits_stay, lits_join, lits_found}
use Rattle.class_search.specs.declared.class_separations.apart.Apart.{Apart}
use Rattle.class_search.specs.class_separations.Apart.{AreTakenMembers, AreToldApart}
use Rattle.class_search.specs.class_separations.Telling.{HasKept}
use Rattle.class_search.proofs.class_separations.Going.{told_grows, told_stays, told_joins, told_founds}
use Rattle.class_search.specs.declared.told.Difference.{Difference}
use Rattle.class_search.specs.declared.told.Told.{Told}
use Rattle.circuit_theory.specs.Frame.{EventSide}
use Rattle.flat_net.proofs.Nets.{some_at}
use Rattle.circuit_theory.proofs.Lists.{Contains-head}
use Rattle.event_classes.proofs.Setting.{next_enabled, goes_on_with, next_given, class_now}
use Rattle.class_search.proofs.class_fits.Standing.{stand_grows, classes_ready, class_within, function_moves, at_set, stand_known, stand_always, stand_joined, stand_founded}

-- the map is right while its event graph grows
pub made_grows : (m n : ClassMap) → n ≡ record m { events = n.events; left_count = n.left_count; right_count = n.right_count } → IsEventGraph m.events → GrowsEvents m.events n.events → (IsWithin m → IsWithin n) → (rest : List (Either ℕ ℕ)) → IsMade m rest → IsMade n rest
made_grows m n same is grows within rest made = record {
  stand = subst (λ (o : ClassMap). IsStand o.left o.right n.events (places_in o) (taken_of o) rest o.table o.classes.items) (sym same)
      (stand_grows m.left m.right m.events n.events (places_in m) (taken_of m) rest m.table m.classes.items is grows (classes_ready m.events n.events m.classes.items (ready_grows m.events n.events is grows) made.stand.ready) made.stand);
  depths = subst (λ (o : ClassMap). LatchesHaveDepths (both_of o.left o.right).circuit (IsEnabled (both_of o.left o.right).circuit)) (sym same) made.depths;
  within = within made.within;
  told = subst (λ (o : ClassMap). AreToldApart o.left o.right n.events (places_in o) (taken_of o) o.classes.items o.aparts.items) (sym same) (told_grows m.left m.right m.events n.events (places_in m) (taken_of m) m.classes.items m.aparts.items is grows made.told);
  named = subst (λ (o : ClassMap). AreNamed o.left.net o.right.net o.classes.items o.aparts.items) (sym same) made.named;
  lits = subst (λ (o : ClassMap). HaveEnableLits (both_of o.left o.right) n.events (places_in o) o.classes.items) (sym same) (lits_grow (both_of m.left m.right) m.events n.events (places_in m) m.classes.items is grows made.lits);
}

-- what the graph's growth keeps within its numbers, where nothing is counted
pub within_grows : (m n : ClassMap) → n ≡ record m { events = n.events } → n.events ≡ record m.events { graph = n.events.graph } → IsWithin m → IsWithin n
within_grows m n same rest within = record {
  left = subst (λ (o : ClassMap). IsWeighed o.left.net o.left_count) (sym same) within.left;
  right = subst (λ (o : ClassMap). IsWeighed o.right.net o.right_count) (sym same) within.right;
  nodes = subst (λ (w : EventGraphView). length w.children < 10000) (sym rest) within.nodes;
  classes = subst (λ (o : ClassMap). length o.classes.items ≤ 500) (sym same) within.classes;
}

-- the members of classes were taken
members_taken : (s : EventSide (Either ℕ ℕ)) (w : EventGraphView) (place : Tag → Either ℕ ℕ) (taken : List (Either ℕ ℕ)) (classes : List Class) → HaveMembers s w place taken classes → AreTakenMembers place taken classes
members_taken s w place taken classes have k c at_c = let h = have k c at_c in record {
  paired = h.paired;
  taken = λ i t at_t.
      let x = some_at c.enables.items i (let inside = slice_get_within c.tags.items i t at_t in omega (arith, inside, h.paired)) in
      let u = h.each i t x.0 at_t x.1 in
      subst (λ (qs : List (Either ℕ ℕ)). Contains qs (place t)) (sym u.split) (Contains-append_right u.before (place t ∷ u.after) (place t) (Contains-head (place t) u.after));
}

-- a latch whose literals the table has
pub known_fits : (m : ClassMap) (tag : Tag) (class : ℕ) (x : Enable) → AreKept m.left m.right m.events → IsEnableAt m tag x → Contains m.table ((x.value.0, x.care.0), class) → FitsIn m tag class
known_fits m tag class x kept enable here rest made =
    let on = next_enabled m.left m.right (taken_of m) rest (places_in m tag) made.stand.so_far in
    found_fits m.left m.right m.events (taken_of m) (places_in m tag ∷ rest) (places_in m tag) x.value.0 x.care.0 class m.table kept made.stand.so_far made.stand.known (enable on) here

module _ (m n : ClassMap) (tag : Tag) (class : ℕ) (x : Enable) (kept : AreKept m.left m.right m.events) (latch : IsTagOf m.left.net m.right.net tag) (enable : IsEnableAt m tag x) (fits : FitsIn m tag class) (set : IsClassSet m.left m.right n.left n.right tag class)
    (taken : n.taken.items ≡ m.taken.items ++ tag ∷ []) (events : n.events ≡ m.events) (left_count : n.left_count ≡ m.left_count) (right_count : n.right_count ≡ m.right_count) where
  abbrev ToldNow : List Class → List Apart → Type 0
  ToldNow classes aparts = AreToldApart (record m.left { classes = n.left.classes }) (record m.right { classes = n.right.classes }) m.events (places_in m) (taken_of m ++ places_in m tag ∷ []) classes aparts

  abbrev Stands : (rest : List (Either ℕ ℕ)) → List ((ℕ × ℕ) × ℕ) → List Class → Type 0
  Stands rest table classes = IsStand n.left n.right m.events (places_in m) (taken_of m ++ places_in m tag ∷ []) rest table classes

  abbrev Names : List Class → List Apart → Type 0
  Names classes aparts = AreNamed m.left.net m.right.net classes aparts

  abbrev LitsNow : List Class → Type 0
  LitsNow classes = HaveEnableLits (both_of (record m.left { classes = n.left.classes }) (record m.right { classes = n.right.classes })) m.events (places_in m) classes

  abbrev Joined : (rest : List (Either ℕ ℕ)) → Type 0
  Joined rest = HasJoined m.left m.right n.left n.right (taken_of m) rest (places_in m tag) class

  on_with : ((rest : List (Either ℕ ℕ)) → IsMade m (places_in m tag ∷ rest) → Joined rest → Stands rest n.table n.classes.items) → ((rest : List (Either ℕ ℕ)) → IsMade m (places_in m tag ∷ rest) → ToldNow n.classes.items n.aparts.items) → (IsWithin m → length n.classes.items ≤ 500) → (Names m.classes.items m.aparts.items → Names n.classes.items n.aparts.items) → ((rest : List (Either ℕ ℕ)) → IsMade m (places_in m tag ∷ rest) → LitsNow n.classes.items) → GoesOn m n tag (with_next m tag)
  on_with stands told few named lits = goes_on_with m n tag class kept.left_sound kept.right_sound kept.left kept.right latch set taken events left_count right_count fits stands told few named lits

  function_of : (rest : List (Either ℕ ℕ)) → IsMade m (places_in m tag ∷ rest) → IsEnableFunction (both_of m.left m.right) m.events (places_in m tag) x.value.0 x.care.0
  function_of rest made = enable (next_enabled m.left m.right (taken_of m) rest (places_in m tag) made.stand.so_far)

  given : (rest : List (Either ℕ ℕ)) → IsMade m (places_in m tag ∷ rest) → IsNextGiven (circuit_of m.left.net) (circuit_of m.right.net) (length m.left.net.drivers) (length m.right.net.drivers) m.left.order m.right.order (class_map m.left m.right)
      (class_map (record m.left { classes = n.left.classes }) (record m.right { classes = n.right.classes })) (taken_of m) rest (places_in m tag)
  given rest made = next_given m n tag class kept.left_sound kept.right_sound kept.left kept.right latch set taken events left_count right_count fits rest made

  -- what tells the classes so far apart
  stays : n.classes.items ≡ m.classes.items → n.aparts.items ≡ m.aparts.items → (rest : List (Either ℕ ℕ)) → IsMade m (places_in m tag ∷ rest) → ToldNow n.classes.items n.aparts.items
  stays classes aparts rest made =
      subst (λ (cs : List Class). ToldNow cs n.aparts.items) (sym classes) (subst (ToldNow m.classes.items) (sym aparts)
      (told_stays m.left m.right n.left.classes n.right.classes m.events (places_in m) (taken_of m) rest (places_in m tag) (given rest made) m.classes.items m.aparts.items (members_taken (both_of m.left m.right) m.events (places_in m) (taken_of m) m.classes.items made.stand.members) made.told))

  have_taken : (rest : List (Either ℕ ℕ)) → IsMade m (places_in m tag ∷ rest) → AreTakenMembers (places_in m) (taken_of m) m.classes.items
  have_taken rest made = members_taken (both_of m.left m.right) m.events (places_in m) (taken_of m) m.classes.items made.stand.members

  keep_lits : n.classes.items ≡ m.classes.items → (rest : List (Either ℕ ℕ)) → IsMade m (places_in m tag ∷ rest) → LitsNow n.classes.items
  keep_lits classes rest made =
      subst LitsNow (sym classes) (lits_stay m.left m.right n.left.classes n.right.classes m.events (places_in m) (taken_of m) rest (places_in m tag) (given rest made) m.classes.items (have_taken rest made) made.lits)

  names_stay : n.classes.items ≡ m.classes.items → n.aparts.items ≡ m.aparts.items → Names m.classes.items m.aparts.items → Names n.classes.items n.aparts.items
  names_stay classes aparts named = subst (λ (cs : List Class). Names cs n.aparts.items) (sym classes) (subst (Names m.classes.items) (sym aparts) named)

  pub known_goes_on : Contains m.table ((x.value.0, x.care.0), class) → n.table ≡ m.table → n.classes.items ≡ m.classes.items → n.aparts.items ≡ m.aparts.items → GoesOn m n tag (with_next m tag)
  known_goes_on here table classes aparts = on_with stands (stays classes aparts) (λ within. subst (λ (cs : List Class). length cs ≤ 500) (sym classes) within.classes) (names_stay classes aparts) (keep_lits classes)
    where
      own : (rest : List (Either ℕ ℕ)) → IsMade m (places_in m tag ∷ rest) → (j : ℕ) (o : Class) → class ≡ suc j → slice_get m.classes.items j ≡ Some o → IsAmong (both_of m.left m.right) m.events o.enables.items (length o.enables.items) (places_in m tag)
      own rest made j o e at =
          let u = made.stand.known (x.value.0, x.care.0) class here in
          let a = (made.stand.members j o at).all u.0 u.1 (u.2 ∙ e) in
          (a.0, a.1, a.2, a.3, function_moves m.left m.right m.events kept u.0 (places_in m tag) x.value.0 x.care.0 a.1 u.3 (function_of rest made) a.4)

      low : (rest : List (Either ℕ ℕ)) → IsMade m (places_in m tag ∷ rest) → class ≤ length m.classes.items
      low rest made =
          let u = made.stand.known (x.value.0, x.care.0) class here in
          subst (λ (k : ℕ). k ≤ length m.classes.items) u.2 (class_within m.left m.right (taken_of m) m.classes.items made.stand.number u.0 u.1)

      stands : (rest : List (Either ℕ ℕ)) → IsMade m (places_in m tag ∷ rest) → Joined rest → Stands rest n.table n.classes.items
      stands rest made joined =
          subst (λ (es : List ((ℕ × ℕ) × ℕ)). Stands rest es n.classes.items) (sym table) (subst (Stands rest m.table) (sym classes)
          (stand_known m.left m.right n.left n.right m.events (places_in m) (taken_of m) rest tag class m.table m.classes.items joined made.stand (low rest made) (own rest made)))

  module _ (table : n.table ≡ m.table ++ ((x.value.0, x.care.0), class) ∷ []) where
    pub always_goes_on : class ≡ 0 → n.classes.items ≡ m.classes.items → n.aparts.items ≡ m.aparts.items → GoesOn m n tag (with_next m tag)
    always_goes_on none classes aparts =
        on_with
        (λ rest made joined. subst (λ (es : List ((ℕ × ℕ) × ℕ)). Stands rest es n.classes.items) (sym table) (subst (Stands rest (m.table ++ ((x.value.0, x.care.0), class) ∷ [])) (sym classes)
        (stand_always m.left m.right n.left n.right m.events (places_in m) (taken_of m) rest tag class m.table m.classes.items joined made.stand x (function_of rest made) none)))
        (stays classes aparts)
        (λ within. subst (λ (cs : List Class). length cs ≤ 500) (sym classes) within.classes)
        (names_stay classes aparts)
        (keep_lits classes)

    pub class_goes_on : (at : ℕ) (o p : Class) → class ≡ suc at → slice_get m.classes.items at ≡ Some o → p.tags.items ≡ o.tags.items ++ tag ∷ [] → p.enables.items ≡ o.enables.items ++ x ∷ [] → IsReadyEnable m.events x → IsOwnAt m tag x → n.classes.items ≡ slice_set m.classes.items at p → n.aparts.items ≡ m.aparts.items → GoesOn m n tag (with_next m tag)
    class_goes_on at o p is at_o tags enables ready own classes aparts =
        on_with
        (λ rest made joined. subst (λ (es : List ((ℕ × ℕ) × ℕ)). Stands rest es n.classes.items) (sym table) (subst (Stands rest (m.table ++ ((x.value.0, x.care.0), class) ∷ [])) (sym classes)
        (stand_joined m.left m.right n.left n.right m.events (places_in m) (taken_of m) rest tag class m.table m.classes.items joined made.stand x (function_of rest made) at o p is at_o tags enables
        (subst (All (IsReadyEnable m.events)) (sym enables) (All-push (IsReadyEnable m.events) o.enables.items x (All-at (λ (q : Class). All (IsReadyEnable m.events) q.enables.items) m.classes.items at o at_o made.stand.ready) ready)))))
        (λ rest made. subst (λ (cs : List Class). ToldNow cs n.aparts.items) (sym classes) (subst (ToldNow (slice_set m.classes.items at p)) (sym aparts)
        (told_joins m.left m.right n.left.classes n.right.classes m.events (places_in m) (taken_of m) rest (places_in m tag) (given rest made) m.classes.items m.aparts.items (members_taken (both_of m.left m.right) m.events (places_in m) (taken_of m) m.classes.items made.stand.members) made.told
        tag refl x ready.in_order.within (own (next_enabled m.left m.right (taken_of m) rest (places_in m tag) made.stand.so_far)).0 at o p at_o tags enables (length-set m.classes.items at p) (at_set m.classes.items at p))))
        (λ within. subst (λ (cs : List Class). length cs ≤ 500) (sym classes) (omega (arith, within.classes, length-set m.classes.items at p)))
        (λ named. subst (λ (cs : List Class). Names cs n.aparts.items) (sym classes) (subst (Names (slice_set m.classes.items at p)) (sym aparts) (named_joins m.left.net m.right.net m.classes.items m.aparts.items named tag latch at o p at_o tags)))
        (λ rest made. subst LitsNow (sym classes)
        (lits_join m.left m.right n.left.classes n.right.classes m.events (places_in m) (taken_of m) rest (places_in m tag) (given rest made) m.classes.items (have_taken rest made) made.lits
        tag refl x (own (next_enabled m.left m.right (taken_of m) rest (places_in m tag) made.stand.so_far)).1 at o p at_o tags enables))

    pub founded_goes_on : (o p : Class) → class ≡ suc (length m.classes.items) → length m.classes.items < 500 → o.tags.items ≡ [] → o.enables.items ≡ [] → p.tags.items ≡ o.tags.items ++ tag ∷ [] → p.enables.items ≡ o.enables.items ++ x ∷ [] → IsReadyEnable m.events x → IsOwnAt m tag x → (always : Difference) (told : List Told) → AreToldAt m tag always told → HasKept m.events m.classes.items tag always told m.aparts.items n.aparts.items →
        n.classes.items ≡ m.classes.items ++ p ∷ [] → GoesOn m n tag (with_next m tag)
    founded_goes_on o p is few no_tags no_enables tags enables ready own always told tells keeps classes =
        on_with
        (λ rest made joined. subst (λ (es : List ((ℕ × ℕ) × ℕ)). Stands rest es n.classes.items) (sym table) (subst (Stands rest (m.table ++ ((x.value.0, x.care.0), class) ∷ [])) (sym classes)
        (stand_founded m.left m.right n.left n.right m.events (places_in m) (taken_of m) rest tag class m.table m.classes.items joined made.stand x (function_of rest made) o p is no_tags no_enables tags enables
        (subst (All (IsReadyEnable m.events)) (sym enables) (All-push (IsReadyEnable m.events) o.enables.items x (subst (All (IsReadyEnable m.events)) (sym no_enables) (All-nil (IsReadyEnable m.events))) ready)))))
        (λ rest made.
        let now = class_now m n tag class kept.left_sound kept.right_sound kept.left kept.right latch set taken events left_count right_count fits rest made in
        subst (λ (cs : List Class). ToldNow cs n.aparts.items) (sym classes)
        (told_founds m.left m.right n.left.classes n.right.classes m.events (places_in m) (taken_of m) rest (places_in m tag) (given rest made) m.classes.items m.aparts.items (members_taken (both_of m.left m.right) m.events (places_in m) (taken_of m) m.classes.items made.stand.members) made.told
        tag refl x ready.in_order.within (own (next_enabled m.left m.right (taken_of m) rest (places_in m tag) made.stand.so_far)).0 (now ∙ is)
        (λ u h. let low = class_within m.left m.right (taken_of m) m.classes.items made.stand.number u h in omega (arith, low, now, is)) always told (tells.1 rest made) n.aparts.items keeps o p no_tags no_enables tags enables))
        (λ within. subst (λ (cs : List Class). length cs ≤ 500) (sym classes) (omega (arith, few, length-append m.classes.items (p ∷ []))))
        (λ named. subst (λ (cs : List Class). Names cs n.aparts.items) (sym classes) (named_founds m.left.net m.right.net m.classes.items m.aparts.items named tag latch m.events always told n.aparts.items tells.0.few keeps o p no_tags tags))
        (λ rest made. subst LitsNow (sym classes)
        (lits_found m.left m.right n.left.classes n.right.classes m.events (places_in m) (taken_of m) rest (places_in m tag) (given rest made) m.classes.items (have_taken rest made) made.lits
        tag refl x (own (next_enabled m.left m.right (taken_of m) rest (places_in m tag) made.stand.so_far)).1 o p no_tags no_enables tags enables))

-- the latch is one where the circuits are the same
pub tag_same : (m n : ClassMap) (tag : Tag) → n.left ≡ m.left → n.right ≡ m.right → IsTagOf m.left.net m.right.net tag → IsTagOf n.left.net n.right.net tag
tag_same m n tag left right latch =
    subst (λ (e : EventCircuitView). IsTagOf e.net n.right.net tag) (sym left) (subst (λ (e : EventCircuitView). IsTagOf m.left.net e.net tag) (sym right) latch)

-- it is the next one there
pub next_same : (m n : ClassMap) (tag : Tag) → n.left ≡ m.left → n.right ≡ m.right → ((rest : List (Either ℕ ℕ)) → IsMade m rest → IsMade n rest) → (rest : List (Either ℕ ℕ)) × IsMade m (places_in m tag ∷ rest) → (rest : List (Either ℕ ℕ)) × IsMade n (places_in n tag ∷ rest)
next_same m n tag left right made r = (r.0, subst (λ (u : Either ℕ ℕ). IsMade n (u ∷ r.0)) (λ i. place_of (sym left i).net (sym right i).net tag) (made (places_in m tag ∷ r.0) r.1))

-- the place of the class that was found is one of the list's
pub fit_place : (v w : EventGraphView) (classes : List Class) (latch : Enable) (conflicts place : ℕ) (f : Fit) → IsFit v w classes latch conflicts f → f ≡ fit.Joins place → place < length classes
fit_place v w classes latch conflicts place f is same =
    let found = subst (IsFit v w classes latch conflicts) same is in
    let inside = slice_get_within classes (length found.2.0) found.2.3.0 found.2.3.1 in
    omega (arith, inside, found.2.2)

-- what is found for the latch is its first fit, also in the graph as it is then
pub found_fits_in : (m n : ClassMap) (tag : Tag) (x : Enable) (conflicts : ℕ) (f : Fit) (rest : List (Either ℕ ℕ)) → n ≡ record m { events = n.events } → AreKept m.left m.right m.events → IsMade m (places_in m tag ∷ rest) → IsEnableAt m tag x → IsFit m.events n.events m.classes.items x conflicts f →
    FitsIn n tag (class_of_fit n.classes.items f)
found_fits_in m n tag x conflicts f rest same kept made enable is =
    subst (λ (o : ClassMap). FitsIn o tag (class_of_fit o.classes.items f)) (sym same)
    (λ later h. fit_first m.left m.right m.events n.events (places_in m) (taken_of m) (places_in m tag) m.classes.items x conflicts f kept made.stand.number made.stand.members (enable (next_enabled m.left m.right (taken_of m) rest (places_in m tag) made.stand.so_far)) is)

-- the enable stays the latch's while the graph grows
pub enable_grows : (m n : ClassMap) (tag : Tag) (x : Enable) → n ≡ record m { events = n.events } → IsEventGraph m.events → GrowsEvents m.events n.events → IsEnableAt m tag x → IsEnableAt n tag x
enable_grows m n tag x same is grows enable =
    subst (λ (o : ClassMap). IsEnabled (both_of o.left o.right).circuit (places_in o tag) → IsEnableFunction (both_of o.left o.right) n.events (places_in o tag) x.value.0 x.care.0) (sym same)
    (λ on. functions_grow_with_graph (both_of m.left m.right) m.events n.events (places_in m tag) x.value.0 x.care.0 is grows (enable on))
