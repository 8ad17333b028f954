-- The next latch is given its class.
use Rattle.std.proofs.Common.{◌≡◌, ◌≢◌, ◌∙◌, ◌<◌, ◌≤◌, ℕ, List, [], ◌∷◌, ◌++◌, length, map, slice_get, Some, sym, ap, subst}
use Rattle.std.proofs.lemmas.List.{map-append}
use Rattle.std.proofs.lemmas.List.Elements.{Contains-append_right}
use Rattle.std.proofs.lemmas.Option.{slice_get-get_or}
use Rattle.circuit_theory.specs.declared.Side.{Side}
use Rattle.circuit_theory.specs.declared.Side.TheVariants.{A, B}
use Rattle.circuit_theory.specs.Depth.{LatchesHaveDepths}
use Rattle.circuit_theory.specs.Joined.{Either, Left, Right, joined}
use Rattle.circuit_theory.specs.Run.{IsEnabled}
use Rattle.circuit_theory.proofs.Lists.{Contains-head}
use Rattle.circuit_theory.specs.EventTotals.{IsMapSoFar}
use Rattle.circuit_laws.specs.event_laws.ClassSteps.{IsFirstFit}
use Rattle.flat_net.specs.Cut.{latch_at, no_latch}
use Rattle.flat_net.specs.Sound.{IsSound}
use Rattle.flat_net.specs.View.{NetView, circuit_of}
use Rattle.sec_base.specs.declared.basics.Tag.{Tag}
use Rattle.event_nodes.specs.Nodes.{EventGraphView}
use Rattle.event_nodes.specs.View.{EventCircuitView, IsEventCircuit, class_at}
use Rattle.event_nodes.specs.Visited.{CounterView, IsWeighed}
use Rattle.class_search.specs.event_order.Order.{place_of, IsTagOf}
use Rattle.edbf_unfold.specs.class_queries.Enables.{both_of, class_map}
use Rattle.class_search.specs.class_fits.class_joining.Joining.{with_class, HasJoined}
use Rattle.class_search.proofs.class_fits.class_joining.Classes.{class_kept}
use Rattle.class_search.proofs.class_fits.class_joining.Giving.{class_given}
use Rattle.circuit_laws.specs.reset_laws.class_extension.Laws.{IsNextGiven}
use Rattle.class_search.specs.class_separations.Apart.{AreToldApart}
use Rattle.event_classes.specs.event_functions.class_totals.Totals.{HaveCounted}
use Rattle.event_classes.proofs.event_functions.class_totals.Going.{totals_stay}
use Rattle.flat_net.proofs.Nets.{sound_is_net}
use Rattle.event_classes.specs.declared.map.ClassMap.{ClassMap}
use Rattle.event_classes.specs.Named.{AreNamed}
use Rattle.class_search.specs.class_fits.Stand.{IsStand}
use Rattle.event_classes.specs.Map.{IsWithin, IsMade, HaveEnableLits, FitsIn, IsSetOn, IsClassSet, Counts, GoesOn, places_in, taken_of, with_next}

pub latch_there : (n : NetView) (j : ℕ) → j < length n.latches → slice_get n.latches j ≡ Some (latch_at n j)
latch_there n j inside = slice_get-get_or n.latches j no_latch inside

-- the class map goes on where the class is the latch's first fit
joined_at : (side : Side) (a b c d : EventCircuitView) (j class : ℕ) → IsSound a.net → IsSound b.net → IsEventCircuit a → IsEventCircuit b → LatchesHaveDepths (both_of a b).circuit (IsEnabled (both_of a b).circuit) → (taken rest : List (Either ℕ ℕ)) →
    IsTagOf a.net b.net (record { side = side; latch = j }) → IsSetOn side a b c d j class → IsMapSoFar (both_of a b) taken (place_of a.net b.net (record { side = side; latch = j }) ∷ rest) →
    IsFirstFit (both_of a b) taken (place_of a.net b.net (record { side = side; latch = j })) class → HasJoined a b c d taken rest (place_of a.net b.net (record { side = side; latch = j })) class
joined_at A a b c d j class sound_a sound_b kept_a kept_b depths taken rest within set so_far fits =
    subst (λ (e : EventCircuitView). HasJoined a b e d taken rest (Left (latch_at a.net j).out.0) class) (sym set.0)
    (subst (λ (e : EventCircuitView). HasJoined a b (with_class a j class) e taken rest (Left (latch_at a.net j).out.0) class) (sym set.1)
    ((class_given a b sound_a sound_b kept_a kept_b depths taken rest j class (latch_at a.net j)).0 (latch_there a.net j within) so_far fits))
joined_at B a b c d j class sound_a sound_b kept_a kept_b depths taken rest within set so_far fits =
    subst (λ (e : EventCircuitView). HasJoined a b e d taken rest (Right (latch_at b.net j).out.0) class) (sym set.0)
    (subst (λ (e : EventCircuitView). HasJoined a b a e taken rest (Right (latch_at b.net j).out.0) class) (sym set.1)
    ((class_given a b sound_a sound_b kept_a kept_b depths taken rest j class (latch_at b.net j)).1 (latch_there b.net j within) so_far fits))

-- all else of the circuits stays
circuits_same : (side : Side) (a b c d : EventCircuitView) (j class : ℕ) → IsSetOn side a b c d j class → (c ≡ record a { classes = c.classes }) × (d ≡ record b { classes = d.classes })
circuits_same A a b c d j class set = (set.0 ∙ ap (λ (ks : List ℕ). record a { classes = ks }) (sym (ap (λ (e : EventCircuitView). e.classes) set.0)), set.1 ∙ ap (λ (ks : List ℕ). record b { classes = ks }) (sym (ap (λ (e : EventCircuitView). e.classes) set.1)))
circuits_same B a b c d j class set = (set.0 ∙ ap (λ (ks : List ℕ). record a { classes = ks }) (sym (ap (λ (e : EventCircuitView). e.classes) set.0)), set.1 ∙ ap (λ (ks : List ℕ). record b { classes = ks }) (sym (ap (λ (e : EventCircuitView). e.classes) set.1)))

-- all other latches keep their classes
others_set : (side : Side) (a b c d : EventCircuitView) (j class : ℕ) → IsTagOf a.net b.net (record { side = side; latch = j }) → IsSetOn side a b c d j class → (u : Either ℕ ℕ) → u ≢ place_of a.net b.net (record { side = side; latch = j }) →
    class_map a b u ≡ class_map (record a { classes = c.classes }) (record b { classes = d.classes }) u
others_set A a b c d j class within set (Left p) apart =
    sym (ap (λ (ks : List ℕ). class_at a.net.latches ks p) (ap (λ (e : EventCircuitView). e.classes) set.0) ∙ class_kept a.net.latches a.classes j class (latch_at a.net j) p (latch_there a.net j within) (λ e. apart (ap Left (sym e))))
others_set A a b c d j class within set (Right q) apart = sym (ap (λ (ks : List ℕ). class_at b.net.latches ks q) (ap (λ (e : EventCircuitView). e.classes) set.1))
others_set B a b c d j class within set (Left p) apart = sym (ap (λ (ks : List ℕ). class_at a.net.latches ks p) (ap (λ (e : EventCircuitView). e.classes) set.0))
others_set B a b c d j class within set (Right q) apart =
    sym (ap (λ (ks : List ℕ). class_at b.net.latches ks q) (ap (λ (e : EventCircuitView). e.classes) set.1) ∙ class_kept b.net.latches b.classes j class (latch_at b.net j) q (latch_there b.net j within) (λ e. apart (ap Right (sym e))))

-- the next latch is enabled
pub next_enabled : (a b : EventCircuitView) (taken rest : List (Either ℕ ℕ)) (u : Either ℕ ℕ) → IsMapSoFar (both_of a b) taken (u ∷ rest) → IsEnabled (both_of a b).circuit u
next_enabled a b taken rest u so_far = so_far.is_order.enabled u (Contains-append_right taken (u ∷ rest) u (Contains-head u rest))

module _ (m n : ClassMap) (tag : Tag) (class : ℕ) (sound_a : IsSound m.left.net) (sound_b : IsSound m.right.net) (kept_a : IsEventCircuit m.left) (kept_b : IsEventCircuit m.right) (latch : IsTagOf m.left.net m.right.net tag)
    (set : IsClassSet m.left m.right n.left n.right tag class) (taken : n.taken.items ≡ m.taken.items ++ tag ∷ []) (events : n.events ≡ m.events) (left_count : n.left_count ≡ m.left_count) (right_count : n.right_count ≡ m.right_count) (fits : FitsIn m tag class) where
  same : (n.left ≡ record m.left { classes = n.left.classes }) × (n.right ≡ record m.right { classes = n.right.classes })
  same = circuits_same tag.side m.left m.right n.left n.right tag.latch class set

  left_net : n.left.net ≡ m.left.net
  left_net = ap (λ (e : EventCircuitView). e.net) same.0

  right_net : n.right.net ≡ m.right.net
  right_net = ap (λ (e : EventCircuitView). e.net) same.1

  places_same : places_in n ≡ places_in m
  places_same i = place_of (left_net i) (right_net i)

  taken_same : taken_of n ≡ taken_of m ++ places_in m tag ∷ []
  taken_same = (λ i. map (places_same i) (taken i)) ∙ map-append (places_in m) m.taken.items (tag ∷ [])

  -- what has been joined, for the latches that are left
  pub joined_next : (rest : List (Either ℕ ℕ)) → IsMade m (places_in m tag ∷ rest) → HasJoined m.left m.right n.left n.right (taken_of m) rest (places_in m tag) class
  joined_next rest made =
      joined_at tag.side m.left m.right n.left n.right tag.latch class sound_a sound_b kept_a kept_b made.depths (taken_of m) rest latch set made.stand.so_far (fits rest made)

  -- what the class map goes on from and to
  pub next_given : (rest : List (Either ℕ ℕ)) → IsMade m (places_in m tag ∷ rest) → IsNextGiven (circuit_of m.left.net) (circuit_of m.right.net) (length m.left.net.drivers) (length m.right.net.drivers) m.left.order m.right.order (class_map m.left m.right)
      (class_map (record m.left { classes = n.left.classes }) (record m.right { classes = n.right.classes })) (taken_of m) rest (places_in m tag)
  next_given rest made = record {
    left_net = sound_is_net m.left.net sound_a;
    right_net = sound_is_net m.right.net sound_b;
    depths = made.depths;
    map = made.stand.so_far;
    others = others_set tag.side m.left m.right n.left n.right tag.latch class latch set;
  }

  pub class_now : (rest : List (Either ℕ ℕ)) → IsMade m (places_in m tag ∷ rest) → class_map (record m.left { classes = n.left.classes }) (record m.right { classes = n.right.classes }) (places_in m tag) ≡ class
  class_now rest made =
      subst (λ (e : EventCircuitView). class_map e (record m.right { classes = n.right.classes }) (places_in m tag) ≡ class) same.0
      (subst (λ (e : EventCircuitView). class_map n.left e (places_in m tag) ≡ class) same.1 (joined_next rest made).class_is)

  pub goes_on_with : ((rest : List (Either ℕ ℕ)) → IsMade m (places_in m tag ∷ rest) → HasJoined m.left m.right n.left n.right (taken_of m) rest (places_in m tag) class →
      IsStand n.left n.right m.events (places_in m) (taken_of m ++ places_in m tag ∷ []) rest n.table n.classes.items) →
      ((rest : List (Either ℕ ℕ)) → IsMade m (places_in m tag ∷ rest) → AreToldApart (record m.left { classes = n.left.classes }) (record m.right { classes = n.right.classes }) m.events (places_in m) (taken_of m ++ places_in m tag ∷ []) n.classes.items n.aparts.items) →
      (IsWithin m → length n.classes.items ≤ 500) → (AreNamed m.left.net m.right.net m.classes.items m.aparts.items → AreNamed m.left.net m.right.net n.classes.items n.aparts.items) →
      ((rest : List (Either ℕ ℕ)) → IsMade m (places_in m tag ∷ rest) → HaveEnableLits (both_of (record m.left { classes = n.left.classes }) (record m.right { classes = n.right.classes })) m.events (places_in m) n.classes.items) → GoesOn m n tag (with_next m tag)
  goes_on_with stands told few named lits = record {
    left = same.0;
    right = same.1;
    taken = taken;
    made = λ rest made. record {
      stand = subst (λ (w : EventGraphView). IsStand n.left n.right w (places_in n) (taken_of n) rest n.table n.classes.items) (sym events)
          (subst (λ (place : Tag → Either ℕ ℕ). IsStand n.left n.right m.events place (taken_of n) rest n.table n.classes.items) (sym places_same)
          (subst (λ (us : List (Either ℕ ℕ)). IsStand n.left n.right m.events (places_in m) us rest n.table n.classes.items) (sym taken_same)
          (stands rest made (joined_next rest made))));
      depths = subst (λ (x : NetView). LatchesHaveDepths (joined (circuit_of x) (circuit_of n.right.net)) (IsEnabled (joined (circuit_of x) (circuit_of n.right.net)))) (sym left_net)
          (subst (λ (x : NetView). LatchesHaveDepths (joined (circuit_of m.left.net) (circuit_of x)) (IsEnabled (joined (circuit_of m.left.net) (circuit_of x)))) (sym right_net) made.depths);
      within = record {
        left = subst (λ (x : NetView). IsWeighed x n.left_count) (sym left_net) (subst (IsWeighed m.left.net) (sym left_count) made.within.left);
        right = subst (λ (x : NetView). IsWeighed x n.right_count) (sym right_net) (subst (IsWeighed m.right.net) (sym right_count) made.within.right);
        nodes = subst (λ (w : EventGraphView). length w.children < 10000) (sym events) made.within.nodes;
        classes = few made.within;
      };
      told = subst (λ (w : EventGraphView). AreToldApart n.left n.right w (places_in n) (taken_of n) n.classes.items n.aparts.items) (sym events)
          (subst (λ (place : Tag → Either ℕ ℕ). AreToldApart n.left n.right m.events place (taken_of n) n.classes.items n.aparts.items) (sym places_same)
          (subst (λ (us : List (Either ℕ ℕ)). AreToldApart n.left n.right m.events (places_in m) us n.classes.items n.aparts.items) (sym taken_same)
          (subst (λ (e : EventCircuitView). AreToldApart e n.right m.events (places_in m) (taken_of m ++ places_in m tag ∷ []) n.classes.items n.aparts.items) (sym same.0)
          (subst (λ (e : EventCircuitView). AreToldApart (record m.left { classes = n.left.classes }) e m.events (places_in m) (taken_of m ++ places_in m tag ∷ []) n.classes.items n.aparts.items) (sym same.1) (told rest made)))));
      named = subst (λ (x : NetView). AreNamed x n.right.net n.classes.items n.aparts.items) (sym left_net) (subst (λ (x : NetView). AreNamed m.left.net x n.classes.items n.aparts.items) (sym right_net) (named made.named));
      lits = subst (λ (w : EventGraphView). HaveEnableLits (both_of n.left n.right) w (places_in n) n.classes.items) (sym events)
          (subst (λ (place : Tag → Either ℕ ℕ). HaveEnableLits (both_of n.left n.right) m.events place n.classes.items) (sym places_same)
          (subst (λ (e : EventCircuitView). HaveEnableLits (both_of e n.right) m.events (places_in m) n.classes.items) (sym same.0)
          (subst (λ (e : EventCircuitView). HaveEnableLits (both_of (record m.left { classes = n.left.classes }) e) m.events (places_in m) n.classes.items) (sym same.1) (lits rest made))));
    };
    counts = λ rest made t.
        subst (λ (w : EventGraphView). HaveCounted n.left n.right w.children (taken_of n) n.left_count n.right_count) (sym events)
        (subst (λ (us : List (Either ℕ ℕ)). HaveCounted n.left n.right m.events.children us n.left_count n.right_count) (sym taken_same)
        (subst (λ (c : CounterView). HaveCounted n.left n.right m.events.children (with_next m tag) c n.right_count) (sym left_count)
        (subst (λ (c : CounterView). HaveCounted n.left n.right m.events.children (with_next m tag) m.left_count c) (sym right_count)
        (subst (λ (e : EventCircuitView). HaveCounted e n.right m.events.children (with_next m tag) m.left_count m.right_count) (sym same.0)
        (subst (λ (e : EventCircuitView). HaveCounted (record m.left { classes = n.left.classes }) e m.events.children (with_next m tag) m.left_count m.right_count) (sym same.1)
        (totals_stay m.left m.right n.left.classes n.right.classes m.events.children (taken_of m) rest (places_in m tag) m.left_count m.right_count (next_given rest made) t))))));
  }

-- the map with more in its event graph
pub goes_on_from : (m n o : ClassMap) (tag : Tag) (us vs : List (Either ℕ ℕ)) → n.left ≡ m.left → n.right ≡ m.right → n.taken ≡ m.taken → ((rest : List (Either ℕ ℕ)) → IsMade m rest → IsMade n rest) → (Counts m us → Counts n vs) → GoesOn n o tag vs → GoesOn m o tag us
goes_on_from m n o tag us vs left right taken made count on = record {
  left = on.left ∙ ap (λ (e : EventCircuitView). record e { classes = o.left.classes }) left;
  right = on.right ∙ ap (λ (e : EventCircuitView). record e { classes = o.right.classes }) right;
  taken = on.taken ∙ (λ i. (taken i).items ++ tag ∷ []);
  made = λ rest h. on.made rest (next rest h);
  counts = λ rest h t. on.counts rest (next rest h) (count t);
}
  where
    next : (rest : List (Either ℕ ℕ)) → IsMade m (places_in m tag ∷ rest) → IsMade n (places_in n tag ∷ rest)
    next rest h = subst (λ (u : Either ℕ ℕ). IsMade n (u ∷ rest)) (λ i. place_of (sym left i).net (sym right i).net tag) (made (places_in m tag ∷ rest) h)
