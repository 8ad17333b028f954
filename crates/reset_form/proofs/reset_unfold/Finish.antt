-- What has been unfolded once all places of a signal have been met.
use Rattle.std.proofs.Common.{◌≡◌, ◌≢◌, ◌∙◌, ◌+◌, ◌^◌, ◌<◌, ◌≤◌, ℕ, suc, List, [], ◌∷◌, ◌++◌, length, map, slice_get, Some, Result, Ok, Err, IfOk, refl, sym, ap, subst, arith, inl, inr}
use Rattle.std.specs.List.{All, AllPairs, AllZip, Contains, sum_by}
use Rattle.std.proofs.lemmas.List.Elements.{All-nil, Contains-push, All-push, Contains-append_left, Contains-append_right, Contains-push_cases}
use Rattle.circuit_theory.specs.Circuit.{Circuit}
use Rattle.circuit_theory.specs.Cone.{latches_of}
use Rattle.circuit_theory.specs.Net.{IsNet}
use Rattle.circuit_theory.specs.Tree.{Tree, Leaf}
use Rattle.circuit_theory.proofs.Lists.{All-from_each, Contains-map, Contains-map_from, of_at}
use Rattle.flat_net.specs.View.{NetView, circuit_of, named}
use Rattle.flat_net.specs.Sound.{IsSound}
use Rattle.flat_net.proofs.Nets.{sound_is_net}
use Rattle.circuit_laws.specs.reset_laws.Reset.{HasStarts}
use Rattle.circuit_laws.specs.reset_laws.Weight.{PlaceInCycle, ResetVisits, IsResetWeight, IsResetOver}
use Rattle.circuit_laws.proofs.reset_laws.ResetExist.{one_tree}
use Rattle.circuit_laws.proofs.reset_laws.reset_nets.Starts.{nets_have_starts}
use Rattle.aig.specs.declared.node.Lit.{Lit}
use Rattle.aig.specs.declared.node.Node.{Node}
use Rattle.aig.specs.Builds.{Builds}
use Rattle.cbf_unfold.specs.unfold_places.Places.{Steps, PlaceBefore}
use Rattle.flat_net.specs.Weights.{weight_at}
use Rattle.cbf_unfold.specs.unfold_places.Reach.{IsThere, IsMet}
use Rattle.cbf_unfold.specs.unfold_places.Growing.{IsNumberOf}
use Rattle.cbf_unfold.specs.unfold_places.InputOrder.{IsOrderOf}
use Rattle.cbf_unfold.specs.unfold_places.Walk.{IsWalk, IsTooLong}
use Rattle.cbf_unfold.proofs.unfold_places.Growing.{zip_map}
use Rattle.reset_form.specs.reset_unfold.Places.{IsLeafAt, starts_of, in_cycle}
use Rattle.reset_form.specs.reset_unfold.Reach.{AreUnmet, IsReach, AreLeavesAt}
use Rattle.reset_form.specs.reset_unfold.Cone.{ConeView, IsCone}
use Rattle.reset_form.specs.reset_unfold.View.{ResetView}
use Rattle.reset_form.specs.reset_unfold.Unfolded.{IsResetUnfolded, Holds, FitsReset}
use Rattle.reset_form.specs.reset_unfold.Building.{HasRoom, IsLaterReset, AreNumbered}
use Rattle.reset_form.proofs.reset_unfold.Walk.{reach_from, over_long}
use Rattle.reset_form.proofs.reset_unfold.Going.{places_weigh}
use Rattle.reset_form.proofs.reset_unfold.Known.{leaf_unfolds}
use Rattle.reset_form.proofs.reset_unfold.LeafLists.{variable_of}
use Rattle.reset_form.proofs.reset_unfold.TreeLeaves.{leaves_are_variables}

-- more unfoldings weigh no less
pub over_more : (c : Circuit ℕ) (done : List (ℕ × ℕ)) (s : ℕ × ℕ) (cap limit : ℕ) → cap ≡ limit → IsResetOver c (starts_of (s ∷ [])) cap → IsResetOver c (starts_of (done ++ s ∷ [])) limit
over_more c done s cap limit same over = record {
  places = over.places;
  distinct = over.distinct;
  weighed = over.weighed;
  met = λ x h. let m = over.met x h in (m.0, among m.0 m.1, m.2);
  total = omega (arith, over.total, same);
}
  where
    among : (x : PlaceInCycle ℕ) → Contains (starts_of (s ∷ [])) x → Contains (starts_of (done ++ s ∷ [])) x
    among x h =
        let p = Contains-map_from in_cycle (s ∷ []) x h in
        subst (Contains (starts_of (done ++ s ∷ []))) p.2 (Contains-map in_cycle (done ++ s ∷ []) p.0 (Contains-append_right done (s ∷ []) p.0 p.1))

length-map : {X Y : Type 0} (f : X → Y) (xs : List X) → length (map f xs) ≡ length xs
length-map f [] = refl
length-map f (x ∷ xs) = let h = length-map f xs in omega (arith, h)

-- there is room for all that may be unfolded
pub room_first : (u : ResetView) (g : List Node) (places : List (ℕ × ℕ)) → u.cap ≡ 2000000 → u.weight ≤ 2000000 → length g ≤ 2 ^ 29 → length places ≤ 2 ^ 29 → HasRoom u g places
room_first u g places cap weight nodes entries = record { nodes = omega (arith, cap, nodes); entries = omega (arith, cap, entries); small = omega (arith, cap, weight) }

module _ (u : ResetView) (sound : IsSound u.net) (order : IsOrderOf u.net u.order) (g : List Node) (places : List (ℕ × ℕ)) (holds : Holds u g places) where
  net_is : IsNet (circuit_of u.net) (length u.net.drivers)
  net_is = sound_is_net u.net sound

  has_starts : HasStarts (circuit_of u.net)
  has_starts = (nets_have_starts u.net sound).0

  latches_differ : AllPairs (λ v w. v ≢ w) (latches_of (circuit_of u.net))
  latches_differ = (nets_have_starts u.net sound).1

  inputs_numbered : length u.order ≡ length (circuit_of u.net).inputs
  inputs_numbered = order.each ∙ sym (length-map named u.net.inputs)

  -- each leaf's place that was met has its variable in the table
  pub leaf_known : (p : ℕ × ℕ) (number : ℕ) → IsMet u.memo p → IsLeafAt (circuit_of u.net) u.order u.base p number → Contains places (number, p.0)
  leaf_known p number m leaf =
      let k = holds.known p m.0 m.1 in
      let same : Leaf number p.0 ≡ k.tree = one_tree (circuit_of u.net) (length u.net.drivers) net_is has_starts latches_differ u.order inputs_numbered u.base (leaf_unfolds (circuit_of u.net) u.order u.base p number leaf) k.unfolds in
      let b : Builds g places (Leaf number p.0) m.0.0 = subst (λ (t : Tree ℕ). Builds g places t m.0.0) (sym same) k.builds in
      of_at places b.0 (number, p.0) b.1

  -- the signal's literal and variables
  pub unfolded_from : (s : ℕ × ℕ) (x : Lit) → Contains u.memo (s, x) → (vars : List ℕ) → AreNumbered u places s vars → IsResetUnfolded u.net u.order u.base g places s.1 s.0 x.0 vars
  unfolded_from s x there vars numbered =
      let k = holds.known s x there in
      record {
        tree = k.tree;
        unfolds = k.unfolds;
        builds = k.builds;
        within = k.within;
        variables = map variable_of numbered.found;
        are_variables = leaves_are_variables (circuit_of u.net) (length u.net.drivers) net_is has_starts latches_differ u.order inputs_numbered u.base s.1 s.0 k.tree k.unfolds numbered.found numbered.leaves numbered.ordered;
        numbered = zip_map (λ v y. slice_get places v ≡ Some (y.1, y.0)) (IsNumberOf places) variable_of (λ v y e. e) vars numbered.found numbered.numbers;
      }

  -- by its leaves, as they were listed
  pub numbered_from : (s : ℕ × ℕ) (x : Lit) → Contains u.memo (s, x) → (vars : List ℕ) (found read : List (ℕ × ℕ)) → read ≡ found → AreLeavesAt (circuit_of u.net) u.order u.base s found → AllPairs PlaceBefore found →
      AllZip (λ v y. slice_get places v ≡ Some (y.1, y.0)) vars read → IsResetUnfolded u.net u.order u.base g places s.1 s.0 x.0 vars
  numbered_from s x there vars found read same leaves ordered zip =
      unfolded_from s x there vars (record {
        found = found;
        leaves = leaves;
        ordered = ordered;
        numbers = subst (λ (l : List (ℕ × ℕ)). AllZip (λ v y. slice_get places v ≡ Some (y.1, y.0)) vars l) same zip;
      })

-- the leaves of a signal that was unfolded have their variables in the table
pub leaves_listed : (u : ResetView) (g : List Node) (places : List (ℕ × ℕ)) → IsSound u.net → IsOrderOf u.net u.order → FitsReset u g places → (s : ℕ × ℕ) → Contains u.done s → (found : List (ℕ × ℕ)) → AreLeavesAt (circuit_of u.net) u.order u.base s found →
    All (λ x. Contains places (x.1, x.0)) found
leaves_listed u g places sound order fits s among found leaves =
    All-from_each (λ x. Contains places (x.1, x.0)) found
    (λ x h. let f = leaves.from x h in leaf_known u sound order g places fits.holds (x.0, f.0) x.1 (fits.met s (x.0, f.0) among f.2) f.1)

module _ (u : ResetView) (g : List Node) (places : List (ℕ × ℕ)) (fits : FitsReset u g places) (s : ℕ × ℕ) (reach : List (ℕ × ℕ)) (are : AreUnmet (circuit_of u.net) (length u.net.drivers) u.memo s reach) where
  -- what a place reads is on the list or was met, if the place is or was
  there_step : (p q : ℕ × ℕ) → IsThere u.memo reach p → Steps (circuit_of u.net) p q → IsThere u.memo reach q
  there_step p q (inl h) steps = are.closed p q h steps
  there_step p q (inr m) steps =
      let v = fits.holds.visited p m.0 m.1 in
      inr (fits.met v.from q v.among (on v.visits steps))
    where
      on : {t k : ℕ} → ResetVisits (circuit_of u.net) t k p.1 p.0 → Steps (circuit_of u.net) p q → ResetVisits (circuit_of u.net) t k q.1 q.0
      on {t = t} {k = k} visits (inl h) = subst (ResetVisits (circuit_of u.net) t k q.1) (sym h.0) (ResetVisits.reads visits h.1)
      on {t = t} {k = k} visits (inr h) = ResetVisits.back (subst (ResetVisits (circuit_of u.net) t k p.1) (let e : p.0 ≡ suc q.0 = omega (arith, h.0) in e) visits) h.2

  -- what the signal visits is on the list, or was met before
  pub reach_or_met : {q j : ℕ} → ResetVisits (circuit_of u.net) s.1 s.0 q j → IsThere u.memo reach (j, q)
  reach_or_met ResetVisits.itself = are.root
  reach_or_met (ResetVisits.reads {q = q} {r = r} {j = j} visits reads) = there_step (j, q) (j, r) (reach_or_met visits) (inl (refl, reads))
  reach_or_met (ResetVisits.back {q = q} {next = next} {j = j} {name = name} visits latch) = there_step (suc j, q) (j, next) (reach_or_met visits) (inr (omega arith, name, latch))

-- what is on the list is met then, and what was met stays
pub there_met : (old new : List ((ℕ × ℕ) × Lit)) (reach : List (ℕ × ℕ)) (p : ℕ × ℕ) → ((q : ℕ × ℕ) → IsMet old q → IsMet new q) → ((q : ℕ × ℕ) → Contains reach q → IsMet new q) → IsThere old reach p → IsMet new p
there_met old new reach p kept met (inl h) = met p h
there_met old new reach p kept met (inr h) = kept p h

-- What fitted before, with one signal more, fits now: `u` is the unfolder before, `w` after.
pub fits_from : (u w : ResetView) (g h : List Node) (places more : List (ℕ × ℕ)) (s : ℕ × ℕ) (reach : List (ℕ × ℕ)) → IsSound w.net → FitsReset u g places → w.net ≡ u.net → w.cap ≡ u.cap → w.done ≡ u.done ++ s ∷ [] →
    ((p : ℕ × ℕ) → IsMet u.memo p → IsMet w.memo p) → w.weight ≤ w.cap → IsReach (circuit_of u.net) (length u.net.drivers) u.memo s reach → ((p : ℕ × ℕ) → Contains reach p → IsMet w.memo p) → Holds w h more →
    AllPairs (λ p q. p ≢ q) (map (λ e. e.0) w.memo) → FitsReset w h more
fits_from u w g h places more s reach sound fits net cap done kept small is met holds differ =
    let limit : w.cap ≡ 2000000 = cap ∙ fits.limit in
    record { holds = holds; met = all; weighs = places_weigh w sound h more holds differ all; limit = limit; small = omega (arith, small, limit) }
  where
    older : (t p : ℕ × ℕ) → Contains u.done t → ResetVisits (circuit_of w.net) t.1 t.0 p.1 p.0 → IsMet w.memo p
    older t p among visits = kept p (fits.met t p among (subst (λ (n : NetView). ResetVisits (circuit_of n) t.1 t.0 p.1 p.0) net visits))

    newer : (t p : ℕ × ℕ) → s ≡ t → ResetVisits (circuit_of w.net) t.1 t.0 p.1 p.0 → IsMet w.memo p
    newer t p e visits =
        there_met u.memo w.memo reach p kept met
        (reach_or_met u g places fits s reach is.are (subst (λ (k : ℕ × ℕ). ResetVisits (circuit_of u.net) k.1 k.0 p.1 p.0) (sym e) (subst (λ (n : NetView). ResetVisits (circuit_of n) t.1 t.0 p.1 p.0) net visits)))

    all : (t p : ℕ × ℕ) → Contains w.done t → ResetVisits (circuit_of w.net) t.1 t.0 p.1 p.0 → IsMet w.memo p
    all t p among visits =
        elim (Contains-push_cases u.done s t (subst (λ (d : List (ℕ × ℕ)). Contains d t) done among)) [
          | inl h ↦ older t p h visits
          | inr e ↦ newer t p e visits
        ]

-- The same unfolder before the signal was put to the others.
pub later_begun : (u v w : ResetView) (g h : List Node) (places more : List (ℕ × ℕ)) (done : List (ℕ × ℕ)) → v ≡ record u { done = done } → IsLaterReset v w g h places more → IsLaterReset u w g h places more
later_begun u v w g h places more done is later =
    let l : IsLaterReset (record u { done = done }) w g h places more = subst (λ (z : ResetView). IsLaterReset z w g h places more) is later in
    record { net = l.net; order = l.order; base = l.base; cap = l.cap; memo = l.memo; grows = l.grows; adds = l.adds; nodes = l.nodes; entries = l.entries; small = l.small }

-- what holds before the signal is put to the others holds afterwards
pub holds_begun : (u : ResetView) (g : List Node) (places : List (ℕ × ℕ)) (s : ℕ × ℕ) → s.1 < length u.net.drivers → Holds u g places → Holds (record u { done = u.done ++ s ∷ [] }) g places
holds_begun u g places s inside holds = record {
  known = holds.known;
  visited = λ p x h. let v = holds.visited p x h in record { from = v.from; among = Contains-append_left u.done (s ∷ []) v.from v.among; visits = v.visits };
  within = All-push (λ (t : ℕ × ℕ). t.1 < length u.net.drivers) u.done s holds.within inside;
  counted = holds.counted;
}

pub room_begun : (u : ResetView) (g : List Node) (places : List (ℕ × ℕ)) (done : List (ℕ × ℕ)) → HasRoom u g places → HasRoom (record u { done = done }) g places
room_begun u g places done room = record { nodes = room.nodes; entries = room.entries; small = room.small }

-- nothing has been unfolded
pub fits_new : (u : ResetView) → u.memo ≡ [] → u.done ≡ [] → u.weight ≡ 0 → u.cap ≡ 2000000 → (g : List Node) (places : List (ℕ × ℕ)) → FitsReset u g places
fits_new u memo done weight cap g places = record {
  holds = record {
    known = λ p x h. absurd (no_entry (p, x) h);
    visited = λ p x h. absurd (no_entry (p, x) h);
    within = subst (λ (d : List (ℕ × ℕ)). All (λ s. s.1 < length u.net.drivers) d) (sym done) (All-nil (λ (s : ℕ × ℕ). s.1 < length u.net.drivers));
    counted = ap (sum_by (λ (e : (ℕ × ℕ) × Lit). weight_at u.net e.0.1)) memo ∙ sym weight;
  };
  met = λ s p h visits. absurd (no_signal s h);
  weighs = subst (λ (d : List (ℕ × ℕ)). IsResetWeight (circuit_of u.net) (starts_of d) u.weight) (sym done) (subst (IsResetWeight (circuit_of u.net) (starts_of [])) (sym weight) nothing);
  limit = cap;
  small = omega (arith, weight);
}
  where
    no_entry : (e : (ℕ × ℕ) × Lit) → Contains u.memo e → ⊥
    no_entry e h = let k = subst (λ (m : List ((ℕ × ℕ) × Lit)). Contains m e) memo h in omega (arith, k.1)

    no_signal : (s : ℕ × ℕ) → Contains u.done s → ⊥
    no_signal s h = let k = subst (λ (d : List (ℕ × ℕ)). Contains d s) done h in omega (arith, k.1)

    nothing : IsResetWeight (circuit_of u.net) (starts_of []) 0
    nothing = record {
      places = [];
      distinct = λ i j d l m. absurd (omega arith);
      weighed = λ x h. absurd (omega (arith, h.1));
      met = λ q j. (λ h. absurd (omega (arith, h.1.1)), λ h. absurd (omega (arith, h.1.1)));
      total = refl;
    }

-- the signal is put to the others
abbrev pub begun : ResetView → ℕ × ℕ → ResetView
begun u s = record u { done = u.done ++ s ∷ [] }

-- what the walk found is what the unfolder goes over
pub reach_is : (u : ResetView) (n : NetView) (memo : List ((ℕ × ℕ) × Lit)) (s : ℕ × ℕ) (cap : ℕ) (reach visited : List (ℕ × ℕ)) → n ≡ u.net → memo ≡ u.memo → visited ≡ reach → IsWalk n memo s cap reach →
    IsReach (circuit_of u.net) (length u.net.drivers) u.memo s visited
reach_is u n memo s cap reach visited net same_memo same is =
    reach_from u.net u.memo s cap visited
    (subst (λ (m : NetView). IsWalk m u.memo s cap visited) net (subst (λ (l : List ((ℕ × ℕ) × Lit)). IsWalk n l s cap visited) same_memo (subst (λ (r : List (ℕ × ℕ)). IsWalk n memo s cap r) (sym same) is)))

-- the same where nothing has been met, from what the call gave
pub reach_alone : {V E : Type 0} (items : V → List (ℕ × ℕ)) (u : ResetView) (n : NetView) (memo : List ((ℕ × ℕ) × Lit)) (s : ℕ × ℕ) (cap : ℕ) (r : Result V E) → n ≡ u.net → memo ≡ [] → IfOk r (λ v. IsWalk n memo s cap (items v)) →
    IfOk r (λ v. IsReach (circuit_of u.net) (length u.net.drivers) [] s (items v))
reach_alone items u n memo s cap (Ok v) net none is =
    reach_from u.net [] s cap (items v) (subst (λ (m : NetView). IsWalk m [] s cap (items v)) net (subst (λ (l : List ((ℕ × ℕ) × Lit)). IsWalk n l s cap (items v)) none is))
reach_alone items u n memo s cap (Err e) net none is = is

-- what is too long for the walk is over
pub over_walk : (u : ResetView) (n : NetView) (s : ℕ × ℕ) (cap : ℕ) → IsSound n → n ≡ u.net → cap ≡ u.cap → IsTooLong n s cap → IsResetOver (circuit_of u.net) (starts_of (s ∷ [])) u.cap
over_walk u n s cap sound net caps long =
    subst (λ (m : NetView). IsResetOver (circuit_of m) (starts_of (s ∷ [])) u.cap) net (over_long n sound s u.cap (subst (IsTooLong n s) caps long))

pub reach_begun : (u v : ResetView) (s : ℕ × ℕ) (visited : List (ℕ × ℕ)) → v ≡ begun u s → IsReach (circuit_of u.net) (length u.net.drivers) u.memo s visited →
    (t : ℕ × ℕ) × Contains v.done t × IsReach (circuit_of v.net) (length v.net.drivers) v.memo t visited
reach_begun u v s visited is reach =
    subst (λ (z : ResetView). (t : ℕ × ℕ) × Contains z.done t × IsReach (circuit_of z.net) (length z.net.drivers) z.memo t visited) (sym is) (s, Contains-push u.done s, reach)

pub holds_from : (u v : ResetView) (g : List Node) (places : List (ℕ × ℕ)) (s : ℕ × ℕ) → v ≡ begun u s → s.1 < length u.net.drivers → Holds u g places → Holds v g places
holds_from u v g places s is inside holds = subst (λ (z : ResetView). Holds z g places) (sym is) (holds_begun u g places s inside holds)

pub room_from : (u v : ResetView) (g : List Node) (places : List (ℕ × ℕ)) (s : ℕ × ℕ) → v ≡ begun u s → HasRoom u g places → HasRoom v g places
room_from u v g places s is room = subst (λ (z : ResetView). HasRoom z g places) (sym is) (room_begun u g places (u.done ++ s ∷ []) room)

pub over_begun : (u v : ResetView) (s : ℕ × ℕ) → v ≡ begun u s → u.cap ≡ 2000000 → IsResetOver (circuit_of v.net) (starts_of v.done) v.cap → IsResetOver (circuit_of u.net) (starts_of (u.done ++ s ∷ [])) 2000000
over_begun u v s is cap over =
    subst (λ (k : ℕ). IsResetOver (circuit_of u.net) (starts_of (u.done ++ s ∷ [])) k) cap (subst (λ (z : ResetView). IsResetOver (circuit_of z.net) (starts_of z.done) z.cap) is over)

-- what the listing of the leaves gave, in terms of the unfolder
module _ (u : ResetView) (n : NetView) (os : List ℕ) (base : ℕ) (net : n ≡ u.net) (order : os ≡ u.order) (based : base ≡ u.base) where
  pub order_here : IsOrderOf u.net u.order → IsOrderOf n os
  order_here h = subst (λ (m : NetView). IsOrderOf m os) (sym net) (subst (IsOrderOf u.net) (sym order) h)

  pub base_here : All (λ i. i < u.base) u.order → All (λ i. i < base) os
  base_here h = subst (λ (k : ℕ). All (λ i. i < k) os) (sym based) (subst (All (λ i. i < u.base)) (sym order) h)

  pub room_here : u.base + length u.net.latches < 2 ^ 31 → base + length n.latches < 2 ^ 31
  room_here h = subst (λ (m : NetView). base + length m.latches < 2 ^ 31) (sym net) (subst (λ (k : ℕ). k + length u.net.latches < 2 ^ 31) (sym based) h)

  pub leaves_here : (s : ℕ × ℕ) (found : List (ℕ × ℕ)) → AreLeavesAt (circuit_of n) os base s found → AreLeavesAt (circuit_of u.net) u.order u.base s found
  leaves_here s found leaves =
      subst (λ (m : NetView). AreLeavesAt (circuit_of m) u.order u.base s found) net
      (subst (λ (o : List ℕ). AreLeavesAt (circuit_of n) o u.base s found) order (subst (λ (k : ℕ). AreLeavesAt (circuit_of n) os k s found) based leaves))

  -- a cone of the unfolder is one of these
  pub cone_here : (k : ConeView) → IsCone u.net u.order u.base k → IsCone n os base k
  cone_here k is =
      subst (λ (m : NetView). IsCone m os base k) (sym net) (subst (λ (o : List ℕ). IsCone u.net o base k) (sym order) (subst (λ (b : ℕ). IsCone u.net u.order b k) (sym based) is))

  pub cone_there : (k : ConeView) → IsCone n os base k → IsCone u.net u.order u.base k
  cone_there k is = subst (λ (m : NetView). IsCone m u.order u.base k) net (subst (λ (o : List ℕ). IsCone n o u.base k) order (subst (λ (b : ℕ). IsCone n os b k) based is))

  -- the leaves of a cone that has gone on are those of the cycle before
  pub leaves_now : (k v : ConeView) → IsCone n os base v → v.next ≡ k.next + 1 → v.signal ≡ k.signal → AreLeavesAt (circuit_of u.net) u.order u.base (k.next, k.signal) v.found
  leaves_now k v is next signal =
      leaves_here (k.next, k.signal) v.found (subst (λ (m : ℕ). AreLeavesAt (circuit_of n) os base (k.next, m) v.found) signal (is.leaves k.next next))
