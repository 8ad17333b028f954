-- What has been unfolded once all places of a signal have been met.
use Rattle.std.proofs.Common.{◌≡◌, ◌≢◌, ◌∙◌, ◌+◌, ◌-◌, ◌^◌, ◌<◌, ◌≤◌, ℕ, suc, List, [], ◌∷◌, ◌++◌, length, map, take, drop, get_or, slice_get, Some, append_assoc, refl, sym, ap, subst, arith, inl, inr}
use Rattle.std.specs.List.{All, AllPairs, AllZip, Contains, sum_by}
use Rattle.std.proofs.lemmas.List.{map-append, take_more, take-append-drop}
use Rattle.std.proofs.lemmas.List.Elements.{All-nil, Contains-push, All-contains, All-push, Contains-append_left, Contains-append_right, Contains-push_cases}
use Rattle.circuit_theory.specs.Circuit.{Circuit}
use Rattle.circuit_theory.specs.Tree.{Tree, Leaf, Unfolds, IsInputNumber}
use Rattle.circuit_theory.specs.Sizes.{Visits, IsOver, IsWeight}
use Rattle.circuit_theory.proofs.Lists.{Contains-map, at_of, of_at, zip_weaker}
use Rattle.circuit_theory.proofs.Numbers.{one_number}
use Rattle.circuit_laws.proofs.OneTree.{one_tree}
use Rattle.flat_net.specs.View.{NetView, circuit_of}
use Rattle.flat_net.specs.Sound.{IsSound}
use Rattle.flat_net.proofs.Nets.{sound_is_net}
use Rattle.flat_net.specs.declared.signals.Signal.{Signal}
use Rattle.aig.specs.declared.node.Lit.{Lit}
use Rattle.aig.specs.declared.node.Node.{Node}
use Rattle.aig.specs.Builds.{Builds}
use Rattle.cbf_unfold.specs.unfold_places.Places.{Steps}
use Rattle.flat_net.specs.Weights.{weight_at}
use Rattle.cbf_unfold.specs.unfold_places.Reach.{IsThere, AreUnmet, IsReach}
use Rattle.cbf_unfold.specs.unfold_places.Walk.{IsWalk, IsTooLong}
use Rattle.cbf_unfold.specs.View.{UnfolderView}
use Rattle.cbf_unfold.specs.Unfolded.{IsNumberOf, IsUnfolded, Holds, Fits}
use Rattle.cbf_unfold.specs.Building.{IsMet, HasRoom, IsLater, AreNumbered}
use Rattle.aig.proofs.Lists.{adds_contains}
use Rattle.cbf_unfold.proofs.PlaceLits.{zip_more_left}
use Rattle.cbf_unfold.proofs.Going.{places_weigh}
use Rattle.cbf_unfold.proofs.Walk.{reach_from, over_long}
use Rattle.cbf_unfold.proofs.unfold_places.InputLists.{variable_of, inputs_are_variables}
pub use Rattle.cbf_unfold.proofs.unfold_places.Growing.{zip_map}

-- more outputs weigh no less
pub over_more : (c : Circuit ℕ) (done : List ℕ) (s cap limit : ℕ) → cap ≡ limit → IsOver c (s ∷ []) cap → IsOver c (done ++ s ∷ []) limit
over_more c done s cap limit same over = record {
  places = over.places;
  distinct = over.distinct;
  weighed = over.weighed;
  met = λ x h. let m = over.met x h in (m.0, Contains-append_right done (s ∷ []) m.0 m.1, m.2);
  total = omega (arith, over.total, same);
}

-- there is room for all that may be unfolded
pub room_first : (u : UnfolderView) (g : List Node) (places : List (ℕ × ℕ)) → u.cap ≡ 2000000 → u.weight ≤ 2000000 → length g ≤ 2 ^ 29 → length places ≤ 2 ^ 29 → HasRoom u g places
room_first u g places cap weight nodes entries = record { nodes = omega (arith, cap, nodes); entries = omega (arith, cap, entries); small = omega (arith, cap, weight) }

module _ (u : UnfolderView) (sound : IsSound u.net) (g : List Node) (places : List (ℕ × ℕ)) (holds : Holds u g places) where
  -- each input's place has its variable in the table
  pub input_known : (p : ℕ × ℕ) (x : Lit) (number : ℕ) → Contains u.memo (p, x) → IsInputNumber (circuit_of u.net) u.order p.1 number → Contains places (number, u.cap - p.0)
  input_known p x number m beside =
      let k = holds.known p x m in
      let net = sound_is_net u.net sound in
      let same : Leaf number (u.cap - p.0) ≡ k.tree =
      (one_tree (circuit_of u.net) u.order net.single (λ q i j l r. one_number (circuit_of u.net).inputs u.order net.inputs q i j l r) (Unfolds.input {k = u.cap - p.0} beside) k.unfolds).0 in
      let b : Builds g places (Leaf number (u.cap - p.0)) x.0 = subst (λ (t : Tree ℕ). Builds g places t x.0) (sym same) k.builds in
      of_at places b.0 (number, u.cap - p.0) b.1

  -- the signal's literal and variables
  pub unfolded_from : (s : ℕ) (x : Lit) → Contains u.memo ((u.cap, s), x) → (vars : List ℕ) → AreNumbered u places s vars → IsUnfolded u.net u.order g places s x.0 vars
  unfolded_from s x there vars numbered =
      let k = holds.known (u.cap, s) x there in
      let net = sound_is_net u.net sound in
      let unfolds : Unfolds (circuit_of u.net) u.order s 0 k.depth k.tree = subst (λ (j : ℕ). Unfolds (circuit_of u.net) u.order s j k.depth k.tree) (let e : u.cap - u.cap ≡ 0 = omega arith in e) k.unfolds in
      record {
        depth = k.depth;
        tree = k.tree;
        unfolds = unfolds;
        builds = k.builds;
        within = k.within;
        variables = map (variable_of u.cap) numbered.found;
        are_variables = inputs_are_variables (circuit_of u.net) u.order s u.cap numbered.found net.single net.inputs numbered.inputs numbered.ordered k.depth k.tree unfolds;
        numbered = zip_map (λ v y. slice_get places v ≡ Some (y.1, u.cap - y.0)) (IsNumberOf places) (variable_of u.cap) (λ v y e. e) vars numbered.found numbered.numbers;
      }

module _ (u : UnfolderView) (g : List Node) (places : List (ℕ × ℕ)) (fits : Fits u g places) (s : ℕ) (reach : List (ℕ × ℕ)) (are : AreUnmet (circuit_of u.net) (length u.net.drivers) s u.cap u.memo reach) where
  -- a place on the list, or one that was met, isn't in the first cycle
  there_early : (p : ℕ × ℕ) → IsThere u.memo reach p → 0 < p.0
  there_early p (inl h) = (All-contains (λ (q : ℕ × ℕ). (0 < q.0) × (q.1 < length u.net.drivers)) reach p are.within h).0
  there_early p (inr m) = let i = at_of u.memo (p, m.0) m.1 in fits.holds.planned.early i.0 (p, m.0) i.1

  -- and what it reads is on the list or was met
  there_step : (p q : ℕ × ℕ) → IsThere u.memo reach p → Steps (circuit_of u.net) p q → IsThere u.memo reach q
  there_step p q (inl h) steps = are.closed p q h steps
  there_step p q (inr m) steps =
      let i = at_of u.memo (p, m.0) m.1 in
      let r = fits.holds.planned.read i.0 (p, m.0) q i.1 steps in
      inr (r.1, of_at u.memo r.0 (q, r.1) r.3)

  -- what the signal visits is on the list, or was met before
  pub reach_or_met : {q j : ℕ} → Visits (circuit_of u.net) s 0 q j → (j ≤ u.cap) × IsThere u.memo reach (u.cap - j, q)
  reach_or_met Visits.itself = (omega arith, subst (λ (t : ℕ). IsThere u.memo reach (t, s)) (let e : u.cap ≡ u.cap - 0 = omega arith in e) are.root)
  reach_or_met (Visits.reads {q = q} {r = r} {j = j} visits reads) =
      let above = reach_or_met visits in
      (above.0, there_step (u.cap - j, q) (u.cap - j, r) above.1 (inl (refl, reads)))
  reach_or_met (Visits.back {q = q} {next = next} {j = j} {name = name} visits latch) =
      let above = reach_or_met visits in
      let early : 0 < u.cap - j = there_early (u.cap - j, q) above.1 in
      let down : (u.cap - suc j) + 1 ≡ u.cap - j = omega (arith, early) in
      (omega (arith, early), there_step (u.cap - j, q) (u.cap - suc j, next) above.1 (inr (down, name, latch)))

-- what is on the list is met then, and what was met stays
pub there_met : (old new : List ((ℕ × ℕ) × Lit)) (reach : List (ℕ × ℕ)) (p : ℕ × ℕ) → ((q : ℕ × ℕ) → IsMet old q → IsMet new q) → ((q : ℕ × ℕ) → Contains reach q → IsMet new q) → IsThere old reach p → IsMet new p
there_met old new reach p kept met (inl h) = met p h
there_met old new reach p kept met (inr h) = kept p h

-- What fitted before, with one signal more, fits now: `u` is the unfolder before, `w` after.
pub fits_from : (u w : UnfolderView) (g h : List Node) (places more : List (ℕ × ℕ)) (s : ℕ) (reach : List (ℕ × ℕ)) → IsSound w.net → Fits u g places → w.net ≡ u.net → w.cap ≡ u.cap → w.done ≡ u.done ++ s ∷ [] →
    ((p : ℕ × ℕ) → IsMet u.memo p → IsMet w.memo p) → w.weight ≤ w.cap → IsReach (circuit_of u.net) (length u.net.drivers) s u.cap u.memo reach → ((p : ℕ × ℕ) → Contains reach p → IsMet w.memo p) → Holds w h more →
    AllPairs (λ p q. p ≢ q) (map (λ e. e.0) w.memo) → Fits w h more
fits_from u w g h places more s reach sound fits net cap done kept small is met holds differ =
    let limit : w.cap ≡ 2000000 = cap ∙ fits.limit in
    record { holds = holds; met = all; weighs = places_weigh w sound h more holds differ all; limit = limit; small = omega (arith, small, limit) }
  where
    older : (t q j : ℕ) → Contains u.done t → Visits (circuit_of w.net) t 0 q j → (j ≤ w.cap) × IsMet w.memo (w.cap - j, q)
    older t q j among visits =
        let m = fits.met t q j among (subst (λ (n : NetView). Visits (circuit_of n) t 0 q j) net visits) in
        (omega (arith, m.0, cap), kept (w.cap - j, q) (subst (λ (k : ℕ). IsMet u.memo (k - j, q)) (sym cap) m.1))

    newer : (t q j : ℕ) → s ≡ t → Visits (circuit_of w.net) t 0 q j → (j ≤ w.cap) × IsMet w.memo (w.cap - j, q)
    newer t q j e visits =
        let m = reach_or_met u g places fits s reach is.are (subst (λ (k : ℕ). Visits (circuit_of u.net) k 0 q j) (sym e) (subst (λ (n : NetView). Visits (circuit_of n) t 0 q j) net visits)) in
        (omega (arith, m.0, cap), subst (λ (k : ℕ). IsMet w.memo (k - j, q)) (sym cap) (there_met u.memo w.memo reach (u.cap - j, q) kept met m.1))

    all : (t q j : ℕ) → Contains w.done t → Visits (circuit_of w.net) t 0 q j → (j ≤ w.cap) × IsMet w.memo (w.cap - j, q)
    all t q j among visits =
        elim (Contains-push_cases u.done s t (subst (λ (d : List ℕ). Contains d t) done among)) [
          | inl h ↦ older t q j h visits
          | inr e ↦ newer t q j e visits
        ]

-- The same unfolder before the signal was put to the others.
pub later_begun : (u v w : UnfolderView) (g h : List Node) (places more : List (ℕ × ℕ)) (done : List ℕ) → v ≡ record u { done = done } → IsLater v w g h places more → IsLater u w g h places more
later_begun u v w g h places more done is later =
    let l : IsLater (record u { done = done }) w g h places more = subst (λ (z : UnfolderView). IsLater z w g h places more) is later in
    record { net = l.net; order = l.order; cap = l.cap; memo = l.memo; grows = l.grows; adds = l.adds; nodes = l.nodes; entries = l.entries; small = l.small }

-- what holds before the signal is put to the others holds afterwards
pub holds_begun : (u : UnfolderView) (g : List Node) (places : List (ℕ × ℕ)) (s : ℕ) → s < length u.net.drivers → Holds u g places → Holds (record u { done = u.done ++ s ∷ [] }) g places
holds_begun u g places s inside holds = record {
  known = holds.known;
  visited = λ p x h. let v = holds.visited p x h in record { cycle = v.cycle; from = v.from; among = Contains-append_left u.done (s ∷ []) v.from v.among; visits = v.visits };
  within = All-push (λ (t : ℕ). t < length u.net.drivers) u.done s holds.within inside;
  counted = holds.counted;
  planned = holds.planned;
}

pub room_begun : (u : UnfolderView) (g : List Node) (places : List (ℕ × ℕ)) (done : List ℕ) → HasRoom u g places → HasRoom (record u { done = done }) g places
room_begun u g places done room = record { nodes = room.nodes; entries = room.entries; small = room.small }

-- nothing has been unfolded
pub fits_new : (u : UnfolderView) → u.memo ≡ [] → u.done ≡ [] → u.weight ≡ 0 → u.cap ≡ 2000000 → (g : List Node) (places : List (ℕ × ℕ)) → Fits u g places
fits_new u memo done weight cap g places = record {
  holds = record {
    known = λ p x h. absurd (no_entry (p, x) h);
    visited = λ p x h. absurd (no_entry (p, x) h);
    within = subst (λ (d : List ℕ). All (λ s. s < length u.net.drivers) d) (sym done) (All-nil (λ s. s < length u.net.drivers));
    counted = ap (sum_by (λ (e : (ℕ × ℕ) × Lit). weight_at u.net e.0.1)) memo ∙ sym weight;
    planned = record { early = λ i e at. absurd (no_entry e (of_at u.memo i e at)); read = λ i e q at steps. absurd (no_entry e (of_at u.memo i e at)) };
  };
  met = λ s q j h visits. absurd (no_signal s h);
  weighs = subst (λ (d : List ℕ). IsWeight (circuit_of u.net) d u.weight) (sym done) (subst (IsWeight (circuit_of u.net) []) (sym weight) nothing);
  limit = cap;
  small = omega (arith, weight);
}
  where
    no_entry : (e : (ℕ × ℕ) × Lit) → Contains u.memo e → ⊥
    no_entry e h = let k = subst (λ (m : List ((ℕ × ℕ) × Lit)). Contains m e) memo h in omega (arith, k.1)

    no_signal : (s : ℕ) → Contains u.done s → ⊥
    no_signal s h = let k = subst (λ (d : List ℕ). Contains d s) done h in omega (arith, k.1)

    nothing : IsWeight (circuit_of u.net) [] 0
    nothing = record {
      places = [];
      distinct = λ i j d l m. absurd (omega arith);
      weighed = λ x h. absurd (omega (arith, h.1));
      met = λ q j. (λ h. absurd (omega (arith, h.1.1)), λ h. absurd (omega (arith, h.1.1)));
      total = refl;
    }

-- the signal is put to the others
abbrev pub begun : UnfolderView → ℕ → UnfolderView
begun u s = record u { done = u.done ++ s ∷ [] }

-- what is said of the net, the numbers and the places as a call has them is said of the unfolder's own, and the other way round
module _ (u : UnfolderView) (n : NetView) (order : List ℕ) (memo : List ((ℕ × ℕ) × Lit)) (net_is : n ≡ u.net) (order_is : order ≡ u.order) (memo_is : memo ≡ u.memo) (P : NetView → List ℕ → List ((ℕ × ℕ) × Lit) → Type 0) where
  pub from_own : P u.net u.order u.memo → P n order memo
  from_own h = subst (λ (m : List ((ℕ × ℕ) × Lit)). P n order m) (sym memo_is) (subst (λ (o : List ℕ). P n o u.memo) (sym order_is) (subst (λ (k : NetView). P k u.order u.memo) (sym net_is) h))

  pub to_own : P n order memo → P u.net u.order u.memo
  to_own h = subst (λ (k : NetView). P k u.order u.memo) net_is (subst (λ (o : List ℕ). P n o u.memo) order_is (subst (λ (m : List ((ℕ × ℕ) × Lit)). P n order m) memo_is h))

-- what the walk found is what the unfolder goes over
pub reach_is : (u : UnfolderView) (n : NetView) (memo : List ((ℕ × ℕ) × Lit)) (first cap s : ℕ) (reach visited : List (ℕ × ℕ)) → n ≡ u.net → memo ≡ u.memo → first ≡ u.cap → cap ≡ u.cap → visited ≡ reach → IsWalk n memo (first, s) cap reach →
    IsReach (circuit_of u.net) (length u.net.drivers) s u.cap u.memo visited
reach_is u n memo first cap s reach visited net memos firsts caps same is =
    reach_from u.net u.memo s u.cap visited
    (subst (λ (l : List ((ℕ × ℕ) × Lit)). IsWalk u.net l (u.cap, s) u.cap visited) memos
    (subst (λ (m : NetView). IsWalk m memo (u.cap, s) u.cap visited) net
    (subst (λ (k : ℕ). IsWalk n memo (u.cap, s) k visited) caps
    (subst (λ (k : ℕ). IsWalk n memo (k, s) cap visited) firsts (subst (λ (r : List (ℕ × ℕ)). IsWalk n memo (first, s) cap r) (sym same) is)))))

-- what is too long for the walk is over with the signals so far
pub over_walk : (u : UnfolderView) (n : NetView) (first cap s : ℕ) → IsSound n → n ≡ u.net → first ≡ u.cap → cap ≡ u.cap → u.cap ≡ 2000000 → IsTooLong n (first, s) cap → IsOver (circuit_of u.net) (u.done ++ s ∷ []) 2000000
over_walk u n first cap s sound net firsts caps limit long =
    over_more (circuit_of u.net) u.done s u.cap 2000000 limit
    (subst (λ (m : NetView). IsOver (circuit_of m) (s ∷ []) u.cap) net
    (over_long n sound s u.cap (subst (λ (k : ℕ). IsTooLong n (u.cap, s) k) caps (subst (λ (k : ℕ). IsTooLong n (k, s) cap) firsts long))))

pub reach_begun : (u v : UnfolderView) (s : ℕ) (visited : List (ℕ × ℕ)) → v ≡ begun u s → IsReach (circuit_of u.net) (length u.net.drivers) s u.cap u.memo visited →
    (t : ℕ) × Contains v.done t × IsReach (circuit_of v.net) (length v.net.drivers) t v.cap v.memo visited
reach_begun u v s visited is reach =
    subst (λ (z : UnfolderView). (t : ℕ) × Contains z.done t × IsReach (circuit_of z.net) (length z.net.drivers) t z.cap z.memo visited) (sym is) (s, Contains-push u.done s, reach)

pub holds_from : (u v : UnfolderView) (g : List Node) (places : List (ℕ × ℕ)) (s : ℕ) → v ≡ begun u s → s < length u.net.drivers → Holds u g places → Holds v g places
holds_from u v g places s is inside holds = subst (λ (z : UnfolderView). Holds z g places) (sym is) (holds_begun u g places s inside holds)

pub room_from : (u v : UnfolderView) (g : List Node) (places : List (ℕ × ℕ)) (s : ℕ) → v ≡ begun u s → HasRoom u g places → HasRoom v g places
room_from u v g places s is room = subst (λ (z : UnfolderView). HasRoom z g places) (sym is) (room_begun u g places (u.done ++ s ∷ []) room)

pub over_begun : (u v : UnfolderView) (s : ℕ) → v ≡ begun u s → u.cap ≡ 2000000 → IsOver (circuit_of v.net) v.done v.cap → IsOver (circuit_of u.net) (u.done ++ s ∷ []) 2000000
over_begun u v s is cap over = subst (λ (k : ℕ). IsOver (circuit_of u.net) (u.done ++ s ∷ []) k) cap (subst (λ (z : UnfolderView). IsOver (circuit_of z.net) z.done z.cap) is over)

-- the signals of a list are among those that are unfolded after it
pub are_done : (done : List ℕ) (signals : List Signal) (new : List ℕ) → new ≡ done ++ map (λ (s : Signal). s.0) signals → (k : ℕ) (s : Signal) → slice_get signals k ≡ Some s → Contains new s.0
are_done done signals new is k s at =
    subst (λ (d : List ℕ). Contains d s.0) (sym is) (Contains-append_right done (map (λ (t : Signal). t.0) signals) s.0 (Contains-map (λ (t : Signal). t.0) signals s (of_at signals k s at)))

module _ (signals : List Signal) (i : ℕ) (d : Signal) (inside : i < length signals) where
  -- the numbers of one signal more
  numbers_more : map (λ (s : Signal). s.0) (take (i + 1) signals) ≡ map (λ (s : Signal). s.0) (take i signals) ++ (get_or signals i d).0 ∷ []
  numbers_more = ap (map (λ (s : Signal). s.0)) (take_more signals i d inside) ∙ map-append (λ (s : Signal). s.0) (take i signals) (get_or signals i d ∷ [])

  pub done_more : (first done more : List ℕ) → done ≡ first ++ map (λ (s : Signal). s.0) (take i signals) → more ≡ done ++ (get_or signals i d).0 ∷ [] → more ≡ first ++ map (λ (s : Signal). s.0) (take (i + 1) signals)
  done_more first done more before is =
      is ∙ (ap (λ (l : List ℕ). l ++ (get_or signals i d).0 ∷ []) before ∙ (append_assoc first (map (λ (s : Signal). s.0) (take i signals)) ((get_or signals i d).0 ∷ []) ∙ ap (λ (l : List ℕ). first ++ l) (sym numbers_more)))

  -- what is over with some of the signals is over with all
  pub over_some : (u v : UnfolderView) → v.net ≡ u.net → v.done ≡ u.done ++ map (λ (s : Signal). s.0) (take i signals) → IsOver (circuit_of v.net) (v.done ++ (get_or signals i d).0 ∷ []) 2000000 →
      IsOver (circuit_of u.net) (u.done ++ map (λ (s : Signal). s.0) signals) 2000000
  over_some u v net done over =
      let all : map (λ (s : Signal). s.0) signals ≡ map (λ (s : Signal). s.0) (take (i + 1) signals) ++ map (λ (s : Signal). s.0) (drop (i + 1) signals) =
      ap (map (λ (s : Signal). s.0)) (sym (take-append-drop (i + 1) signals)) ∙ map-append (λ (s : Signal). s.0) (take (i + 1) signals) (drop (i + 1) signals) in
      let some : v.done ++ (get_or signals i d).0 ∷ [] ≡ u.done ++ map (λ (s : Signal). s.0) (take (i + 1) signals) = done_more u.done v.done (v.done ++ (get_or signals i d).0 ∷ []) done refl in
      let whole : u.done ++ map (λ (s : Signal). s.0) signals ≡ (u.done ++ map (λ (s : Signal). s.0) (take (i + 1) signals)) ++ map (λ (s : Signal). s.0) (drop (i + 1) signals) =
      ap (λ (l : List ℕ). u.done ++ l) all ∙ sym (append_assoc u.done (map (λ (s : Signal). s.0) (take (i + 1) signals)) (map (λ (s : Signal). s.0) (drop (i + 1) signals))) in
      subst (λ (n : NetView). IsOver (circuit_of n) (u.done ++ map (λ (s : Signal). s.0) signals) 2000000) net (record {
        places = over.places;
        distinct = over.distinct;
        weighed = over.weighed;
        met = λ x h.
            let m = over.met x h in
            let among = subst (λ (l : List ℕ). Contains l m.0) some m.1 in (
              m.0,
              subst (λ (l : List ℕ). Contains l m.0) (sym whole) (Contains-append_left (u.done ++ map (λ (s : Signal). s.0) (take (i + 1) signals)) (map (λ (s : Signal). s.0) (drop (i + 1) signals)) m.0 among),
              m.2,
            );
        total = over.total;
      })

  -- one literal more, and the others stay
  pub roots_more : (u v : UnfolderView) (g h : List Node) (places more : List (ℕ × ℕ)) (lits : List Lit) (x : Lit) → IsLater u v g h places more → AllZip (λ s y. Contains u.memo ((u.cap, s.0), y)) (take i signals) lits →
      Contains v.memo ((v.cap, (get_or signals i d).0), x) → AllZip (λ s y. Contains v.memo ((v.cap, s.0), y)) (take (i + 1) signals) (lits ++ x ∷ [])
  roots_more u v g h places more lits x later before here =
      zip_more_left (λ (s : Signal) (y : Lit). Contains v.memo ((v.cap, s.0), y)) signals lits i d x inside
      (zip_weaker (λ (s : Signal) (y : Lit). Contains u.memo ((u.cap, s.0), y)) (λ s y. Contains v.memo ((v.cap, s.0), y))
      (λ s y m.
      adds_contains (λ (e : (ℕ × ℕ) × Lit). Unit {0}) u.memo v.memo ((v.cap, s.0), y) later.memo (subst (λ (k : ℕ). Contains u.memo ((k, s.0), y)) (sym later.cap) m))
      (take i signals) lits before) here
