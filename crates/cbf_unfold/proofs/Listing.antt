-- The variables of signals that were unfolded, by the words of the places.
use Rattle.std.proofs.Common.{◌≡◌, ◌≢◌, ◌∙◌, ◌+◌, ◌-◌, ◌^◌, ◌<◌, ◌≤◌, ℕ, zero, suc, List, [], ◌∷◌, ◌++◌, length, map, take, drop, slice_get, Some, sym, subst, arith}
use Rattle.std.specs.List.{All, AllPairs, AllZip, Contains, sum_by}
use Rattle.std.proofs.lemmas.List.Sums.{sum_by-cons}
use Rattle.std.proofs.lemmas.List.{length-take-le, length-drop}
use Rattle.std.proofs.lemmas.List.Kept.{AllPairs-filter}
use Rattle.circuit_theory.proofs.Lists.{All-from_each, of_at, zip_right}
use Rattle.flat_net.specs.declared.signals.Signal.{Signal}
use Rattle.flat_net.specs.View.{circuit_of}
use Rattle.flat_net.specs.Sound.{IsSound}
use Rattle.flat_net.proofs.Places.{All-at}
use Rattle.flat_net.proofs.Nets.{some_at}
use Rattle.flat_net.proofs.Growth.{length-push}
use Rattle.std.proofs.lemmas.Option.{none-some, slice_get_within, same_Some, get_or_from_slice_get}
use Rattle.base_tables.proofs.TableLemmas.{slice_get-take}
use Rattle.latch_graph.proofs.Trails.{slice_get-drop}
use Rattle.aig.specs.declared.node.Lit.{Lit}
use Rattle.aig.specs.declared.node.Node.{Node}
use Rattle.cbf_unfold.specs.unfold_places.Places.{PlaceBefore}
use Rattle.flat_net.specs.Weights.{weight_at}
use Rattle.cbf_unfold.specs.unfold_places.Reach.{AreInputsOf}
use Rattle.cbf_unfold.specs.View.{UnfolderView}
use Rattle.cbf_unfold.specs.Unfolded.{Holds, Fits}
use Rattle.cbf_unfold.specs.Building.{AreNumbered}
use Rattle.cbf_unfold.specs.unfold_places.Visitors.{AreMet, AreVisitors, AreCandidates, ArePlacesAt, has_bit, with_bits}
use Rattle.cbf_unfold.specs.Found.{IsFound}
use Rattle.cbf_unfold.specs.declared.unfold_places.signal_function.Unfolded.{Unfolded}
use Rattle.cbf_unfold.proofs.PlaceLits.{zip_more_left}
use Rattle.cbf_unfold.proofs.unfold_places.Zips.{zip_back}
use Rattle.cbf_unfold.proofs.unfold_places.Candidates.{IsAt, places_differ, inputs_at}
use Rattle.flat_net.proofs.Drivers.{weight_positive}
use Rattle.cbf_unfold.proofs.Going.{entries_within}
use Rattle.cbf_unfold.proofs.Finish.{input_known}

-- all that these signals visit has been met
pub are_met : (u : UnfolderView) (g : List Node) (places : List (ℕ × ℕ)) → Fits u g places → (signals : List Signal) → ((k : ℕ) (s : Signal) → slice_get signals k ≡ Some s → Contains u.done s.0) → AreMet (circuit_of u.net) u.cap signals u.memo
are_met u g places fits signals done k s q j at visits = fits.met s.0 q j (done k s at) visits

-- each entry weighs something
sum_long : {X : Type 0} (w : X → ℕ) → ((x : X) → 1 ≤ w x) → (xs : List X) → length xs ≤ sum_by w xs
sum_long w some [] = omega arith
sum_long w some (x ∷ xs) = let e = sum_by-cons w x xs in omega (arith, e, some x, sum_long w some xs)

-- so that there are no more entries than they weigh together
pub few_entries : (u : UnfolderView) → IsSound u.net → (g : List Node) (places : List (ℕ × ℕ)) → Holds u g places → length u.memo ≤ u.weight
few_entries u sound g places holds = omega (arith, sum_long (λ (e : (ℕ × ℕ) × Lit). weight_at u.net e.0.1) (λ e. weight_positive u.net sound e.0.1) u.memo, holds.counted)

-- what holds of the only signal
pub single : (P : ℕ → Type 0) (s : Signal) → P s.0 → (k : ℕ) (t : Signal) → slice_get (s ∷ []) k ≡ Some t → P t.0
single P s h zero t at = subst (λ (z : Signal). P z.0) (same_Some s t at) h
single P s h (suc k) t at = absurd (none-some t at)

-- an element of a part of a list
pub part_at : {X : Type 0} (xs : List X) (from to k : ℕ) (x : X) → slice_get (take (to - from) (drop from xs)) k ≡ Some x → slice_get xs (from + k) ≡ Some x
part_at xs from to k x at = slice_get-drop xs from k x (slice_get-take (to - from) (drop from xs) k x at).1

pub drop_at : {X : Type 0} (xs : List X) (f i : ℕ) (x : X) → slice_get xs (f + i) ≡ Some x → slice_get (drop f xs) i ≡ Some x
drop_at xs zero i x h = subst (λ z. slice_get xs z ≡ Some x) (let z : 0 + i ≡ i = omega arith in z) h
drop_at [] (suc f) i x h = absurd (let l = slice_get_within [] (suc f + i) x h in omega (arith, l))
drop_at (y ∷ xs) (suc f) i x h = drop_at xs f i x (subst (λ z. slice_get (y ∷ xs) z ≡ Some x) (let z : suc f + i ≡ suc (f + i) = omega arith in z) h)

pub take_at : {X : Type 0} (xs : List X) (n i : ℕ) (x : X) → i < n → slice_get xs i ≡ Some x → slice_get (take n xs) i ≡ Some x
take_at xs zero i x l h = absurd (omega (arith, l))
take_at [] (suc n) i x l h = absurd (let k = slice_get_within [] i x h in omega (arith, k))
take_at (y ∷ xs) (suc n) zero x l h = h
take_at (y ∷ xs) (suc n) (suc i) x l h = take_at xs n i x (omega (arith, l)) h

-- how many elements a part has
pub part_length : {X : Type 0} (xs : List X) (from to : ℕ) → to ≤ length xs → length (take (to - from) (drop from xs)) ≡ to - from
part_length xs from to h = length-take-le (to - from) (drop from xs) (let k = length-drop from xs in omega (arith, k, h))

module _ (u : UnfolderView) (sound : IsSound u.net) (g : List Node) (places : List (ℕ × ℕ)) (fits : Fits u g places) (words numbers : List ℕ) (k : ℕ) (candidates : AreCandidates (circuit_of u.net) u.order u.memo words k numbers)
    (visited : List (ℕ × ℕ)) (at : ArePlacesAt u.memo (with_bits words (2 ^ k) numbers) visited) where
  -- the entry of a place
  entry : (p : ℕ × ℕ) → Contains visited p → (i : ℕ) × (x : Lit) × (slice_get u.memo i ≡ Some (p, x))
  entry p h = let b = zip_back (IsAt u.memo) (with_bits words (2 ^ k) numbers) visited p at h in (b.0, b.2.0, b.2.1)

  pub visited_within : All (λ p. p.1 < length u.net.drivers) visited
  visited_within =
      All-from_each (λ p. p.1 < length u.net.drivers) visited
      (λ p h. let e = entry p h in All-at (λ (f : (ℕ × ℕ) × Lit). f.0.1 < length u.net.drivers) u.memo e.0 (p, e.1) e.2 (entries_within u sound g places fits.holds))

  pub visited_differ : AllPairs (λ p q. p ≢ q) (map (λ e. e.0) u.memo) → AllPairs (λ p q. p ≢ q) visited
  visited_differ differ = places_differ u.memo differ (with_bits words (2 ^ k) numbers) visited (AllPairs-filter (λ m n. m < n) (has_bit words (2 ^ k)) numbers candidates.increasing) at

  module _ (found : List (ℕ × ℕ)) (inputs : AreInputsOf (circuit_of u.net) u.order visited found) where
    pub found_early : All (λ x. x.0 ≤ u.cap) found
    found_early =
        All-from_each (λ x. x.0 ≤ u.cap) found
        (λ x h. let f = inputs.from x h in let e = entry (x.0, f.0) f.1 in (fits.holds.visited (x.0, f.0) e.1 (of_at u.memo e.0 ((x.0, f.0), e.1) e.2)).cycle)

    pub found_known : All (λ x. Contains places (x.1, u.cap - x.0)) found
    found_known =
        All-from_each (λ x. Contains places (x.1, u.cap - x.0)) found
        (λ x h. let f = inputs.from x h in let e = entry (x.0, f.0) f.1 in input_known u sound g places fits.holds (x.0, f.0) e.1 x.1 (of_at u.memo e.0 ((x.0, f.0), e.1) e.2) f.2)

    pub are_numbered : (vars : List ℕ) → AllPairs PlaceBefore found → AllZip (λ v x. slice_get places v ≡ Some (x.1, u.cap - x.0)) vars found → (signals : List Signal) (s : Signal) → slice_get signals k ≡ Some s →
        AreVisitors (circuit_of u.net) u.cap signals u.memo words → AreNumbered u places s.0 vars
    are_numbered vars ordered zip signals s here visitors =
        record { found = found; inputs = inputs_at (circuit_of u.net) u.order u.memo u.cap k signals s words numbers visited found here visitors candidates at inputs; ordered = ordered; numbers = zip }

-- one signal more has its literal and its variables
pub found_more : (u : UnfolderView) (places : List (ℕ × ℕ)) (signals : List Signal) (lits : List Lit) (us : List Unfolded) (i : ℕ) (x : Lit) (vars : List ℕ) → AllZip (λ s y. Contains u.memo ((u.cap, s.0), y)) signals lits → i < length signals →
    slice_get lits i ≡ Some x → AllZip (IsFound u places) (take i signals) us → ((s : Signal) → slice_get signals i ≡ Some s → AreNumbered u places s.0 vars) → AllZip (IsFound u places) (take (i + 1) signals) (us ++ record { lit = x; vars = vars } ∷ [])
found_more u places signals lits us i x vars zip inside lit before numbered =
    let s = some_at signals i inside in
    let beside = zip_right (λ (s : Signal) (y : Lit). Contains u.memo ((u.cap, s.0), y)) signals lits zip i s.0 s.1 in
    let one : beside.0 ≡ x = same_Some beside.0 x (sym beside.1 ∙ lit) in
    zip_more_left (IsFound u places) signals us i s.0 (record { lit = x; vars = vars }) inside before
    (subst (λ (t : Signal). IsFound u places t (record { lit = x; vars = vars })) (sym (get_or_from_slice_get signals i s.0 s.0 s.1))
    (subst (λ (y : Lit). Contains u.memo ((u.cap, s.0.0), y)) one beside.2, numbered s.0 s.1))

-- the same with the list as it grows
pub found_push : (u : UnfolderView) (places : List (ℕ × ℕ)) (signals : List Signal) (us new : List Unfolded) (r : Unfolded) → new ≡ us ++ r ∷ [] → AllZip (IsFound u places) (take (length us + 1) signals) (us ++ r ∷ []) →
    AllZip (IsFound u places) (take (length new) signals) new
found_push u places signals us new r is zip =
    subst (λ (l : List Unfolded). AllZip (IsFound u places) (take (length l) signals) l) (sym is)
    (subst (λ (n : ℕ). AllZip (IsFound u places) (take n signals) (us ++ r ∷ [])) (sym (length-push us r)) zip)
