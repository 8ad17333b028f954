-- The inputs that one signal visits, by the words of the places.
use Rattle.std.proofs.Common.{◌≡◌, ◌≢◌, ◌∙◌, ◌+◌, ◌-◌, ◌^◌, ◌<◌, ◌≤◌, ℕ, Bool, true, false, cond, List, [], ◌∷◌, ◌++◌, length, map, filter, slice_get, Some, refl, sym, ap, subst, arith, inl, inr, true≢false}
use Rattle.std.specs.Prelude.{◌⊎◌}
use Rattle.std.specs.List.{All, AllPairs, Contains}
use Rattle.std.proofs.lemmas.List.Elements.{All-nil, All-filter, All-contains, All-push, Contains-push, Contains-append_left}
use Rattle.std.proofs.lemmas.List.Kept.{AllPairs-cons, AllPairs-filter}
use Rattle.std.proofs.lemmas.Bool.{cases_lt}
use Rattle.std.proofs.lemmas.Nat.Bits.{bit_at-pow_same, bit_at_ones}
use Rattle.std.proofs.lemmas.Option.{slice_get_within, same_Some}
use Rattle.circuit_theory.specs.Circuit.{Circuit}
use Rattle.circuit_theory.specs.Tree.{IsInputNumber}
use Rattle.circuit_theory.specs.Sizes.{Visits}
use Rattle.circuit_theory.proofs.Lists.{Contains-head, Contains-tail, Contains-cases, filter_test, All-from_each}
use Rattle.circuit_theory.proofs.Sums.{AllPairs-head, AllPairs-tail}
use Rattle.flat_net.specs.declared.signals.Signal.{Signal}
use Rattle.aig.specs.declared.node.Lit.{Lit}
use Rattle.cbf_unfold.specs.unfold_places.Reach.{AreInputsOf, AreInputsAt}
use Rattle.cbf_unfold.specs.unfold_places.Visitors.{AreVisitors, AreInputNumbers, AreCandidates, ArePlacesAt, has_bit, with_bits}
use Rattle.cbf_unfold.proofs.unfold_places.InputLists.{pairs_push}
use Rattle.cbf_unfold.proofs.unfold_places.Zips.{zip_to, zip_back}
use Rattle.cbf_unfold.proofs.unfold_places.Words.{bit_has, has_bit_at, one_key}

pub filter_in : {X : Type 0} (test : X → Bool) (xs : List X) (x : X) → Contains xs x → test x ≡ true → Contains (filter test xs) x
filter_in test [] x h passes = h
filter_in {X} test (y ∷ xs) x h passes = by (test y) refl (λ k. filter_in test xs x k passes) (Contains-cases y x xs h)
  where
    by : (b : Bool) → test y ≡ b → (Contains xs x → Contains (filter test xs) x) → (y ≡ x) ⊎ Contains xs x → Contains (cond b (y ∷ filter test xs) (filter test xs)) x
    by true e later (inl same) = subst (Contains (y ∷ filter test xs)) same (Contains-head y (filter test xs))
    by true e later (inr k) = Contains-tail y x (filter test xs) (later k)
    by false e later (inl same) = absurd (true≢false (sym passes ∙ ap test (sym same) ∙ e))
    by false e later (inr k) = later k

less_or_same : (i n : ℕ) → i < n + 1 → (i < n) ⊎ (i ≡ n)
less_or_same i n l = elim (cases_lt i n) [ inl k ↦ inl k | inr k ↦ inr (omega (arith, l, k)) ]

-- the element stands beside a number
abbrev pub IsAt : List ((ℕ × ℕ) × Lit) → ℕ → ℕ × ℕ → Type 0
IsAt memo i p = (x : Lit) × (slice_get memo i ≡ Some (p, x))

-- places with increasing numbers differ
pub places_differ : (memo : List ((ℕ × ℕ) × Lit)) → AllPairs (λ p q. p ≢ q) (map (λ e. e.0) memo) → (numbers : List ℕ) (places : List (ℕ × ℕ)) → AllPairs (λ m n. m < n) numbers → ArePlacesAt memo numbers places → AllPairs (λ p q. p ≢ q) places
places_differ memo differ [] [] up are = λ i j d l m. absurd (omega arith)
places_differ memo differ [] (p ∷ places) up are = absurd are
places_differ memo differ (n ∷ numbers) [] up are = absurd are
places_differ memo differ (n ∷ numbers) (p ∷ places) up are =
    AllPairs-cons (λ q r. q ≢ r) p places (All-from_each (λ r. p ≢ r) places apart) (places_differ memo differ numbers places (AllPairs-tail (λ m o. m < o) n numbers up) are.1)
  where
    apart : (r : ℕ × ℕ) → Contains places r → p ≢ r
    apart r h e =
        let back = zip_back (IsAt memo) numbers places r are.1 h in
        let above : n < back.0 = AllPairs-head (λ m o. m < o) n numbers up back.0 back.1 in
        let same : n ≡ back.0 = one_key memo differ n back.0 (p, are.0.0) (r, back.2.0) are.0.1 back.2.1 e in
        omega (arith, above, same)

module _ (c : Circuit ℕ) (order : List ℕ) (memo : List ((ℕ × ℕ) × Lit)) where
  -- numbers of some of the first places, with those of all inputs among these
  abbrev pub AreFirst : ℕ → List ℕ → Type 0
  AreFirst count numbers =
      All (λ i. i < count) numbers × AllPairs (λ m n. m < n) numbers × ((i number : ℕ) (e : (ℕ × ℕ) × Lit) → i < count → slice_get memo i ≡ Some e → IsInputNumber c order e.0.1 number → Contains numbers i)

  pub first_none : AreFirst 0 []
  first_none = (All-nil (λ i. i < 0), λ i j d l m. absurd (omega arith), λ i number e l at is. absurd (omega arith))

  raised : (count : ℕ) (numbers : List ℕ) → All (λ i. i < count) numbers → All (λ i. i < count + 1) numbers
  raised count numbers h = All-from_each (λ i. i < count + 1) numbers (λ i k. let l = All-contains (λ j. j < count) numbers i h k in omega (arith, l))

  -- one place more that is no input
  pub first_skip : (count : ℕ) (p : ℕ × ℕ) (x : Lit) (numbers : List ℕ) → slice_get memo count ≡ Some (p, x) → ((number : ℕ) → IsInputNumber c order p.1 number → ⊥) → AreFirst count numbers → AreFirst (count + 1) numbers
  first_skip count p x numbers here none first = (raised count numbers first.0, first.1, λ i number e l at is. go i number e l at is (less_or_same i count l))
    where
      go : (i number : ℕ) (e : (ℕ × ℕ) × Lit) → i < count + 1 → slice_get memo i ≡ Some e → IsInputNumber c order e.0.1 number → (i < count) ⊎ (i ≡ count) → Contains numbers i
      go i number e l at is (inl k) = first.2 i number e k at is
      go i number e l at is (inr k) =
          let one : (p, x) ≡ e = same_Some (p, x) e (sym here ∙ ap (slice_get memo) (sym k) ∙ at) in
          absurd (none number (subst (λ (z : (ℕ × ℕ) × Lit). IsInputNumber c order z.0.1 number) (sym one) is))

  -- one place more with its number
  pub first_push : (count : ℕ) (numbers : List ℕ) → AreFirst count numbers → AreFirst (count + 1) (numbers ++ count ∷ [])
  first_push count numbers first = (
    All-push (λ i. i < count + 1) numbers count (raised count numbers first.0) (omega arith),
    pairs_push (λ m n. m < n) numbers count first.1 (λ m h. All-contains (λ i. i < count) numbers m first.0 h),
    λ i number e l at is. go i number e at is (less_or_same i count l),
  )
    where
      go : (i number : ℕ) (e : (ℕ × ℕ) × Lit) → slice_get memo i ≡ Some e → IsInputNumber c order e.0.1 number → (i < count) ⊎ (i ≡ count) → Contains (numbers ++ count ∷ []) i
      go i number e at is (inl k) = Contains-append_left numbers (count ∷ []) i (first.2 i number e k at is)
      go i number e at is (inr k) = subst (Contains (numbers ++ count ∷ [])) (sym k) (Contains-push numbers count)

  pub first_all : (count : ℕ) (numbers : List ℕ) → count ≡ length memo → AreFirst count numbers → AreInputNumbers c order memo numbers
  first_all count numbers whole first = record {
    within = subst (λ (n : ℕ). All (λ i. i < n) numbers) whole first.0;
    increasing = first.1;
    all = λ i number e at is. first.2 i number e (let l = slice_get_within memo i e at in omega (arith, l, whole)) at is;
  }

  -- all inputs are candidates
  pub candidates_all : (words numbers : List ℕ) (k : ℕ) → AreInputNumbers c order memo numbers → AreCandidates c order memo words k numbers
  candidates_all words numbers k are = record { within = are.within; increasing = are.increasing; all = λ i number e at is set. are.all i number e at is }

  -- and those that some signal visits
  pub candidates_near : (words numbers : List ℕ) (k : ℕ) → k < 64 → AreInputNumbers c order memo numbers → AreCandidates c order memo words k (with_bits words (2 ^ 64 - 1) numbers)
  candidates_near words numbers k small are = record {
    within = All-filter (has_bit words (2 ^ 64 - 1)) (λ i. i < length memo) numbers are.within;
    increasing = AllPairs-filter (λ m n. m < n) (has_bit words (2 ^ 64 - 1)) numbers are.increasing;
    all = λ i number e at is set. filter_in (has_bit words (2 ^ 64 - 1)) numbers i (are.all i number e at is) (bit_has words (2 ^ 64 - 1) i k set (bit_at_ones 64 k small));
  }

  -- what was found of those with the signal's bit are the inputs that it visits
  module _ (last k : ℕ) (signals : List Signal) (s : Signal) (words numbers : List ℕ) (visited found : List (ℕ × ℕ)) (here : slice_get signals k ≡ Some s) (visitors : AreVisitors c last signals memo words)
      (candidates : AreCandidates c order memo words k numbers) (places : ArePlacesAt memo (with_bits words (2 ^ k) numbers) visited) (inputs : AreInputsOf c order visited found) where
    pub inputs_at : AreInputsAt c order s.0 last found
    inputs_at = record { from = back; all = on }
      where
        back : (x : ℕ × ℕ) → Contains found x → (p : ℕ) × IsInputNumber c order p x.1 × (x.0 ≤ last) × Visits c s.0 0 p (last - x.0)
        back x h =
            let f = inputs.from x h in
            let b = zip_back (IsAt memo) (with_bits words (2 ^ k) numbers) visited (x.0, f.0) places f.1 in
            let set = has_bit_at words b.0 k (filter_test (has_bit words (2 ^ k)) numbers b.0 b.1) in
            let v = visitors.visits b.0 k ((x.0, f.0), b.2.0) b.2.1 set in
            let one : v.0 ≡ s = same_Some v.0 s (sym v.1 ∙ here) in
            (f.0, f.2, v.2, subst (λ (t : Signal). Visits c t.0 0 f.0 (last - x.0)) one v.3)

        on : (p number j : ℕ) → Visits c s.0 0 p j → IsInputNumber c order p number → (j ≤ last) × Contains found (last - j, number)
        on p number j visits is =
            let a = visitors.all k s p j here visits in
            let own = filter_in (has_bit words (2 ^ k)) numbers a.1 (candidates.all a.1 number ((last - j, p), a.2) a.3 is a.4) (bit_has words (2 ^ k) a.1 k a.4 (bit_at-pow_same k)) in
            let z = zip_to (IsAt memo) (with_bits words (2 ^ k) numbers) visited a.1 places own in
            let entry : (z.0, z.2.0) ≡ ((last - j, p), a.2) = same_Some (z.0, z.2.0) ((last - j, p), a.2) (sym z.2.1 ∙ a.3) in
            let place : z.0 ≡ (last - j, p) = ap (λ (e : (ℕ × ℕ) × Lit). e.0) entry in
            (a.0, inputs.all (last - j, p) number (subst (Contains visited) place z.1) is)
