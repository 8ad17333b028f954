-- From the initial values an and with a latch behind it and the same retimed can be compared where both inputs are equal.
use Rattle.std.proofs.Common.{◌≡◌, ◌∙◌, ℕ, zero, suc, ◌+◌, ◌*◌, ◌<◌, ◌≤◌, Bool, false, true, List, [], ◌∷◌, length, refl, sym, ap, ap₂, subst, arith, inl, inr}
use Rattle.std.specs.Prelude.{◌⊎◌, codes}
use Rattle.std.specs.List.{AllZip, Contains, sum_by}
use Rattle.std.proofs.lemmas.List.Sums.{sum_by-cons}
use Rattle.std.proofs.lemmas.Nat.{mul-le}
use Rattle.std.proofs.lemmas.Option.{slice_get_within}
use Rattle.circuit_theory.specs.Interface.{Ports, shared_inputs}
use Rattle.circuit_theory.specs.Query.{HasLeaf}
use Rattle.circuit_theory.proofs.Lists.{Contains-head, Contains-tail, at_of, length-map}
use Rattle.circuit_laws.specs.reset_laws.Weight.{ResetVisits}
use Rattle.circuit_laws.proofs.Counting.{fewer}
use Rattle.flat_net.specs.declared.parts.Port.{Port}
use Rattle.flat_net.specs.View.{NetView, named, circuit_of}
use Rattle.sec_base.specs.declared.settings.Settings.{Settings}
use Rattle.sec_setup.specs.ports.Pairs.{NamedPair, named_pairs}
use Rattle.outcome_fits.specs.ResetOutcome.{Numbered}
use Rattle.reset_form.proofs.reset_unfold.TreeLeaves.{leaf_visits}
use Rattle.plain_check.specs.under_base.compare_base.Compared.{ByReset}
use Rattle.plain_check.specs.under_base.Met.{shared_by}
use Rattle.plain_check.specs.under_base.Sizes.{IsOverCut, IsOverFromReset, IsTooLargeUnder}
use Rattle.plain_check.specs.under_base.under_fits.ResetOutcome.{numbers_of}
use Rattle.plain_check.specs.under_base.under_fits.ResetPlaces.{IsReadIn, AreCyclePlaces, ArePairPlaces, IsOverInCycles}
use Rattle.assume_laws.specs.declared.assume_shape.shape.ShapeFault.{ShapeFault}
use Rattle.assume_laws.specs.declared.assume_shape.shape.ShapeFault.TheVariants as fault
use Rattle.assume_queries.specs.assume_sequences.assume_taken.Taken.{IsFirstFault}
use Rattle.job_base.specs.sec_files.Loading.{Loads}
use Rattle.pair_texts.specs.check_texts.Texts.{AreComparable}
use Rattle.pair_texts.specs.design_rows.Small.{IsSmall, small_late, small_early}
use Rattle.pair_texts.proofs.design_rows.Spelling.{accepted, net_is_small, ports_are}
use Rattle.premise_rows.specs.block_premises.ResetPremises.{late_from_zero, early_from_zero}
use Rattle.premise_rows.specs.event_assume_rows.assume_rows.SameInputs.{same, same_design, small_same, RetimedMeetFromReset}
use Rattle.premise_rows.proofs.block_premises.ResetBounds.{times, shifted}
use Rattle.premise_rows.proofs.block_premises.ResetPremises.{depth_below, late_design, early_design, late_from_spells, early_from_spells, resets_are_comparable}
use Rattle.premise_rows.proofs.event_assume_rows.assume_rows.Meeting.{ones_meet}
use Rattle.premise_rows.proofs.event_assume_rows.assume_rows.Shape.{no_fault, weighs_few}
use Rattle.premise_rows.proofs.event_assume_rows.assume_rows.Spelled.{same_spells}
use Rattle.premise_rows.proofs.event_assume_rows.assume_rows.Weights.{few_pairs, leaf_of_either}

-- the numbers up to one
abbrev up_to : ℕ → List ℕ
up_to zero = 0 ∷ []
up_to (suc n) = suc n ∷ up_to n

last_or : (k n : ℕ) → k ≤ suc n → (suc n ≡ k) ⊎ (k ≤ n)
last_or k n h = grind arith

among_by : (n k : ℕ) → (k ≤ n → Contains (up_to n) k) → (suc n ≡ k) ⊎ (k ≤ n) → Contains (suc n ∷ up_to n) k
among_by n k rest (inl e) = subst (Contains (suc n ∷ up_to n)) e (Contains-head (suc n) (up_to n))
among_by n k rest (inr l) = Contains-tail (suc n) k (up_to n) (rest l)

among_them : (n k : ℕ) → k ≤ n → Contains (up_to n) k
among_them zero k h = subst (Contains (0 ∷ [])) (let e : 0 ≡ k = omega (arith, h) in e) (Contains-head 0 [])
among_them (suc n) k h = among_by n k (λ l. among_them n k l) (last_or k n h)

-- lists of no more than m elements each
few_sum : (n m : ℕ) (each : List (List ℕ)) → length each ≤ n → ((ks : List ℕ) → Contains each ks → length ks ≤ m) → sum_by length each ≤ times n m
few_sum n m [] few h = omega arith
few_sum zero m (ks ∷ each) few h = absurd (omega (arith, few))
few_sum (suc n) m (ks ∷ each) few h =
    let sum : sum_by length (ks ∷ each) ≡ length ks + sum_by length each = sum_by-cons length ks each in
    let one = h ks (Contains-head ks each) in
    let rest = few_sum n m each (omega (arith, few)) (λ js k. h js (Contains-tail ks js each k)) in
    omega (arith, sum, one, rest)

-- what is read in a cycle is of it or of an earlier one
read_before : (n : Numbered) (x : NamedPair ℕ ℕ) (t k : ℕ) → IsReadIn n x t k → k ≤ t
read_before n x t k r = by (leaf_of_either r.left_tree r.right_tree k r.read)
  where
    by : HasLeaf (record { input = r.read.1; at = k }) r.left_tree ⊎ HasLeaf (record { input = r.read.1; at = k }) r.right_tree → k ≤ t
    by (inl h) = let v = leaf_visits n.a n.left n.left_base x.left t (record { input = r.read.1; at = k }) r.left_unfolds ResetVisits.itself h in (shifted n.a x.left t v.2).0
    by (inr h) = let v = leaf_visits n.b n.right n.right_base x.right t (record { input = r.read.1; at = k }) r.right_unfolds ResetVisits.itself h in (shifted n.b x.right t v.2).0

module _ (a b : NetView) (left : IsSmall small_late a) (right : IsSmall small_early b) where
  shared_are : shared_by a b ≡ codes "a" ∷ codes "b" ∷ []
  shared_are = ap₂ (λ (p q : Ports). shared_inputs p q) (ports_are small_late a left) (ports_are small_early b right)

  one_output : length (circuit_of a).outputs ≤ 1
  one_output =
      let count : length (circuit_of a).outputs ≡ 1 = length-map named a.outputs ∙ sym (length-map (λ (p : Port). p.name) a.outputs) ∙ ap length left.outputs in
      omega (arith, count)

  abbrev pairs : List (NamedPair ℕ ℕ)
  pairs = named_pairs [] (circuit_of a) (circuit_of b)

  module _ (own others : List ℕ) (left_base right_base : ℕ) where
    abbrev numbers : Numbered
    numbers = numbers_of a b own others left_base right_base

    -- a pair is read in the cycles up to its depth, which is at most 15
    few_places : (x : NamedPair ℕ ℕ) → Contains pairs x → (each : List (List ℕ)) → ArePairPlaces numbers x each → sum_by length each ≤ times 16 16
    few_places x among each are =
        let depth = depth_below small_late small_early a b left right refl refl x among are.depth are.is_depth in
        few_sum 16 16 each (let count = are.cycles in omega (arith, depth, count)) (λ ks h. (let at = at_of each ks h in
        let place : AreCyclePlaces numbers x at.0 ks = are.are at.0 ks at.1 in
        let within = slice_get_within each at.0 ks at.1 in
        let few : length ks ≤ length (up_to 15) = fewer ks (up_to 15) place.distinct
        (λ k there. (let early = read_before numbers x at.0 k ((place.exactly k).0 there) in among_them 15 k (let count = are.cycles in omega (arith, depth, count, within, early)))) in
        few))

    own_few : (xs : List (NamedPair ℕ ℕ)) (each : List (List (List ℕ))) → ((x : NamedPair ℕ ℕ) → Contains xs x → Contains pairs x) → length xs ≤ 1 → AllZip (ArePairPlaces numbers) xs each → sum_by (λ ks. sum_by length ks) each ≤ times 16 16
    own_few [] [] there few zip = omega arith
    own_few [] (ks ∷ each) there few zip = absurd zip
    own_few (x ∷ xs) [] there few zip = absurd zip
    own_few (x ∷ []) (ks ∷ []) there few zip =
        let one = few_places x (there x (Contains-head x [])) ks zip.0 in
        let sum : sum_by (λ js. sum_by length js) (ks ∷ []) ≡ sum_by length ks + 0 = sum_by-cons (λ js. sum_by length js) ks [] in
        omega (arith, one, sum)
    own_few (x ∷ []) (ks ∷ ms ∷ each) there few zip = absurd zip.1
    own_few (x ∷ y ∷ xs) (ks ∷ each) there few zip = absurd (omega (arith, few))

    not_over : (weight : ℕ) → weight < 10 → IsOverInCycles weight numbers pairs → ⊥
    not_over weight light o =
        let all : length o.all ≤ length (up_to 15) = fewer o.all (up_to 15) o.places.distinct
        (λ k h. (let x = (o.places.exactly k).0 h in
        let r = x.2 in
        let depth = depth_below small_late small_early a b left right refl refl x.0 x.1 r.0 r.2 in
        let early = read_before numbers x.0 r.1 k r.4 in
        among_them 15 k (let before = r.3 in omega (arith, depth, early, before)))) in
        let product : weight * length o.all ≤ 10 * 16 = mul-le weight (length o.all) 10 16 (omega (arith, light)) all in
        let each = own_few pairs o.own (λ x h. h) (few_pairs (circuit_of a) (circuit_of b) one_output) o.places.each in
        let over : 2000000 < weight * length o.all + sum_by (λ ks. sum_by length ks) o.own = o.over in
        omega (arith, product, each, over)

  module _ (c : NetView) (small : IsSmall small_same c) where
    not_too_large : (settings : Settings) (f : ShapeFault) → settings.reset ≡ true → IsTooLargeUnder a b c settings f → ⊥
    not_too_large settings fault.TooLarge resets (met, broken, over) =
        let o : IsOverFromReset a b met.assumed.weight =
        subst (λ (reset : Bool). ByReset reset (IsOverCut a b settings.expose met.assumed.weight) (IsOverFromReset a b met.assumed.weight)) resets over in
        not_over o.left o.right o.left_base o.right_base met.assumed.weight (weighs_few c small met.assumed.shape.output met.assumed.shape.outputs met.assumed.weight met.assumed.weighs) o.over
    not_too_large settings (fault.Latch name) resets h = h
    not_too_large settings (fault.Outputs count) resets h = h
    not_too_large settings (fault.Input name) resets h = h

left_small : (a : NetView) → Loads late_from_zero a → IsSmall small_late a
left_small = net_is_small late_from_zero late_design small_late late_from_spells

right_small : (b : NetView) → Loads early_from_zero b → IsSmall small_early b
right_small = net_is_small early_from_zero early_design small_early early_from_spells

small : (c : NetView) → Loads same c → IsSmall small_same c
small = net_is_small same same_design small_same same_spells

module _ (settings : Settings) (resets : settings.reset ≡ true) (a b c : NetView) (la : Loads late_from_zero a) (lb : Loads early_from_zero b) (lc : Loads same c) (f : ShapeFault) where
  none : IsFirstFault (shared_by a b) c f ⊎ IsTooLargeUnder a b c settings f → ⊥
  none (inl h) = no_fault (shared_by a b) (λ name has. subst (λ (ns : List (List ℕ)). Contains ns name) (sym (shared_are a b (left_small a la) (right_small b lb))) has) c (small c lc) f h
  none (inr h) = not_too_large a b (left_small a la) (right_small b lb) c (small c lc) settings f resets h

pub retimed_meet_from_reset : RetimedMeetFromReset
retimed_meet_from_reset settings resets uncut = record {
  comparable = subst (λ (expose : Bool). AreComparable late_from_zero early_from_zero expose settings.reset) (sym uncut)
      (subst (λ (reset : Bool). AreComparable late_from_zero early_from_zero false reset) (sym resets) resets_are_comparable.0);
  accepted = accepted same same_design small_same same_spells;
  fits = λ a b c la lb lc f refused. none settings resets a b c la lb lc f refused.1;
  met = λ a b c la lb lc by refused. refused.1.never (λ i. true) (ones_meet c lc (shared_by a b) refused.1.assumed);
}
