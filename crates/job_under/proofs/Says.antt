-- What a search under an assumption that found something of two nets says of their circuits.
use Rattle.std.proofs.Common.{◌≡◌, ℕ, ◌<◌, ◌≤◌, Bool, List, [], ◌∷◌, map, length, sym, ◌∙◌, ap, subst, arith, inl, inr, ◌⊎◌, Option}
use Rattle.std.specs.List.{All, Contains}
use Rattle.std.proofs.lemmas.List.Elements.{All-contains}
use Rattle.circuit_theory.specs.Asked.{AreEqual}
use Rattle.circuit_theory.specs.declared.Side.{Side}
use Rattle.circuit_theory.specs.Agree.{IsPair}
use Rattle.circuit_theory.specs.Circuit.{Circuit, Named}
use Rattle.circuit_theory.specs.Fits.{IsPairDepth}
use Rattle.circuit_theory.specs.Interface.{shared_inputs, AreNumbersOf}
use Rattle.circuit_theory.specs.Query.{HasLeaf, assigned, same_shift}
use Rattle.circuit_theory.specs.Run.{IsRun}
use Rattle.circuit_theory.specs.Tree.{Tree, IsInputNumber, AreNumbered}
use Rattle.circuit_theory.proofs.Lists.{Contains-head, Contains-tail, of_at, map-map}
use Rattle.circuit_theory.proofs.Numbers.{beside_at}
use Rattle.circuit_laws.proofs.LawProofs.{numbers_are_shared}
use Rattle.circuit_laws.specs.reset_laws.Reset.{HasStarts, AreAlikeFromReset, TakesPower, MakesDifferFromReset}
use Rattle.circuit_laws.proofs.reset_laws.ResetAgreement.{reset_same_at}
use Rattle.circuit_laws.proofs.reset_laws.reset_nets.Starts.{nets_have_starts}
use Rattle.flat_net.specs.declared.parts.Port.{Port}
use Rattle.flat_net.specs.View.{NetView, named, circuit_of, ports_of}
use Rattle.flat_net.proofs.Nets.{sound_is_net, sound_names}
use Rattle.base_tables.specs.Table.{AreDistinct}
use Rattle.sec_base.specs.declared.basics.PairAnswer.TheVariants as answer
use Rattle.witness_report.specs.Shown.{Obeys}
use Rattle.obligations.specs.declared.outcome.verdict.PairResult.{PairResult}
use Rattle.obligations.specs.declared.outcome.verdict.ResetWitness.{ResetWitness}
use Rattle.sec_setup.specs.ports.Pairs.{NamedPair, named_pairs}
use Rattle.assume_laws.specs.Assume.{Assumption, RowMeets, RunMeets, ReadsInputs, AgreeFromResetUnder}
use Rattle.assume_laws.specs.Sequences.{RowsMeet}
use Rattle.assume_laws.proofs.Care.{run_holds}
use Rattle.assume_queries.specs.assume_sequences.assume_taken.Taken.{assumed_by}
use Rattle.assume_queries.proofs.assume_sequences.assume_taken.Shapes.{below}
use Rattle.plain_check.specs.under_base.under_fits.ResetOutcome.{MakesResetsDifferUnder}
use Rattle.plain_check.proofs.under_base.compare_base.CutPairs.{IsOutputPair, IsNextPair, one_output, pair_listed, listed_is}
use Rattle.plain_check.proofs.ResetLeaves.{powered_value}
use Rattle.plain_check.proofs.under_base.Reading.{reads_inputs}
use Rattle.cycle_search.specs.declared.found.Searched.{Searched}
use Rattle.cycle_search.specs.declared.found.SearchVerdict.{SearchVerdict}
use Rattle.cycle_search.specs.declared.found.SearchVerdict.TheVariants as verdict
use Rattle.cycle_under.specs.Cycles.{pair_under, IsDifferenceUnder}
use Rattle.cycle_under.specs.First.{AgreeUpToUnder, IsWitnessFirst, reset_pair_under}
use Rattle.cycle_under.specs.Searches.{VerdictFitsUnder, AreSearchedUnder}
use Rattle.cycle_under.proofs.Runs.{equal_up_to_agree_under, equal_to_depths_agree_under, witness_differs_under}
use Rattle.cycle_under.proofs.Searching.{all_agree}

-- a sequence that is found is one of the inputs that both circuits have
pub names_are : (a b c : NetView) (cycles conflicts : ℕ) (s : Searched) → AreSearchedUnder a b c cycles conflicts s → (w : ResetWitness) → s.verdict ≡ verdict.Different w → w.witness.stimulus.names ≡ shared_inputs (ports_of a) (ports_of b)
names_are a b c cycles conflicts s is w e =
    let listed = named_pairs [] (circuit_of a) (circuit_of b) in
    let under = assumed_by is.assumed in
    let f : IsDifferenceUnder under is.numbers s.last listed s.pairs w = subst (VerdictFitsUnder under is.assumed.weight is.numbers a b cycles s.last listed s.pairs) e is.found.verdict_is in
    f.shown.names_are ∙ is.are_numbers.columns_are

-- nothing is in the list of none
nothing : {X : Type 0} (x : X) → Contains [] x → ⊥
nothing x h = omega (arith, h.1)

module _ (a b c : NetView) (cycles conflicts : ℕ) (s : Searched) (is : AreSearchedUnder a b c cycles conflicts s) (right_distinct : AreDistinct (map (λ (p : Port). p.name) b.outputs)) where
  abbrev under : Assumption
  under = assumed_by is.assumed

  abbrev listed : List (NamedPair ℕ ℕ)
  listed = named_pairs [] (circuit_of a) (circuit_of b)

  abbrev columns : List (List ℕ)
  columns = is.numbers.columns

  left_starts : HasStarts (circuit_of a)
  left_starts = (nets_have_starts a is.left_sound).0

  right_starts : HasStarts (circuit_of b)
  right_starts = (nets_have_starts b is.right_sound).0

  left_numbers : AreNumbersOf (map (λ (i : Named ℕ). i.name) (circuit_of a).inputs) columns is.numbers.left is.numbers.right
  left_numbers = subst (λ (words : List (List ℕ)). AreNumbersOf words columns is.numbers.left is.numbers.right) (sym (map-map (λ (i : Named ℕ). i.name) named a.inputs)) is.are_numbers.left_numbers

  right_numbers : AreNumbersOf (map (λ (i : Named ℕ). i.name) (circuit_of b).inputs) columns is.numbers.right is.numbers.left
  right_numbers = subst (λ (words : List (List ℕ)). AreNumbersOf words columns is.numbers.right is.numbers.left) (sym (map-map (λ (i : Named ℕ). i.name) named b.inputs)) is.are_numbers.right_numbers

  numbered : AreNumbered (circuit_of a) (circuit_of b) is.numbers.left is.numbers.right
  numbered = numbers_are_shared (circuit_of a) (circuit_of b) columns is.numbers.left is.numbers.right left_numbers right_numbers

  reads : ReadsInputs under (circuit_of a) is.numbers.left
  reads =
      reads_inputs a b c is.assumed is.numbers.left is.numbers.right
      (subst (λ (words : List (List ℕ)). AreNumbersOf (ports_of a).inputs words is.numbers.left is.numbers.right) is.are_numbers.columns_are is.are_numbers.left_numbers)

  abbrev Pair : ℕ → ℕ → ℕ → Type 0
  Pair p q t = AreEqual (reset_pair_under under (circuit_of a) (circuit_of b) is.numbers.left is.numbers.right is.numbers.left_base is.numbers.right_base p q t)

  -- equal functions of the numbered circuits are those of the nets'
  equal_at : (p q t : ℕ) → AreEqual (pair_under under is.numbers p q t) → Pair p q t
  equal_at p q t h =
      subst (λ (d : Circuit ℕ). AreEqual (reset_pair_under under d (circuit_of b) is.numbers.left is.numbers.right is.numbers.left_base is.numbers.right_base p q t)) is.are_numbers.left_is
      (subst (λ (d : Circuit ℕ). AreEqual (reset_pair_under under is.numbers.a d is.numbers.left is.numbers.right is.numbers.left_base is.numbers.right_base p q t)) is.are_numbers.right_is h)

  -- a pair of outputs is one that is compared
  listed_pair : (p q : ℕ) → IsPair [] (circuit_of a) (circuit_of b) p q → (x : NamedPair ℕ ℕ) × Contains listed x × (x.left ≡ p) × (x.right ≡ q)
  listed_pair p q pair =
      pair_listed [] (circuit_of a) (circuit_of b) (sound_is_net a is.left_sound).single (sound_is_net b is.right_sound).single (sound_names a is.left_sound) (sound_names b is.right_sound) (one_output b right_distinct) p q pair

  -- what is known of each listed pair is known of each pair of outputs
  of_listed : (t : ℕ) → ((x : NamedPair ℕ ℕ) → Contains listed x → AreEqual (pair_under under is.numbers x.left x.right t)) → (p q : ℕ) → IsPair [] (circuit_of a) (circuit_of b) p q → Pair p q t
  of_listed t each p q pair =
      let x = listed_pair p q pair in
      equal_at p q t (subst (λ k. AreEqual (pair_under under is.numbers p k t)) x.3 (subst (λ k. AreEqual (pair_under under is.numbers k x.0.right t)) x.2 (each x.0 x.1)))

  module _ (all : All (λ (r : PairResult). r.answer ≡ answer.Equal) s.pairs) where
    each_equal : (p q t : ℕ) → IsPair [] (circuit_of a) (circuit_of b) p q → t ≤ s.last → Pair p q t
    each_equal p q t pair le = of_listed t (λ x h. go x h (order t s.last le)) p q pair
      where
        order : (i j : ℕ) → i ≤ j → (i < j) ⊎ (i ≡ j)
        order i j k = grind arith

        go : (x : NamedPair ℕ ℕ) → Contains listed x → (t < s.last) ⊎ (t ≡ s.last) → AreEqual (pair_under under is.numbers x.left x.right t)
        go x h (inl l) = is.found.before x h t l
        go x h (inr e) = subst (λ (k : ℕ). AreEqual (pair_under under is.numbers x.left x.right k)) (sym e) (all_agree under is.numbers conflicts s.last listed s.pairs is.found.pairs_fit all x h)

  verdict_as : (v : SearchVerdict) → s.verdict ≡ v → VerdictFitsUnder under is.assumed.weight is.numbers a b cycles s.last listed s.pairs v
  verdict_as v e = subst (VerdictFitsUnder under is.assumed.weight is.numbers a b cycles s.last listed s.pairs) e is.found.verdict_is

  -- no difference says that the circuits agree up to the last cycle
  pub agree_up_to : (stopped : Option Side) → s.verdict ≡ verdict.NoDifference stopped → AgreeUpToUnder under s.last (circuit_of a) (circuit_of b)
  agree_up_to stopped e =
      equal_up_to_agree_under under (circuit_of a) (circuit_of b) is.numbers.left is.numbers.right is.numbers.left_base is.numbers.right_base s.last numbered is.are_numbers.based reads
      (λ p q t pair le. each_equal (verdict_as (verdict.NoDifference stopped) e).0 p q t pair le)

  -- before the last cycle they agree, whatever the verdict is
  pub agree_before : (k : ℕ) → k < s.last → AgreeUpToUnder under k (circuit_of a) (circuit_of b)
  agree_before k low =
      equal_up_to_agree_under under (circuit_of a) (circuit_of b) is.numbers.left is.numbers.right is.numbers.left_base is.numbers.right_base k numbered is.are_numbers.based reads
      (λ p q t pair le. of_listed t (λ x h. is.found.before x h t (omega (arith, low, le))) p q pair)

  -- equal says that they agree in every cycle
  pub agree : s.verdict ≡ verdict.Equal → AgreeFromResetUnder under (circuit_of a) (circuit_of b)
  agree e =
      equal_to_depths_agree_under under (circuit_of a) (circuit_of b) (length a.drivers) (length b.drivers) is.numbers.left is.numbers.right is.numbers.left_base is.numbers.right_base s.last
      (sound_is_net a is.left_sound) (sound_is_net b is.right_sound) left_starts right_starts numbered is.are_numbers.based reads deep (λ p q t pair le. each_equal (verdict_as verdict.Equal e).0 p q t pair le)
    where
      depth_at : (p q d : ℕ) → IsPairDepth is.numbers.a is.numbers.b p q d → IsPairDepth (circuit_of a) (circuit_of b) p q d
      depth_at p q d h = subst (λ (k : Circuit ℕ). IsPairDepth k (circuit_of b) p q d) is.are_numbers.left_is (subst (λ (k : Circuit ℕ). IsPairDepth is.numbers.a k p q d) is.are_numbers.right_is h)

      deep : (p q : ℕ) → IsPair [] (circuit_of a) (circuit_of b) p q → (d : ℕ) × IsPairDepth (circuit_of a) (circuit_of b) p q d × (d ≤ s.last)
      deep p q pair =
          let x = listed_pair p q pair in
          let d = (verdict_as verdict.Equal e).1 x.0 x.1 in
          (d.0, depth_at p q d.0 (subst (λ k. IsPairDepth is.numbers.a is.numbers.b p k d.0) x.3 (subst (λ k. IsPairDepth is.numbers.a is.numbers.b k x.0.right d.0) x.2 d.1)), d.2)

  -- the difference, with its sequence and both power-ups
  module _ (w : ResetWitness) (f : IsDifferenceUnder under is.numbers s.last listed s.pairs w) where
    witness : IsWitnessFirst under (circuit_of a) (circuit_of b) is.numbers.left is.numbers.right is.numbers.left_base is.numbers.right_base f.place.left f.place.right (length columns) w.witness.stimulus.rows w.left_power w.right_power w.witness.cycle w.witness.left w.witness.right
    witness =
        subst (λ (t : ℕ). IsWitnessFirst under (circuit_of a) (circuit_of b) is.numbers.left is.numbers.right is.numbers.left_base is.numbers.right_base f.place.left f.place.right (length columns) w.witness.stimulus.rows w.left_power w.right_power t w.witness.left w.witness.right) (sym f.shown.cycle_is)
        (subst (λ (d : Circuit ℕ). IsWitnessFirst under d (circuit_of b) is.numbers.left is.numbers.right is.numbers.left_base is.numbers.right_base f.place.left f.place.right (length columns) w.witness.stimulus.rows w.left_power w.right_power s.last w.witness.left w.witness.right) is.are_numbers.left_is
        (subst (λ (d : Circuit ℕ). IsWitnessFirst under is.numbers.a d is.numbers.left is.numbers.right is.numbers.left_base is.numbers.right_base f.place.left f.place.right (length columns) w.witness.stimulus.rows w.left_power w.right_power s.last w.witness.left w.witness.right) is.are_numbers.right_is f.shown.witness))

    -- it is a pair of outputs
    outputs : IsOutputPair (circuit_of a) (circuit_of b) f.place
    outputs = go (listed_is [] (circuit_of a) (circuit_of b) f.place (of_at listed f.index f.place f.place_is))
      where
        go : IsOutputPair (circuit_of a) (circuit_of b) f.place ⊎ IsNextPair [] (circuit_of a) (circuit_of b) f.place → IsOutputPair (circuit_of a) (circuit_of b) f.place
        go (inl x) = x
        go (inr x) = absurd (nothing x.name x.exposed)

    own_low : (p i : ℕ) → IsInputNumber (circuit_of c) is.assumed.order p i → i < length columns
    own_low p i number =
        let at = beside_at (circuit_of c).inputs is.assumed.order p i number in
        let low = All-contains (λ k. k < length (shared_inputs (ports_of a) (ports_of b))) is.assumed.order i (below c (shared_inputs (ports_of a) (ports_of b)) is.assumed.shape is.assumed.order is.assumed.others is.assumed.numbers) (of_at is.assumed.order at.0 i at.4) in
        subst (λ (names : List (List ℕ)). i < length names) (sym is.are_numbers.columns_are) low

    by_numbers : MakesDifferFromReset (circuit_of a) (circuit_of b) is.numbers.left is.numbers.right f.place.left f.place.right w.witness.stimulus.rows w.left_power w.right_power w.witness.cycle w.witness.left w.witness.right
        × RowsMeet under w.witness.stimulus.rows w.witness.cycle
    by_numbers =
        witness_differs_under under (circuit_of a) (circuit_of b) is.numbers.left is.numbers.right is.numbers.left_base is.numbers.right_base f.place.left f.place.right (length columns) w.witness.stimulus.rows w.left_power w.right_power
        w.witness.cycle w.witness.left w.witness.right left_starts right_starts is.are_numbers.based own_low witness

    -- a leaf that is an input is one that the sequence names
    leaf_below : (tree : Tree ℕ) → Contains (witness.left_tree ∷ witness.right_tree ∷ []) tree → (i k : ℕ) → i < is.numbers.left_base → HasLeaf (record { input = i; at = k }) tree → i < length columns
    leaf_below tree there i k below has = go (witness.inputs tree (record { input = i; at = k }) there has)
      where
        go : (i < length columns) ⊎ (is.numbers.left_base ≤ i) → i < length columns
        go (inl h) = h
        go (inr h) = absurd (omega (arith, h, below))

    left_shows : (n : ℕ) (run : ℕ → ℕ → Bool) → w.witness.cycle < n → IsRun (circuit_of a) n run → TakesPower (circuit_of a) w.left_power run → Obeys (circuit_of a) w.witness.stimulus n run →
        run w.witness.cycle f.place.left ≡ w.witness.left
    left_shows n run below is_run takes obeys =
        powered_value (circuit_of a) is.numbers.left is.numbers.right is.numbers.left_base columns left_numbers left_starts w.witness f.shown.names_are (assigned same_shift witness.variables witness.bits) witness.rows_are w.left_power witness.left_power_is n run below is_run takes obeys
        f.place.left witness.left_tree witness.left_unfolds
        (λ q i k number here. leaf_below witness.left_tree (Contains-head witness.left_tree (witness.right_tree ∷ [])) i k (is.are_numbers.based.left_inputs q i number) here) ∙ sym witness.left_value

    right_shows : (n : ℕ) (run : ℕ → ℕ → Bool) → w.witness.cycle < n → IsRun (circuit_of b) n run → TakesPower (circuit_of b) w.right_power run → Obeys (circuit_of b) w.witness.stimulus n run →
        run w.witness.cycle f.place.right ≡ w.witness.right
    right_shows n run below is_run takes obeys =
        powered_value (circuit_of b) is.numbers.right is.numbers.left is.numbers.right_base columns right_numbers right_starts w.witness f.shown.names_are (assigned same_shift witness.variables witness.bits) witness.rows_are w.right_power witness.right_power_is n run below is_run takes obeys
        f.place.right witness.right_tree witness.right_unfolds
        (λ q i k number here.
        leaf_below witness.right_tree (Contains-tail witness.left_tree witness.right_tree (witness.right_tree ∷ []) (Contains-head witness.right_tree [])) i k (is.are_numbers.based.right_inputs q i number) here)
        ∙ sym witness.right_value

    -- in an earlier cycle the functions agree
    earlier : (n : ℕ) (left right : ℕ → ℕ → Bool) → AreAlikeFromReset (circuit_of a) (circuit_of b) n left right → RunMeets under (circuit_of a) n left → (t : ℕ) → t < n → t < w.witness.cycle → left t f.place.left ≡ right t f.place.right
    earlier n left right alike meets t low before =
        let e = equal_at f.place.left f.place.right t (is.found.before f.place (of_at listed f.index f.place f.place_is) t (let k = f.shown.cycle_is in omega (arith, before, k))) in
        reset_same_at (circuit_of a) (circuit_of b) is.numbers.left is.numbers.right is.numbers.left_base is.numbers.right_base numbered is.are_numbers.based left right n alike (RowMeets under) (run_holds under (circuit_of a) is.numbers.left reads n left meets)
        f.place.left f.place.right t e.left_tree e.right_tree low e.left_unfolds e.right_unfolds (λ x all. e.same x (tt, λ k small. all k))

    first_differs : MakesResetsDifferUnder under (circuit_of a) (circuit_of b) w
    first_differs = record {
      name = outputs.name;
      left_place = f.place.left;
      right_place = f.place.right;
      named = f.shown.named ∙ outputs.called;
      left_output = outputs.left_output;
      right_output = outputs.right_output;
      differ = by_numbers.0.differ;
      left_each = by_numbers.0.left_each;
      right_each = by_numbers.0.right_each;
      left_begins = by_numbers.0.left_reset;
      right_begins = by_numbers.0.right_reset;
      left_shows = left_shows;
      right_shows = right_shows;
      earlier = earlier;
    }

  -- the sequence and the power-ups of a difference make the circuits differ, and meet the assumption
  pub differ : (w : ResetWitness) → s.verdict ≡ verdict.Different w → MakesResetsDifferUnder under (circuit_of a) (circuit_of b) w × RowsMeet under w.witness.stimulus.rows w.witness.cycle
  differ w e = let f = verdict_as (verdict.Different w) e in (first_differs w f, (by_numbers w f).1)
