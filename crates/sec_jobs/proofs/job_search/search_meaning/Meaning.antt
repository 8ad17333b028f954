-- What a search that found something of two nets says of their circuits.
use Rattle.std.proofs.Common.{◌≡◌, ℕ, ◌<◌, ◌≤◌, Bool, List, [], ◌∷◌, map, length, sym, ◌∙◌, ap, subst, arith, inl, inr, ◌⊎◌, Option}
use Rattle.std.specs.List.{All, Contains}
use Rattle.std.proofs.lemmas.List.Elements.{All-contains}
use Rattle.circuit_theory.specs.declared.Side.{Side}
use Rattle.circuit_theory.specs.Agree.{IsPair}
use Rattle.circuit_theory.specs.Circuit.{Circuit, Named}
use Rattle.circuit_theory.specs.Fits.{IsPairDepth}
use Rattle.circuit_theory.specs.Interface.{AreNumbersOf}
use Rattle.circuit_theory.specs.Query.{Variable, HasLeaf, assigned, same_shift}
use Rattle.circuit_theory.specs.Run.{IsRun}
use Rattle.circuit_theory.specs.Tree.{Tree, AreNumbered}
use Rattle.circuit_theory.proofs.Lists.{Contains-head, Contains-tail, of_at, map-map}
use Rattle.circuit_laws.proofs.LawProofs.{numbers_are_shared}
use Rattle.circuit_laws.specs.reset_laws.Reset.{HasStarts, HaveEqualResets, IsResetWitness, AgreeFromReset, AreAlikeFromReset, TakesPower, MakesDifferFromReset}
use Rattle.circuit_laws.proofs.reset_laws.ResetAgreement.{equal_resets_agree, reset_same_at}
use Rattle.circuit_laws.proofs.reset_laws.ResetWindows.{reset_witness_makes_differ}
use Rattle.circuit_laws.proofs.reset_laws.reset_nets.Starts.{nets_have_starts}
use Rattle.circuit_laws.specs.cycle_laws.Bounded.{AgreeUpTo}
use Rattle.circuit_laws.proofs.cycle_laws.Cycles.{equal_up_to_agree}
use Rattle.flat_net.specs.declared.parts.Port.{Port}
use Rattle.flat_net.specs.View.{NetView, named, circuit_of}
use Rattle.flat_net.proofs.Nets.{sound_is_net, sound_names}
use Rattle.base_tables.specs.Table.{AreDistinct}
use Rattle.sec_base.specs.declared.basics.PairAnswer.TheVariants as answer
use Rattle.witness_report.specs.Shown.{Obeys}
use Rattle.obligations.specs.declared.outcome.verdict.PairResult.{PairResult}
use Rattle.obligations.specs.declared.outcome.verdict.ResetWitness.{ResetWitness}
use Rattle.sec_setup.specs.ports.Pairs.{NamedPair, named_pairs}
use Rattle.outcome_fits.specs.ResetOutcome.{Numbered, AgreeAt}
use Rattle.plain_check.specs.under_base.compare_base.Says.{MakesResetsDiffer}
use Rattle.plain_check.proofs.under_base.compare_base.CutPairs.{IsOutputPair, IsNextPair, one_output, pair_listed, listed_is}
use Rattle.plain_check.proofs.ResetLeaves.{powered_value}
use Rattle.cycle_search.specs.declared.found.Searched.{Searched}
use Rattle.cycle_search.specs.declared.found.SearchVerdict.{SearchVerdict}
use Rattle.cycle_search.specs.declared.found.SearchVerdict.TheVariants as verdict
use Rattle.cycle_search.specs.Cycles.{IsDifferenceIn}
use Rattle.cycle_search.specs.Searches.{VerdictFits, AreSearched}
use Rattle.cycle_search.proofs.Searching.{all_agree}

-- nothing is in the list of none
nothing : {X : Type 0} (x : X) → Contains [] x → ⊥
nothing x h = omega (arith, h.1)

module _ (a b : NetView) (cycles conflicts : ℕ) (s : Searched) (is : AreSearched a b cycles conflicts s) (right_distinct : AreDistinct (map (λ (p : Port). p.name) b.outputs)) where
  abbrev listed : List (NamedPair ℕ ℕ)
  listed = named_pairs [] (circuit_of a) (circuit_of b)

  abbrev columns : List (List ℕ)
  columns = is.numbers.columns

  left_starts : HasStarts (circuit_of a)
  left_starts = (nets_have_starts a is.left_sound).0

  right_starts : HasStarts (circuit_of b)
  right_starts = (nets_have_starts b is.right_sound).0

  left_numbers : AreNumbersOf (map (λ (i : Named ℕ). i.name) (circuit_of a).inputs) columns is.numbers.left is.numbers.right
  left_numbers = subst (λ (words : List (List ℕ)). AreNumbersOf words columns is.numbers.left is.numbers.right) (sym (map-map (λ (i : Named ℕ). i.name) named a.inputs)) is.are_numbers.left_numbers

  right_numbers : AreNumbersOf (map (λ (i : Named ℕ). i.name) (circuit_of b).inputs) columns is.numbers.right is.numbers.left
  right_numbers = subst (λ (words : List (List ℕ)). AreNumbersOf words columns is.numbers.right is.numbers.left) (sym (map-map (λ (i : Named ℕ). i.name) named b.inputs)) is.are_numbers.right_numbers

  numbered : AreNumbered (circuit_of a) (circuit_of b) is.numbers.left is.numbers.right
  numbered = numbers_are_shared (circuit_of a) (circuit_of b) columns is.numbers.left is.numbers.right left_numbers right_numbers

  -- equal functions of the numbered circuits are those of the nets'
  equal_at : (p q t : ℕ) → AgreeAt is.numbers p q t → HaveEqualResets (circuit_of a) (circuit_of b) is.numbers.left is.numbers.right is.numbers.left_base is.numbers.right_base p q t
  equal_at p q t h =
      subst (λ (c : Circuit ℕ). HaveEqualResets c (circuit_of b) is.numbers.left is.numbers.right is.numbers.left_base is.numbers.right_base p q t) is.are_numbers.left_is
      (subst (λ (c : Circuit ℕ). HaveEqualResets is.numbers.a c is.numbers.left is.numbers.right is.numbers.left_base is.numbers.right_base p q t) is.are_numbers.right_is h)

  -- a pair of outputs is one that is compared
  listed_pair : (p q : ℕ) → IsPair [] (circuit_of a) (circuit_of b) p q → (x : NamedPair ℕ ℕ) × Contains listed x × (x.left ≡ p) × (x.right ≡ q)
  listed_pair p q pair =
      pair_listed [] (circuit_of a) (circuit_of b) (sound_is_net a is.left_sound).single (sound_is_net b is.right_sound).single (sound_names a is.left_sound) (sound_names b is.right_sound) (one_output b right_distinct) p q pair

  module _ (all : All (λ (r : PairResult). r.answer ≡ answer.Equal) s.pairs) where
    listed_agree : (x : NamedPair ℕ ℕ) → Contains listed x → (t : ℕ) → t ≤ s.last → AgreeAt is.numbers x.left x.right t
    listed_agree x h t le = go (order t s.last le)
      where
        order : (i j : ℕ) → i ≤ j → (i < j) ⊎ (i ≡ j)
        order i j k = grind arith

        go : (t < s.last) ⊎ (t ≡ s.last) → AgreeAt is.numbers x.left x.right t
        go (inl l) = is.found.before x h t l
        go (inr e) = subst (AgreeAt is.numbers x.left x.right) (sym e) (all_agree is.numbers conflicts s.last listed s.pairs is.found.pairs_fit all x h)

    each_equal : (p q t : ℕ) → IsPair [] (circuit_of a) (circuit_of b) p q → t ≤ s.last → HaveEqualResets (circuit_of a) (circuit_of b) is.numbers.left is.numbers.right is.numbers.left_base is.numbers.right_base p q t
    each_equal p q t pair le =
        let x = listed_pair p q pair in
        equal_at p q t (subst (λ k. AgreeAt is.numbers p k t) x.3 (subst (λ k. AgreeAt is.numbers k x.0.right t) x.2 (listed_agree x.0 x.1 t le)))

  verdict_as : (v : SearchVerdict) → s.verdict ≡ v → VerdictFits is.numbers a b cycles s.last listed s.pairs v
  verdict_as v e = subst (VerdictFits is.numbers a b cycles s.last listed s.pairs) e is.found.verdict_is

  -- no difference says that the circuits agree up to the last cycle
  pub agree_up_to : (stopped : Option Side) → s.verdict ≡ verdict.NoDifference stopped → AgreeUpTo s.last (circuit_of a) (circuit_of b)
  agree_up_to stopped e =
      equal_up_to_agree (circuit_of a) (circuit_of b) is.numbers.left is.numbers.right is.numbers.left_base is.numbers.right_base s.last numbered is.are_numbers.based
      (λ p q t pair le. each_equal (verdict_as (verdict.NoDifference stopped) e).0 p q t pair le)

  -- before the last cycle they agree, whatever the verdict is
  pub agree_before : (k : ℕ) → k < s.last → AgreeUpTo k (circuit_of a) (circuit_of b)
  agree_before k low =
      equal_up_to_agree (circuit_of a) (circuit_of b) is.numbers.left is.numbers.right is.numbers.left_base is.numbers.right_base k numbered is.are_numbers.based
      (λ p q t pair le.
      let x = listed_pair p q pair in
      equal_at p q t (subst (λ m. AgreeAt is.numbers p m t) x.3 (subst (λ m. AgreeAt is.numbers m x.0.right t) x.2 (is.found.before x.0 x.1 t (omega (arith, low, le))))))

  -- equal says that they agree in every cycle
  pub agree : s.verdict ≡ verdict.Equal → AgreeFromReset (circuit_of a) (circuit_of b)
  agree e =
      equal_resets_agree (circuit_of a) (circuit_of b) (length a.drivers) (length b.drivers) is.numbers.left is.numbers.right is.numbers.left_base is.numbers.right_base (sound_is_net a is.left_sound) (sound_is_net b is.right_sound)
      left_starts right_starts numbered is.are_numbers.based
      (λ p q pair.
      let v = verdict_as verdict.Equal e in
      let x = listed_pair p q pair in
      let d = v.1 x.0 x.1 in
      record {
        depth = d.0;
        is_depth = depth_at p q d.0 (subst (λ k. IsPairDepth is.numbers.a is.numbers.b p k d.0) x.3 (subst (λ k. IsPairDepth is.numbers.a is.numbers.b k x.0.right d.0) x.2 d.1));
        each = λ t le. each_equal v.0 p q t pair (let l = d.2 in omega (arith, le, l));
      })
    where
      depth_at : (p q d : ℕ) → IsPairDepth is.numbers.a is.numbers.b p q d → IsPairDepth (circuit_of a) (circuit_of b) p q d
      depth_at p q d h = subst (λ (c : Circuit ℕ). IsPairDepth c (circuit_of b) p q d) is.are_numbers.left_is (subst (λ (c : Circuit ℕ). IsPairDepth is.numbers.a c p q d) is.are_numbers.right_is h)

  -- the difference, with its sequence and both power-ups
  module _ (w : ResetWitness) (f : IsDifferenceIn is.numbers s.last listed s.pairs w) where
    witness : IsResetWitness (circuit_of a) (circuit_of b) is.numbers.left is.numbers.right is.numbers.left_base is.numbers.right_base f.place.left f.place.right (length columns) w.witness.stimulus.rows w.left_power w.right_power w.witness.cycle w.witness.left w.witness.right
    witness =
        subst (λ (t : ℕ). IsResetWitness (circuit_of a) (circuit_of b) is.numbers.left is.numbers.right is.numbers.left_base is.numbers.right_base f.place.left f.place.right (length columns) w.witness.stimulus.rows w.left_power w.right_power t w.witness.left w.witness.right) (sym f.shown.cycle_is)
        (subst (λ (c : Circuit ℕ). IsResetWitness c (circuit_of b) is.numbers.left is.numbers.right is.numbers.left_base is.numbers.right_base f.place.left f.place.right (length columns) w.witness.stimulus.rows w.left_power w.right_power s.last w.witness.left w.witness.right) is.are_numbers.left_is
        (subst (λ (c : Circuit ℕ). IsResetWitness is.numbers.a c is.numbers.left is.numbers.right is.numbers.left_base is.numbers.right_base f.place.left f.place.right (length columns) w.witness.stimulus.rows w.left_power w.right_power s.last w.witness.left w.witness.right) is.are_numbers.right_is f.shown.witness))

    -- it is a pair of outputs
    outputs : IsOutputPair (circuit_of a) (circuit_of b) f.place
    outputs = go (listed_is [] (circuit_of a) (circuit_of b) f.place (of_at listed f.index f.place f.place_is))
      where
        go : IsOutputPair (circuit_of a) (circuit_of b) f.place ⊎ IsNextPair [] (circuit_of a) (circuit_of b) f.place → IsOutputPair (circuit_of a) (circuit_of b) f.place
        go (inl x) = x
        go (inr x) = absurd (nothing x.name x.exposed)

    by_numbers : MakesDifferFromReset (circuit_of a) (circuit_of b) is.numbers.left is.numbers.right f.place.left f.place.right w.witness.stimulus.rows w.left_power w.right_power w.witness.cycle w.witness.left w.witness.right
    by_numbers =
        reset_witness_makes_differ (circuit_of a) (circuit_of b) is.numbers.left is.numbers.right is.numbers.left_base is.numbers.right_base f.place.left f.place.right (length columns) w.witness.stimulus.rows w.left_power w.right_power
        w.witness.cycle w.witness.left w.witness.right left_starts right_starts is.are_numbers.based witness

    -- a leaf that is an input is one that the sequence names
    leaf_below : (tree : Tree ℕ) → Contains (witness.left_tree ∷ witness.right_tree ∷ []) tree → (i k : ℕ) → i < is.numbers.left_base → HasLeaf (record { input = i; at = k }) tree → i < length columns
    leaf_below tree there i k below has =
        go (All-contains (λ (v : Variable ℕ). (v.input < length columns) ⊎ (is.numbers.left_base ≤ v.input)) witness.variables (record { input = i; at = k }) witness.inputs
        ((witness.are_variables.exactly (record { input = i; at = k })).1 (tree, there, has)))
      where
        go : (i < length columns) ⊎ (is.numbers.left_base ≤ i) → i < length columns
        go (inl h) = h
        go (inr h) = absurd (omega (arith, h, below))

    left_shows : (n : ℕ) (run : ℕ → ℕ → Bool) → w.witness.cycle < n → IsRun (circuit_of a) n run → TakesPower (circuit_of a) w.left_power run → Obeys (circuit_of a) w.witness.stimulus n run →
        run w.witness.cycle f.place.left ≡ w.witness.left
    left_shows n run below is_run takes obeys =
        powered_value (circuit_of a) is.numbers.left is.numbers.right is.numbers.left_base columns left_numbers left_starts w.witness f.shown.names_are (assigned same_shift witness.variables witness.bits) witness.rows_are w.left_power witness.left_power_is n run below is_run takes obeys
        f.place.left witness.left_tree witness.left_unfolds
        (λ q i k number leaf. leaf_below witness.left_tree (Contains-head witness.left_tree (witness.right_tree ∷ [])) i k (is.are_numbers.based.left_inputs q i number) leaf) ∙ sym witness.left_value

    right_shows : (n : ℕ) (run : ℕ → ℕ → Bool) → w.witness.cycle < n → IsRun (circuit_of b) n run → TakesPower (circuit_of b) w.right_power run → Obeys (circuit_of b) w.witness.stimulus n run →
        run w.witness.cycle f.place.right ≡ w.witness.right
    right_shows n run below is_run takes obeys =
        powered_value (circuit_of b) is.numbers.right is.numbers.left is.numbers.right_base columns right_numbers right_starts w.witness f.shown.names_are (assigned same_shift witness.variables witness.bits) witness.rows_are w.right_power witness.right_power_is n run below is_run takes obeys
        f.place.right witness.right_tree witness.right_unfolds
        (λ q i k number leaf.
        leaf_below witness.right_tree (Contains-tail witness.left_tree witness.right_tree (witness.right_tree ∷ []) (Contains-head witness.right_tree [])) i k (is.are_numbers.based.right_inputs q i number) leaf)
        ∙ sym witness.right_value

    -- in an earlier cycle the functions agree
    earlier : (n : ℕ) (left right : ℕ → ℕ → Bool) → AreAlikeFromReset (circuit_of a) (circuit_of b) n left right → (t : ℕ) → t < n → t < w.witness.cycle → left t f.place.left ≡ right t f.place.right
    earlier n left right alike t low before =
        let e = equal_at f.place.left f.place.right t (is.found.before f.place (of_at listed f.index f.place f.place_is) t (let k = f.shown.cycle_is in omega (arith, before, k))) in
        reset_same_at (circuit_of a) (circuit_of b) is.numbers.left is.numbers.right is.numbers.left_base is.numbers.right_base numbered is.are_numbers.based left right n alike (λ (row : ℕ → Bool). Unit {0}) (λ s h row of_run. tt)
        f.place.left f.place.right t e.left_tree e.right_tree low e.left_unfolds e.right_unfolds (λ x cared. e.same x tt)

    first_differs : MakesResetsDiffer (circuit_of a) (circuit_of b) w
    first_differs = record {
      name = outputs.name;
      left_place = f.place.left;
      right_place = f.place.right;
      named = f.shown.named ∙ outputs.called;
      left_output = outputs.left_output;
      right_output = outputs.right_output;
      differ = by_numbers.differ;
      left_each = by_numbers.left_each;
      right_each = by_numbers.right_each;
      left_begins = by_numbers.left_reset;
      right_begins = by_numbers.right_reset;
      left_shows = left_shows;
      right_shows = right_shows;
      earlier = earlier;
    }

  -- the sequence and the power-ups of a difference make the circuits differ
  pub differ : (w : ResetWitness) → s.verdict ≡ verdict.Different w → MakesResetsDiffer (circuit_of a) (circuit_of b) w
  differ w e = first_differs w (verdict_as (verdict.Different w) e)
