-- What an outcome from the initial values that fits two nets under an assumption says of their circuits.
use Rattle.std.proofs.Common.{◌≡◌, ℕ, ◌<◌, ◌≤◌, Bool, cond, List, [], ◌∷◌, map, length, refl, sym, ◌∙◌, ap, subst, arith, inl, inr, ◌⊎◌, Option, Some, None, nat_lt}
use Rattle.std.specs.List.{All, Contains}
use Rattle.std.proofs.lemmas.List.Elements.{All-contains}
use Rattle.circuit_theory.specs.Agree.{IsPair}
use Rattle.circuit_theory.specs.Circuit.{Named}
use Rattle.circuit_theory.specs.Interface.{shared_inputs, AreNumbersOf}
use Rattle.circuit_theory.specs.Query.{Variable, HasLeaf, assigned, same_shift}
use Rattle.circuit_theory.specs.Run.{IsRun}
use Rattle.circuit_theory.specs.Tree.{Tree, AreNumbered, tree_value}
use Rattle.circuit_theory.proofs.Inputs.{test_same}
use Rattle.circuit_theory.proofs.Lists.{Contains-head, Contains-tail, at_of, of_at, map-map, zip_right}
use Rattle.circuit_laws.proofs.LawProofs.{numbers_are_shared}
use Rattle.circuit_laws.proofs.event_laws.EventVariables.{tree_same}
use Rattle.flat_net.specs.View.{NetView, named, circuit_of, ports_of}
use Rattle.flat_net.proofs.Nets.{sound_is_net, sound_names}
use Rattle.sec_base.specs.declared.basics.PairAnswer.{PairAnswer}
use Rattle.sec_base.specs.declared.basics.PairAnswer.TheVariants as answer
use Rattle.pair_decide.specs.declared.query.Proof.{Proof}
use Rattle.witness_report.specs.Shown.{Obeys}
use Rattle.obligations.specs.declared.outcome.verdict.PairResult.{PairResult}
use Rattle.obligations.specs.declared.outcome.verdict.ResetWitness.{ResetWitness}
use Rattle.obligations.specs.declared.outcome.verdict.Verdict.{Verdict}
use Rattle.obligations.specs.declared.outcome.verdict.Verdict.TheVariants as verdict
use Rattle.obligations.specs.declared.outcome.verdict.Outcome.{Outcome}
use Rattle.circuit_laws.specs.reset_laws.Reset.{HasStarts, AreAlikeFromReset, TakesPower, MakesDifferFromReset}
use Rattle.circuit_laws.proofs.reset_laws.ResetAgreement.{reset_same_at, lt_true, lt_false}
use Rattle.circuit_laws.proofs.reset_laws.reset_nets.Starts.{nets_have_starts}
use Rattle.sec_setup.specs.ports.Pairs.{NamedPair, named_pairs}
use Rattle.outcome_fits.specs.ResetOutcome.{Numbered}
use Rattle.outcome_fits.proofs.plain_meaning.CutPairs.{IsOutputPair, IsNextPair, one_output, pair_listed, listed_is}
use Rattle.assume_laws.specs.Assume.{Assumption, RowMeets, RunMeets, AreEqualFromResetUnder}
use Rattle.assume_laws.specs.Sequences.{RowsMeet, filled}
use Rattle.assume_laws.proofs.Care.{run_holds}
use Rattle.assume_laws.proofs.Filled.{filled_at, shift_itself, left_leaves, right_leaves}
use Rattle.assume_laws.proofs.PlainLaws.{equal_resets_agree_under}
use Rattle.assume_laws.proofs.ResetFilled.{reset_witness_makes_differ_under}
use Rattle.plain_check.specs.under_base.under_fits.ResetVerdict.{AgreeAtUnder, AnswerFitsUnder, PairFitsUnder, IsFirstDifferenceUnder}
use Rattle.plain_check.specs.under_base.under_fits.ResetOutcome.{numbers_of, ResetOutcomeFitsUnder, ResetVerdictFitsUnder, MakesResetsDifferUnder}
use Rattle.plain_check.specs.asked_under.plain_asked_under.under_meaning.under_reset_meaning.Laws.{AreNets, EqualResetsSayUnder, DifferentResetsShowUnder}
use Rattle.plain_check.proofs.ResetLeaves.{powered_by}

-- nothing is in the list of none
nothing : {X : Type 0} (x : X) → Contains [] x → ⊥
nothing x h = omega (arith, h.1)

-- an equal pair has equal functions in each cycle up to its depth
equal_cycles : (c : Assumption) (n : Numbered) (conflicts p q depth : ℕ) (y : PairAnswer) (proof : Option Proof) → AnswerFitsUnder c n conflicts p q depth y proof → y ≡ answer.Equal → (t : ℕ) → t ≤ depth → AgreeAtUnder c n p q t
equal_cycles c n conflicts p q depth answer.Equal None h e = h
equal_cycles c n conflicts p q depth answer.Equal (Some proof) h e = absurd h
equal_cycles c n conflicts p q depth answer.Different proof h e = absurd (cc)
equal_cycles c n conflicts p q depth answer.NotShown proof h e = absurd (cc)
equal_cycles c n conflicts p q depth answer.Limit proof h e = absurd (cc)

module _ (c : Assumption) (meeting : ℕ → Bool) (a b : NetView) (conflicts : ℕ) (o : Outcome) (fits : ResetOutcomeFitsUnder c meeting a b conflicts o) (nets : AreNets a b) where
  abbrev numbers : Numbered
  numbers = numbers_of a b fits.left fits.right fits.left_base fits.right_base

  abbrev listed : List (NamedPair ℕ ℕ)
  listed = named_pairs [] (circuit_of a) (circuit_of b)

  abbrev columns : List (List ℕ)
  columns = shared_inputs (ports_of a) (ports_of b)

  abbrev AreEqualResets : ℕ → ℕ → Type 0
  AreEqualResets p q = AreEqualFromResetUnder c (circuit_of a) (circuit_of b) fits.left fits.right fits.left_base fits.right_base p q

  left_starts : HasStarts (circuit_of a)
  left_starts = (nets_have_starts a nets.left).0

  right_starts : HasStarts (circuit_of b)
  right_starts = (nets_have_starts b nets.right).0

  left_numbers : AreNumbersOf (map (λ (i : Named ℕ). i.name) (circuit_of a).inputs) columns fits.left fits.right
  left_numbers = subst (λ (words : List (List ℕ)). AreNumbersOf words columns fits.left fits.right) (sym (map-map (λ (i : Named ℕ). i.name) named a.inputs)) fits.left_numbers

  right_numbers : AreNumbersOf (map (λ (i : Named ℕ). i.name) (circuit_of b).inputs) columns fits.right fits.left
  right_numbers = subst (λ (words : List (List ℕ)). AreNumbersOf words columns fits.right fits.left) (sym (map-map (λ (i : Named ℕ). i.name) named b.inputs)) fits.right_numbers

  numbered : AreNumbered (circuit_of a) (circuit_of b) fits.left fits.right
  numbered = numbers_are_shared (circuit_of a) (circuit_of b) columns fits.left fits.right left_numbers right_numbers

  -- each pair has equal functions where the verdict is equal
  module _ (equal : o.verdict ≡ verdict.Equal) where
    all_equal : All (λ (r : PairResult). r.answer ≡ answer.Equal) o.pairs
    all_equal = subst (λ (v : Verdict). ResetVerdictFitsUnder c numbers meeting listed o.pairs v) equal fits.verdict_is

    equal_pair : (x : NamedPair ℕ ℕ) (r : PairResult) → PairFitsUnder c numbers conflicts x r → r.answer ≡ answer.Equal → AreEqualResets x.left x.right
    equal_pair x r fit e = record { depth = r.size; is_depth = fit.size_is; each = equal_cycles c numbers conflicts x.left x.right r.size r.answer r.proof fit.answer_is e }

    each_equal : (p q : ℕ) → IsPair [] (circuit_of a) (circuit_of b) p q → AreEqualResets p q
    each_equal p q is_pair =
        let x = pair_listed [] (circuit_of a) (circuit_of b) (sound_is_net a nets.left).single (sound_is_net b nets.right).single (sound_names a nets.left) (sound_names b nets.right) (one_output b nets.right_distinct) p q is_pair in
        let at = at_of listed x.0 x.1 in
        let found = zip_right (PairFitsUnder c numbers conflicts) listed o.pairs fits.pairs at.0 x.0 at.1 in
        let here = equal_pair x.0 found.0 found.2 (All-contains (λ (r : PairResult). r.answer ≡ answer.Equal) o.pairs found.0 all_equal (of_at o.pairs at.0 found.0 found.1)) in
        subst (λ s. AreEqualResets p s) x.3 (subst (λ s. AreEqualResets s x.0.right) x.2 here)

  -- the first difference, with its sequence and both power-ups
  module _ (w : ResetWitness) (f : IsFirstDifferenceUnder c numbers meeting listed o.pairs w) where
    abbrev bits : ℕ → ℕ → Bool
    bits = assigned same_shift f.shown.witness.variables f.shown.witness.bits

    abbrev shown : ℕ → ℕ → Bool
    shown = filled same_shift f.shown.witness.sides meeting bits

    -- inputs as in the rows, and the variables of latches from a number on
    abbrev joined : ℕ → ℕ → ℕ → Bool
    joined base i k = cond (nat_lt i base) (shown i k) (bits i k)

    low : (base i k : ℕ) → i < base → joined base i k ≡ shown i k
    low base i k h = ap (λ t. cond t (shown i k) (bits i k)) (lt_true i base h)

    high : (base i k : ℕ) → base ≤ i → joined base i k ≡ bits i k
    high base i k h = ap (λ t. cond t (shown i k) (bits i k)) (lt_false i base h)

    -- a tree of one of both sides keeps its value
    same : (base : ℕ) (tree : Tree ℕ) → ((v : Variable ℕ) → HasLeaf v tree → Contains f.shown.witness.sides v) → tree_value (joined base) tree ≡ tree_value bits tree
    same base tree leaves = tree_same (joined base) bits tree (λ v stands. go v (leaves v stands) (which v.input base))
      where
        which : (i j : ℕ) → (i < j) ⊎ (j ≤ i)
        which i j = grind arith

        go : (v : Variable ℕ) → Contains f.shown.witness.sides v → (v.input < base) ⊎ (base ≤ v.input) → joined base v.input v.at ≡ bits v.input v.at
        go v there (inl small) = low base v.input v.at small ∙ filled_at same_shift test_same shift_itself f.shown.witness.sides meeting bits v there
        go v there (inr large) = high base v.input v.at large

    -- it is a pair of outputs
    outputs : IsOutputPair (circuit_of a) (circuit_of b) f.place
    outputs = go (listed_is [] (circuit_of a) (circuit_of b) f.place (of_at listed f.index f.place f.place_is))
      where
        go : IsOutputPair (circuit_of a) (circuit_of b) f.place ⊎ IsNextPair [] (circuit_of a) (circuit_of b) f.place → IsOutputPair (circuit_of a) (circuit_of b) f.place
        go (inl x) = x
        go (inr x) = absurd (nothing x.name x.exposed)

    by_numbers : MakesDifferFromReset (circuit_of a) (circuit_of b) fits.left fits.right f.place.left f.place.right w.witness.stimulus.rows w.left_power w.right_power w.witness.cycle w.witness.left w.witness.right
        × RowsMeet c w.witness.stimulus.rows w.witness.cycle
    by_numbers =
        reset_witness_makes_differ_under c (circuit_of a) (circuit_of b) fits.left fits.right fits.left_base fits.right_base f.place.left f.place.right (length columns) meeting w.witness.stimulus.rows w.left_power w.right_power
        w.witness.cycle w.witness.left w.witness.right left_starts right_starts fits.based fits.reads f.shown.witness

    -- a leaf that is an input is one that the sequence names
    leaf_below : (tree : Tree ℕ) → Contains (f.shown.witness.left_tree ∷ f.shown.witness.right_tree ∷ []) tree → (i k : ℕ) → i < fits.left_base → HasLeaf (record { input = i; at = k }) tree → i < length columns
    leaf_below tree there i k below has =
        go (All-contains (λ (v : Variable ℕ). (v.input < length columns) ⊎ (fits.left_base ≤ v.input)) f.shown.witness.variables (record { input = i; at = k }) f.shown.witness.inputs
        ((f.shown.witness.difference.are_variables.exactly (record { input = i; at = k })).1 (tree, inl there, has)))
      where
        go : (i < length columns) ⊎ (fits.left_base ≤ i) → i < length columns
        go (inl h) = h
        go (inr h) = absurd (omega (arith, h, below))

    right_below : (q i : ℕ) → i < fits.left_base → i < fits.right_base
    right_below q i h = let e = fits.based.latches in omega (arith, h, e)

    left_shows : (n : ℕ) (run : ℕ → ℕ → Bool) → w.witness.cycle < n → IsRun (circuit_of a) n run → TakesPower (circuit_of a) w.left_power run → Obeys (circuit_of a) w.witness.stimulus n run →
        run w.witness.cycle f.place.left ≡ w.witness.left
    left_shows n run below is_run takes obeys =
        powered_by (circuit_of a) fits.left fits.right fits.left_base columns left_numbers left_starts w.witness f.shown.names_are bits shown (joined fits.left_base)
        (λ q i k number. low fits.left_base i k (fits.based.left_inputs q i number)) (high fits.left_base) f.shown.witness.rows_are w.left_power f.shown.witness.left_power_is n run below is_run takes obeys f.place.left f.shown.witness.left_tree f.shown.witness.left_unfolds
        (λ q i k number leaf. leaf_below f.shown.witness.left_tree (Contains-head f.shown.witness.left_tree (f.shown.witness.right_tree ∷ [])) i k (fits.based.left_inputs q i number) leaf)
        ∙ (same fits.left_base f.shown.witness.left_tree (left_leaves f.shown.witness.difference.are_sides) ∙ sym f.shown.witness.left_value)

    right_shows : (n : ℕ) (run : ℕ → ℕ → Bool) → w.witness.cycle < n → IsRun (circuit_of b) n run → TakesPower (circuit_of b) w.right_power run → Obeys (circuit_of b) w.witness.stimulus n run →
        run w.witness.cycle f.place.right ≡ w.witness.right
    right_shows n run below is_run takes obeys =
        powered_by (circuit_of b) fits.right fits.left fits.right_base columns right_numbers right_starts w.witness f.shown.names_are bits shown (joined fits.right_base)
        (λ q i k number. low fits.right_base i k (right_below q i (fits.based.right_inputs q i number))) (high fits.right_base) f.shown.witness.rows_are w.right_power f.shown.witness.right_power_is n run below is_run takes obeys f.place.right f.shown.witness.right_tree f.shown.witness.right_unfolds
        (λ q i k number leaf. leaf_below f.shown.witness.right_tree (Contains-tail f.shown.witness.left_tree f.shown.witness.right_tree (f.shown.witness.right_tree ∷ []) (Contains-head f.shown.witness.right_tree [])) i k (fits.based.right_inputs q i number) leaf)
        ∙ (same fits.right_base f.shown.witness.right_tree (right_leaves f.shown.witness.difference.are_sides) ∙ sym f.shown.witness.right_value)

    -- in an earlier cycle the functions agree
    earlier : (n : ℕ) (left right : ℕ → ℕ → Bool) → AreAlikeFromReset (circuit_of a) (circuit_of b) n left right → RunMeets c (circuit_of a) n left → (t : ℕ) → t < n → t < w.witness.cycle → left t f.place.left ≡ right t f.place.right
    earlier n left right alike meets t small before =
        let e = f.shown.cycle_is.1 t before in
        reset_same_at (circuit_of a) (circuit_of b) fits.left fits.right fits.left_base fits.right_base numbered fits.based left right n alike (RowMeets c) (run_holds c (circuit_of a) fits.left fits.reads n left meets)
        f.place.left f.place.right t e.left_tree e.right_tree small e.left_unfolds e.right_unfolds (λ x all. e.same x (tt, λ k has. all k))

    first_differs : MakesResetsDifferUnder c (circuit_of a) (circuit_of b) w
    first_differs = record {
      name = outputs.name;
      left_place = f.place.left;
      right_place = f.place.right;
      named = f.shown.named ∙ outputs.called;
      left_output = outputs.left_output;
      right_output = outputs.right_output;
      differ = by_numbers.0.differ;
      left_each = by_numbers.0.left_each;
      right_each = by_numbers.0.right_each;
      left_begins = by_numbers.0.left_reset;
      right_begins = by_numbers.0.right_reset;
      left_shows = left_shows;
      right_shows = right_shows;
      earlier = earlier;
    }

-- an equal outcome says that the circuits agree in the reset runs that meet the assumption
pub equal_resets_say_under : EqualResetsSayUnder
equal_resets_say_under c meeting a b conflicts o fits nets equal =
    equal_resets_agree_under c (circuit_of a) (circuit_of b) (length a.drivers) (length b.drivers) fits.left fits.right fits.left_base fits.right_base (sound_is_net a nets.left) (sound_is_net b nets.right)
    (left_starts c meeting a b conflicts o fits nets) (right_starts c meeting a b conflicts o fits nets) (numbered c meeting a b conflicts o fits nets) fits.based fits.reads (each_equal c meeting a b conflicts o fits nets equal)

-- the sequence and the power-ups of a difference make the circuits differ
pub different_resets_show_under : DifferentResetsShowUnder
different_resets_show_under c meeting a b conflicts o fits nets w e =
    let f = subst (λ (v : Verdict). ResetVerdictFitsUnder c (numbers_of a b fits.left fits.right fits.left_base fits.right_base) meeting (named_pairs [] (circuit_of a) (circuit_of b)) o.pairs v) e fits.verdict_is in
    (first_differs c meeting a b conflicts o fits nets w f, (by_numbers c meeting a b conflicts o fits nets w f).1)
