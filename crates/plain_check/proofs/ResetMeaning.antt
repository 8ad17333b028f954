-- What an outcome from the initial values that fits two nets says of their circuits.
use Rattle.std.proofs.Common.{◌≡◌, ℕ, ◌<◌, ◌≤◌, Bool, List, [], ◌∷◌, map, length, sym, ◌∙◌, subst, arith, inl, inr, ◌⊎◌, Option, Some, None}
use Rattle.std.specs.List.{All, Contains}
use Rattle.std.proofs.lemmas.List.Elements.{All-contains}
use Rattle.circuit_theory.specs.Agree.{IsPair}
use Rattle.circuit_theory.specs.Circuit.{Named}
use Rattle.circuit_theory.specs.Interface.{shared_inputs, AreNumbersOf}
use Rattle.circuit_theory.specs.Query.{Variable, HasLeaf, assigned, same_shift}
use Rattle.circuit_theory.specs.Run.{IsRun}
use Rattle.circuit_theory.specs.Tree.{Tree, AreNumbered}
use Rattle.circuit_theory.proofs.Lists.{Contains-head, Contains-tail, at_of, of_at, map-map, zip_right}
use Rattle.circuit_laws.proofs.LawProofs.{numbers_are_shared}
use Rattle.flat_net.specs.declared.parts.Port.{Port}
use Rattle.flat_net.specs.View.{NetView, named, circuit_of, ports_of}
use Rattle.flat_net.specs.Sound.{IsSound}
use Rattle.flat_net.proofs.Nets.{sound_is_net, sound_names}
use Rattle.base_tables.specs.Table.{AreDistinct}
use Rattle.sec_base.specs.declared.basics.PairAnswer.{PairAnswer}
use Rattle.sec_base.specs.declared.basics.PairAnswer.TheVariants as answer
use Rattle.pair_decide.specs.declared.query.Proof.{Proof}
use Rattle.witness_report.specs.Shown.{Obeys}
use Rattle.obligations.specs.declared.outcome.verdict.PairResult.{PairResult}
use Rattle.obligations.specs.declared.outcome.verdict.ResetWitness.{ResetWitness}
use Rattle.obligations.specs.declared.outcome.verdict.Verdict.{Verdict}
use Rattle.obligations.specs.declared.outcome.verdict.Verdict.TheVariants as verdict
use Rattle.obligations.specs.declared.outcome.verdict.Outcome.{Outcome}
use Rattle.circuit_laws.specs.reset_laws.Reset.{HasStarts, AreEqualFromReset, AgreeFromReset, AreAlikeFromReset, TakesPower, MakesDifferFromReset}
use Rattle.circuit_laws.proofs.reset_laws.ResetAgreement.{equal_resets_agree, reset_same_at}
use Rattle.circuit_laws.proofs.reset_laws.ResetWindows.{reset_witness_makes_differ}
use Rattle.circuit_laws.proofs.reset_laws.reset_nets.Starts.{nets_have_starts}
use Rattle.sec_setup.specs.ports.Pairs.{NamedPair, named_pairs}
use Rattle.reset_form.specs.outcome_fits.ResetOutcome.{Numbered, AgreeAt, AnswerFits, PairFits, IsFirstDifference}
use Rattle.plain_check.specs.under_base.compare_base.FromReset.{numbered_by, ResetOutcomeFits, ResetVerdictFits}
use Rattle.plain_check.specs.under_base.compare_base.Says.{MakesResetsDiffer}
use Rattle.plain_check.proofs.under_base.compare_base.CutPairs.{IsOutputPair, IsNextPair, one_output, pair_listed, listed_is}
use Rattle.plain_check.proofs.ResetLeaves.{powered_value}

-- nothing is in the list of none
nothing : {X : Type 0} (x : X) → Contains [] x → ⊥
nothing x h = omega (arith, h.1)

-- an equal pair has equal functions in each cycle up to its depth
equal_cycles : (n : Numbered) (conflicts p q depth : ℕ) (y : PairAnswer) (proof : Option Proof) → AnswerFits n conflicts p q depth y proof → y ≡ answer.Equal → (t : ℕ) → t ≤ depth → AgreeAt n p q t
equal_cycles n conflicts p q depth answer.Equal None h e = h
equal_cycles n conflicts p q depth answer.Equal (Some proof) h e = absurd h
equal_cycles n conflicts p q depth answer.Different proof h e = absurd (cc)
equal_cycles n conflicts p q depth answer.NotShown proof h e = absurd (cc)
equal_cycles n conflicts p q depth answer.Limit proof h e = absurd (cc)

module _ (a b : NetView) (conflicts : ℕ) (o : Outcome) (fits : ResetOutcomeFits a b conflicts o) (sa : IsSound a) (sb : IsSound b)
    (right_distinct : AreDistinct (map (λ (p : Port). p.name) b.outputs)) where
  abbrev numbers : Numbered
  numbers = numbered_by a b fits.left fits.right fits.left_base fits.right_base

  abbrev listed : List (NamedPair ℕ ℕ)
  listed = named_pairs [] (circuit_of a) (circuit_of b)

  abbrev columns : List (List ℕ)
  columns = shared_inputs (ports_of a) (ports_of b)

  abbrev AreEqualResets : ℕ → ℕ → Type 0
  AreEqualResets p q = AreEqualFromReset (circuit_of a) (circuit_of b) fits.left fits.right fits.left_base fits.right_base p q

  left_starts : HasStarts (circuit_of a)
  left_starts = (nets_have_starts a sa).0

  right_starts : HasStarts (circuit_of b)
  right_starts = (nets_have_starts b sb).0

  left_numbers : AreNumbersOf (map (λ (i : Named ℕ). i.name) (circuit_of a).inputs) columns fits.left fits.right
  left_numbers = subst (λ (words : List (List ℕ)). AreNumbersOf words columns fits.left fits.right) (sym (map-map (λ (i : Named ℕ). i.name) named a.inputs)) fits.left_numbers

  right_numbers : AreNumbersOf (map (λ (i : Named ℕ). i.name) (circuit_of b).inputs) columns fits.right fits.left
  right_numbers = subst (λ (words : List (List ℕ)). AreNumbersOf words columns fits.right fits.left) (sym (map-map (λ (i : Named ℕ). i.name) named b.inputs)) fits.right_numbers

  numbered : AreNumbered (circuit_of a) (circuit_of b) fits.left fits.right
  numbered = numbers_are_shared (circuit_of a) (circuit_of b) columns fits.left fits.right left_numbers right_numbers

  -- each pair has equal functions where the verdict is equal
  module _ (equal : o.verdict ≡ verdict.Equal) where
    all_equal : All (λ (r : PairResult). r.answer ≡ answer.Equal) o.pairs
    all_equal = subst (λ (v : Verdict). ResetVerdictFits numbers listed o.pairs v) equal fits.verdict_is

    equal_pair : (x : NamedPair ℕ ℕ) (r : PairResult) → PairFits numbers conflicts x r → r.answer ≡ answer.Equal → AreEqualResets x.left x.right
    equal_pair x r fit e = record { depth = r.size; is_depth = fit.size_is; each = equal_cycles numbers conflicts x.left x.right r.size r.answer r.proof fit.answer_is e }

    each_equal : (p q : ℕ) → IsPair [] (circuit_of a) (circuit_of b) p q → AreEqualResets p q
    each_equal p q is_pair =
        let x = pair_listed [] (circuit_of a) (circuit_of b) (sound_is_net a sa).single (sound_is_net b sb).single (sound_names a sa) (sound_names b sb) (one_output b right_distinct) p q is_pair in
        let at = at_of listed x.0 x.1 in
        let found = zip_right (PairFits numbers conflicts) listed o.pairs fits.pairs at.0 x.0 at.1 in
        let here = equal_pair x.0 found.0 found.2 (All-contains (λ (r : PairResult). r.answer ≡ answer.Equal) o.pairs found.0 all_equal (of_at o.pairs at.0 found.0 found.1)) in
        subst (λ s. AreEqualResets p s) x.3 (subst (λ s. AreEqualResets s x.0.right) x.2 here)

  -- an equal outcome says that the circuits agree
  pub resets_agree : o.verdict ≡ verdict.Equal → AgreeFromReset (circuit_of a) (circuit_of b)
  resets_agree equal =
      equal_resets_agree (circuit_of a) (circuit_of b) (length a.drivers) (length b.drivers) fits.left fits.right fits.left_base fits.right_base (sound_is_net a sa) (sound_is_net b sb)
      left_starts right_starts numbered fits.based (each_equal equal)

  -- the first difference, with its sequence and both power-ups
  module _ (w : ResetWitness) (f : IsFirstDifference numbers listed o.pairs w) where
    abbrev bits : ℕ → ℕ → Bool
    bits = assigned same_shift f.shown.witness.variables f.shown.witness.bits

    -- it is a pair of outputs
    outputs : IsOutputPair (circuit_of a) (circuit_of b) f.place
    outputs = go (listed_is [] (circuit_of a) (circuit_of b) f.place (of_at listed f.index f.place f.place_is))
      where
        go : IsOutputPair (circuit_of a) (circuit_of b) f.place ⊎ IsNextPair [] (circuit_of a) (circuit_of b) f.place → IsOutputPair (circuit_of a) (circuit_of b) f.place
        go (inl x) = x
        go (inr x) = absurd (nothing x.name x.exposed)

    by_numbers : MakesDifferFromReset (circuit_of a) (circuit_of b) fits.left fits.right f.place.left f.place.right w.witness.stimulus.rows w.left_power w.right_power w.witness.cycle w.witness.left w.witness.right
    by_numbers =
        reset_witness_makes_differ (circuit_of a) (circuit_of b) fits.left fits.right fits.left_base fits.right_base f.place.left f.place.right (length columns) w.witness.stimulus.rows w.left_power w.right_power
        w.witness.cycle w.witness.left w.witness.right left_starts right_starts fits.based f.shown.witness

    -- a leaf that is an input is one that the sequence names
    leaf_below : (tree : Tree ℕ) → Contains (f.shown.witness.left_tree ∷ f.shown.witness.right_tree ∷ []) tree → (i k : ℕ) → i < fits.left_base → HasLeaf (record { input = i; at = k }) tree → i < length columns
    leaf_below tree there i k below has =
        go (All-contains (λ (v : Variable ℕ). (v.input < length columns) ⊎ (fits.left_base ≤ v.input)) f.shown.witness.variables (record { input = i; at = k }) f.shown.witness.inputs
        ((f.shown.witness.are_variables.exactly (record { input = i; at = k })).1 (tree, there, has)))
      where
        go : (i < length columns) ⊎ (fits.left_base ≤ i) → i < length columns
        go (inl h) = h
        go (inr h) = absurd (omega (arith, h, below))

    left_shows : (n : ℕ) (run : ℕ → ℕ → Bool) → w.witness.cycle < n → IsRun (circuit_of a) n run → TakesPower (circuit_of a) w.left_power run → Obeys (circuit_of a) w.witness.stimulus n run →
        run w.witness.cycle f.place.left ≡ w.witness.left
    left_shows n run below is_run takes obeys =
        powered_value (circuit_of a) fits.left fits.right fits.left_base columns left_numbers left_starts w.witness f.shown.names_are bits f.shown.witness.rows_are w.left_power f.shown.witness.left_power_is n run below is_run takes obeys
        f.place.left f.shown.witness.left_tree f.shown.witness.left_unfolds
        (λ q i k number leaf. leaf_below f.shown.witness.left_tree (Contains-head f.shown.witness.left_tree (f.shown.witness.right_tree ∷ [])) i k (fits.based.left_inputs q i number) leaf) ∙ sym f.shown.witness.left_value

    right_shows : (n : ℕ) (run : ℕ → ℕ → Bool) → w.witness.cycle < n → IsRun (circuit_of b) n run → TakesPower (circuit_of b) w.right_power run → Obeys (circuit_of b) w.witness.stimulus n run →
        run w.witness.cycle f.place.right ≡ w.witness.right
    right_shows n run below is_run takes obeys =
        powered_value (circuit_of b) fits.right fits.left fits.right_base columns right_numbers right_starts w.witness f.shown.names_are bits f.shown.witness.rows_are w.right_power f.shown.witness.right_power_is n run below is_run takes obeys
        f.place.right f.shown.witness.right_tree f.shown.witness.right_unfolds
        (λ q i k number leaf.
        leaf_below f.shown.witness.right_tree (Contains-tail f.shown.witness.left_tree f.shown.witness.right_tree (f.shown.witness.right_tree ∷ []) (Contains-head f.shown.witness.right_tree [])) i k (fits.based.right_inputs q i number) leaf)
        ∙ sym f.shown.witness.right_value

    -- in an earlier cycle the functions agree
    earlier : (n : ℕ) (left right : ℕ → ℕ → Bool) → AreAlikeFromReset (circuit_of a) (circuit_of b) n left right → (t : ℕ) → t < n → t < w.witness.cycle → left t f.place.left ≡ right t f.place.right
    earlier n left right alike t low before =
        let e = f.shown.cycle_is.1 t before in
        reset_same_at (circuit_of a) (circuit_of b) fits.left fits.right fits.left_base fits.right_base numbered fits.based left right n alike (λ (row : ℕ → Bool). Unit {0}) (λ s h row of_run. tt)
        f.place.left f.place.right t e.left_tree e.right_tree low e.left_unfolds e.right_unfolds (λ x cared. e.same x tt)

    first_differs : MakesResetsDiffer (circuit_of a) (circuit_of b) w
    first_differs = record {
      name = outputs.name;
      left_place = f.place.left;
      right_place = f.place.right;
      named = f.shown.named ∙ outputs.called;
      left_output = outputs.left_output;
      right_output = outputs.right_output;
      differ = by_numbers.differ;
      left_each = by_numbers.left_each;
      right_each = by_numbers.right_each;
      left_begins = by_numbers.left_reset;
      right_begins = by_numbers.right_reset;
      left_shows = left_shows;
      right_shows = right_shows;
      earlier = earlier;
    }

  -- the sequence and the power-ups of a difference make the circuits differ
  pub resets_differ : (w : ResetWitness) → o.verdict ≡ verdict.DifferentFrom w → MakesResetsDiffer (circuit_of a) (circuit_of b) w
  resets_differ w e = first_differs w (subst (λ (v : Verdict). ResetVerdictFits numbers listed o.pairs v) e fits.verdict_is)
