-- What an outcome that fits two nets under an assumption says of their circuits.
use Rattle.std.proofs.Common.{◌≡◌, ◌≢◌, ℕ, ◌<◌, ◌≤◌, max, Bool, true, false, List, [], ◌∷◌, map, length, sym, ◌∙◌, ap, subst, arith, inl, inr, ◌⊎◌, Some, slice_get}
use Rattle.std.specs.List.{All, Contains}
use Rattle.std.proofs.lemmas.List.Elements.{All-contains}
use Rattle.circuit_theory.specs.declared.Mode.TheVariants.{Plain}
use Rattle.circuit_theory.specs.Circuit.{Circuit, Named, IsLatch}
use Rattle.circuit_theory.specs.Depth.{IsDepth}
use Rattle.circuit_theory.specs.Run.{IsRun, NoneEnabled}
use Rattle.circuit_theory.specs.Tree.{Tree, Unfolds}
use Rattle.circuit_theory.specs.Agree.{cut, IsPair, IsSettled}
use Rattle.circuit_theory.specs.Fits.{IsPairDepth}
use Rattle.circuit_theory.specs.Interface.{AreNumbersOf}
use Rattle.circuit_theory.proofs.Lists.{at_of, of_at, zip_right}
use Rattle.circuit_laws.proofs.Marks.{depth_settled}
use Rattle.circuit_laws.proofs.Onward.{cut_input, cut_run}
use Rattle.circuit_laws.proofs.TreeDepth.{tree_depth}
use Rattle.circuit_laws.proofs.CutLaws.{cut_single}
use Rattle.flat_net.specs.View.{NetView, circuit_of}
use Rattle.flat_net.proofs.Nets.{sound_is_net, sound_names}
use Rattle.sec_base.specs.declared.basics.PairAnswer.{PairAnswer}
use Rattle.sec_base.specs.declared.basics.PairAnswer.TheVariants as answer
use Rattle.witness_report.specs.declared.witness.PairName.{PairName}
use Rattle.witness_report.specs.declared.stimulus.Stimulus.{Stimulus}
use Rattle.witness_report.specs.declared.witness.Witness.{Witness}
use Rattle.witness_report.specs.Shown.{Obeys, ArePlacesOf, MakesDiffer, MakesCutsDiffer}
use Rattle.obligations.specs.declared.outcome.verdict.PairResult.{PairResult}
use Rattle.obligations.specs.declared.outcome.verdict.Verdict.{Verdict}
use Rattle.obligations.specs.declared.outcome.verdict.Verdict.TheVariants as verdict
use Rattle.obligations.specs.declared.outcome.verdict.Outcome.{Outcome}
use Rattle.sec_setup.specs.Cuts.{columns_of, is_cut}
use Rattle.sec_setup.specs.ports.Pairs.{NamedPair, named_pairs}
use Rattle.sec_setup.proofs.CutNets.{cut_depth, cut_numbers, cut_numbered}
use Rattle.outcome_fits.proofs.plain_meaning.CutPairs.{IsOutputPair, IsNextPair, one_output, pair_listed, listed_is, listed_places, size_is_within}
use Rattle.assume_laws.specs.Assume.{Assumption, HaveEqualFunctionsUnder, AgreeUnder, AgreeOnwardUnder}
use Rattle.assume_laws.specs.Sequences.{RowsMeet, IsWitnessUnder}
use Rattle.assume_laws.proofs.Filled.{witness_makes_differ_under}
use Rattle.assume_laws.proofs.PlainLaws.{exposed_functions_agree_under}
use Rattle.plain_check.specs.under_base.under_fits.Pairs.{AnswerFitsUnder, PairFitsUnder}
use Rattle.plain_check.specs.under_base.under_fits.Verdict.{IsFirstOfAnswerUnder, VerdictFitsUnder}
use Rattle.plain_check.specs.under_base.under_fits.Outcome.{OutcomeFitsUnder, AgreeFromUnder}
use Rattle.plain_check.specs.asked_under.plain_asked_under.under_meaning.Laws.{AreNets, EqualSaysUnder, DifferentShowsUnder, NotShownUnder}
use Rattle.obligations.proofs.Fits.{equal_fits, different_fits}
use Rattle.plain_check.proofs.asked_under.plain_asked_under.under_meaning.CutUnder.{cut_functions_under, cut_witness_under}
use Rattle.plain_check.proofs.asked_under.plain_asked_under.under_meaning.SequencesUnder.{values_differ, left_value_shows, right_value_shows}

same_some : {X : Type 0} {x y : X} → Some x ≡ Some y → x ≡ y
same_some q = cc

-- the result of a pair
record HasResult (c : Assumption) (m k : Circuit ℕ) (left right : List ℕ) (open_latches : Bool) (conflicts : ℕ) (results : List PairResult) (p q : ℕ) : Type 0 where
  pub index : ℕ
  pub result : PairResult
  pub at : slice_get results index ≡ Some result
  pub depth_is : IsPairDepth m k p q result.size
  pub answer_is : AnswerFitsUnder c m k left right open_latches conflicts p q result.answer result.proof

-- nothing is exposed where no latch is cut open
none_exposed : (names : List (List ℕ)) → is_cut names ≡ false → (name : List ℕ) → Contains names name → ⊥
none_exposed [] e name h = omega (arith, h.1)
none_exposed (n ∷ names) e name h = wrong e
  where
    wrong : true ≡ false → ⊥
    wrong q = cc

-- where nothing is exposed, a run that obeys a sequence does so as a run of the cut circuit
obeys_cut : {P : Type 0} (names : List (List ℕ)) (c : Circuit P) → ((name : List ℕ) → Contains names name → ⊥) → (stimulus : Stimulus) (n : ℕ) (run : ℕ → P → Bool) → Obeys c stimulus n run → Obeys (cut names c) stimulus n run
obeys_cut {P} names c none stimulus n run obeys t i row name bit p h row_is bit_is name_is input = obeys t i row name bit p h row_is bit_is name_is (own (cut_input names c name p input))
  where
    own : Contains c.inputs (record { name = name; place = p }) ⊎ (Contains names name × ((next : P) × IsLatch c name p next)) → Contains c.inputs (record { name = name; place = p })
    own (inl k) = k
    own (inr l) = absurd (none name l.0)

-- a place that unfolds is settled from its depth on
settled_from : (c : Circuit ℕ) (order : List ℕ) (run : ℕ → ℕ → Bool) (p k depth height t : ℕ) (tree : Tree ℕ) → Unfolds c order p k height tree → IsDepth c NoneEnabled p height → IsDepth c NoneEnabled p depth → depth ≤ t → IsSettled Plain c run t p
settled_from c order run p k depth height t tree unfolds own deep le =
    let h = deep.greatest height own.reached in
    depth_settled c run unfolds t (omega (arith, h, le))

module _ (c : Assumption) (meeting : ℕ → Bool) (a b : NetView) (expose : Bool) (conflicts : ℕ) (o : Outcome) (fits : OutcomeFitsUnder c meeting a b expose conflicts o) (nets : AreNets a b) where
  abbrev left_circuit : Circuit ℕ
  left_circuit = cut o.exposed (circuit_of a)

  abbrev right_circuit : Circuit ℕ
  right_circuit = cut o.exposed (circuit_of b)

  abbrev columns : List (List ℕ)
  columns = columns_of a b o.exposed

  abbrev listed : List (NamedPair ℕ ℕ)
  listed = named_pairs o.exposed (circuit_of a) (circuit_of b)

  abbrev Kept : ℕ → ℕ → Type 0
  Kept p q = HasResult c (circuit_of fits.left_cut) (circuit_of fits.right_cut) fits.left fits.right (is_cut o.exposed) conflicts o.pairs p q

  -- the numbers of the cut circuits' inputs
  left_numbers : AreNumbersOf (map (λ (i : Named ℕ). i.name) left_circuit.inputs) columns fits.left fits.right
  left_numbers = cut_numbers o.exposed columns fits.left fits.right a fits.left_cut fits.are_cut.left_circuit fits.left_numbers

  right_numbers : AreNumbersOf (map (λ (i : Named ℕ). i.name) right_circuit.inputs) columns fits.right fits.left
  right_numbers = cut_numbers o.exposed columns fits.right fits.left b fits.right_cut fits.are_cut.right_circuit fits.right_numbers

  -- each pair that is compared has its result
  pair_result : (p q : ℕ) → IsPair o.exposed (circuit_of a) (circuit_of b) p q → Kept p q
  pair_result p q is_pair =
      let x = pair_listed o.exposed (circuit_of a) (circuit_of b) (sound_is_net a nets.left).single (sound_is_net b nets.right).single (sound_names a nets.left) (sound_names b nets.right) (one_output b nets.right_distinct) p q is_pair in
      let at = at_of listed x.0 x.1 in
      let found = zip_right (PairFitsUnder c (circuit_of fits.left_cut) (circuit_of fits.right_cut) fits.left fits.right (is_cut o.exposed) conflicts) listed o.pairs fits.pairs at.0 x.0 at.1 in
      let here : Kept x.0.left x.0.right = record { index = at.0; result = found.0; at = found.1; depth_is = found.2.size_is; answer_is = found.2.answer_is } in
      subst (λ s. Kept p s) x.3 (subst (λ s. Kept s x.0.right) x.2 here)

  module _ (equal : o.verdict ≡ verdict.Equal) where
    -- each result is equal
    all_equal : All (λ (r : PairResult). r.answer ≡ answer.Equal) o.pairs
    all_equal = subst (λ (v : Verdict). VerdictFitsUnder c (circuit_of fits.left_cut) (circuit_of fits.right_cut) fits.left fits.right columns meeting listed o.pairs v) equal fits.verdict_is

    -- so each pair has equal functions over the cut circuits
    functions_equal : (p q : ℕ) → Kept p q → HaveEqualFunctionsUnder c left_circuit right_circuit fits.left fits.right p q
    functions_equal p q r =
        cut_functions_under c o.exposed (circuit_of a) (circuit_of b) (circuit_of fits.left_cut) (circuit_of fits.right_cut) fits.are_cut.left_circuit fits.are_cut.right_circuit fits.left fits.right p q
        (equal_fits _ _ _ r.result.answer r.result.proof r.answer_is
        (All-contains (λ (x : PairResult). x.answer ≡ answer.Equal) o.pairs r.result all_equal (of_at o.pairs r.index r.result r.at)))

    -- the circuits agree, and agree onward
    circuits_agree : AgreeUnder Plain c (circuit_of a) (circuit_of b) × AgreeOnwardUnder Plain o.exposed c (circuit_of a) (circuit_of b)
    circuits_agree =
        exposed_functions_agree_under c (circuit_of a) (circuit_of b) (length a.drivers) (length b.drivers) o.exposed fits.left fits.right
        (sound_is_net a nets.left) (sound_is_net b nets.right) (sound_names a nets.left) (sound_names b nets.right) fits.exposed.minimal
        (cut_numbered o.exposed columns fits.left fits.right a b fits.left_cut fits.right_cut fits.are_cut.left_circuit fits.are_cut.right_circuit fits.left_numbers fits.right_numbers)
        fits.reads (λ p q is_pair. functions_equal p q (pair_result p q is_pair))

    -- no depth is above the greatest
    deep_enough : (size left right : ℕ) → size ≡ max left right → size ≤ o.through → (left ≤ o.through) × (right ≤ o.through)
    deep_enough size left right e h = (omega (arith, e, h), omega (arith, e, h))

    -- each pair is settled from the greatest depth on
    pair_settled : (left right : ℕ → ℕ → Bool) (p q : ℕ) → Kept p q → IsSettled Plain left_circuit left o.through p × IsSettled Plain right_circuit right o.through q
    pair_settled left right p q r =
        let e = functions_equal p q r in
        let size : r.result.size ≤ o.through = subst (λ t. r.result.size ≤ t) (sym fits.through) (size_is_within o.pairs r.index r.result r.at) in
        let deep = deep_enough r.result.size r.depth_is.left r.depth_is.right r.depth_is.greater size in (
          settled_from left_circuit fits.left left p 0 r.depth_is.left e.left_unfolds.0 o.through e.left_tree e.left_unfolds.1 (tree_depth left_circuit (cut_single o.exposed (circuit_of a) (sound_is_net a nets.left).single) e.left_unfolds.1)
              (cut_depth o.exposed (circuit_of a) (circuit_of fits.left_cut) fits.are_cut.left_circuit p r.depth_is.left r.depth_is.left_is) deep.0,
          settled_from right_circuit fits.right right q 0 r.depth_is.right e.right_unfolds.0 o.through e.right_tree e.right_unfolds.1 (tree_depth right_circuit (cut_single o.exposed (circuit_of b) (sound_is_net b nets.right).single) e.right_unfolds.1)
              (cut_depth o.exposed (circuit_of b) (circuit_of fits.right_cut) fits.are_cut.right_circuit q r.depth_is.right r.depth_is.right_is) deep.1,
        )

    -- so they agree from there on
    agree_from : AgreeFromUnder c o.through o.exposed (circuit_of a) (circuit_of b)
    agree_from n left right alike meets below start = circuits_agree.1 n left right alike meets o.through below (λ p q is_pair. pair_settled left right p q (pair_result p q is_pair)) start

  -- the first pair of an answer, with its sequence
  module _ (wanted : PairAnswer) (w : Witness) (f : IsFirstOfAnswerUnder c (circuit_of fits.left_cut) (circuit_of fits.right_cut) fits.left fits.right columns meeting wanted listed o.pairs w) where
    -- over the cut circuits
    witness : IsWitnessUnder c left_circuit right_circuit fits.left fits.right f.place.left f.place.right (length columns) meeting w.stimulus.rows w.cycle w.left w.right
    witness =
        cut_witness_under c o.exposed (circuit_of a) (circuit_of b) (circuit_of fits.left_cut) (circuit_of fits.right_cut) fits.are_cut.left_circuit fits.are_cut.right_circuit fits.left fits.right
        f.place.left f.place.right (length columns) meeting w.stimulus.rows w.cycle w.left w.right f.shown.witness

    place_listed : Contains listed f.place
    place_listed = of_at listed f.index f.place f.place_is

    -- it meets the assumption in each cycle
    rows_meet : RowsMeet c w.stimulus.rows w.cycle
    rows_meet = (witness_makes_differ_under c left_circuit right_circuit fits.left fits.right f.place.left f.place.right (length columns) meeting w.stimulus.rows w.cycle w.left w.right witness).1

    -- the printed values differ
    differ : w.left ≢ w.right
    differ = values_differ c left_circuit right_circuit fits.left fits.right columns left_numbers right_numbers w f.shown.names_are f.place.left f.place.right meeting witness

    -- each run of A's cut circuit that obeys the sequence has the printed value, and so has each of B's
    left_shows : (n : ℕ) (run : ℕ → ℕ → Bool) → w.cycle < n → IsRun left_circuit n run → Obeys left_circuit w.stimulus n run → run w.cycle f.place.left ≡ w.left
    left_shows = left_value_shows c left_circuit right_circuit fits.left fits.right columns left_numbers right_numbers w f.shown.names_are f.place.left f.place.right meeting witness

    right_shows : (n : ℕ) (run : ℕ → ℕ → Bool) → w.cycle < n → IsRun right_circuit n run → Obeys right_circuit w.stimulus n run → run w.cycle f.place.right ≡ w.right
    right_shows = right_value_shows c left_circuit right_circuit fits.left fits.right columns left_numbers right_numbers w f.shown.names_are f.place.left f.place.right meeting witness

    -- so the sequence makes the pair of the cut circuits differ
    first_of_cuts : MakesCutsDiffer o.exposed (circuit_of a) (circuit_of b) w
    first_of_cuts = record {
      left_place = f.place.left;
      right_place = f.place.right;
      places = subst (λ (n : PairName). ArePlacesOf (circuit_of a) (circuit_of b) n f.place.left f.place.right) (sym f.shown.named) (listed_places o.exposed (circuit_of a) (circuit_of b) f.place place_listed);
      differ = differ;
      left_shows = left_shows;
      right_shows = right_shows;
    }

  -- a pair is told to be different only where nothing is exposed
  module _ (w : Witness) (f : IsFirstOfAnswerUnder c (circuit_of fits.left_cut) (circuit_of fits.right_cut) fits.left fits.right columns meeting answer.Different listed o.pairs w) where
    nothing : (name : List ℕ) → Contains o.exposed name → ⊥
    nothing = none_exposed o.exposed
        (different_fits _ _ _ found.0.answer found.0.proof found.2.answer_is
        (ap (λ (r : PairResult). r.answer) (same_some (sym found.1 ∙ f.result_is)) ∙ f.answered)).0
      where
        found : (r : PairResult) × (slice_get o.pairs f.index ≡ Some r) × PairFitsUnder c (circuit_of fits.left_cut) (circuit_of fits.right_cut) fits.left fits.right (is_cut o.exposed) conflicts f.place r
        found = zip_right (PairFitsUnder c (circuit_of fits.left_cut) (circuit_of fits.right_cut) fits.left fits.right (is_cut o.exposed) conflicts) listed o.pairs fits.pairs f.index f.place f.place_is

    -- so it is a pair of outputs
    outputs : IsOutputPair (circuit_of a) (circuit_of b) f.place
    outputs = go (listed_is o.exposed (circuit_of a) (circuit_of b) f.place (place_listed answer.Different w f))
      where
        go : IsOutputPair (circuit_of a) (circuit_of b) f.place ⊎ IsNextPair o.exposed (circuit_of a) (circuit_of b) f.place → IsOutputPair (circuit_of a) (circuit_of b) f.place
        go (inl x) = x
        go (inr x) = absurd (nothing x.name x.exposed)

    -- and the runs of the circuits are those of the cut circuits
    first_of_circuits : MakesDiffer (circuit_of a) (circuit_of b) w
    first_of_circuits = record {
      name = outputs.name;
      left_place = f.place.left;
      right_place = f.place.right;
      named = f.shown.named ∙ outputs.called;
      left_output = outputs.left_output;
      right_output = outputs.right_output;
      differ = differ answer.Different w f;
      left_shows = λ n run below is_run obeys. left_shows answer.Different w f n run below (cut_run o.exposed (circuit_of a) n n run (omega arith) is_run) (obeys_cut o.exposed (circuit_of a) nothing w.stimulus n run obeys);
      right_shows = λ n run below is_run obeys. right_shows answer.Different w f n run below (cut_run o.exposed (circuit_of b) n n run (omega arith) is_run) (obeys_cut o.exposed (circuit_of b) nothing w.stimulus n run obeys);
    }

-- an equal outcome says that the circuits agree in the runs that meet the assumption
pub equal_says_under : EqualSaysUnder
equal_says_under c meeting a b expose conflicts o fits nets equal = record {
  agree = (circuits_agree c meeting a b expose conflicts o fits nets equal).0;
  onward = (circuits_agree c meeting a b expose conflicts o fits nets equal).1;
  from = agree_from c meeting a b expose conflicts o fits nets equal;
}

-- the sequence of a difference makes the circuits differ
pub different_shows_under : DifferentShowsUnder
different_shows_under c meeting a b expose conflicts o fits nets w e =
    let f = subst (λ (v : Verdict). VerdictFitsUnder c (circuit_of fits.left_cut) (circuit_of fits.right_cut) fits.left fits.right (columns_of a b o.exposed) meeting (named_pairs o.exposed (circuit_of a) (circuit_of b)) o.pairs v) e fits.verdict_is in
    (first_of_circuits c meeting a b expose conflicts o fits nets w f, rows_meet c meeting a b expose conflicts o fits nets answer.Different w f)

-- the sequence of what isn't shown makes the cut circuits differ
pub not_shown_under : NotShownUnder
not_shown_under c meeting a b expose conflicts o fits nets w e =
    let told = subst (λ (v : Verdict). VerdictFitsUnder c (circuit_of fits.left_cut) (circuit_of fits.right_cut) fits.left fits.right (columns_of a b o.exposed) meeting (named_pairs o.exposed (circuit_of a) (circuit_of b)) o.pairs v) e fits.verdict_is in
    (first_of_cuts c meeting a b expose conflicts o fits nets answer.NotShown w told.2, rows_meet c meeting a b expose conflicts o fits nets answer.NotShown w told.2)
