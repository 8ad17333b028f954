-- What an outcome that fits two nets says of their circuits.
use Rattle.std.proofs.Common.{◌≡◌, ◌≢◌, ℕ, ◌<◌, ◌≤◌, max, Bool, true, false, List, [], ◌∷◌, map, length, sym, ◌∙◌, ap, subst, arith, inl, inr, ◌⊎◌, Some, slice_get}
use Rattle.std.specs.List.{All, Contains}
use Rattle.std.proofs.lemmas.List.Elements.{All-contains}
use Rattle.circuit_theory.specs.declared.Mode.TheVariants.{Plain}
use Rattle.circuit_theory.specs.Circuit.{Circuit, Named, IsLatch}
use Rattle.circuit_theory.specs.Depth.{IsDepth}
use Rattle.circuit_theory.specs.Run.{IsRun, NoneEnabled}
use Rattle.circuit_theory.specs.Asked.{HaveEqualFunctions}
use Rattle.circuit_theory.specs.Tree.{Tree, Unfolds}
use Rattle.circuit_theory.specs.Agree.{cut, IsPair, IsSettled, Agree, AgreeOnward}
use Rattle.circuit_theory.specs.Fits.{IsPairDepth, IsWitness}
use Rattle.circuit_theory.specs.Interface.{AreNumbersOf}
use Rattle.circuit_theory.proofs.Lists.{of_at, zip_right}
use Rattle.circuit_laws.proofs.Marks.{depth_settled}
use Rattle.circuit_laws.proofs.Onward.{cut_input, cut_run}
use Rattle.circuit_laws.proofs.TreeDepth.{tree_depth}
use Rattle.circuit_laws.proofs.CutLaws.{cut_single}
use Rattle.circuit_laws.proofs.LawProofs.{exposed_functions_agree}
use Rattle.sec_setup.specs.flat_net.Port.{Port}
use Rattle.sec_setup.specs.flat_net.View.{NetView, circuit_of}
use Rattle.sec_setup.specs.flat_net.Sound.{IsSound}
use Rattle.sec_setup.proofs.flat_net.Nets.{sound_is_net, sound_names}
use Rattle.sec_setup.specs.flat_net.Table.{AreDistinct}
use Rattle.sec_setup.specs.sec_base.PairAnswer.{PairAnswer}
use Rattle.sec_setup.specs.sec_base.PairAnswer.TheVariants as answer
use Rattle.sec_setup.specs.witness_report.PairName.{PairName}
use Rattle.sec_setup.specs.witness_report.Stimulus.{Stimulus}
use Rattle.sec_setup.specs.witness_report.Witness.{Witness}
use Rattle.obligations.specs.declared.outcome.verdict.PairResult.{PairResult}
use Rattle.obligations.specs.declared.outcome.verdict.Verdict.{Verdict}
use Rattle.obligations.specs.declared.outcome.verdict.Verdict.TheVariants as verdict
use Rattle.obligations.specs.declared.outcome.verdict.Why.TheVariants as why
use Rattle.obligations.specs.declared.outcome.verdict.Outcome.{Outcome}
use Rattle.outcome_fits.specs.Outcome.{AnswerFits, PairFits, IsFirstOfAnswer, NoneIs, VerdictFits}
use Rattle.sec_setup.specs.ports.Pairs.{NamedPair, named_pairs}
use Rattle.outcome_fits.specs.plain_meaning.Equal.{AreEqual}
use Rattle.outcome_fits.specs.Fitting.{OutcomeFits}
use Rattle.sec_setup.specs.Cuts.{columns_of, is_cut}
use Rattle.sec_setup.specs.witness_report.Shown.{Obeys, ArePlacesOf, MakesDiffer, MakesCutsDiffer, AgreeFrom}
use Rattle.sec_setup.proofs.CutNets.{cut_functions, cut_witness, cut_depth, cut_numbers, cut_numbered}
use Rattle.obligations.proofs.Fits.{equal_fits, different_fits}
use Rattle.outcome_fits.proofs.plain_meaning.CutPairs.{IsOutputPair, IsNextPair, one_output, pair_listed, listed_is, listed_places, result_of, size_is_within}
use Rattle.outcome_fits.proofs.plain_meaning.Sequences.{values_differ, left_value_shows, right_value_shows}

same_some : {X : Type 0} {x y : X} → Some x ≡ Some y → x ≡ y
same_some q = cc

-- the result of a pair
pub record HasResult (c d : Circuit ℕ) (left right : List ℕ) (open_latches : Bool) (conflicts : ℕ) (results : List PairResult) (p q : ℕ) : Type 0 where
  pub index : ℕ
  pub result : PairResult
  pub at : slice_get results index ≡ Some result
  pub depth_is : IsPairDepth c d p q result.size
  pub answer_is : AnswerFits c d left right open_latches conflicts p q result.answer result.proof

-- nothing is exposed where no latch is cut open
none_exposed : (names : List (List ℕ)) → is_cut names ≡ false → (name : List ℕ) → Contains names name → ⊥
none_exposed [] e name h = omega (arith, h.1)
none_exposed (n ∷ names) e name h = wrong e
  where
    wrong : true ≡ false → ⊥
    wrong q = cc

-- where nothing is exposed, a run that obeys a sequence does so as a run of the cut circuit
obeys_cut : {P : Type 0} (names : List (List ℕ)) (c : Circuit P) → ((name : List ℕ) → Contains names name → ⊥) → (stimulus : Stimulus) (n : ℕ) (run : ℕ → P → Bool) →
    Obeys c stimulus n run → Obeys (cut names c) stimulus n run
obeys_cut {P} names c none stimulus n run obeys t i row name bit p h row_is bit_is name_is input = obeys t i row name bit p h row_is bit_is name_is (own (cut_input names c name p input))
  where
    own : Contains c.inputs (record { name = name; place = p }) ⊎ (Contains names name × ((next : P) × IsLatch c name p next)) → Contains c.inputs (record { name = name; place = p })
    own (inl k) = k
    own (inr l) = absurd (none name l.0)

-- a place that unfolds is settled from its depth on
settled_from : (c : Circuit ℕ) (order : List ℕ) (run : ℕ → ℕ → Bool) (p k depth height t : ℕ) (tree : Tree ℕ) → Unfolds c order p k height tree → IsDepth c NoneEnabled p height → IsDepth c NoneEnabled p depth →
    depth ≤ t → IsSettled Plain c run t p
settled_from c order run p k depth height t tree unfolds own deep le =
    let h = deep.greatest height own.reached in
    depth_settled c run unfolds t (omega (arith, h, le))

module _ (a b : NetView) (expose : Bool) (conflicts : ℕ) (o : Outcome) (fits : OutcomeFits a b expose conflicts o) where
  abbrev left_circuit : Circuit ℕ
  left_circuit = cut o.exposed (circuit_of a)

  abbrev right_circuit : Circuit ℕ
  right_circuit = cut o.exposed (circuit_of b)

  abbrev columns : List (List ℕ)
  columns = columns_of a b o.exposed

  abbrev listed : List (NamedPair ℕ ℕ)
  listed = named_pairs o.exposed (circuit_of a) (circuit_of b)

  abbrev Result : ℕ → ℕ → Type 0
  Result p q = HasResult (circuit_of fits.left_cut) (circuit_of fits.right_cut) fits.left fits.right (is_cut o.exposed) conflicts o.pairs p q

  -- the numbers of the cut circuits' inputs
  left_numbers : AreNumbersOf (map (λ (i : Named ℕ). i.name) left_circuit.inputs) columns fits.left fits.right
  left_numbers = cut_numbers o.exposed columns fits.left fits.right a fits.left_cut fits.are_cut.left_circuit fits.left_numbers

  right_numbers : AreNumbersOf (map (λ (i : Named ℕ). i.name) right_circuit.inputs) columns fits.right fits.left
  right_numbers = cut_numbers o.exposed columns fits.right fits.left b fits.right_cut fits.are_cut.right_circuit fits.right_numbers

  module _ (sa : IsSound a) (sb : IsSound b) (left_distinct : AreDistinct (map (λ (p : Port). p.name) a.outputs)) (right_distinct : AreDistinct (map (λ (p : Port). p.name) b.outputs)) where
    -- each pair that is compared has its result
    pair_result : (p q : ℕ) → IsPair o.exposed (circuit_of a) (circuit_of b) p q → Result p q
    pair_result p q is_pair =
        let x = pair_listed o.exposed (circuit_of a) (circuit_of b) (sound_is_net a sa).single (sound_is_net b sb).single (sound_names a sa) (sound_names b sb) (one_output b right_distinct) p q is_pair in
        let found = result_of (circuit_of fits.left_cut) (circuit_of fits.right_cut) fits.left fits.right (is_cut o.exposed) conflicts listed o.pairs fits.pairs x.0 x.1 in
        let here : Result x.0.left x.0.right = record { index = found.0; result = found.1; at = found.2; depth_is = found.3.size_is; answer_is = found.3.answer_is } in
        subst (λ s. Result p s) x.3 (subst (λ s. Result s x.0.right) x.2 here)

    module _ (equal : o.verdict ≡ verdict.Equal) where
      -- each result is equal
      all_equal : All (λ (r : PairResult). r.answer ≡ answer.Equal) o.pairs
      all_equal = subst (λ (v : Verdict). VerdictFits (circuit_of fits.left_cut) (circuit_of fits.right_cut) fits.left fits.right columns listed o.pairs v) equal fits.verdict_is

      -- so each pair has equal functions over the cut circuits
      functions_equal : (p q : ℕ) → Result p q → HaveEqualFunctions left_circuit right_circuit fits.left fits.right p q
      functions_equal p q r =
          cut_functions o.exposed (circuit_of a) (circuit_of b) (circuit_of fits.left_cut) (circuit_of fits.right_cut) fits.are_cut.left_circuit fits.are_cut.right_circuit fits.left fits.right p q
          (equal_fits _ _ _ r.result.answer r.result.proof r.answer_is
          (All-contains (λ (x : PairResult). x.answer ≡ answer.Equal) o.pairs r.result all_equal (of_at o.pairs r.index r.result r.at)))

      -- the circuits agree, and agree onward
      circuits_agree : Agree Plain (circuit_of a) (circuit_of b) × AgreeOnward Plain o.exposed (circuit_of a) (circuit_of b)
      circuits_agree =
          exposed_functions_agree (circuit_of a) (circuit_of b) (length a.drivers) (length b.drivers) o.exposed fits.left fits.right
          (sound_is_net a sa) (sound_is_net b sb) (sound_names a sa) (sound_names b sb) fits.exposed.minimal
          (cut_numbered o.exposed columns fits.left fits.right a b fits.left_cut fits.right_cut fits.are_cut.left_circuit fits.are_cut.right_circuit fits.left_numbers fits.right_numbers)
          (λ p q is_pair. functions_equal p q (pair_result p q is_pair))

      -- no depth is above the greatest
      deep_enough : (size left right : ℕ) → size ≡ max left right → size ≤ o.through → (left ≤ o.through) × (right ≤ o.through)
      deep_enough size left right e h = (omega (arith, e, h), omega (arith, e, h))

      -- each pair is settled from the greatest depth on
      pair_settled : (left right : ℕ → ℕ → Bool) (p q : ℕ) → Result p q → IsSettled Plain left_circuit left o.through p × IsSettled Plain right_circuit right o.through q
      pair_settled left right p q r =
          let e = functions_equal p q r in
          let size : r.result.size ≤ o.through = subst (λ t. r.result.size ≤ t) (sym fits.through) (size_is_within o.pairs r.index r.result r.at) in
          let deep = deep_enough r.result.size r.depth_is.left r.depth_is.right r.depth_is.greater size in (
            settled_from left_circuit fits.left left p 0 r.depth_is.left e.left_unfolds.0 o.through e.left_tree e.left_unfolds.1
                (tree_depth left_circuit (cut_single o.exposed (circuit_of a) (sound_is_net a sa).single) e.left_unfolds.1)
                (cut_depth o.exposed (circuit_of a) (circuit_of fits.left_cut) fits.are_cut.left_circuit p r.depth_is.left r.depth_is.left_is) deep.0,
            settled_from right_circuit fits.right right q 0 r.depth_is.right e.right_unfolds.0 o.through e.right_tree e.right_unfolds.1
                (tree_depth right_circuit (cut_single o.exposed (circuit_of b) (sound_is_net b sb).single) e.right_unfolds.1)
                (cut_depth o.exposed (circuit_of b) (circuit_of fits.right_cut) fits.are_cut.right_circuit q r.depth_is.right r.depth_is.right_is) deep.1,
          )

      -- so they agree from there on
      agree_from : AgreeFrom o.through o.exposed (circuit_of a) (circuit_of b)
      agree_from n left right alike below start = circuits_agree.1 n left right alike o.through below (λ p q is_pair. pair_settled left right p q (pair_result p q is_pair)) start

    -- an equal outcome says that the circuits agree
    pub they_are_equal : o.verdict ≡ verdict.Equal → AreEqual (circuit_of a) (circuit_of b) o
    they_are_equal equal = record { agree = (circuits_agree equal).0; onward = (circuits_agree equal).1; from = agree_from equal }

    -- the first pair of an answer, with its sequence
    module _ (wanted : PairAnswer) (w : Witness)
        (f : IsFirstOfAnswer (circuit_of fits.left_cut) (circuit_of fits.right_cut) fits.left fits.right columns wanted listed o.pairs w) where
      -- over the cut circuits
      witness : IsWitness left_circuit right_circuit fits.left fits.right f.place.left f.place.right (length columns) w.stimulus.rows w.cycle w.left w.right
      witness =
          cut_witness o.exposed (circuit_of a) (circuit_of b) (circuit_of fits.left_cut) (circuit_of fits.right_cut) fits.are_cut.left_circuit fits.are_cut.right_circuit fits.left fits.right
          f.place.left f.place.right (length columns) w.stimulus.rows w.cycle w.left w.right f.shown.witness

      place_listed : Contains listed f.place
      place_listed = of_at listed f.index f.place f.place_is

      -- the printed values differ
      differ : w.left ≢ w.right
      differ = values_differ left_circuit right_circuit fits.left fits.right columns left_numbers right_numbers w f.shown.names_are f.place.left f.place.right witness

      -- each run of A's cut circuit that obeys the sequence has the printed value, and so has each of B's
      left_shows : (n : ℕ) (run : ℕ → ℕ → Bool) → w.cycle < n → IsRun left_circuit n run → Obeys left_circuit w.stimulus n run → run w.cycle f.place.left ≡ w.left
      left_shows = left_value_shows left_circuit right_circuit fits.left fits.right columns left_numbers right_numbers w f.shown.names_are f.place.left f.place.right witness

      right_shows : (n : ℕ) (run : ℕ → ℕ → Bool) → w.cycle < n → IsRun right_circuit n run → Obeys right_circuit w.stimulus n run → run w.cycle f.place.right ≡ w.right
      right_shows = right_value_shows left_circuit right_circuit fits.left fits.right columns left_numbers right_numbers w f.shown.names_are f.place.left f.place.right witness

      -- so the sequence makes the pair of the cut circuits differ
      first_of_cuts : MakesCutsDiffer o.exposed (circuit_of a) (circuit_of b) w
      first_of_cuts = record {
        left_place = f.place.left;
        right_place = f.place.right;
        places = subst (λ (n : PairName). ArePlacesOf (circuit_of a) (circuit_of b) n f.place.left f.place.right) (sym f.shown.named) (listed_places o.exposed (circuit_of a) (circuit_of b) f.place place_listed);
        differ = differ;
        left_shows = left_shows;
        right_shows = right_shows;
      }

    -- a pair is told to be different only where nothing is exposed
    module _ (w : Witness) (f : IsFirstOfAnswer (circuit_of fits.left_cut) (circuit_of fits.right_cut) fits.left fits.right columns answer.Different listed o.pairs w) where
      nothing : (name : List ℕ) → Contains o.exposed name → ⊥
      nothing = none_exposed o.exposed
          (different_fits _ _ _ found.0.answer found.0.proof found.2.answer_is
          (ap (λ (r : PairResult). r.answer) (same_some (sym found.1 ∙ f.result_is)) ∙ f.answered)).0
        where
          found : (r : PairResult) × (slice_get o.pairs f.index ≡ Some r) × PairFits (circuit_of fits.left_cut) (circuit_of fits.right_cut) fits.left fits.right (is_cut o.exposed) conflicts f.place r
          found = zip_right (PairFits (circuit_of fits.left_cut) (circuit_of fits.right_cut) fits.left fits.right (is_cut o.exposed) conflicts) listed o.pairs fits.pairs f.index f.place f.place_is

      -- so it is a pair of outputs
      outputs : IsOutputPair (circuit_of a) (circuit_of b) f.place
      outputs = go (listed_is o.exposed (circuit_of a) (circuit_of b) f.place (place_listed answer.Different w f))
        where
          go : IsOutputPair (circuit_of a) (circuit_of b) f.place ⊎ IsNextPair o.exposed (circuit_of a) (circuit_of b) f.place → IsOutputPair (circuit_of a) (circuit_of b) f.place
          go (inl x) = x
          go (inr x) = absurd (nothing x.name x.exposed)

      -- and the runs of the circuits are those of the cut circuits
      first_of_circuits : MakesDiffer (circuit_of a) (circuit_of b) w
      first_of_circuits = record {
        name = outputs.name;
        left_place = f.place.left;
        right_place = f.place.right;
        named = f.shown.named ∙ outputs.called;
        left_output = outputs.left_output;
        right_output = outputs.right_output;
        differ = differ answer.Different w f;
        left_shows = λ n run below is_run obeys.
            left_shows answer.Different w f n run below (cut_run o.exposed (circuit_of a) n n run (omega arith) is_run) (obeys_cut o.exposed (circuit_of a) nothing w.stimulus n run obeys);
        right_shows = λ n run below is_run obeys.
            right_shows answer.Different w f n run below (cut_run o.exposed (circuit_of b) n n run (omega arith) is_run) (obeys_cut o.exposed (circuit_of b) nothing w.stimulus n run obeys);
      }

    -- the sequence of a difference makes the circuits differ
    pub makes_differ : (w : Witness) → o.verdict ≡ verdict.Different w → MakesDiffer (circuit_of a) (circuit_of b) w
    makes_differ w e =
        first_of_circuits w (subst (λ (v : Verdict). VerdictFits (circuit_of fits.left_cut) (circuit_of fits.right_cut) fits.left fits.right columns listed o.pairs v) e fits.verdict_is)

    -- the sequence of what isn't shown makes the cut circuits differ
    pub makes_cuts_differ : (w : Witness) → o.verdict ≡ verdict.NotShown (why.Cut w) → MakesCutsDiffer o.exposed (circuit_of a) (circuit_of b) w
    makes_cuts_differ w e = first_of_cuts answer.NotShown w told.2
      where
        told : NoneIs answer.Different o.pairs × NoneIs answer.Limit o.pairs
            × IsFirstOfAnswer (circuit_of fits.left_cut) (circuit_of fits.right_cut) fits.left fits.right columns answer.NotShown listed o.pairs w
        told = subst (λ (v : Verdict). VerdictFits (circuit_of fits.left_cut) (circuit_of fits.right_cut) fits.left fits.right columns listed o.pairs v) e fits.verdict_is
