-- What equal, different and a sequence that isn't shown say of the circuits under an assumption.
use Rattle.std.proofs.Common.{◌≡◌, ◌∙◌, ℕ, Bool, false, List, length, slice_get, Some, sym, ap, subst}
use Rattle.std.specs.List.{Contains}
use Rattle.circuit_theory.proofs.Lists.{Contains-map, of_at, zip_right}
use Rattle.circuit_theory.specs.Sequence.{sequence_rows}
use Rattle.circuit_theory.specs.Frame.{bits_as_shifts}
use Rattle.flat_net.specs.View.{NetView, circuit_of}
use Rattle.flat_net.proofs.Nets.{sound_is_net, sound_names}
use Rattle.sec_setup.specs.declared.ports.pairs.SignalPair.{SignalPair}
use Rattle.sec_setup.specs.ports.Pairs.{NamedPair, named_pairs, places_of}
use Rattle.sec_base.specs.declared.basics.PairAnswer.TheVariants as answer
use Rattle.sec_setup.specs.Cuts.{columns_of, is_cut}
use Rattle.witness_report.specs.declared.witness.Witness.{Witness}
use Rattle.witness_report.specs.Shown.{MakesDiffer, MakesCutsDiffer}
use Rattle.obligations.specs.declared.outcome.verdict.Outcome.{Outcome}
use Rattle.obligations.specs.declared.outcome.verdict.PairResult.{PairResult}
use Rattle.edbf_unfold.specs.class_queries.Enables.{both_of}
use Rattle.event_setup.proofs.event_meaning.event_names.event_fits.Differing.{cuts_differ, circuits_differ}
use Rattle.event_setup.proofs.event_meaning.Cases.{cut_found, cut_no_limit, different_found, different_no_limit, equal_found, equal_no_limit}
use Rattle.assume_laws.specs.Assume.{Assumption}
use Rattle.assume_laws.specs.Sequences.{filled_frame}
use Rattle.event_under.specs.Answers.{PairFitsUnder}
use Rattle.event_under.proofs.Agreeing.{cuts_agree}
use Rattle.event_under.specs.event_shown_under.event_under_fits.Findings.{IsSequenceUnder, VerdictFitsUnder}
use Rattle.obligations.proofs.Fits.{different_fits}
use Rattle.event_setup.specs.event_meaning.event_names.event_fits.Findings.{IsFirstWith}
use Rattle.event_setup.specs.event_meaning.event_names.event_fits.Circuits.{AreNets}
use Rattle.event_setup.specs.event_meaning.event_names.event_fits.Named.{latch_names}
use Rattle.event_setup.specs.event_meaning.event_meaning_under.Fitted.{IsComparedByPairsUnder}
use Rattle.event_setup.specs.event_meaning.event_meaning_under.Laws.{CutOutcomesDifferUnder, DifferentOutcomesDifferUnder, EqualOutcomesAgreeUnder}
use Rattle.event_setup.proofs.event_meaning.event_meaning_under.Bare.{bare}
use Rattle.event_setup.proofs.event_meaning.event_meaning_under.Comparing.{all_pairs, compared_under, deep, kept, numbers}

same_some : {X : Type 0} {x y : X} → Some x ≡ Some y → x ≡ y
same_some q = cc

pub equal_outcomes : EqualOutcomesAgreeUnder
equal_outcomes c weight meeting a b expose conflicts o nets fits e =
    let k = compared_under c weight meeting a b expose conflicts o fits (equal_no_limit o.verdict e) in
    cuts_agree c (circuit_of a) (circuit_of b) (length a.drivers) (length b.drivers) o.exposed k.left k.right bare k.compared.cut conflicts k.compared.pairs.now k.found.pairs
    (sound_is_net a nets.left) (sound_is_net b nets.right) (sound_names a nets.left) (sound_names b nets.right) k.reached.circuits.minimal k.reached.circuits.are_cut.left_circuit k.reached.circuits.are_cut.right_circuit
    (kept c weight meeting a b expose conflicts o k) k.made.map (deep c weight meeting a b expose conflicts o k) (numbers c weight meeting a b expose conflicts o k) k.reads k.fits.pairs_fit
    (subst (VerdictFitsUnder c k.left k.right meeting k.compared k.found.pairs) (equal_found (latch_names k.left.net) (latch_names k.right.net) (columns_of a b o.exposed) k.found.verdict o.verdict k.verdict_is e) k.fits.verdict_is)
    (all_pairs c weight meeting a b expose conflicts o k nets)

-- no latch is cut open where a pair is different
module _ (c : Assumption) (weight : ℕ) (meeting : ℕ → Bool) (a b : NetView) (expose : Bool) (conflicts : ℕ) (o : Outcome) (k : IsComparedByPairsUnder c weight meeting a b expose conflicts o) (index : ℕ) (place : SignalPair)
    (first : IsFirstWith answer.Different k.compared.pairs.now k.found.pairs index place) where
  result : (r : PairResult) × (slice_get k.found.pairs index ≡ Some r) × PairFitsUnder c (both_of k.left k.right) k.compared.cut conflicts place r
  result = zip_right (PairFitsUnder c (both_of k.left k.right) k.compared.cut conflicts) k.compared.pairs.now k.found.pairs k.fits.pairs_fit index place first.pair_at

  uncut : is_cut o.exposed ≡ false
  uncut =
      sym k.cut
      ∙ (different_fits _ _ _ result.0.answer result.0.proof result.2.answer_is (ap (λ (x : PairResult). x.answer) (same_some (sym result.1 ∙ first.result_at)) ∙ first.answered)).0.0

-- the first pair of an answer, with its sequence
module _ (c : Assumption) (weight : ℕ) (meeting : ℕ → Bool) (a b : NetView) (expose : Bool) (conflicts : ℕ) (o : Outcome) (nets : AreNets a b) (k : IsComparedByPairsUnder c weight meeting a b expose conflicts o) (index : ℕ) (place : SignalPair)
    (at : slice_get k.compared.pairs.now index ≡ Some place) (w : Witness) (named : w.pair ≡ place.name) (sequence : IsSequenceUnder c k.left k.right k.compared.names.now meeting place w) where
  listed : Contains (named_pairs o.exposed (circuit_of a) (circuit_of b)) (places_of place)
  listed = subst (λ (xs : List (NamedPair ℕ ℕ)). Contains xs (places_of place)) k.listed (Contains-map places_of k.compared.pairs.now place (of_at k.compared.pairs.now index place at))

  abbrev shifts : ℕ → ℕ → Bool
  shifts = bits_as_shifts (filled_frame sequence.sides sequence.variables meeting sequence.bits)

  rows : w.stimulus.rows ≡ sequence_rows w.cycle shifts (length (columns_of a b o.exposed))
  rows = sequence.rows_are ∙ ap (λ (ns : List (List ℕ)). sequence_rows w.cycle shifts (length ns)) k.names

  cut_shown : MakesCutsDiffer o.exposed (circuit_of a) (circuit_of b) w
  cut_shown = cuts_differ a b expose o.exposed k.left k.right nets k.reached.circuits place listed w named (sequence.names_are ∙ k.names) shifts rows sequence.differ

  shown : is_cut o.exposed ≡ false → MakesDiffer (circuit_of a) (circuit_of b) w
  shown whole = circuits_differ a b expose o.exposed k.left k.right nets k.reached.circuits place listed w named (sequence.names_are ∙ k.names) shifts rows sequence.differ whole

pub different_outcomes : DifferentOutcomesDifferUnder
different_outcomes c weight meeting a b expose conflicts o nets fits w e =
    let k = compared_under c weight meeting a b expose conflicts o fits (different_no_limit o.verdict w e) in
    let f = subst (VerdictFitsUnder c k.left k.right meeting k.compared k.found.pairs) (different_found (latch_names k.left.net) (latch_names k.right.net) (columns_of a b o.exposed) k.found.verdict o.verdict w k.verdict_is e) k.fits.verdict_is in
    (shown c weight meeting a b expose conflicts o nets k f.index f.place f.first.pair_at w f.named f.sequence (uncut c weight meeting a b expose conflicts o k f.index f.place f.first), f.sequence.meets)

pub cut_outcomes : CutOutcomesDifferUnder
cut_outcomes c weight meeting a b expose conflicts o nets fits w e =
    let k = compared_under c weight meeting a b expose conflicts o fits (cut_no_limit o.verdict w e) in
    let f = subst (VerdictFitsUnder c k.left k.right meeting k.compared k.found.pairs) (cut_found (latch_names k.left.net) (latch_names k.right.net) (columns_of a b o.exposed) k.found.verdict o.verdict w k.verdict_is e) k.fits.verdict_is in
    (cut_shown c weight meeting a b expose conflicts o nets k f.2.index f.2.place f.2.first.pair_at w f.2.named f.2.sequence, f.2.sequence.meets)
