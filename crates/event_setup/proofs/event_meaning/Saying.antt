-- What equal, different and a sequence that isn't shown say of the circuits.
use Rattle.std.proofs.Common.{◌≡◌, ◌∙◌, ℕ, Bool, false, List, length, slice_get, Some, sym, ap, subst}
use Rattle.std.specs.List.{Contains}
use Rattle.circuit_theory.proofs.Lists.{Contains-map, of_at, zip_right}
use Rattle.circuit_theory.specs.Sequence.{sequence_rows}
use Rattle.circuit_theory.specs.Frame.{bits_as_shifts}
use Rattle.circuit_theory.specs.EventFrames.{frame_of}
use Rattle.flat_net.specs.View.{NetView, circuit_of}
use Rattle.sec_setup.specs.declared.ports.pairs.SignalPair.{SignalPair}
use Rattle.sec_setup.specs.ports.Pairs.{NamedPair, named_pairs, places_of}
use Rattle.sec_base.specs.declared.basics.PairAnswer.TheVariants as answer
use Rattle.sec_setup.specs.Cuts.{columns_of, is_cut}
use Rattle.witness_report.specs.declared.witness.Witness.{Witness}
use Rattle.witness_report.specs.Shown.{MakesDiffer, MakesCutsDiffer}
use Rattle.obligations.specs.declared.outcome.verdict.Outcome.{Outcome}
use Rattle.obligations.specs.declared.outcome.verdict.PairResult.{PairResult}
use Rattle.edbf_unfold.specs.class_queries.Enables.{both_of}
use Rattle.obligations.proofs.Fits.{different_fits}
use Rattle.event_setup.specs.event_meaning.event_names.event_fits.Circuits.{AreNets}
use Rattle.event_setup.proofs.event_meaning.event_names.event_fits.Agreeing.{circuits_agree}
use Rattle.event_setup.proofs.event_meaning.event_names.event_fits.Differing.{cuts_differ, circuits_differ}
use Rattle.event_setup.specs.event_meaning.event_names.event_fits.Answers.{PairFits}
use Rattle.event_setup.specs.event_meaning.event_names.event_fits.Findings.{IsFirstWith, IsSequenceOf, VerdictFits}
use Rattle.event_setup.specs.event_meaning.event_names.event_fits.Fitting.{IsComparedByPairs}
use Rattle.event_setup.specs.event_meaning.event_names.event_fits.Named.{latch_names}
use Rattle.event_setup.specs.event_meaning.Laws.{CutOutcomesDiffer, DifferentOutcomesDiffer, EqualOutcomesAgree}
use Rattle.event_setup.proofs.event_meaning.Cases.{compared, cut_found, cut_no_limit, different_found, different_no_limit, equal_found, equal_no_limit}

same_some : {X : Type 0} {x y : X} → Some x ≡ Some y → x ≡ y
same_some q = cc

pub equal_outcomes : EqualOutcomesAgree
equal_outcomes a b expose conflicts o nets fits e =
    let c = compared a b expose conflicts o fits (equal_no_limit o.verdict e) in
    circuits_agree a b expose o.exposed c.left c.right nets c.reached.circuits c.made.map c.compared.cut conflicts c.compared.pairs.now c.found.pairs c.listed c.fits.pairs_fit
    (subst (VerdictFits c.left c.right c.compared c.found.pairs) (equal_found (latch_names c.left.net) (latch_names c.right.net) (columns_of a b o.exposed) c.found.verdict o.verdict c.verdict_is e) c.fits.verdict_is)

-- no latch is cut open where a pair is different
module _ (a b : NetView) (expose : Bool) (conflicts : ℕ) (o : Outcome) (c : IsComparedByPairs a b expose conflicts o) (index : ℕ) (place : SignalPair) (first : IsFirstWith answer.Different c.compared.pairs.now c.found.pairs index place) where
  result : (r : PairResult) × (slice_get c.found.pairs index ≡ Some r) × PairFits (both_of c.left c.right) c.compared.cut conflicts place r
  result = zip_right (PairFits (both_of c.left c.right) c.compared.cut conflicts) c.compared.pairs.now c.found.pairs c.fits.pairs_fit index place first.pair_at

  pub uncut : is_cut o.exposed ≡ false
  uncut =
      sym c.cut
      ∙ (different_fits _ _ _ result.0.answer result.0.proof result.2.answer_is (ap (λ (x : PairResult). x.answer) (same_some (sym result.1 ∙ first.result_at)) ∙ first.answered)).0.0

-- the first pair of an answer, with its sequence
module _ (a b : NetView) (expose : Bool) (conflicts : ℕ) (o : Outcome) (nets : AreNets a b) (c : IsComparedByPairs a b expose conflicts o) (index : ℕ) (place : SignalPair)
    (at : slice_get c.compared.pairs.now index ≡ Some place) (w : Witness) (named : w.pair ≡ place.name) (sequence : IsSequenceOf c.left c.right c.compared.names.now place w) where
  listed : Contains (named_pairs o.exposed (circuit_of a) (circuit_of b)) (places_of place)
  listed = subst (λ (xs : List (NamedPair ℕ ℕ)). Contains xs (places_of place)) c.listed (Contains-map places_of c.compared.pairs.now place (of_at c.compared.pairs.now index place at))

  abbrev shifts : ℕ → ℕ → Bool
  shifts = bits_as_shifts (frame_of sequence.variables sequence.bits)

  rows : w.stimulus.rows ≡ sequence_rows w.cycle shifts (length (columns_of a b o.exposed))
  rows = sequence.rows_are ∙ ap (λ (ns : List (List ℕ)). sequence_rows w.cycle shifts (length ns)) c.names

  cut_shown : MakesCutsDiffer o.exposed (circuit_of a) (circuit_of b) w
  cut_shown = cuts_differ a b expose o.exposed c.left c.right nets c.reached.circuits place listed w named (sequence.names_are ∙ c.names) shifts rows sequence.differ

  shown : is_cut o.exposed ≡ false → MakesDiffer (circuit_of a) (circuit_of b) w
  shown whole = circuits_differ a b expose o.exposed c.left c.right nets c.reached.circuits place listed w named (sequence.names_are ∙ c.names) shifts rows sequence.differ whole

pub different_outcomes : DifferentOutcomesDiffer
different_outcomes a b expose conflicts o nets fits w e =
    let c = compared a b expose conflicts o fits (different_no_limit o.verdict w e) in
    let f = subst (VerdictFits c.left c.right c.compared c.found.pairs) (different_found (latch_names c.left.net) (latch_names c.right.net) (columns_of a b o.exposed) c.found.verdict o.verdict w c.verdict_is e) c.fits.verdict_is in
    shown a b expose conflicts o nets c f.index f.place f.first.pair_at w f.named f.sequence (uncut a b expose conflicts o c f.index f.place f.first)

pub cut_outcomes : CutOutcomesDiffer
cut_outcomes a b expose conflicts o nets fits w e =
    let c = compared a b expose conflicts o fits (cut_no_limit o.verdict w e) in
    let f = subst (VerdictFits c.left c.right c.compared c.found.pairs) (cut_found (latch_names c.left.net) (latch_names c.right.net) (columns_of a b o.exposed) c.found.verdict o.verdict w c.verdict_is e) c.fits.verdict_is in
    cut_shown a b expose conflicts o nets c f.2.index f.2.place f.2.first.pair_at w f.2.named f.2.sequence
