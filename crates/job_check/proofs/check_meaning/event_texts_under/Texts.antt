-- What an outcome of the comparison of two nets in the event mode under an assumption says of the texts that load as them.
use Rattle.std.specs.List.{Contains}
use Rattle.std.specs.Prelude.{◌⊎◌}
use Rattle.std.proofs.Common.{◌≡◌, ◌∙◌, ℕ, List, [], Option, Some, slice_get, refl, sym, ap, subst, inl, inr}
use Rattle.std.proofs.lemmas.List.Elements.{Contains-append_left}
use Rattle.circuit_theory.proofs.Lists.{Contains-head, of_at}
use Rattle.base_shelves.specs.Outside.{Takes}
use Rattle.sec_base.specs.declared.settings.Settings.{Settings}
use Rattle.witness_report.specs.declared.witness.PairName.{PairName}
use Rattle.witness_report.specs.declared.witness.Witness.{Witness}
use Rattle.flat_net.specs.View.{NetView, circuit_of}
use Rattle.pair_decide.specs.declared.query.Proof.{Proof}
use Rattle.obligations.specs.declared.outcome.verdict.LimitAt.{LimitAt}
use Rattle.obligations.specs.declared.outcome.verdict.LimitAt.TheVariants as limit_at
use Rattle.obligations.specs.declared.outcome.verdict.Outcome.{Outcome}
use Rattle.obligations.specs.declared.outcome.verdict.PairResult.{PairResult}
use Rattle.obligations.specs.declared.outcome.verdict.ResetWitness.{ResetWitness}
use Rattle.obligations.specs.declared.outcome.verdict.Unshown.{Unshown}
use Rattle.obligations.specs.declared.outcome.verdict.Verdict.{Verdict}
use Rattle.obligations.specs.declared.outcome.verdict.Verdict.TheVariants as verdict
use Rattle.obligations.specs.declared.outcome.verdict.Why.{Why}
use Rattle.obligations.specs.declared.outcome.verdict.Why.TheVariants as why
use Rattle.obligations.specs.outcome.Report.{report_text}
use Rattle.obligations.specs.outcome.Proofs.{verdict_proofs}
use Rattle.pair_texts.specs.assume_texts.job_base.Written.{outcome_proofs}
use Rattle.pair_texts.proofs.assume_texts.job_base.Limits.{pair_proofs}
use Rattle.sec_setup.specs.Cuts.{columns_of}
use Rattle.swept_queries.proofs.Listed.{zip_left}
use Rattle.edbf_unfold.specs.class_queries.Enables.{both_of}
use Rattle.pair_texts.proofs.assume_texts.outcome_fits.Fitted.{kept_proof, no_names, some_names, were_exposed}
use Rattle.assume_laws.specs.Assume.{Assumption}
use Rattle.assume_laws.specs.Sequences.{RowsMeet}
use Rattle.event_under.specs.Answers.{PairFitsUnder}
use Rattle.event_setup.specs.event_meaning.EventVerdict.{EventVerdict}
use Rattle.event_setup.specs.event_meaning.EventVerdict.TheVariants as found
use Rattle.event_setup.proofs.event_meaning.Cases.{cut_found, cut_no_limit, different_found, different_no_limit, equal_no_limit}
use Rattle.event_setup.specs.event_meaning.event_meaning_under.Answered.{IsComparedInEventsUnder}
use Rattle.event_setup.specs.event_meaning.event_meaning_under.Findings.{VerdictFitsUnder}
use Rattle.event_setup.specs.event_meaning.event_meaning_under.Fitted.{IsComparedByPairsUnder}
use Rattle.event_setup.specs.event_meaning.event_names.event_fits.Fitting.{IsUnclassed, IsUnrecovered}
use Rattle.event_setup.specs.event_meaning.event_meaning_under.Met.{shared_by}
use Rattle.event_setup.specs.event_meaning.event_names.event_fits.Named.{latch_names, NamesVerdict}
use Rattle.event_setup.specs.event_meaning.event_meaning_under.Taken.{assumed_by}
use Rattle.pair_texts.specs.assume_texts.sec_files.Loading.{Loads}
use Rattle.pair_texts.proofs.assume_texts.text_circuits.Circuits.{text_design, texts_cuts_differ, texts_differ_by}
use Rattle.job_base.proofs.design_laws.event_designs.FlatEventAgree.{minimal_up}
use Rattle.pair_texts.specs.assume_texts.Meets.{SequenceMeetsCircuit}
use Rattle.pair_texts.specs.assume_texts.Texts.{ThreeCircuits}
use Rattle.pair_texts.proofs.assume_texts.Designs.{sequence_up}
use Rattle.pair_texts.proofs.assume_texts.Sequences.{run_meets, sequence_meets}
use Rattle.pair_texts.proofs.assume_texts.Texts.{spelled}
use Rattle.job_check.specs.check_meaning.event_texts_under.Texts.{AgreeInEvents, EventCutsDifferUnder, EventTextsAgreeUnder, EventTextsDifferUnder, EventTextsNotShownUnder, EventTextsUndecidedUnder, EventTextsUnshownUnder, IsPrintedUnder, IsUndecidedIn}
use Rattle.obligations.proofs.Fits.{limit_fits}
use Rattle.job_check.proofs.check_meaning.event_texts_under.Cases.{compared, uncut}
use Rattle.job_check.proofs.check_meaning.event_texts_under.Designs.{events_up}

same_some : {X : Type 0} {x y : X} → Some x ≡ Some y → x ≡ y
same_some q = cc

-- what was found where a limit is told, and that no difference from initial values is
module _ (left right columns : List (List ℕ)) where
  limit_found : (x : EventVerdict) (v : Verdict) (at : LimitAt) → NamesVerdict left right columns x v → v ≡ verdict.Limit at → (name : PairName) × (x ≡ found.Limit name) × (at ≡ limit_at.Pair name)
  limit_found found.Equal v at h e = absurd (cc)
  limit_found (found.Different w) v at h e = absurd (cc)
  limit_found (found.Limit name) v at h e = (name, refl, cc)
  limit_found (found.Cut w) v at h e = absurd (cc)
  limit_found (found.Events x) v at h e = absurd (let q = h.1 in cc)

  none_from : (x : EventVerdict) (v : Verdict) (w : ResetWitness) → NamesVerdict left right columns x v → v ≡ verdict.DifferentFrom w → ⊥
  none_from found.Equal v w h e = cc
  none_from (found.Different y) v w h e = cc
  none_from (found.Limit name) v w h e = cc
  none_from (found.Cut y) v w h e = cc
  none_from (found.Events x) v w h e = let q = h.1 in cc

from_no_limit : (v : Verdict) (w : ResetWitness) → v ≡ verdict.DifferentFrom w → (at : LimitAt) → v ≡ verdict.Limit at → ⊥
from_no_limit v w e at h = cc

module _ (x y z : List ℕ) (a b c : NetView) (left : Loads x a) (right : Loads y b) (assumed : Loads z c) (before now : Option (List ℕ)) (settings : Settings) (o : Outcome)
    (taken : Takes before now (report_text settings o)) (is : IsComparedInEventsUnder a b c settings o) where
  abbrev texts : ThreeCircuits x y z
  texts = spelled x y z a b c left right assumed

  abbrev under : Assumption
  under = assumed_by is.met.assumed

  abbrev printed : IsPrintedUnder a b c settings o before now
  printed = record { met = is.met; assumed = is.assumed; fits = is.fits; printed = taken }

  abbrev Compared : Type 0
  Compared = IsComparedByPairsUnder under is.met.assumed.weight is.met.row a b settings.expose settings.conflicts o

  -- the pairs are compared where the verdict is no limit
  by_pairs : ((at : LimitAt) → o.verdict ≡ verdict.Limit at → ⊥) → Compared
  by_pairs apart = compared under is.met.assumed.weight is.met.row a b settings.expose settings.conflicts o is.fits apart

  pub events_agree : o.verdict ≡ verdict.Equal → EventTextsAgreeUnder x y z settings before now
  events_agree e =
      let s = by_pairs (equal_no_limit o.verdict e) in
      let says = is.equal e in
      let nets : AgreeInEvents (circuit_of c) (circuit_of a) (circuit_of b) o.exposed = (
        λ n l r alike meets. says.0 n l r alike (run_meets (shared_by a b) c is.met.assumed (circuit_of a) n l meets),
        λ n l r alike meets. says.1 n l r alike (run_meets (shared_by a b) c is.met.assumed (circuit_of a) n l meets),
      ) in
      record {
        spelled = texts;
        outcome = o;
        is_printed = printed;
        is_verdict = e;
        minimal = minimal_up (text_design x a left) (text_design y b right) o.exposed s.reached.circuits.minimal;
        says = events_up (text_design x a left) (text_design y b right) (text_design z c assumed) o.exposed nets;
        nets_say = nets;
      }

  -- what was found gives the verdict
  given : (s : Compared) (v : EventVerdict) → s.found.verdict ≡ v → VerdictFitsUnder under s.left s.right is.met.row s.compared s.found.pairs v
  given s v e = subst (VerdictFitsUnder under s.left s.right is.met.row s.compared s.found.pairs) e s.fits.verdict_is

  -- a sequence over the columns whose rows meet the assumption
  net_met : (w : Witness) → w.stimulus.names ≡ columns_of a b o.exposed → RowsMeet under w.stimulus.rows w.cycle → SequenceMeetsCircuit (circuit_of c) w.stimulus w.cycle
  net_met w names rows = sequence_meets (shared_by a b) c is.met.assumed o.exposed w.stimulus names w.cycle rows

  -- no difference is one from initial values
  pub events_always : (w : ResetWitness) → o.verdict ≡ verdict.DifferentFrom w → ⊥
  events_always w e =
      let s = by_pairs (from_no_limit o.verdict w e) in
      none_from (latch_names s.left.net) (latch_names s.right.net) (columns_of a b o.exposed) s.found.verdict o.verdict w s.verdict_is e

  pub events_differ : (w : Witness) → o.verdict ≡ verdict.Different w → EventTextsDifferUnder x y z settings before now
  events_differ w e =
      let s = by_pairs (different_no_limit o.verdict w e) in
      let f = given s (found.Different w) (different_found (latch_names s.left.net) (latch_names s.right.net) (columns_of a b o.exposed) s.found.verdict o.verdict w s.verdict_is e) in
      let shows = is.different w e in
      record {
        spelled = texts;
        outcome = o;
        is_printed = printed;
        witness = w;
        is_verdict = e;
        uncut = no_names o.exposed (uncut under is.met.assumed.weight is.met.row a b settings.expose settings.conflicts o s f.index f.place f.first);
        says = texts_differ_by x y a b left right w shows.0;
        meets = sequence_up (text_design z c assumed) w.stimulus w.cycle (net_met w (f.sequence.names_are ∙ s.names) shows.1);
      }

  cuts_differ : (w : Witness) → o.verdict ≡ verdict.NotShown (why.Cut w) → EventCutsDifferUnder x y z settings before now
  cuts_differ w e =
      let s = by_pairs (cut_no_limit o.verdict w e) in
      let f = (given s (found.Cut w) (cut_found (latch_names s.left.net) (latch_names s.right.net) (columns_of a b o.exposed) s.found.verdict o.verdict w s.verdict_is e)).2 in
      let exposed = some_names o.exposed (sym s.cut ∙ f.cut) in
      let columns = f.sequence.names_are ∙ s.names in
      let shows = is.not_shown w e in
      let met = net_met w columns shows.1 in
      record {
        spelled = texts;
        outcome = o;
        is_printed = printed;
        witness = w;
        is_verdict = e;
        exposes = were_exposed settings.expose o.exposed s.reached.circuits.closed exposed;
        exposed = exposed;
        minimal = minimal_up (text_design x a left) (text_design y b right) o.exposed s.reached.circuits.minimal;
        columns = columns;
        says = texts_cuts_differ x y a b left right o.exposed w shows.0;
        meets = sequence_up (text_design z c assumed) w.stimulus w.cycle met;
        nets_say = shows.0;
        nets_meet = met;
      }

  events_unshown : (u : Unshown) → o.verdict ≡ verdict.NotShown (why.Events u) → EventTextsUnshownUnder x y z settings before now
  events_unshown u e = record {
    spelled = texts;
    outcome = o;
    is_printed = printed;
    unshown = u;
    is_verdict = e;
    framed = is.unshown u e;
  }

  pub events_not_shown : (reason : Why) → o.verdict ≡ verdict.NotShown reason → EventTextsNotShownUnder x y z settings before now
  events_not_shown (why.Cut w) e = inl (cuts_differ w e)
  events_not_shown (why.Events u) e = inr (events_unshown u e)

  -- the proof of a limit that was met before pairs were asked about is kept
  limit_kept : (proofs : List Proof) (v : Verdict) (proof : Proof) → proofs ≡ outcome_proofs o → o.verdict ≡ v → Contains (verdict_proofs v) proof → Contains proofs proof
  limit_kept proofs v proof kept e h =
      let early : Contains (verdict_proofs o.verdict) proof = subst (λ (k : Verdict). Contains (verdict_proofs k) proof) (sym e) h in
      subst (λ (ps : List Proof). Contains ps proof) (sym kept) (Contains-append_left (verdict_proofs o.verdict) _ proof early)

  module _ (proofs : List Proof) (kept : proofs ≡ outcome_proofs o) (at : LimitAt) (e : o.verdict ≡ verdict.Limit at) where
    undecided_by : (proof : Proof) → Contains proofs proof → IsUndecidedIn is.met settings o proof → EventTextsUndecidedUnder x y z settings proofs before now
    undecided_by proof own undecided = record {
      spelled = texts;
      outcome = o;
      is_printed = printed;
      at = at;
      is_verdict = e;
      proof = proof;
      kept = own;
      undecided = undecided;
    }

    pair_undecided : Compared → EventTextsUndecidedUnder x y z settings proofs before now
    pair_undecided s =
        let n = limit_found (latch_names s.left.net) (latch_names s.right.net) (columns_of a b o.exposed) s.found.verdict o.verdict at s.verdict_is e in
        let f = (given s (found.Limit n.0) n.1).1 in
        let one = zip_left (PairFitsUnder under (both_of s.left s.right) s.compared.cut settings.conflicts) s.compared.pairs.now s.found.pairs s.fits.pairs_fit f.index f.first.result f.first.result_at in
        let same : one.0 ≡ f.place = same_some (sym one.1 ∙ f.first.pair_at) in
        let fits = subst (λ p. PairFitsUnder under (both_of s.left s.right) s.compared.cut settings.conflicts p f.first.result) same one.2 in
        let g = limit_fits _ _ _ f.first.result.answer f.first.result.proof fits.answer_is f.first.answered in
        let here : slice_get o.pairs f.index ≡ Some f.first.result = ap (λ (rs : List PairResult). slice_get rs f.index) s.pairs ∙ f.first.result_at in
        let own = kept ∙ pair_proofs o n.0 (e ∙ ap verdict.Limit n.2) in
        undecided_by g.0 (subst (λ (ps : List Proof). Contains ps g.0) (sym own) (kept_proof o.pairs f.first.result g.0 (of_at o.pairs f.index f.first.result here) g.1))
        (inr (inr (record {
          compared = s;
          index = f.index;
          place = f.place;
          result = f.first.result;
          place_at = f.first.pair_at;
          result_at = here;
          limit = f.first.answered;
          verdict_is = e ∙ ap verdict.Limit (n.2 ∙ ap limit_at.Pair (f.named ∙ sym fits.name_is));
          kept = g.1;
          undecided = g.2;
        })))

    by_cause : IsUnrecovered a b settings.conflicts o ⊎ (IsUnclassed a b settings.expose settings.conflicts o ⊎ Compared) → EventTextsUndecidedUnder x y z settings proofs before now
    by_cause (inl k) = undecided_by k.proof (limit_kept proofs _ k.proof kept k.verdict_is (Contains-head k.proof [])) (inl (k, refl))
    by_cause (inr (inl k)) = undecided_by k.proof (limit_kept proofs _ k.proof kept k.verdict_is (Contains-head k.proof [])) (inr (inl (k, refl)))
    by_cause (inr (inr s)) = pair_undecided s

  pub events_undecided : (proofs : List Proof) (at : LimitAt) → o.verdict ≡ verdict.Limit at → proofs ≡ outcome_proofs o → EventTextsUndecidedUnder x y z settings proofs before now
  events_undecided proofs at e kept = by_cause proofs kept at e is.fits.rest
