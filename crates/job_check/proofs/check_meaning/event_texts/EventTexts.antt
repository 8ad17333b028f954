-- What an outcome of the comparison of two nets in the event mode says of the texts that load as them.
use Rattle.std.specs.List.{Contains}
use Rattle.std.specs.Prelude.{◌⊎◌}
use Rattle.std.proofs.Common.{◌≡◌, ◌∙◌, ℕ, List, [], Option, Some, slice_get, refl, sym, ap, subst, inl, inr}
use Rattle.std.proofs.lemmas.List.Elements.{Contains-append_left}
use Rattle.circuit_theory.proofs.Lists.{Contains-head, of_at}
use Rattle.base_shelves.specs.Outside.{Takes}
use Rattle.sec_base.specs.declared.settings.Settings.{Settings}
use Rattle.witness_report.specs.declared.witness.PairName.{PairName}
use Rattle.witness_report.specs.declared.witness.Witness.{Witness}
use Rattle.flat_net.specs.View.{NetView}
use Rattle.pair_decide.specs.declared.query.Proof.{Proof}
use Rattle.obligations.specs.declared.outcome.verdict.LimitAt.{LimitAt}
use Rattle.obligations.specs.declared.outcome.verdict.LimitAt.TheVariants as limit_at
use Rattle.obligations.specs.declared.outcome.verdict.Outcome.{Outcome}
use Rattle.obligations.specs.declared.outcome.verdict.PairResult.{PairResult}
use Rattle.obligations.specs.declared.outcome.verdict.ResetWitness.{ResetWitness}
use Rattle.obligations.specs.declared.outcome.verdict.Unshown.{Unshown}
use Rattle.obligations.specs.declared.outcome.verdict.Verdict.{Verdict}
use Rattle.obligations.specs.declared.outcome.verdict.Verdict.TheVariants as verdict
use Rattle.obligations.specs.declared.outcome.verdict.Why.{Why}
use Rattle.obligations.specs.declared.outcome.verdict.Why.TheVariants as why
use Rattle.obligations.specs.outcome.Report.{report_text}
use Rattle.obligations.specs.outcome.Proofs.{verdict_proofs}
use Rattle.job_base.specs.Written.{outcome_proofs}
use Rattle.job_base.proofs.Limits.{pair_proofs}
use Rattle.sec_setup.specs.Cuts.{columns_of}
use Rattle.swept_queries.proofs.Listed.{zip_left}
use Rattle.edbf_unfold.specs.class_queries.Enables.{both_of}
use Rattle.outcome_fits.proofs.plain_meaning.Fitted.{kept_proof, no_names, some_names, were_exposed}
use Rattle.obligations.proofs.Fits.{limit_fits}
use Rattle.event_setup.specs.event_meaning.Answers.{PairFits}
use Rattle.event_setup.specs.event_meaning.Findings.{VerdictFits}
use Rattle.event_setup.specs.event_meaning.EventVerdict.{EventVerdict}
use Rattle.event_setup.specs.event_meaning.EventVerdict.TheVariants as found
use Rattle.event_setup.specs.event_meaning.event_names.event_fits.Compared.{IsComparedInEvents}
use Rattle.event_setup.specs.event_meaning.event_names.event_fits.Fitting.{IsComparedByPairs, IsUnclassed, IsUnrecovered}
use Rattle.event_setup.specs.event_meaning.event_names.event_fits.Named.{latch_names, NamesVerdict}
use Rattle.event_setup.proofs.event_meaning.Cases.{compared, cut_found, cut_no_limit, different_found, different_no_limit, equal_no_limit}
use Rattle.event_setup.proofs.event_meaning.Saying.{uncut}
use Rattle.job_base.specs.sec_files.Loading.{Loads, circuit_of_text}
use Rattle.job_base.proofs.sec_files.Texts.{spelled_circuit}
use Rattle.job_base.proofs.design_laws.text_circuits.Circuits.{text_design, texts_cuts_differ, texts_differ_by}
use Rattle.job_base.proofs.design_laws.event_designs.FlatEventAgree.{agree_up, minimal_up, onward_up}
use Rattle.job_check.specs.check_meaning.event_texts.Texts.{AreRead, IsPrinted, EventTextsAgree, EventTextsDiffer, EventCutsDiffer, EventTextsUnshown, EventTextsNotShown, EventTextsUndecided, IsUndecidedBy}

same_some : {X : Type 0} {x y : X} → Some x ≡ Some y → x ≡ y
same_some q = cc

-- what was found where a limit is told, and that no difference from initial values is
module _ (left right columns : List (List ℕ)) where
  limit_found : (x : EventVerdict) (v : Verdict) (at : LimitAt) → NamesVerdict left right columns x v → v ≡ verdict.Limit at → (name : PairName) × (x ≡ found.Limit name) × (at ≡ limit_at.Pair name)
  limit_found found.Equal v at h e = absurd (cc)
  limit_found (found.Different w) v at h e = absurd (cc)
  limit_found (found.Limit name) v at h e = (name, refl, cc)
  limit_found (found.Cut w) v at h e = absurd (cc)
  limit_found (found.Events x) v at h e = absurd (let q = h.1 in cc)

  none_from : (x : EventVerdict) (v : Verdict) (w : ResetWitness) → NamesVerdict left right columns x v → v ≡ verdict.DifferentFrom w → ⊥
  none_from found.Equal v w h e = cc
  none_from (found.Different y) v w h e = cc
  none_from (found.Limit name) v w h e = cc
  none_from (found.Cut y) v w h e = cc
  none_from (found.Events x) v w h e = let q = h.1 in cc

from_no_limit : (v : Verdict) (w : ResetWitness) → v ≡ verdict.DifferentFrom w → (at : LimitAt) → v ≡ verdict.Limit at → ⊥
from_no_limit v w e at h = cc

module _ (before now : Option (List ℕ)) (settings : Settings) (o : Outcome) (taken : Takes before now (report_text settings o)) (x y : List ℕ) (a b : NetView) (left : Loads x a) (right : Loads y b)
    (is : IsComparedInEvents a b settings o) where
  abbrev read : AreRead x y
  read = record {
    left_net = a;
    right_net = b;
    left_loads = left;
    right_loads = right;
    left = circuit_of_text x a.clock;
    right = circuit_of_text y b.clock;
    left_spelled = spelled_circuit x a left;
    right_spelled = spelled_circuit y b right;
  }

  printed : IsPrinted a b settings o before now
  printed = record { fits = is.fits; printed = taken }

  abbrev Compared : Type 0
  Compared = IsComparedByPairs a b settings.expose settings.conflicts o

  -- the pairs are compared where the verdict is no limit
  by_pairs : ((at : LimitAt) → o.verdict ≡ verdict.Limit at → ⊥) → Compared
  by_pairs apart = compared a b settings.expose settings.conflicts o is.fits apart

  pub events_agree : o.verdict ≡ verdict.Equal → EventTextsAgree x y settings before now
  events_agree e =
      let c = by_pairs (equal_no_limit o.verdict e) in
      let says = is.equal e in
      record {
        read = read;
        outcome = o;
        is_printed = printed;
        is_verdict = e;
        minimal = minimal_up (text_design x a left) (text_design y b right) o.exposed c.reached.circuits.minimal;
        says = (agree_up (text_design x a left) (text_design y b right) says.0, onward_up (text_design x a left) (text_design y b right) o.exposed says.1);
        nets_say = says;
      }

  -- what was found gives the verdict
  given : (c : Compared) (v : EventVerdict) → c.found.verdict ≡ v → VerdictFits c.left c.right c.compared c.found.pairs v
  given c v e = subst (VerdictFits c.left c.right c.compared c.found.pairs) e c.fits.verdict_is

  -- no difference is one from initial values
  pub events_always : (w : ResetWitness) → o.verdict ≡ verdict.DifferentFrom w → ⊥
  events_always w e =
      let c = by_pairs (from_no_limit o.verdict w e) in
      none_from (latch_names c.left.net) (latch_names c.right.net) (columns_of a b o.exposed) c.found.verdict o.verdict w c.verdict_is e

  pub events_differ : (w : Witness) → o.verdict ≡ verdict.Different w → EventTextsDiffer x y settings before now
  events_differ w e =
      let c = by_pairs (different_no_limit o.verdict w e) in
      let f = given c (found.Different w) (different_found (latch_names c.left.net) (latch_names c.right.net) (columns_of a b o.exposed) c.found.verdict o.verdict w c.verdict_is e) in
      record {
        read = read;
        outcome = o;
        is_printed = printed;
        witness = w;
        is_verdict = e;
        uncut = no_names o.exposed (uncut a b settings.expose settings.conflicts o c f.index f.place f.first);
        says = texts_differ_by x y a b left right w (is.different w e);
      }

  cuts_differ : (w : Witness) → o.verdict ≡ verdict.NotShown (why.Cut w) → EventCutsDiffer x y settings before now
  cuts_differ w e =
      let c = by_pairs (cut_no_limit o.verdict w e) in
      let f = (given c (found.Cut w) (cut_found (latch_names c.left.net) (latch_names c.right.net) (columns_of a b o.exposed) c.found.verdict o.verdict w c.verdict_is e)).2 in
      let exposed = some_names o.exposed (sym c.cut ∙ f.cut) in
      record {
        read = read;
        outcome = o;
        is_printed = printed;
        witness = w;
        is_verdict = e;
        exposes = were_exposed settings.expose o.exposed c.reached.circuits.closed exposed;
        exposed = exposed;
        minimal = minimal_up (text_design x a left) (text_design y b right) o.exposed c.reached.circuits.minimal;
        columns = f.sequence.names_are ∙ c.names;
        says = texts_cuts_differ x y a b left right o.exposed w (is.not_shown w e);
        nets_say = is.not_shown w e;
      }

  events_unshown : (u : Unshown) → o.verdict ≡ verdict.NotShown (why.Events u) → EventTextsUnshown x y settings before now
  events_unshown u e = record {
    read = read;
    outcome = o;
    is_printed = printed;
    unshown = u;
    is_verdict = e;
    framed = is.unshown u e;
  }

  pub events_not_shown : (reason : Why) → o.verdict ≡ verdict.NotShown reason → EventTextsNotShown x y settings before now
  events_not_shown (why.Cut w) e = inl (cuts_differ w e)
  events_not_shown (why.Events u) e = inr (events_unshown u e)

  -- the proof of a limit that was met before pairs were asked about is kept
  limit_kept : (proofs : List Proof) (v : Verdict) (proof : Proof) → proofs ≡ outcome_proofs o → o.verdict ≡ v → Contains (verdict_proofs v) proof → Contains proofs proof
  limit_kept proofs v proof kept e h =
      let early : Contains (verdict_proofs o.verdict) proof = subst (λ (z : Verdict). Contains (verdict_proofs z) proof) (sym e) h in
      subst (λ (ps : List Proof). Contains ps proof) (sym kept) (Contains-append_left (verdict_proofs o.verdict) _ proof early)

  module _ (proofs : List Proof) (kept : proofs ≡ outcome_proofs o) (at : LimitAt) (e : o.verdict ≡ verdict.Limit at) where
    undecided_by : (proof : Proof) → Contains proofs proof → IsUndecidedBy a b settings o proof → EventTextsUndecided x y settings proofs before now
    undecided_by proof own undecided = record {
      read = read;
      outcome = o;
      is_printed = printed;
      at = at;
      is_verdict = e;
      proof = proof;
      kept = own;
      undecided = undecided;
    }

    pair_undecided : Compared → EventTextsUndecided x y settings proofs before now
    pair_undecided c =
        let n = limit_found (latch_names c.left.net) (latch_names c.right.net) (columns_of a b o.exposed) c.found.verdict o.verdict at c.verdict_is e in
        let f = (given c (found.Limit n.0) n.1).1 in
        let z = zip_left (PairFits (both_of c.left c.right) c.compared.cut settings.conflicts) c.compared.pairs.now c.found.pairs c.fits.pairs_fit f.index f.first.result f.first.result_at in
        let same : z.0 ≡ f.place = same_some (sym z.1 ∙ f.first.pair_at) in
        let fits = subst (λ p. PairFits (both_of c.left c.right) c.compared.cut settings.conflicts p f.first.result) same z.2 in
        let g = limit_fits _ _ _ f.first.result.answer f.first.result.proof fits.answer_is f.first.answered in
        let here : slice_get o.pairs f.index ≡ Some f.first.result = ap (λ (rs : List PairResult). slice_get rs f.index) c.pairs ∙ f.first.result_at in
        let own = kept ∙ pair_proofs o n.0 (e ∙ ap verdict.Limit n.2) in
        undecided_by g.0 (subst (λ (ps : List Proof). Contains ps g.0) (sym own) (kept_proof o.pairs f.first.result g.0 (of_at o.pairs f.index f.first.result here) g.1))
        (inr (inr (record {
          compared = c;
          index = f.index;
          place = f.place;
          result = f.first.result;
          place_at = f.first.pair_at;
          result_at = here;
          limit = f.first.answered;
          verdict_is = e ∙ ap verdict.Limit (n.2 ∙ ap limit_at.Pair (f.named ∙ sym fits.name_is));
          kept = g.1;
          undecided = g.2;
        })))

    by_cause : IsUnrecovered a b settings.conflicts o ⊎ (IsUnclassed a b settings.expose settings.conflicts o ⊎ Compared) → EventTextsUndecided x y settings proofs before now
    by_cause (inl k) = undecided_by k.proof (limit_kept proofs _ k.proof kept k.verdict_is (Contains-head k.proof [])) (inl (k, refl))
    by_cause (inr (inl k)) = undecided_by k.proof (limit_kept proofs _ k.proof kept k.verdict_is (Contains-head k.proof [])) (inr (inl (k, refl)))
    by_cause (inr (inr c)) = pair_undecided c

  pub events_undecided : (proofs : List Proof) (at : LimitAt) → o.verdict ≡ verdict.Limit at → proofs ≡ outcome_proofs o → EventTextsUndecided x y settings proofs before now
  events_undecided proofs at e kept = by_cause proofs kept at e is.fits.rest
