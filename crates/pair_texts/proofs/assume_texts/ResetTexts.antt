-- What an outcome of the comparison of two nets from their initial values under an assumption says of the texts that load as them.
use Rattle.std.specs.List.{Contains}
use Rattle.std.proofs.Common.{◌≡◌, ℕ, List, [], append-nil, sym, ◌∙◌, subst, ap, Option}
use Rattle.circuit_theory.proofs.Lists.{of_at}
use Rattle.base_shelves.specs.Outside.{Takes}
use Rattle.sec_base.specs.declared.settings.Settings.{Settings}
use Rattle.witness_report.specs.declared.witness.PairName.{PairName}
use Rattle.witness_report.specs.declared.witness.Witness.{Witness}
use Rattle.flat_net.specs.View.{NetView, circuit_of}
use Rattle.pair_decide.specs.declared.query.Proof.{Proof}
use Rattle.obligations.specs.declared.outcome.verdict.LimitAt.{LimitAt}
use Rattle.obligations.specs.declared.outcome.verdict.LimitAt.TheVariants as limit_at
use Rattle.obligations.specs.declared.outcome.verdict.Outcome.{Outcome}
use Rattle.obligations.specs.declared.outcome.verdict.ResetWitness.{ResetWitness}
use Rattle.obligations.specs.declared.outcome.verdict.Verdict.{Verdict}
use Rattle.obligations.specs.declared.outcome.verdict.Verdict.TheVariants as verdict
use Rattle.obligations.specs.declared.outcome.verdict.Why.{Why}
use Rattle.obligations.specs.outcome.Report.{report_text}
use Rattle.job_base.specs.Written.{outcome_proofs}
use Rattle.job_base.proofs.Limits.{pair_proofs}
use Rattle.sec_setup.specs.ports.Pairs.{NamedPair, named_pairs}
use Rattle.outcome_fits.specs.ResetOutcome.{Numbered, IsFirstLimit}
use Rattle.plain_check.proofs.under_base.compare_base.Fitted.{kept_proof}
use Rattle.swept_queries.proofs.Listed.{zip_left}
use Rattle.assume_laws.specs.Assume.{Assumption}
use Rattle.plain_check.specs.under_base.Taken.{assumed_by}
use Rattle.obligations.proofs.Fits.{answers_limit}
use Rattle.plain_check.specs.under_base.under_fits.ResetOutcome.{ResetVerdictFitsUnder, numbers_of}
use Rattle.plain_check.specs.under_base.under_fits.ResetVerdict.{PairFitsUnder}
use Rattle.plain_check.specs.under_base.Compared.{IsComparedFromResetUnder}
use Rattle.plain_check.specs.under_base.Met.{shared_by}
use Rattle.job_base.specs.sec_files.Loading.{Loads}
use Rattle.job_base.proofs.design_laws.text_circuits.Circuits.{text_design}
use Rattle.pair_texts.specs.assume_texts.Resets.{ResetsAgreeUnder, ResetsDifferUnder, ResetsUndecidedUnder}
use Rattle.pair_texts.proofs.assume_texts.Designs.{resets_agree_up, resets_differ_up, sequence_up}
use Rattle.pair_texts.proofs.assume_texts.Sequences.{differ_where_met, resets_where_met, sequence_meets}
use Rattle.pair_texts.proofs.assume_texts.Texts.{spelled}

module _ (x y z : List ℕ) (a b c : NetView) (left : Loads x a) (right : Loads y b) (assumed : Loads z c) (before now : Option (List ℕ)) (settings : Settings) (o : Outcome) (taken : Takes before now (report_text settings o))
    (compared : IsComparedFromResetUnder a b c settings o) where
  abbrev under : Assumption
  under = assumed_by compared.met.assumed

  pub resets_agree : o.verdict ≡ verdict.Equal → ResetsAgreeUnder x y z settings before now
  resets_agree e =
      let nets = resets_where_met (shared_by a b) c compared.met.assumed a b (compared.equal e) in
      record {
        spelled = spelled x y z a b c left right assumed;
        outcome = o;
        is_verdict = e;
        uncut = compared.fits.exposed;
        printed = taken;
        says = resets_agree_up (text_design x a left) (text_design y b right) (text_design z c assumed) nets;
        nets_say = nets;
      }

  abbrev numbers : Numbered
  numbers = numbers_of a b compared.fits.left compared.fits.right compared.fits.left_base compared.fits.right_base

  abbrev pairs : List (NamedPair ℕ ℕ)
  pairs = named_pairs [] (circuit_of a) (circuit_of b)

  abbrev IsVerdict : Verdict → Type 0
  IsVerdict v = ResetVerdictFitsUnder under numbers compared.met.row pairs o.pairs v

  pub resets_differ : (w : ResetWitness) → o.verdict ≡ verdict.DifferentFrom w → ResetsDifferUnder x y z settings before now
  resets_differ w e =
      let first = subst IsVerdict e compared.fits.verdict_is in
      let shows = compared.different w e in
      let met = sequence_meets (shared_by a b) c compared.met.assumed [] w.witness.stimulus (first.shown.names_are ∙ sym (append-nil (shared_by a b))) w.witness.cycle shows.1 in
      record {
        spelled = spelled x y z a b c left right assumed;
        outcome = o;
        witness = w;
        is_verdict = e;
        uncut = compared.fits.exposed;
        printed = taken;
        says = resets_differ_up (text_design x a left) (text_design y b right) (text_design z c assumed) w (differ_where_met (shared_by a b) c compared.met.assumed a b w shows.0);
        meets = sequence_up (text_design z c assumed) w.witness.stimulus w.witness.cycle met;
      }

  -- no difference is one over all power-ups, and none isn't shown
  pub resets_not_always : (w : Witness) → o.verdict ≡ verdict.Different w → ⊥
  resets_not_always w e = subst IsVerdict e compared.fits.verdict_is

  pub resets_are_shown : (reason : Why) → o.verdict ≡ verdict.NotShown reason → ⊥
  resets_are_shown reason e = subst IsVerdict e compared.fits.verdict_is

  resets_at : (proofs : List Proof) (name : PairName) → o.verdict ≡ verdict.Limit (limit_at.Pair name) → IsFirstLimit o.pairs name → proofs ≡ outcome_proofs o → ResetsUndecidedUnder x y z settings proofs before now
  resets_at proofs name e first kept =
      let n = zip_left (PairFitsUnder under numbers settings.conflicts) pairs o.pairs compared.fits.pairs first.index first.result first.result_is in
      let given = answers_limit first.result.answer first.result.proof n.2.answer_is first.limit in
      record {
        left_net = a;
        right_net = b;
        assumed_net = c;
        left_loads = left;
        right_loads = right;
        assumed_loads = assumed;
        assumed = compared.met.assumed;
        outcome = o;
        uncut = compared.fits.exposed;
        left = compared.fits.left;
        right = compared.fits.right;
        left_numbers = compared.fits.left_numbers;
        right_numbers = compared.fits.right_numbers;
        left_base = compared.fits.left_base;
        right_base = compared.fits.right_base;
        based = compared.fits.based;
        named = n.0;
        is_pair = of_at pairs first.index n.0 n.1;
        depth = first.result.size;
        is_depth = n.2.size_is;
        cycle = given.2.0;
        within = given.2.1;
        agree_before = given.2.2;
        proof = given.0;
        kept = subst (λ (ps : List Proof). Contains ps given.0) (sym (kept ∙ pair_proofs o name e)) (kept_proof o.pairs first.result given.0 (of_at o.pairs first.index first.result first.result_is) given.1);
        undecided = given.2.3;
        is_verdict = e ∙ ap (λ m. verdict.Limit (limit_at.Pair m)) (first.named ∙ n.2.name_is);
        printed = taken;
      }

  pub resets_undecided : (proofs : List Proof) (at : LimitAt) → o.verdict ≡ verdict.Limit at → proofs ≡ outcome_proofs o → ResetsUndecidedUnder x y z settings proofs before now
  resets_undecided proofs (limit_at.Assume proof) e kept = absurd (subst IsVerdict e compared.fits.verdict_is)
  resets_undecided proofs (limit_at.Recover side name proof) e kept = absurd (subst IsVerdict e compared.fits.verdict_is)
  resets_undecided proofs (limit_at.Class side name other proof) e kept = absurd (subst IsVerdict e compared.fits.verdict_is)
  resets_undecided proofs (limit_at.Pair name) e kept = resets_at proofs name e (subst IsVerdict e compared.fits.verdict_is) kept
