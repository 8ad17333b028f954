-- What an outcome of the comparison of two nets from their initial values says of the texts that load as them.
use Rattle.std.specs.List.{Contains}
use Rattle.std.proofs.Common.{◌≡◌, ℕ, List, [], sym, ◌∙◌, subst, ap, Option}
use Rattle.circuit_theory.proofs.Lists.{of_at}
use Rattle.base_shelves.specs.Outside.{Takes}
use Rattle.sec_base.specs.declared.settings.Settings.{Settings}
use Rattle.witness_report.specs.declared.witness.PairName.{PairName}
use Rattle.witness_report.specs.declared.witness.Witness.{Witness}
use Rattle.flat_net.specs.View.{NetView, circuit_of}
use Rattle.pair_decide.specs.declared.query.Proof.{Proof}
use Rattle.obligations.specs.declared.outcome.verdict.LimitAt.{LimitAt}
use Rattle.obligations.specs.declared.outcome.verdict.LimitAt.TheVariants as limit_at
use Rattle.obligations.specs.declared.outcome.verdict.Outcome.{Outcome}
use Rattle.obligations.specs.declared.outcome.verdict.ResetWitness.{ResetWitness}
use Rattle.obligations.specs.declared.outcome.verdict.Verdict.{Verdict}
use Rattle.obligations.specs.declared.outcome.verdict.Verdict.TheVariants as verdict
use Rattle.obligations.specs.declared.outcome.verdict.Why.{Why}
use Rattle.obligations.specs.outcome.Report.{report_text}
use Rattle.job_base.specs.Written.{outcome_proofs}
use Rattle.job_base.proofs.Limits.{pair_proofs}
use Rattle.sec_setup.specs.ports.Pairs.{NamedPair, named_pairs}
use Rattle.obligations.proofs.Fits.{answers_limit}
use Rattle.plain_check.specs.under_base.compare_base.ResetOutcome.{Numbered, PairFits, IsFirstLimit}
use Rattle.plain_check.specs.under_base.compare_base.Compared.{IsComparedFromReset}
use Rattle.plain_check.specs.under_base.compare_base.FromReset.{numbered_by, ResetVerdictFits}
use Rattle.job_base.specs.sec_files.Loading.{Loads, circuit_of_text}
use Rattle.job_base.proofs.sec_files.Texts.{spelled_circuit}
use Rattle.job_base.proofs.design_laws.text_circuits.Circuits.{text_design}
use Rattle.job_base.proofs.design_laws.text_circuits.Resets.{resets_agree_up}
use Rattle.pair_texts.specs.check_texts.Resets.{ResetsAgree, ResetsDiffer, ResetsUndecided}
use Rattle.swept_queries.proofs.Listed.{zip_left}
use Rattle.plain_check.proofs.under_base.compare_base.Fitted.{kept_proof}
use Rattle.pair_texts.proofs.check_texts.ResetDesigns.{resets_differ_up}

module _ (before now : Option (List ℕ)) (settings : Settings) (o : Outcome) (taken : Takes before now (report_text settings o)) (x y : List ℕ) (a b : NetView) (left : Loads x a) (right : Loads y b)
    (compared : IsComparedFromReset a b settings o) where
  pub resets_agree : o.verdict ≡ verdict.Equal → ResetsAgree x y settings before now
  resets_agree e =
      let equal = compared.equal e in
      record {
        left_clock = a.clock;
        right_clock = b.clock;
        left = circuit_of_text x a.clock;
        right = circuit_of_text y b.clock;
        left_spelled = spelled_circuit x a left;
        right_spelled = spelled_circuit y b right;
        left_net = a;
        right_net = b;
        left_loads = left;
        right_loads = right;
        outcome = o;
        is_verdict = e;
        uncut = compared.fits.exposed;
        printed = taken;
        says = resets_agree_up (text_design x a left) (text_design y b right) equal;
        nets_say = equal;
      }

  pub resets_differ : (w : ResetWitness) → o.verdict ≡ verdict.DifferentFrom w → ResetsDiffer x y settings before now
  resets_differ w e = record {
    left_clock = a.clock;
    right_clock = b.clock;
    left = circuit_of_text x a.clock;
    right = circuit_of_text y b.clock;
    left_spelled = spelled_circuit x a left;
    right_spelled = spelled_circuit y b right;
    left_net = a;
    right_net = b;
    left_loads = left;
    right_loads = right;
    outcome = o;
    witness = w;
    is_verdict = e;
    uncut = compared.fits.exposed;
    printed = taken;
    says = resets_differ_up (text_design x a left) (text_design y b right) w (compared.different w e);
  }

  abbrev numbers : Numbered
  numbers = numbered_by a b compared.fits.left compared.fits.right compared.fits.left_base compared.fits.right_base

  abbrev pairs : List (NamedPair ℕ ℕ)
  pairs = named_pairs [] (circuit_of a) (circuit_of b)

  abbrev IsVerdict : Verdict → Type 0
  IsVerdict v = ResetVerdictFits numbers pairs o.pairs v

  -- no difference is one over all power-ups, and none isn't shown
  pub resets_not_always : (w : Witness) → o.verdict ≡ verdict.Different w → ⊥
  resets_not_always w e = subst IsVerdict e compared.fits.verdict_is

  pub resets_are_shown : (reason : Why) → o.verdict ≡ verdict.NotShown reason → ⊥
  resets_are_shown reason e = subst IsVerdict e compared.fits.verdict_is

  resets_at : (proofs : List Proof) (name : PairName) → o.verdict ≡ verdict.Limit (limit_at.Pair name) → IsFirstLimit o.pairs name → proofs ≡ outcome_proofs o → ResetsUndecided x y settings proofs before now
  resets_at proofs name e first kept =
      let n = zip_left (PairFits numbers settings.conflicts) pairs o.pairs compared.fits.pairs first.index first.result first.result_is in
      let given = answers_limit first.result.answer first.result.proof n.2.answer_is first.limit in
      record {
        left_net = a;
        right_net = b;
        left_loads = left;
        right_loads = right;
        outcome = o;
        uncut = compared.fits.exposed;
        left = compared.fits.left;
        right = compared.fits.right;
        left_numbers = compared.fits.left_numbers;
        right_numbers = compared.fits.right_numbers;
        left_base = compared.fits.left_base;
        right_base = compared.fits.right_base;
        based = compared.fits.based;
        named = n.0;
        is_pair = of_at pairs first.index n.0 n.1;
        depth = first.result.size;
        is_depth = n.2.size_is;
        cycle = given.2.0;
        within = given.2.1;
        agree_before = given.2.2;
        proof = given.0;
        kept = subst (λ (ps : List Proof). Contains ps given.0) (sym (kept ∙ pair_proofs o name e)) (kept_proof o.pairs first.result given.0 (of_at o.pairs first.index first.result first.result_is) given.1);
        undecided = given.2.3;
        is_verdict = e ∙ ap (λ m. verdict.Limit (limit_at.Pair m)) (first.named ∙ n.2.name_is);
        printed = taken;
      }

  pub resets_undecided : (proofs : List Proof) (at : LimitAt) → o.verdict ≡ verdict.Limit at → proofs ≡ outcome_proofs o → ResetsUndecided x y settings proofs before now
  resets_undecided proofs (limit_at.Assume proof) e kept = absurd (subst IsVerdict e compared.fits.verdict_is)
  resets_undecided proofs (limit_at.Recover side name proof) e kept = absurd (subst IsVerdict e compared.fits.verdict_is)
  resets_undecided proofs (limit_at.Class side name other proof) e kept = absurd (subst IsVerdict e compared.fits.verdict_is)
  resets_undecided proofs (limit_at.Pair name) e kept = resets_at proofs name e (subst IsVerdict e compared.fits.verdict_is) kept
