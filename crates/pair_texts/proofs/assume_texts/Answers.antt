-- What a comparison of nets under an assumption that ends with an outcome says of the texts that load as them.
use Rattle.std.specs.Prelude.{Ok}
use Rattle.std.specs.List.{filter_map}
use Rattle.std.proofs.Common.{◌≡◌, ◌∙◌, ℕ, ◌++◌, List, ◌∷◌, ap, inl, inr, ◌⊎◌, Option}
use Rattle.base_shelves.specs.Outside.{Takes}
use Rattle.sec_base.specs.declared.settings.Settings.{Settings}
use Rattle.witness_report.specs.declared.witness.Witness.{Witness}
use Rattle.flat_net.specs.View.{NetView}
use Rattle.pair_decide.specs.declared.query.Proof.{Proof}
use Rattle.obligations.specs.declared.outcome.verdict.LimitAt.{LimitAt}
use Rattle.obligations.specs.declared.outcome.verdict.Outcome.{Outcome}
use Rattle.obligations.specs.declared.outcome.verdict.PairResult.{PairResult}
use Rattle.obligations.specs.declared.outcome.verdict.ResetWitness.{ResetWitness}
use Rattle.obligations.specs.declared.outcome.verdict.Verdict.{Verdict}
use Rattle.obligations.specs.declared.outcome.verdict.Verdict.TheVariants as verdict
use Rattle.obligations.specs.declared.outcome.verdict.Why.{Why}
use Rattle.obligations.specs.outcome.Report.{report_text}
use Rattle.obligations.specs.outcome.Proofs.{verdict_proofs}
use Rattle.job_base.specs.Written.{outcome_proofs}
use Rattle.plain_check.proofs.under_base.compare_base.Forms.{by_reset}
use Rattle.plain_check.specs.under_base.Compared.{ComparedUnder}
use Rattle.plain_check.specs.under_base.Met.{IsAssumptionLimit}
use Rattle.job_base.specs.sec_files.Loading.{Loads}
use Rattle.pair_texts.specs.assume_texts.Answers.{EqualUnder, DifferentUnder, NotShownUnder, LimitUnder}
use Rattle.pair_texts.specs.assume_texts.Texts.{AssumptionUndecided}
use Rattle.pair_texts.proofs.assume_texts.ResetTexts.{resets_agree, resets_differ, resets_not_always, resets_are_shown, resets_undecided}
use Rattle.pair_texts.proofs.assume_texts.Texts.{texts_agree, texts_always, texts_differ, texts_not_shown, texts_undecided}

module _ (x y z : List ℕ) (a b c : NetView) (left : Loads x a) (right : Loads y b) (assumed : Loads z c) (before now : Option (List ℕ)) (settings : Settings) (o : Outcome) (taken : Takes before now (report_text settings o)) where
  -- the limit of the assumption's query is no other verdict
  abbrev AtAssumption : Type 0
  AtAssumption = IsAssumptionLimit a b c settings.conflicts o

  pub at_limit : AtAssumption → (proofs : List Proof) → proofs ≡ outcome_proofs o → AssumptionUndecided x y z settings proofs before now
  at_limit limit proofs kept = record {
    left_net = a;
    right_net = b;
    assumed_net = c;
    left_loads = left;
    right_loads = right;
    assumed_loads = assumed;
    outcome = o;
    uncut = limit.exposed;
    no_pairs = limit.pairs;
    proof = limit.proof;
    kept = kept
        ∙ (ap (λ (v : Verdict). verdict_proofs v ++ filter_map (λ (r : PairResult). r.proof) o.pairs) limit.verdict_is
        ∙ ap (λ (rs : List PairResult). limit.proof ∷ filter_map (λ (r : PairResult). r.proof) rs) limit.pairs);
    undecided = limit.undecided;
    is_verdict = limit.verdict_is;
    printed = taken;
  }

  pub equal_under : ComparedUnder a b c settings (Ok o) → o.verdict ≡ verdict.Equal → EqualUnder x y z settings before now
  equal_under (inl limit) e = absurd (let at = limit.verdict_is in cc)
  equal_under (inr compared) e =
      by_reset settings.reset (λ is. texts_agree x y z a b c left right assumed before now settings o taken is e) (λ is. resets_agree x y z a b c left right assumed before now settings o taken is e) compared

  pub different_under : ComparedUnder a b c settings (Ok o) → ((w : Witness) × (o.verdict ≡ verdict.Different w)) ⊎ ((w : ResetWitness) × (o.verdict ≡ verdict.DifferentFrom w)) → DifferentUnder x y z settings before now
  different_under (inl limit) (inl v) = absurd (let at = limit.verdict_is in let e = v.1 in cc)
  different_under (inl limit) (inr v) = absurd (let at = limit.verdict_is in let e = v.1 in cc)
  different_under (inr compared) (inl v) =
      by_reset settings.reset (λ is. texts_differ x y z a b c left right assumed before now settings o taken is v.0 v.1)
      (λ is. absurd (resets_not_always x y z a b c left right assumed before now settings o taken is v.0 v.1)) compared
  different_under (inr compared) (inr v) =
      by_reset settings.reset (λ is. absurd (texts_always x y z a b c left right assumed before now settings o taken is v.0 v.1))
      (λ is. resets_differ x y z a b c left right assumed before now settings o taken is v.0 v.1) compared

  pub not_shown_under : ComparedUnder a b c settings (Ok o) → (reason : Why) → o.verdict ≡ verdict.NotShown reason → NotShownUnder x y z settings before now
  not_shown_under (inl limit) reason e = absurd (let at = limit.verdict_is in cc)
  not_shown_under (inr compared) reason e =
      by_reset settings.reset (λ is. texts_not_shown x y z a b c left right assumed before now settings o taken is reason e)
      (λ is. resets_are_shown x y z a b c left right assumed before now settings o taken is reason e) compared

  pub limit_under : ComparedUnder a b c settings (Ok o) → (proofs : List Proof) (at : LimitAt) → o.verdict ≡ verdict.Limit at → proofs ≡ outcome_proofs o → LimitUnder x y z settings proofs before now
  limit_under (inl limit) proofs at e kept = inl (at_limit limit proofs kept)
  limit_under (inr compared) proofs at e kept =
      inr (by_reset settings.reset (λ is. texts_undecided x y z a b c left right assumed before now settings o taken is proofs at e kept)
      (λ is. resets_undecided x y z a b c left right assumed before now settings o taken is proofs at e kept) compared)
