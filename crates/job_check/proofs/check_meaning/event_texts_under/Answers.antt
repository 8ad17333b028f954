-- What a comparison of nets under an assumption that ends with an outcome says of the texts that load as them, in both modes.
use Rattle.std.specs.Prelude.{Ok}
use Rattle.std.proofs.Common.{◌≡◌, ℕ, List, inl, inr, ◌⊎◌, Option}
use Rattle.circuit_theory.specs.declared.Mode.{Mode}
use Rattle.circuit_theory.specs.declared.Mode.TheVariants.{Plain, Event}
use Rattle.base_shelves.specs.Outside.{Takes}
use Rattle.sec_base.specs.declared.settings.Settings.{Settings}
use Rattle.witness_report.specs.declared.witness.Witness.{Witness}
use Rattle.flat_net.specs.View.{NetView}
use Rattle.pair_decide.specs.declared.query.Proof.{Proof}
use Rattle.obligations.specs.declared.outcome.verdict.LimitAt.{LimitAt}
use Rattle.obligations.specs.declared.outcome.verdict.Outcome.{Outcome}
use Rattle.obligations.specs.declared.outcome.verdict.ResetWitness.{ResetWitness}
use Rattle.obligations.specs.declared.outcome.verdict.Verdict.TheVariants as verdict
use Rattle.obligations.specs.declared.outcome.verdict.Why.{Why}
use Rattle.obligations.specs.outcome.Report.{report_text}
use Rattle.pair_texts.specs.assume_texts.job_base.Written.{outcome_proofs}
use Rattle.event_setup.specs.event_meaning.event_meaning_under.Answered.{ComparedUnderIn}
use Rattle.pair_texts.specs.assume_texts.sec_files.Loading.{Loads}
use Rattle.pair_texts.proofs.assume_texts.Answers.{at_limit, equal_under, different_under, not_shown_under, limit_under}
use Rattle.job_check.specs.check_meaning.event_texts_under.Answers.{EqualUnderIn, DifferentUnderIn, NotShownUnderIn, LimitUnderIn}
use Rattle.job_check.proofs.check_meaning.event_texts_under.Texts.{events_agree, events_always, events_differ, events_not_shown, events_undecided}

module _ (x y z : List ℕ) (a b c : NetView) (left : Loads x a) (right : Loads y b) (assumed : Loads z c) (before now : Option (List ℕ)) (settings : Settings) (o : Outcome) (taken : Takes before now (report_text settings o)) where
  pub equal_under_in : (mode : Mode) → ComparedUnderIn mode a b c settings (Ok o) → o.verdict ≡ verdict.Equal → EqualUnderIn mode x y z settings before now
  equal_under_in Plain compared e = equal_under x y z a b c left right assumed before now settings o taken compared e
  equal_under_in Event (inl limit) e = absurd (let at = limit.verdict_is in cc)
  equal_under_in Event (inr compared) e = events_agree x y z a b c left right assumed before now settings o taken compared e

  pub different_under_in : (mode : Mode) → ComparedUnderIn mode a b c settings (Ok o) → ((w : Witness) × (o.verdict ≡ verdict.Different w)) ⊎ ((w : ResetWitness) × (o.verdict ≡ verdict.DifferentFrom w)) → DifferentUnderIn mode x y z settings before now
  different_under_in Plain compared v = different_under x y z a b c left right assumed before now settings o taken compared v
  different_under_in Event (inl limit) (inl v) = absurd (let at = limit.verdict_is in let e = v.1 in cc)
  different_under_in Event (inl limit) (inr v) = absurd (let at = limit.verdict_is in let e = v.1 in cc)
  different_under_in Event (inr compared) (inl v) = events_differ x y z a b c left right assumed before now settings o taken compared v.0 v.1
  different_under_in Event (inr compared) (inr v) = absurd (events_always x y z a b c left right assumed before now settings o taken compared v.0 v.1)

  pub not_shown_under_in : (mode : Mode) → ComparedUnderIn mode a b c settings (Ok o) → (reason : Why) → o.verdict ≡ verdict.NotShown reason → NotShownUnderIn mode x y z settings before now
  not_shown_under_in Plain compared reason e = not_shown_under x y z a b c left right assumed before now settings o taken compared reason e
  not_shown_under_in Event (inl limit) reason e = absurd (let at = limit.verdict_is in cc)
  not_shown_under_in Event (inr compared) reason e = events_not_shown x y z a b c left right assumed before now settings o taken compared reason e

  pub limit_under_in : (mode : Mode) → ComparedUnderIn mode a b c settings (Ok o) → (proofs : List Proof) (at : LimitAt) → o.verdict ≡ verdict.Limit at → proofs ≡ outcome_proofs o → LimitUnderIn mode x y z settings proofs before now
  limit_under_in Plain compared proofs at e kept = limit_under x y z a b c left right assumed before now settings o taken compared proofs at e kept
  limit_under_in Event (inl limit) proofs at e kept = inl (at_limit x y z a b c left right assumed before now settings o taken limit proofs kept)
  limit_under_in Event (inr compared) proofs at e kept = inr (events_undecided x y z a b c left right assumed before now settings o taken compared proofs at e kept)
