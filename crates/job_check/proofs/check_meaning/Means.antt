-- What the statuses equal, different, not shown and limit mean for the texts.
use Rattle.std.specs.Prelude.{IfSome, Result, Ok}
use Rattle.std.proofs.Common.{◌≡◌, ℕ, List, refl, subst, inl, inr, ◌⊎◌, Option, Some, None}
use Rattle.circuit_theory.specs.declared.Mode.{Mode}
use Rattle.circuit_theory.specs.declared.Mode.TheVariants.{Plain, Event}
use Rattle.base_shelves.specs.Outside.{Takes}
use Rattle.sec_base.specs.declared.settings.Settings.{Settings}
use Rattle.witness_report.specs.declared.witness.Witness.{Witness}
use Rattle.flat_net.specs.View.{NetView}
use Rattle.pair_decide.specs.declared.query.Proof.{Proof}
use Rattle.obligations.specs.declared.outcome.verdict.LimitAt.{LimitAt}
use Rattle.obligations.specs.declared.outcome.verdict.Outcome.{Outcome}
use Rattle.obligations.specs.declared.outcome.verdict.ResetWitness.{ResetWitness}
use Rattle.obligations.specs.declared.outcome.verdict.Verdict.{Verdict}
use Rattle.obligations.specs.declared.outcome.verdict.Verdict.TheVariants as verdict
use Rattle.obligations.specs.declared.outcome.verdict.Why.{Why}
use Rattle.obligations.specs.outcome.Report.{report_text}
use Rattle.job_check.specs.check_meaning.check_found.job_base.Finding.{Finding}
use Rattle.job_check.specs.check_meaning.check_found.job_base.Finding.TheVariants as finding
use Rattle.job_check.specs.check_meaning.check_found.job_base.StatusName.{StatusName}
use Rattle.job_check.specs.check_meaning.check_found.job_base.StatusName.TheVariants as status
use Rattle.job_check.specs.check_meaning.check_found.job_base.Written.{verdict_status, status_of, IsWrittenAs}
use Rattle.pair_texts.specs.check_texts.CompareError.{CompareError}
use Rattle.pair_texts.specs.check_texts.Compared.{IsCompared, IsComparedFromReset}
use Rattle.job_check.specs.check_meaning.check_found.Compared.{ComparedIn, IsComparedInEvents}
use Rattle.pair_texts.proofs.check_texts.Forms.{by_reset}
use Rattle.job_check.specs.check_meaning.check_found.Answered.{ComparedUnderIn}
use Rattle.job_base.specs.sec_files.Loading.{Loads}
use Rattle.job_check.specs.check_meaning.event_texts_under.Answers.{EqualUnderIn, DifferentUnderIn, NotShownUnderIn, LimitUnderIn}
use Rattle.job_check.proofs.check_meaning.event_texts_under.Answers.{equal_under_in, different_under_in, not_shown_under_in, limit_under_in}
use Rattle.job_base.specs.sec_files.job_files.Reading.{Held}
use Rattle.job_base.proofs.sec_files.job_files.Reading.{is_loaded}
use Rattle.job_check.specs.check_meaning.check_found.Check.{Check}
use Rattle.job_check.specs.check_meaning.Answer.{CheckMeans, InForm}
use Rattle.job_check.specs.check_meaning.event_texts.Texts.{EventTextsAgree, EventTextsDiffer, EventTextsNotShown, EventTextsUndecided}
use Rattle.job_check.proofs.check_meaning.event_texts.EventTexts.{events_agree, events_always, events_differ, events_not_shown, events_undecided}
use Rattle.pair_texts.specs.check_texts.Texts.{TextsAgree, TextsDiffer, TextsNotShown, TextsUndecided}
use Rattle.pair_texts.specs.check_texts.Resets.{ResetsAgree, ResetsDiffer, ResetsUndecided}
use Rattle.job_check.specs.check_meaning.check_found.Found.{OfGiven, IsAnsweredGiven, IsAnsweredBy, IsFoundOf}
use Rattle.pair_texts.proofs.check_texts.ResetTexts.{resets_agree, resets_differ, resets_not_always, resets_are_shown, resets_undecided}
use Rattle.pair_texts.proofs.check_texts.Texts.{texts_agree, texts_always, texts_differ, texts_not_shown, texts_undecided}

if_some : {X : Type 0} {F G : X → Type 0} (o : Option X) → ((x : X) → F x → G x) → IfSome o F → IfSome o G
if_some None f h = tt
if_some (Some x) f h = f x h

-- what two texts load as, and what then holds of both
of_two : (o o' : Option (List ℕ)) (a b : NetView) (P : List ℕ → List ℕ → Type 0) → ((x y : List ℕ) → Loads x a → Loads y b → P x y) → IfSome o (λ x. Loads x a) → IfSome o' (λ y. Loads y b) →
    IfSome o (λ x. IfSome o' (λ y. P x y))
of_two o o' a b P f l r = if_some o (λ x here. if_some o' (λ y there. f x y here there) r) l

-- what follows in each form follows in the one that is asked for
in_form : {X Y Z : Type 0} (mode : Mode) (a b : NetView) (s : Settings) (o : Outcome) → (IsCompared a b s o → X) → (IsComparedFromReset a b s o → Y) → (IsComparedInEvents a b s o → Z) → ComparedIn mode a b s (Ok o) → InForm mode s.reset X Y Z
in_form Plain a b s o f g h compared = by_reset s.reset f g compared
in_form Event a b s o f g h compared = h compared

-- what is said of the nets is said of the texts
module _ (held : Held) (check : Check) (P : List ℕ → List ℕ → Type 0) (Q : List ℕ → List ℕ → List ℕ → Type 0) (r : Result Outcome CompareError)
    (two : (x y : List ℕ) (a b : NetView) → Loads x a → Loads y b → ComparedIn check.settings.mode a b check.settings r → P x y)
    (three : (x y z : List ℕ) (a b c : NetView) → Loads x a → Loads y b → Loads z c → ComparedUnderIn check.settings.mode a b c check.settings r → Q x y z) where
  over_nets : IsAnsweredBy held check r → OfGiven held check check.assumed P Q
  over_nets h = by check.assumed h
    where
      by : (assumed : Option (List ℕ)) → IsAnsweredGiven held check assumed r → OfGiven held check assumed P Q
      by None n = record {
        left_loads = is_loaded (held check.left) n.a n.left_loads;
        right_loads = is_loaded (held check.right) n.b n.right_loads;
        said = of_two (held check.left) (held check.right) n.a n.b P (λ x y l m. two x y n.a n.b l m n.said) n.left_loads n.right_loads;
      }
      by (Some path) n = record {
        left_loads = is_loaded (held check.left) n.a n.left_loads;
        right_loads = is_loaded (held check.right) n.b n.right_loads;
        assumed_loads = is_loaded (held path) n.c n.assumed_loads;
        said = of_two (held check.left) (held check.right) n.a n.b (λ x y. IfSome (held path) (λ z. Q x y z)) (λ x y l m. if_some (held path) (λ z k. three x y z n.a n.b n.c l m k n.said) n.assumed_loads) n.left_loads n.right_loads;
      }

equal_verdict : (v : Verdict) → verdict_status v ≡ status.Equal → v ≡ verdict.Equal
equal_verdict verdict.Equal e = refl
equal_verdict (verdict.Different w) e = absurd (cc)
equal_verdict (verdict.DifferentFrom w) e = absurd (cc)
equal_verdict (verdict.NotShown reason) e = absurd (cc)
equal_verdict (verdict.Limit at) e = absurd (cc)

-- a difference over all power-ups, or one from initial values
different_verdict : (v : Verdict) → verdict_status v ≡ status.Different → ((w : Witness) × (v ≡ verdict.Different w)) ⊎ ((w : ResetWitness) × (v ≡ verdict.DifferentFrom w))
different_verdict verdict.Equal e = absurd (cc)
different_verdict (verdict.Different w) e = inl (w, refl)
different_verdict (verdict.DifferentFrom w) e = inr (w, refl)
different_verdict (verdict.NotShown reason) e = absurd (cc)
different_verdict (verdict.Limit at) e = absurd (cc)

not_shown_verdict : (v : Verdict) → verdict_status v ≡ status.NotShown → (reason : Why) × (v ≡ verdict.NotShown reason)
not_shown_verdict verdict.Equal e = absurd (cc)
not_shown_verdict (verdict.Different w) e = absurd (cc)
not_shown_verdict (verdict.DifferentFrom w) e = absurd (cc)
not_shown_verdict (verdict.NotShown reason) e = (reason, refl)
not_shown_verdict (verdict.Limit at) e = absurd (cc)

limit_verdict : (v : Verdict) → verdict_status v ≡ status.Limit → (at : LimitAt) × (v ≡ verdict.Limit at)
limit_verdict verdict.Equal e = absurd (cc)
limit_verdict (verdict.Different w) e = absurd (cc)
limit_verdict (verdict.DifferentFrom w) e = absurd (cc)
limit_verdict (verdict.NotShown reason) e = absurd (cc)
limit_verdict (verdict.Limit at) e = (at, refl)

-- a report by the settings of the comparison
report_of : (before now : Option (List ℕ)) (o : Outcome) (s : Settings) (check : Check) → s ≡ check.settings → Takes before now (report_text s o) → Takes before now (report_text check.settings o)
report_of before now o s check e taken = subst (λ (t : Settings). Takes before now (report_text t o)) e taken

equal_found : (held : Held) (check : Check) (before now : Option (List ℕ)) (f : Finding) (proofs : List Proof) → IsFoundOf held check f → IsWrittenAs before now f proofs status.Equal →
    CheckMeans held check before now proofs status.Equal
equal_found held check before now finding.Words proofs h w = absurd h
equal_found held check before now (finding.Refused r) proofs h w = absurd (let e = w.1 in cc)
equal_found held check before now (finding.Cyclic side names) proofs h w = absurd (let e = w.1 in cc)
equal_found held check before now (finding.Unpaired side names) proofs h w = absurd (let e = w.1 in cc)
equal_found held check before now (finding.Done report) proofs h w = absurd h
equal_found held check before now (finding.Generated o report) proofs h w = absurd h
equal_found held check before now (finding.Replayed differences) proofs h w = absurd h
equal_found held check before now (finding.Unrefuted u) proofs h w = absurd h
equal_found held check before now (finding.Judged j kept text) proofs h w = absurd h
equal_found held check before now (finding.Undecided side name proof) proofs h w = absurd h
equal_found held check before now (finding.Checked o s) proofs h w =
    let v = equal_verdict o.verdict w.1 in
    let taken = report_of before now o s check h.0 w.2 in
    over_nets held check
    (λ x y. InForm check.settings.mode check.settings.reset (TextsAgree x y check.settings before now) (ResetsAgree x y check.settings before now) (EventTextsAgree x y check.settings before now))
    (λ x y z. EqualUnderIn check.settings.mode x y z check.settings before now) (Ok o)
    (λ x y a b left right.
    in_form check.settings.mode a b check.settings o (λ compared. texts_agree before now check.settings o taken x y a b left right compared v) (λ compared. resets_agree before now check.settings o taken x y a b left right compared v)
    (λ compared. events_agree before now check.settings o taken x y a b left right compared v))
    (λ x y z a b c left right assumed compared. equal_under_in x y z a b c left right assumed before now check.settings o taken check.settings.mode compared v) h.1

different_found : (held : Held) (check : Check) (before now : Option (List ℕ)) (f : Finding) (proofs : List Proof) → IsFoundOf held check f → IsWrittenAs before now f proofs status.Different →
    CheckMeans held check before now proofs status.Different
different_found held check before now finding.Words proofs h w = absurd h
different_found held check before now (finding.Refused r) proofs h w = absurd (let e = w.1 in cc)
different_found held check before now (finding.Cyclic side names) proofs h w = absurd (let e = w.1 in cc)
different_found held check before now (finding.Unpaired side names) proofs h w = absurd (let e = w.1 in cc)
different_found held check before now (finding.Done report) proofs h w = absurd h
different_found held check before now (finding.Generated o report) proofs h w = absurd h
different_found held check before now (finding.Replayed differences) proofs h w = absurd h
different_found held check before now (finding.Unrefuted u) proofs h w = absurd h
different_found held check before now (finding.Judged j kept text) proofs h w = absurd h
different_found held check before now (finding.Undecided side name proof) proofs h w = absurd h
different_found held check before now (finding.Checked o s) proofs h w =
    let taken = report_of before now o s check h.0 w.2 in
    over_nets held check
    (λ x y. InForm check.settings.mode check.settings.reset (TextsDiffer x y check.settings before now) (ResetsDiffer x y check.settings before now) (EventTextsDiffer x y check.settings before now))
    (λ x y z. DifferentUnderIn check.settings.mode x y z check.settings before now) (Ok o)
    (λ x y a b left right.
    in_form check.settings.mode a b check.settings o
    (λ compared.
    elim (different_verdict o.verdict w.1) [
      | inl v ↦ texts_differ before now check.settings o taken x y a b left right compared v.0 v.1
      | inr v ↦ absurd (texts_always before now check.settings o taken x y a b left right compared v.0 v.1)
    ])
    (λ compared.
    elim (different_verdict o.verdict w.1) [
      | inl v ↦ absurd (resets_not_always before now check.settings o taken x y a b left right compared v.0 v.1)
      | inr v ↦ resets_differ before now check.settings o taken x y a b left right compared v.0 v.1
    ])
    (λ compared.
    elim (different_verdict o.verdict w.1) [
      | inl v ↦ events_differ before now check.settings o taken x y a b left right compared v.0 v.1
      | inr v ↦ absurd (events_always before now check.settings o taken x y a b left right compared v.0 v.1)
    ]))
    (λ x y z a b c left right assumed compared. different_under_in x y z a b c left right assumed before now check.settings o taken check.settings.mode compared (different_verdict o.verdict w.1)) h.1

not_shown_found : (held : Held) (check : Check) (before now : Option (List ℕ)) (f : Finding) (proofs : List Proof) → IsFoundOf held check f → IsWrittenAs before now f proofs status.NotShown →
    CheckMeans held check before now proofs status.NotShown
not_shown_found held check before now finding.Words proofs h w = absurd h
not_shown_found held check before now (finding.Refused r) proofs h w = absurd (let e = w.1 in cc)
not_shown_found held check before now (finding.Cyclic side names) proofs h w = absurd (let e = w.1 in cc)
not_shown_found held check before now (finding.Unpaired side names) proofs h w = absurd (let e = w.1 in cc)
not_shown_found held check before now (finding.Done report) proofs h w = absurd h
not_shown_found held check before now (finding.Generated o report) proofs h w = absurd h
not_shown_found held check before now (finding.Replayed differences) proofs h w = absurd h
not_shown_found held check before now (finding.Unrefuted u) proofs h w = absurd h
not_shown_found held check before now (finding.Judged j kept text) proofs h w = absurd h
not_shown_found held check before now (finding.Undecided side name proof) proofs h w = absurd h
not_shown_found held check before now (finding.Checked o s) proofs h w =
    let v = not_shown_verdict o.verdict w.1 in
    let taken = report_of before now o s check h.0 w.2 in
    over_nets held check (λ x y. InForm check.settings.mode check.settings.reset (TextsNotShown x y check.settings before now) ⊥ (EventTextsNotShown x y check.settings before now))
    (λ x y z. NotShownUnderIn check.settings.mode x y z check.settings before now) (Ok o)
    (λ x y a b left right.
    in_form check.settings.mode a b check.settings o (λ compared. texts_not_shown before now check.settings o taken x y a b left right compared v.0 v.1)
    (λ compared. resets_are_shown before now check.settings o taken x y a b left right compared v.0 v.1)
    (λ compared. events_not_shown before now check.settings o taken x y a b left right compared v.0 v.1))
    (λ x y z a b c left right assumed compared. not_shown_under_in x y z a b c left right assumed before now check.settings o taken check.settings.mode compared v.0 v.1) h.1

limit_found : (held : Held) (check : Check) (before now : Option (List ℕ)) (f : Finding) (proofs : List Proof) → IsFoundOf held check f → IsWrittenAs before now f proofs status.Limit →
    CheckMeans held check before now proofs status.Limit
limit_found held check before now finding.Words proofs h w = absurd h
limit_found held check before now (finding.Refused r) proofs h w = absurd (let e = w.1 in cc)
limit_found held check before now (finding.Cyclic side names) proofs h w = absurd (let e = w.1 in cc)
limit_found held check before now (finding.Unpaired side names) proofs h w = absurd (let e = w.1 in cc)
limit_found held check before now (finding.Done report) proofs h w = absurd h
limit_found held check before now (finding.Generated o report) proofs h w = absurd h
limit_found held check before now (finding.Replayed differences) proofs h w = absurd h
limit_found held check before now (finding.Unrefuted u) proofs h w = absurd h
limit_found held check before now (finding.Judged j kept text) proofs h w = absurd h
limit_found held check before now (finding.Undecided side name proof) proofs h w = absurd h
limit_found held check before now (finding.Checked o s) proofs h w =
    let v = limit_verdict o.verdict w.1 in
    let taken = report_of before now o s check h.0 w.2 in
    over_nets held check
    (λ x y.
    InForm check.settings.mode check.settings.reset (TextsUndecided x y check.settings proofs before now) (ResetsUndecided x y check.settings proofs before now) (EventTextsUndecided x y check.settings proofs before now))
    (λ x y z. LimitUnderIn check.settings.mode x y z check.settings proofs before now) (Ok o)
    (λ x y a b left right.
    in_form check.settings.mode a b check.settings o (λ compared. texts_undecided before now check.settings o taken x y a b left right compared proofs v.0 v.1 w.0)
    (λ compared. resets_undecided before now check.settings o taken x y a b left right compared proofs v.0 v.1 w.0)
    (λ compared. events_undecided before now check.settings o taken x y a b left right compared proofs v.0 v.1 w.0))
    (λ x y z a b c left right assumed compared. limit_under_in x y z a b c left right assumed before now check.settings o taken check.settings.mode compared proofs v.0 v.1 w.0) h.1

-- no verdict is a report on one circuit
no_done_verdict : (v : Verdict) → verdict_status v ≡ status.Done → ⊥
no_done_verdict verdict.Equal e = cc
no_done_verdict (verdict.Different w) e = cc
no_done_verdict (verdict.DifferentFrom w) e = cc
no_done_verdict (verdict.NotShown reason) e = cc
no_done_verdict (verdict.Limit at) e = cc

no_done : (held : Held) (check : Check) (f : Finding) → IsFoundOf held check f → status_of f ≡ status.Done → ⊥
no_done held check finding.Words h e = h
no_done held check (finding.Refused r) h e = cc
no_done held check (finding.Cyclic side names) h e = cc
no_done held check (finding.Unpaired side names) h e = cc
no_done held check (finding.Checked o s) h e = no_done_verdict o.verdict e
no_done held check (finding.Done report) h e = h
no_done held check (finding.Generated o report) h e = h
no_done held check (finding.Replayed differences) h e = h
no_done held check (finding.Unrefuted u) h e = h
no_done held check (finding.Judged j kept text) h e = h
no_done held check (finding.Undecided side name proof) h e = h

-- what the status means of two texts that are compared
pub check_means : (held : Held) (check : Check) (before now : Option (List ℕ)) (f : Finding) (proofs : List Proof) (name : StatusName) →
    IsFoundOf held check f → IsWrittenAs before now f proofs name → CheckMeans held check before now proofs name
check_means held check before now f proofs status.Equal found w = equal_found held check before now f proofs found w
check_means held check before now f proofs status.Different found w = different_found held check before now f proofs found w
check_means held check before now f proofs status.NotShown found w = not_shown_found held check before now f proofs found w
check_means held check before now f proofs status.Limit found w = limit_found held check before now f proofs found w
check_means held check before now f proofs status.Done found w = no_done held check f found w.1
check_means held check before now f proofs status.Refused found w = tt
check_means held check before now f proofs status.Words found w = tt
check_means held check before now f proofs status.ReadFault found w = tt
check_means held check before now f proofs status.WriteFault found w = tt
check_means held check before now f proofs status.NoMemory found w = tt
check_means held check before now f proofs status.Cyclic found w = tt
