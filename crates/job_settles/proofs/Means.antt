-- What the status of a comparison with cares means for the texts.
use Rattle.std.specs.Prelude.{find, option_map}
use Rattle.std.proofs.Common.{◌≡◌, ◌∙◌, ℕ, Bool, true, false, cond, List, [], ◌∷◌, refl, sym, ap, subst, Option, Some, None, Ok}
use Rattle.std.specs.List.{All}
use Rattle.std.proofs.lemmas.List.Elements.{All-nil, All-cons}
use Rattle.circuit_theory.specs.declared.Mode.{Mode}
use Rattle.circuit_theory.specs.declared.Mode.TheVariants.{Plain, Event}
use Rattle.base_shelves.specs.Outside.{Takes}
use Rattle.sec_base.specs.declared.settings.Settings.{Settings}
use Rattle.flat_net.specs.View.{NetView}
use Rattle.witness_report.specs.declared.witness.PairName.{PairName}
use Rattle.obligations.specs.outcome.Proof.{Proof}
use Rattle.obligations.specs.outcome.Report.{report_text}
use Rattle.obligations.specs.declared.outcome.verdict.Outcome.{Outcome}
use Rattle.obligations.specs.declared.outcome.verdict.Verdict.{Verdict}
use Rattle.obligations.specs.declared.outcome.verdict.Verdict.TheVariants as verdict
use Rattle.event_settles.specs.declared.cares.Care.{Care}
use Rattle.event_settles.specs.declared.cares.Care.TheVariants as care
use Rattle.event_settles.specs.declared.cares.PairCare.{PairCare}
use Rattle.event_setup.specs.event_meaning.event_names.event_fits.Compared.{ComparedIn}
use Rattle.event_setup.specs.event_meaning.event_meaning_under.Answered.{ComparedUnderIn}
use Rattle.job_base.specs.Written.{judgement_status, outcome_proofs, proofs_of, status_of, verdict_status, IsWrittenAs}
use Rattle.job_base.specs.Lines.{finding_text}
use Rattle.job_base.specs.declared.finding.Finding.{Finding}
use Rattle.job_base.specs.declared.finding.Finding.TheVariants as finding
use Rattle.job_base.specs.declared.finding.Judgement.{Judgement}
use Rattle.job_base.specs.declared.finding.Judgement.TheVariants as judgement
use Rattle.job_base.specs.declared.status.StatusName.{StatusName}
use Rattle.job_base.specs.declared.status.StatusName.TheVariants as status
use Rattle.job_base.specs.sec_files.job_files.Reading.{Held}
use Rattle.job_check.specs.check_meaning.Answer.{IsAnswer, IsCheckComplete}
use Rattle.job_check.specs.check_meaning.check_found.Check.{Check}
use Rattle.job_check.specs.check_meaning.check_found.Found.{IsAnsweredBy}
use Rattle.job_check.proofs.check_meaning.Complete.{check_complete}
use Rattle.job_check.proofs.check_meaning.Means.{check_means}
use Rattle.job_settles.specs.Answer.{Settles, SettlesMeans, TextsSayNever}
use Rattle.job_settles.specs.Found.{IsSettledBy, IsSettledFinding, IsSettlesFound}
use Rattle.job_settles.specs.Report.{first_limit, first_never, first_where, is_limit, is_never, judged_by, settles_judgement}
use Rattle.job_settles.specs.Settled.{SettledIn, SettledUnderIn}
use Rattle.job_settles.proofs.Settling.{settled_says, settled_says_under}

-- the answer with cares is that of the comparison
compared_in : (mode : Mode) (a b : NetView) (s : Settings) (o : Outcome) (cares : List PairCare) → SettledIn mode a b s (Ok (record { outcome = o; cares = cares })) → ComparedIn mode a b s (Ok o)
compared_in Plain a b s o cares h = h.0
compared_in Event a b s o cares h = h.0

compared_under_in : (mode : Mode) (a b c : NetView) (s : Settings) (o : Outcome) (cares : List PairCare) → SettledUnderIn mode a b c s (Ok (record { outcome = o; cares = cares })) → ComparedUnderIn mode a b c s (Ok o)
compared_under_in Plain a b c s o cares h = h.0
compared_under_in Event a b c s o cares h = h.0

module _ (held : Held) (left right : List ℕ) (settings : Settings) (o : Outcome) (cares : List PairCare) where
  abbrev check_with : Option (List ℕ) → Check
  check_with assumed = record { left = left; right = right; settings = settings; assumed = assumed }

  answered : (assumed : Option (List ℕ)) → IsSettledBy held (check_with assumed) o cares → IsAnsweredBy held (check_with assumed) (Ok o)
  answered None n = record { a = n.a; b = n.b; left_loads = n.left_loads; right_loads = n.right_loads; said = compared_in settings.mode n.a n.b settings o cares n.said }
  answered (Some path) n = record {
    a = n.a;
    b = n.b;
    c = n.c;
    left_loads = n.left_loads;
    right_loads = n.right_loads;
    assumed_loads = n.assumed_loads;
    said = compared_under_in settings.mode n.a n.b n.c settings o cares n.said;
  }

  says : (assumed : Option (List ℕ)) → IsSettledBy held (check_with assumed) o cares → TextsSayNever held (check_with assumed) o cares
  says None n = record { a = n.a; b = n.b; left_loads = n.left_loads; right_loads = n.right_loads; said = settled_says settings.mode n.a n.b settings o cares n.said }
  says (Some path) n = record {
    a = n.a;
    b = n.b;
    c = n.c;
    left_loads = n.left_loads;
    right_loads = n.right_loads;
    assumed_loads = n.assumed_loads;
    said = settled_says_under settings.mode n.a n.b n.c settings o cares n.said;
  }

-- the report without cares, as it would be written
written : (before other : Option (List ℕ)) (o : Outcome) (s : Settings) → Takes before other (report_text s o) → (v : Verdict) → o.verdict ≡ v → IsWrittenAs before other (finding.Checked o s) (outcome_proofs o) (verdict_status v)
written before other o s taken verdict.Equal e = (refl, ap verdict_status e, taken)
written before other o s taken (verdict.Different w) e = (refl, ap verdict_status e, taken)
written before other o s taken (verdict.DifferentFrom w) e = (refl, ap verdict_status e, taken)
written before other o s taken (verdict.NotShown reason) e = (refl, ap verdict_status e, taken)
written before other o s taken (verdict.Limit at) e = (refl, ap verdict_status e, taken)

judged : (held : Held) (check : Check) (before now : Option (List ℕ)) (j : Judgement) (kept : List Proof) (text : List ℕ) (proofs : List Proof) (name : StatusName) → IsSettledFinding held check j kept text → proofs ≡ kept → judgement_status j ≡ name → Takes before now text →
    Settles held check before now proofs name
judged held check before now j kept text proofs name h same is taken = record {
  outcome = h.outcome;
  cares = h.cares;
  settled = h.settled;
  says = says held check.left check.right check.settings h.outcome h.cares check.assumed h.settled;
  printed = subst (Takes before now) h.text_is taken;
  proofs_are = same ∙ h.proofs;
  status_is = ap judgement_status (sym h.judged) ∙ is;
  without = λ other t.
      check_means held check before other (finding.Checked h.outcome check.settings) (outcome_proofs h.outcome) (verdict_status h.outcome.verdict)
      (refl, answered held check.left check.right check.settings h.outcome h.cares check.assumed h.settled)
      (written before other h.outcome check.settings t h.outcome.verdict refl);
}

-- some frame has care for the pair
abbrev IsMet : PairCare → Type 0
IsMet c = c.care ≡ care.Met

passed : (test : PairCare → Bool) (c : PairCare) (rest : List PairCare) → test c ≡ false → first_where test (c ∷ rest) ≡ None → first_where test rest ≡ None
passed test c rest e h = sym (ap (λ b. option_map (λ (x : PairCare). x.name) (cond b (Some c) (find test rest))) e) ∙ h

found : (test : PairCare → Bool) (c : PairCare) (rest : List PairCare) → test c ≡ true → first_where test (c ∷ rest) ≡ None → ⊥
found test c rest e h = some_none (sym (ap (λ b. option_map (λ (x : PairCare). x.name) (cond b (Some c) (find test rest))) e) ∙ h)
  where
    some_none : Some c.name ≡ None → ⊥
    some_none q = cc

-- where no pair has none and none isn't known, each has care
all_met : (cares : List PairCare) → first_never cares ≡ None → first_limit cares ≡ None → All IsMet cares
all_met [] never limit = All-nil IsMet
all_met (c ∷ rest) never limit = by c.care refl (λ n l. all_met rest n l)
  where
    of : (test : PairCare → Bool) (x : Care) → c.care ≡ x → test c ≡ test (record { name = c.name; care = x })
    of test x e = ap (λ (y : Care). test (record { name = c.name; care = y })) e

    by : (x : Care) → c.care ≡ x → (first_never rest ≡ None → first_limit rest ≡ None → All IsMet rest) → All IsMet (c ∷ rest)
    by care.Met e more = All-cons IsMet c rest e (more (passed is_never c rest (of is_never care.Met e) never) (passed is_limit c rest (of is_limit care.Met e) limit))
    by (care.Never idle) e more = absurd (found is_never c rest (of is_never (care.Never idle) e) never)
    by (care.Limit proof) e more = absurd (found is_limit c rest (of is_limit (care.Limit proof) e) limit)

-- so it is where that is said
equal_met : (v : Verdict) (cares : List PairCare) → judgement_status (settles_judgement v cares) ≡ status.Equal → All IsMet cares
equal_met verdict.Equal cares e = by (first_never cares) (first_limit cares) refl refl e
  where
    by : (n l : Option PairName) → first_never cares ≡ n → first_limit cares ≡ l → judgement_status (judged_by n l) ≡ status.Equal → All IsMet cares
    by None None never limit q = all_met cares never limit
    by None (Some name) never limit q = absurd (cc)
    by (Some name) l never limit q = absurd (cc)
equal_met (verdict.Different w) cares e = absurd (cc)
equal_met (verdict.DifferentFrom w) cares e = absurd (cc)
equal_met (verdict.NotShown reason) cares e = absurd (cc)
equal_met (verdict.Limit at) cares e = absurd (cc)

-- no answer is a report on a circuit
no_done : (j : Judgement) → judgement_status j ≡ status.Done → ⊥
no_done judgement.Equal e = cc
no_done judgement.Different e = cc
no_done judgement.NotShown e = cc
no_done judgement.Limit e = cc

-- what is written of a finding of such a comparison is an answer, or says nothing
module _ (held : Held) (check : Check) (before now : Option (List ℕ)) (proofs : List Proof) (name : StatusName) (refused : status.Refused ≡ name → ⊥) (cyclic : status.Cyclic ≡ name → ⊥) where
  answer_means : (f : Finding) → IsSettlesFound held check f → (proofs ≡ proofs_of f) × (status_of f ≡ name) × Takes before now (finding_text f) → Settles held check before now proofs name
  answer_means finding.Words h w = absurd h
  answer_means (finding.Refused x) h w = absurd (refused w.1)
  answer_means (finding.Cyclic side names) h w = absurd (cyclic w.1)
  answer_means (finding.Unpaired side names) h w = absurd (cyclic w.1)
  answer_means (finding.Checked o settings) h w = absurd h
  answer_means (finding.Done report) h w = absurd h
  answer_means (finding.Generated o report) h w = absurd h
  answer_means (finding.Replayed differences) h w = absurd h
  answer_means (finding.Undecided side latch proof) h w = absurd h
  answer_means (finding.Unrefuted u) h w = absurd h
  answer_means (finding.Judged j kept text) h w = judged held check before now j kept text proofs name h w.0 w.1 w.2

no_done_found : (held : Held) (check : Check) (f : Finding) → IsSettlesFound held check f → status_of f ≡ status.Done → ⊥
no_done_found held check finding.Words h e = h
no_done_found held check (finding.Refused x) h e = cc
no_done_found held check (finding.Cyclic side names) h e = cc
no_done_found held check (finding.Unpaired side names) h e = cc
no_done_found held check (finding.Checked o settings) h e = h
no_done_found held check (finding.Done report) h e = h
no_done_found held check (finding.Generated o report) h e = h
no_done_found held check (finding.Replayed differences) h e = h
no_done_found held check (finding.Undecided side latch proof) h e = h
no_done_found held check (finding.Unrefuted u) h e = h
no_done_found held check (finding.Judged j kept text) h e = no_done j e

pub settles_means : (held : Held) (check : Check) (before now : Option (List ℕ)) (f : Finding) (proofs : List Proof) (name : StatusName) → IsSettlesFound held check f → IsWrittenAs before now f proofs name → SettlesMeans held check before now proofs name
settles_means held check before now f proofs status.Equal h w =
    let s = answer_means held check before now proofs status.Equal (λ q. cc) (λ q. cc) f h w in
    (s, equal_met s.outcome.verdict s.cares s.status_is)
settles_means held check before now f proofs status.Different h w = answer_means held check before now proofs status.Different (λ q. cc) (λ q. cc) f h w
settles_means held check before now f proofs status.NotShown h w = answer_means held check before now proofs status.NotShown (λ q. cc) (λ q. cc) f h w
settles_means held check before now f proofs status.Limit h w = answer_means held check before now proofs status.Limit (λ q. cc) (λ q. cc) f h w
settles_means held check before now f proofs status.Done h w = no_done_found held check f h w.1
settles_means held check before now f proofs status.Refused h w = tt
settles_means held check before now f proofs status.Words h w = tt
settles_means held check before now f proofs status.ReadFault h w = tt
settles_means held check before now f proofs status.WriteFault h w = tt
settles_means held check before now f proofs status.NoMemory h w = tt
settles_means held check before now f proofs status.Cyclic h w = tt

-- each answer is one
answers : (j : Judgement) → IsAnswer (judgement_status j)
answers judgement.Equal = tt
answers judgement.Different = tt
answers judgement.NotShown = tt
answers judgement.Limit = tt

-- a comparison that can be made is answered, by what is found of it
pub settles_complete : (held : Held) (check : Check) (f : Finding) → IsSettlesFound held check f → IsCheckComplete held check (status_of f)
settles_complete held check finding.Words h = absurd h
settles_complete held check (finding.Refused x) h = check_complete held check (finding.Refused x) h
settles_complete held check (finding.Cyclic side names) h = check_complete held check (finding.Cyclic side names) h
settles_complete held check (finding.Unpaired side names) h = check_complete held check (finding.Unpaired side names) h
settles_complete held check (finding.Checked o settings) h = absurd h
settles_complete held check (finding.Done report) h = absurd h
settles_complete held check (finding.Generated o report) h = absurd h
settles_complete held check (finding.Replayed differences) h = absurd h
settles_complete held check (finding.Undecided side latch proof) h = absurd h
settles_complete held check (finding.Unrefuted u) h = absurd h
settles_complete held check (finding.Judged j kept text) h = λ can. answers j
