-- What the status of a comparison of the outputs of one name means.
use Rattle.std.specs.Prelude.{IfSome, Ok}
use Rattle.std.proofs.Common.{◌≡◌, ℕ, Bool, true, false, List, subst, Option, Some, None}
use Rattle.circuit_theory.specs.declared.Mode.{Mode}
use Rattle.circuit_theory.specs.declared.Mode.TheVariants.{Plain, Event}
use Rattle.circuit_theory.specs.Circuit.{Circuit}
use Rattle.base_shelves.specs.Outside.{Takes}
use Rattle.sec_base.specs.declared.settings.Settings.{Settings}
use Rattle.flat_net.specs.View.{NetView, circuit_of}
use Rattle.net_names.specs.Alone.{only_output}
use Rattle.pair_decide.specs.declared.query.Proof.{Proof}
use Rattle.obligations.specs.declared.outcome.verdict.Outcome.{Outcome}
use Rattle.obligations.specs.declared.outcome.verdict.Verdict.{Verdict}
use Rattle.obligations.specs.declared.outcome.verdict.Verdict.TheVariants as verdict
use Rattle.plain_check.specs.under_base.compare_base.Compared.{IsCompared, IsComparedFromReset}
use Rattle.event_setup.specs.event_meaning.event_names.event_fits.Compared.{ComparedIn, IsComparedInEvents}
use Rattle.event_setup.proofs.event_meaning.Cases.{compared, equal_no_limit}
use Rattle.job_base.specs.Written.{status_of, verdict_status, proofs_of, IsWrittenAs}
use Rattle.job_base.specs.Lines.{finding_text}
use Rattle.job_base.specs.declared.finding.Finding.{Finding}
use Rattle.job_base.specs.declared.finding.Finding.TheVariants as finding
use Rattle.job_base.specs.declared.status.StatusName.{StatusName}
use Rattle.job_base.specs.declared.status.StatusName.TheVariants as status
use Rattle.job_base.specs.sec_files.Loading.{Loads, circuit_of_text}
use Rattle.job_base.specs.sec_files.job_files.Reading.{Held}
use Rattle.job_base.proofs.sec_files.Texts.{spelled_circuit}
use Rattle.job_base.proofs.sec_files.job_files.Reading.{is_loaded}
use Rattle.job_base.proofs.design_laws.FlatOnward as plain_law
use Rattle.job_base.proofs.design_laws.FlatParts.{FlatDesign}
use Rattle.job_base.proofs.design_laws.event_designs.FlatEventAgree as event_law
use Rattle.job_base.proofs.design_laws.text_circuits.Circuits.{text_design}
use Rattle.job_base.proofs.design_laws.text_circuits.CutDesigns.{cuts_differ_up}
use Rattle.job_base.proofs.design_laws.text_circuits.Designs.{agree_up, differ_up, from_up}
use Rattle.job_base.proofs.design_laws.text_circuits.Resets.{resets_agree_up}
use Rattle.job_check.specs.check_meaning.Answer.{InForm}
use Rattle.job_check.specs.check_meaning.check_found.Check.{Check}
use Rattle.job_base.specs.sec_files.job_files.Texts.{OfTexts}
use Rattle.pair_texts.proofs.check_texts.Forms.{by_reset}
use Rattle.pair_texts.proofs.check_texts.ResetDesigns.{resets_differ_up}
use Rattle.job_pair.specs.Found.{IsAnsweredAlone, IsAnsweredBy, IsPairFound}
use Rattle.job_pair.specs.Says.{SaysPlainly, SaysFromReset, SaysInEvents, SaysOf}
use Rattle.job_pair.specs.Answer.{PairAnswers, PairMeans}
use Rattle.job_pair.proofs.Alone.{alone_design}

-- what a comparison says of the circuits of its nets
module _ (a b : NetView) (settings : Settings) (o : Outcome) where
  plainly : IsCompared a b settings o → SaysPlainly o (circuit_of a) (circuit_of b)
  plainly is = record { minimal = is.fits.exposed.minimal; equal = is.equal; different = is.different; not_shown = is.not_shown }

  from_reset : IsComparedFromReset a b settings o → SaysFromReset o (circuit_of a) (circuit_of b)
  from_reset is = record { equal = is.equal; different = is.different }

  in_events : IsComparedInEvents a b settings o → SaysInEvents o (circuit_of a) (circuit_of b)
  in_events is = record {
    minimal = λ e. (compared a b settings.expose settings.conflicts o is.fits (equal_no_limit o.verdict e)).reached.circuits.minimal;
    equal = is.equal;
    different = is.different;
    not_shown = is.not_shown;
  }

  says_in : {X Y Z : Type 0} (mode : Mode) → (IsCompared a b settings o → X) → (IsComparedFromReset a b settings o → Y) → (IsComparedInEvents a b settings o → Z) → ComparedIn mode a b settings (Ok o) → InForm mode settings.reset X Y Z
  says_in Plain f g h is = by_reset settings.reset f g is
  says_in Event f g h is = h is

  pub nets_says : ComparedIn settings.mode a b settings (Ok o) → SaysOf settings o (circuit_of a) (circuit_of b)
  nets_says is = says_in settings.mode plainly from_reset in_events is

-- what is said in each form
form_map : {X Y Z U V W : Type 0} (mode : Mode) (reset : Bool) → (X → U) → (Y → V) → (Z → W) → InForm mode reset X Y Z → InForm mode reset U V W
form_map Plain false f g h x = f x
form_map Plain true f g h y = g y
form_map Event reset f g h z = h z

-- what is said of flat circuits is said of their designs
module _ {P Q : Type 0} {a : Circuit P} {b : Circuit Q} {na nb : Circuit ℕ} {clocked_a : P → Type 0} {clocked_b : Q → Type 0} (f : FlatDesign a na clocked_a) (g : FlatDesign b nb clocked_b) (o : Outcome) where
  plainly_up : SaysPlainly o na nb → SaysPlainly o a b
  plainly_up s = record {
    minimal = plain_law.minimal_up f g o.exposed s.minimal;
    equal = λ e. record { agree = agree_up f g (s.equal e).agree; onward = plain_law.onward_up f g o.exposed (s.equal e).onward; from = from_up f g o.through o.exposed (s.equal e).from };
    different = λ w e. differ_up f g w (s.different w e);
    not_shown = λ w e. cuts_differ_up f g o.exposed w (s.not_shown w e);
  }

  from_reset_up : SaysFromReset o na nb → SaysFromReset o a b
  from_reset_up s = record { equal = λ e. resets_agree_up f g (s.equal e); different = λ w e. resets_differ_up f g w (s.different w e) }

  in_events_up : SaysInEvents o na nb → SaysInEvents o a b
  in_events_up s = record {
    minimal = λ e. event_law.minimal_up f g o.exposed (s.minimal e);
    equal = λ e. (event_law.agree_up f g (s.equal e).0, event_law.onward_up f g o.exposed (s.equal e).1);
    different = λ w e. differ_up f g w (s.different w e);
    not_shown = λ w e. cuts_differ_up f g o.exposed w (s.not_shown w e);
  }

  pub says_up : (settings : Settings) → SaysOf settings o na nb → SaysOf settings o a b
  says_up settings s = form_map settings.mode settings.reset plainly_up from_reset_up in_events_up s

-- an answer that is written
answers : (before now : Option (List ℕ)) (pair : List ℕ) (settings : Settings) (o : Outcome) (proofs : List Proof) (name : StatusName) (x y : List ℕ) (a b : NetView) → Loads x a → Loads y b → IsAnsweredAlone pair settings a b (Ok o) →
    (proofs ≡ proofs_of (finding.Checked o settings)) × (verdict_status o.verdict ≡ name) × Takes before now (finding_text (finding.Checked o settings)) → PairAnswers x y pair settings before now proofs name
answers before now pair settings o proofs name x y a b left right h w =
    let alone : SaysOf settings o (circuit_of h.left) (circuit_of h.right) = nets_says h.left h.right settings o h.compared in
    let nets : SaysOf settings o (only_output pair (circuit_of a)) (only_output pair (circuit_of b)) =
    subst (λ (c : Circuit ℕ). SaysOf settings o (only_output pair (circuit_of a)) c) h.right_alone.circuit (subst (λ (c : Circuit ℕ). SaysOf settings o c (circuit_of h.right)) h.left_alone.circuit alone) in
    record {
      left_clock = a.clock;
      right_clock = b.clock;
      left = circuit_of_text x a.clock;
      right = circuit_of_text y b.clock;
      left_spelled = spelled_circuit x a left;
      right_spelled = spelled_circuit y b right;
      left_net = a;
      right_net = b;
      left_loads = left;
      right_loads = right;
      outcome = o;
      answered = h;
      status_is = w.1;
      proofs_are = w.0;
      printed = w.2;
      says = says_up (alone_design pair (text_design x a left)) (alone_design pair (text_design y b right)) o settings nets;
      nets_say = nets;
    }

pub if_some : {X : Type 0} {F G : X → Type 0} (o : Option X) → ((x : X) → F x → G x) → IfSome o F → IfSome o G
if_some None f h = tt
if_some (Some x) f h = f x h

-- a verdict is no report
pub no_done : (v : Verdict) → verdict_status v ≡ status.Done → ⊥
no_done verdict.Equal e = cc
no_done (verdict.Different w) e = cc
no_done (verdict.DifferentFrom w) e = cc
no_done (verdict.NotShown reason) e = cc
no_done (verdict.Limit at) e = cc

module _ (held : Held) (pair : List ℕ) (check : Check) (before now : Option (List ℕ)) (proofs : List Proof) where
  -- an outcome that is written is an answer
  checked : (o : Outcome) (settings : Settings) (name : StatusName) → (settings ≡ check.settings) × IsAnsweredBy held pair check (Ok o) →
      (proofs ≡ proofs_of (finding.Checked o settings)) × (verdict_status o.verdict ≡ name) × Takes before now (finding_text (finding.Checked o settings)) →
      OfTexts (held check.left) (held check.right) (λ x y. PairAnswers x y pair check.settings before now proofs name)
  checked o settings name h w =
      let n = h.1 in
      let own = subst (λ (s : Settings). (proofs ≡ proofs_of (finding.Checked o s)) × (verdict_status o.verdict ≡ name) × Takes before now (finding_text (finding.Checked o s))) h.0 w in
      record {
        left_loads = is_loaded (held check.left) n.a n.left_loads;
        right_loads = is_loaded (held check.right) n.b n.right_loads;
        said = if_some (held check.left) (λ x l. if_some (held check.right) (λ y r. answers before now pair check.settings o proofs name x y n.a n.b l r n.said own) n.right_loads) n.left_loads;
      }

  -- what is written of a finding is an answer, or says nothing
  module _ (name : StatusName) (refused : status.Refused ≡ name → ⊥) (cyclic : status.Cyclic ≡ name → ⊥) where
    answer_means : (f : Finding) → IsPairFound held pair check f → (proofs ≡ proofs_of f) × (status_of f ≡ name) × Takes before now (finding_text f) →
        OfTexts (held check.left) (held check.right) (λ x y. PairAnswers x y pair check.settings before now proofs name)
    answer_means finding.Words h w = absurd h
    answer_means (finding.Refused x) h w = absurd (refused w.1)
    answer_means (finding.Cyclic side names) h w = absurd (cyclic w.1)
    answer_means (finding.Unpaired side names) h w = absurd (cyclic w.1)
    answer_means (finding.Checked o settings) h w = checked o settings name h w
    answer_means (finding.Done report) h w = absurd h
    answer_means (finding.Generated o report) h w = absurd h
    answer_means (finding.Replayed differences) h w = absurd h
    answer_means (finding.Undecided side latch proof) h w = absurd h
    answer_means (finding.Unrefuted u) h w = absurd h
    answer_means (finding.Judged j kept text) h w = absurd h

  no_report : (f : Finding) → IsPairFound held pair check f → status_of f ≡ status.Done → ⊥
  no_report finding.Words h e = h
  no_report (finding.Refused x) h e = cc
  no_report (finding.Cyclic side names) h e = cc
  no_report (finding.Unpaired side names) h e = cc
  no_report (finding.Checked o settings) h e = no_done o.verdict e
  no_report (finding.Done report) h e = h
  no_report (finding.Generated o report) h e = h
  no_report (finding.Replayed differences) h e = h
  no_report (finding.Undecided side latch proof) h e = h
  no_report (finding.Unrefuted u) h e = h
  no_report (finding.Judged j kept text) h e = h

  -- what a written finding means
  pub pair_means : (f : Finding) (name : StatusName) → IsPairFound held pair check f → IsWrittenAs before now f proofs name → PairMeans held pair check before now proofs name
  pair_means f status.Equal h w = answer_means status.Equal (λ e. cc) (λ e. cc) f h w
  pair_means f status.Different h w = answer_means status.Different (λ e. cc) (λ e. cc) f h w
  pair_means f status.NotShown h w = answer_means status.NotShown (λ e. cc) (λ e. cc) f h w
  pair_means f status.Limit h w = answer_means status.Limit (λ e. cc) (λ e. cc) f h w
  pair_means f status.Done h w = no_report f h w.1
  pair_means f status.Refused h w = tt
  pair_means f status.Words h w = tt
  pair_means f status.ReadFault h w = tt
  pair_means f status.WriteFault h w = tt
  pair_means f status.NoMemory h w = tt
  pair_means f status.Cyclic h w = tt
