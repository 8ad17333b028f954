-- What the status of a comparison under the names of a third file means.
use Rattle.std.specs.Prelude.{IfSome, Ok}
use Rattle.std.proofs.Common.{◌≡◌, ℕ, List, subst, Option, Some, None}
use Rattle.circuit_theory.specs.Circuit.{Circuit}
use Rattle.base_shelves.specs.Outside.{Takes}
use Rattle.sec_base.specs.declared.settings.Settings.{Settings}
use Rattle.flat_net.specs.View.{NetView, circuit_of}
use Rattle.net_names.specs.Renamed.{renamed}
use Rattle.pair_decide.specs.declared.query.Proof.{Proof}
use Rattle.obligations.specs.declared.outcome.verdict.Outcome.{Outcome}
use Rattle.job_base.specs.Written.{status_of, verdict_status, proofs_of, IsWrittenAs}
use Rattle.job_base.specs.Lines.{finding_text}
use Rattle.job_base.specs.declared.finding.Finding.{Finding}
use Rattle.job_base.specs.declared.finding.Finding.TheVariants as finding
use Rattle.job_base.specs.declared.status.StatusName.{StatusName}
use Rattle.job_base.specs.declared.status.StatusName.TheVariants as status
use Rattle.job_base.specs.sec_files.Loading.{Loads, circuit_of_text}
use Rattle.job_base.specs.sec_files.job_files.Reading.{Held}
use Rattle.job_base.proofs.sec_files.Texts.{spelled_circuit}
use Rattle.job_base.proofs.sec_files.job_files.Reading.{is_loaded}
use Rattle.job_base.proofs.design_laws.text_circuits.Circuits.{text_design}
use Rattle.job_check.specs.check_meaning.check_found.Check.{Check}
use Rattle.job_pair.specs.Says.{SaysOf}
use Rattle.job_pair.proofs.Means.{if_some, nets_says, no_done, says_up}
use Rattle.job_pair.specs.job_renamed.Answer.{OfThreeTexts, RenamedAnswers, RenamedMeans}
use Rattle.job_pair.specs.job_renamed.Found.{IsAnsweredBy, IsAnsweredUnder, IsRenamedFound}
use Rattle.job_pair.proofs.job_renamed.Designs.{renamed_design}

-- an answer that is written
answers : (before now : Option (List ℕ)) (settings : Settings) (o : Outcome) (proofs : List Proof) (name : StatusName) (x y z : List ℕ) (a b : NetView) → Loads x a → Loads y b → IsAnsweredUnder settings z a b (Ok o) →
    (proofs ≡ proofs_of (finding.Checked o settings)) × (verdict_status o.verdict ≡ name) × Takes before now (finding_text (finding.Checked o settings)) → RenamedAnswers x y z settings before now proofs name
answers before now settings o proofs name x y z a b left right h w =
    let pairs = h.1.0 in
    let own : SaysOf settings o (circuit_of a) (circuit_of h.0) = nets_says a h.0 settings o h.2 in
    let nets : SaysOf settings o (circuit_of a) (renamed pairs (circuit_of b)) = subst (λ (c : Circuit ℕ). SaysOf settings o (circuit_of a) c) h.1.2.circuit own in
    record {
      left_clock = a.clock;
      right_clock = b.clock;
      left = circuit_of_text x a.clock;
      right = circuit_of_text y b.clock;
      left_spelled = spelled_circuit x a left;
      right_spelled = spelled_circuit y b right;
      left_net = a;
      right_net = b;
      left_loads = left;
      right_loads = right;
      pairs = pairs;
      paired = h.1.1;
      renamed_net = h.0;
      is_renamed = h.1.2;
      outcome = o;
      compared = h.2;
      status_is = w.1;
      proofs_are = w.0;
      printed = w.2;
      says = says_up (text_design x a left) (renamed_design pairs (text_design y b right)) o settings nets;
      nets_say = nets;
    }

module _ (held : Held) (check : Check) (pairs : List ℕ) (before now : Option (List ℕ)) (proofs : List Proof) where
  -- an outcome that is written is an answer
  checked : (o : Outcome) (settings : Settings) (name : StatusName) → (settings ≡ check.settings) × IsAnsweredBy held check pairs (Ok o) →
      (proofs ≡ proofs_of (finding.Checked o settings)) × (verdict_status o.verdict ≡ name) × Takes before now (finding_text (finding.Checked o settings)) →
      OfThreeTexts held check pairs (λ x y z. RenamedAnswers x y z check.settings before now proofs name)
  checked o settings name h w =
      let n = h.1 in
      let own = subst (λ (s : Settings). (proofs ≡ proofs_of (finding.Checked o s)) × (verdict_status o.verdict ≡ name) × Takes before now (finding_text (finding.Checked o s))) h.0 w in
      record {
        left_loads = is_loaded (held check.left) n.a n.left_loads;
        right_loads = is_loaded (held check.right) n.b n.right_loads;
        said = if_some (held check.left)
            (λ x l. if_some (held check.right) (λ y r. if_some (held pairs) (λ z s. answers before now check.settings o proofs name x y z n.a n.b l r s own) n.said) n.right_loads) n.left_loads;
      }

  -- what is written of a finding is an answer, or says nothing
  module _ (name : StatusName) (refused : status.Refused ≡ name → ⊥) (cyclic : status.Cyclic ≡ name → ⊥) where
    answer_means : (f : Finding) → IsRenamedFound held check pairs f → (proofs ≡ proofs_of f) × (status_of f ≡ name) × Takes before now (finding_text f) →
        OfThreeTexts held check pairs (λ x y z. RenamedAnswers x y z check.settings before now proofs name)
    answer_means finding.Words h w = absurd h
    answer_means (finding.Refused x) h w = absurd (refused w.1)
    answer_means (finding.Cyclic side names) h w = absurd (cyclic w.1)
    answer_means (finding.Unpaired side names) h w = absurd (cyclic w.1)
    answer_means (finding.Checked o settings) h w = checked o settings name h w
    answer_means (finding.Done report) h w = absurd h
    answer_means (finding.Generated o report) h w = absurd h
    answer_means (finding.Replayed differences) h w = absurd h
    answer_means (finding.Undecided side latch proof) h w = absurd h
    answer_means (finding.Unrefuted u) h w = absurd h
    answer_means (finding.Judged j kept text) h w = absurd h

  no_report : (f : Finding) → IsRenamedFound held check pairs f → status_of f ≡ status.Done → ⊥
  no_report finding.Words h e = h
  no_report (finding.Refused x) h e = cc
  no_report (finding.Cyclic side names) h e = cc
  no_report (finding.Unpaired side names) h e = cc
  no_report (finding.Checked o settings) h e = no_done o.verdict e
  no_report (finding.Done report) h e = h
  no_report (finding.Generated o report) h e = h
  no_report (finding.Replayed differences) h e = h
  no_report (finding.Undecided side latch proof) h e = h
  no_report (finding.Unrefuted u) h e = h
  no_report (finding.Judged j kept text) h e = h

  -- what a written finding means
  pub renamed_means : (f : Finding) (name : StatusName) → IsRenamedFound held check pairs f → IsWrittenAs before now f proofs name → RenamedMeans held check pairs before now proofs name
  renamed_means f status.Equal h w = answer_means status.Equal (λ e. cc) (λ e. cc) f h w
  renamed_means f status.Different h w = answer_means status.Different (λ e. cc) (λ e. cc) f h w
  renamed_means f status.NotShown h w = answer_means status.NotShown (λ e. cc) (λ e. cc) f h w
  renamed_means f status.Limit h w = answer_means status.Limit (λ e. cc) (λ e. cc) f h w
  renamed_means f status.Done h w = no_report f h w.1
  renamed_means f status.Refused h w = tt
  renamed_means f status.Words h w = tt
  renamed_means f status.ReadFault h w = tt
  renamed_means f status.WriteFault h w = tt
  renamed_means f status.NoMemory h w = tt
  renamed_means f status.Cyclic h w = tt
