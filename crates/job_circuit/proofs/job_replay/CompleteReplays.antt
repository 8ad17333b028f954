-- Where two circuits can be replayed on a stimulus, what is found is the report that is asked for, in the event mode also the limit of a query.
use Rattle.std.proofs.Common.{◌≡◌, ℕ, Bool, true, false, cond, List, [], ◌∷◌, length, refl, sym, ◌∙◌, ap, subst, Option, Some, Ok}
use Rattle.std.specs.Prelude.{◌==◌, IsSomeAnd}
use Rattle.std.proofs.lemmas.Option.{none-some}
use Rattle.circuit_theory.specs.declared.Mode.{Mode}
use Rattle.circuit_theory.specs.declared.Mode.TheVariants.{Plain, Event}
use Rattle.circuit_theory.specs.declared.Side.{Side}
use Rattle.circuit_theory.specs.declared.Side.TheVariants.{A, B}
use Rattle.flat_net.specs.View.{NetView}
use Rattle.latch_kinds.specs.declared.kinds.KindsError.TheVariants as kinds_error
use Rattle.circuit_report.specs.graph_report.Jobs.{IsUnknown}
use Rattle.circuit_report.proofs.graph_report.Ended.{large_or_light}
use Rattle.pair_decide.specs.declared.query.Proof.{Proof}
use Rattle.circuit_report.specs.declared.sim_report.refusal.Misfit.TheVariants as misfit
use Rattle.job_circuit.specs.replay.replay_header.Header.{first_unknown, first_lacking}
use Rattle.cycle_sim.specs.declared.pair_runs.differences.Difference.{Difference}
use Rattle.cycle_sim.specs.declared.pair_runs.differences.Replayed.{Replayed}
use Rattle.cycle_sim.specs.pair_runs.replay_report.Report.{settled_count}
use Rattle.job_circuit.specs.declared.job_replay.replays.ReplayReport.{ReplayReport}
use Rattle.job_circuit.specs.declared.job_replay.replays.ReplayReport.TheVariants as told
use Rattle.job_circuit.specs.job_replay.Modes.{AreUnknown}
use Rattle.job_circuit.specs.job_replay.Told.{finding_of, FindsIn}
use Rattle.job_base.specs.sec_files.Loading.{Loads}
use Rattle.job_base.specs.sec_files.Stimuli.{IsStimulus}
use Rattle.job_base.proofs.sec_files.Texts.{text_sound}
use Rattle.job_base.specs.declared.finding.File.TheVariants as file
use Rattle.job_base.specs.declared.finding.LineFault.TheVariants as line_fault
use Rattle.job_base.specs.declared.finding.Refusal.{Refusal}
use Rattle.job_base.specs.declared.finding.Refusal.TheVariants as refusal
use Rattle.job_base.specs.declared.finding.Finding.{Finding}
use Rattle.job_base.specs.declared.finding.Finding.TheVariants as finding
use Rattle.job_base.specs.declared.finding.Judgement.TheVariants as judgement
use Rattle.job_base.specs.Written.{status_of, replay_status, judgement_status}
use Rattle.job_base.proofs.sec_files.job_files.Accepted.{not_long, not_faulty, not_unsound, not_misread, no_long_stimulus, not_headless, no_row_refused, same_names}
use Rattle.job_base.proofs.sec_files.job_files.Reading.{some_and, if_told}
use Rattle.job_circuit.specs.job_replay.Replays.{OfReplay, IsReplayRefusal, IsReplayFound, CanBeReplayed, IsReplayed, IsReplayComplete}

-- in the plain mode no query of a latch has met the limit
limit_in : (mode : Mode) (n : NetView) (name : List ℕ) (proof : Proof) → IsUnknown mode n (kinds_error.Limit name proof) → mode ≡ Event
limit_in Plain n name proof unknown = absurd unknown
limit_in Event n name proof unknown = refl

limit_of : (mode : Mode) (a b : NetView) (side : Side) (name : List ℕ) (proof : Proof) → AreUnknown mode a b side (kinds_error.Limit name proof) → mode ≡ Event
limit_of mode a b A name proof unknown = limit_in mode a name proof unknown
limit_of mode a b B name proof unknown = limit_in mode b name proof unknown.1

-- what is told has one of the statuses of what was asked for
status_fits : (mode : Mode) (report : ReplayReport) (cycles : ℕ) (r : Replayed) → IsReplayed report mode (status_of (finding_of report cycles r))
status_fits mode told.Differences cycles r = go r.differences
  where
    go : (differences : List Difference) → IsReplayed told.Differences mode (replay_status differences)
    go [] = tt
    go (d ∷ more) = tt
status_fits mode told.DifferencesAndSettled cycles r = go (length r.differences == 0) (settled_count r.settlings == 0)
  where
    go : (same none : Bool) → IsReplayed told.DifferencesAndSettled mode (judgement_status (cond same (cond none judgement.NotShown judgement.Equal) judgement.Different))
    go true true = tt
    go true false = tt
    go false none = tt
status_fits mode told.Settled cycles r = tt

module _ (report : ReplayReport) (mode : Mode) (left right stimulus : Option (List ℕ)) (x y z : List ℕ) (is : left ≡ Some x) (other : right ≡ Some y) (told : stimulus ≡ Some z) (can : CanBeReplayed mode x y z) where
  -- the names of the stimulus are those of the one that fits
  names_are : (names : List (List ℕ)) (rows : List (List Bool)) → IsStimulus z names rows → can.names ≡ names
  names_are names rows spells = same_names z can.names names can.rows rows can.stimulus.form spells.form

  replay_stands : (r : Refusal) → IsReplayRefusal mode left right stimulus r → ⊥
  replay_stands (refusal.TooLong file.A) h = not_long left x is can.left h
  replay_stands (refusal.TooLong file.B) h = not_long right y other can.right h.1
  replay_stands (refusal.TooLong file.C) h = h
  replay_stands (refusal.TooLong file.S) h = no_long_stimulus stimulus z told can.names can.rows can.stimulus h.2
  replay_stands (refusal.Text file.A line (line_fault.Circuit kind)) h = not_faulty left x is can.left line kind h
  replay_stands (refusal.Text file.B line (line_fault.Circuit kind)) h = not_faulty right y other can.right line kind h.1
  replay_stands (refusal.Text file.C line (line_fault.Circuit kind)) h = h
  replay_stands (refusal.Text file.S line (line_fault.Circuit kind)) h = h
  replay_stands (refusal.Text f line (line_fault.Clauses kind)) h = h
  replay_stands (refusal.Text file.A line line_fault.BadHeader) h = h
  replay_stands (refusal.Text file.B line line_fault.BadHeader) h = h
  replay_stands (refusal.Text file.C line line_fault.BadHeader) h = h
  replay_stands (refusal.Text file.S line line_fault.BadHeader) h = not_headless stimulus z told can.names can.rows can.stimulus line h.2
  replay_stands (refusal.Text file.A line line_fault.BadRow) h = h
  replay_stands (refusal.Text file.B line line_fault.BadRow) h = h
  replay_stands (refusal.Text file.C line line_fault.BadRow) h = h
  replay_stands (refusal.Text file.S line line_fault.BadRow) h = no_row_refused stimulus z told can.names can.rows can.stimulus line h.2
  replay_stands (refusal.Design file.A fault) h = not_unsound left x is can.left fault h
  replay_stands (refusal.Design file.B fault) h = not_unsound right y other can.right fault h.1
  replay_stands (refusal.Design file.C fault) h = h
  replay_stands (refusal.Design file.S fault) h = h
  replay_stands (refusal.Record file.A place kind) h = not_misread left x is can.left place kind h
  replay_stands (refusal.Record file.B place kind) h = not_misread right y other can.right place kind h.1
  replay_stands (refusal.Record file.C place kind) h = h
  replay_stands (refusal.Record file.S place kind) h = h
  replay_stands (refusal.Interface name) h =
      let l : Loads x h.a = if_told left (λ t. Loads t h.a) x is h.left_loads in
      let r : Loads y h.b = if_told right (λ t. Loads t h.b) y other h.right_loads in
      none-some name (sym (can.match h.a h.b l r) ∙ h.said)
  replay_stands (refusal.TooLarge A) h =
      let l : Loads x h.a = if_told left (λ t. Loads t h.a) x is h.left_loads in
      large_or_light mode h.a (text_sound x h.a l) h.said.1 (can.left_light h.a l)
  replay_stands (refusal.TooLarge B) h =
      let r : Loads y h.b = if_told right (λ t. Loads t h.b) y other h.right_loads in
      large_or_light mode h.b (text_sound y h.b r) h.said.1.1 (can.right_light h.b r)
  replay_stands (refusal.Misfit (misfit.Unknown name)) h =
      let l : Loads x h.a = if_told left (λ t. Loads t h.a) x is h.left_loads in
      let r : Loads y h.b = if_told right (λ t. Loads t h.b) y other h.right_loads in
      let spells : IsStimulus z h.names h.rows = if_told stimulus (λ t. IsStimulus t h.names h.rows) z told h.spells in
      none-some name (sym (can.fits h.a h.b l r).known ∙ (ap (first_unknown h.a h.b) (names_are h.names h.rows spells) ∙ h.said.1.1))
  replay_stands (refusal.Misfit (misfit.Missing name)) h =
      let l : Loads x h.a = if_told left (λ t. Loads t h.a) x is h.left_loads in
      let r : Loads y h.b = if_told right (λ t. Loads t h.b) y other h.right_loads in
      let spells : IsStimulus z h.names h.rows = if_told stimulus (λ t. IsStimulus t h.names h.rows) z told h.spells in
      none-some name (sym (can.fits h.a h.b l r).complete ∙ (ap (first_lacking h.a h.b) (names_are h.names h.rows spells) ∙ h.said.1.1.1))
  replay_stands (refusal.Misfit misfit.Power) h = h
  replay_stands refusal.TooManyEvents h = h
  replay_stands (refusal.Assume fault) h = h
  replay_stands refusal.Vacuous h = h
  replay_stands (refusal.Pair name) h = h
  replay_stands (refusal.Pairs fault) h = h

  -- what is told of what both circuits show
  told_so : (f : Finding) → OfReplay left right stimulus (λ a b names rows. FindsIn report mode a b names rows (Ok f)) → IsReplayed report mode (status_of f)
  told_so f h = subst (λ (g : Finding). IsReplayed report mode (status_of g)) (sym h.said.2) (status_fits mode report (length h.rows) h.said.0)

  replayed : (f : Finding) → IsReplayFound report mode left right stimulus f → IsReplayed report mode (status_of f)
  replayed finding.Words h = told_so finding.Words h
  replayed (finding.Refused r) h = absurd (replay_stands r h)
  replayed (finding.Cyclic side names) h = told_so (finding.Cyclic side names) h
  replayed (finding.Unpaired side names) h = told_so (finding.Unpaired side names) h
  replayed (finding.Checked o s) h = told_so (finding.Checked o s) h
  replayed (finding.Done text) h = told_so (finding.Done text) h
  replayed (finding.Generated o text) h = told_so (finding.Generated o text) h
  replayed (finding.Unrefuted u) h = told_so (finding.Unrefuted u) h
  replayed (finding.Judged j kept text) h = told_so (finding.Judged j kept text) h
  replayed (finding.Undecided side name proof) h = limit_of mode h.a h.b side name proof h.said.1
  replayed (finding.Replayed differences) h = told_so (finding.Replayed differences) h

-- so what is found has the status of a replay, or of the limit
pub replay_complete : (report : ReplayReport) (mode : Mode) (left right stimulus : Option (List ℕ)) (f : Finding) → IsReplayFound report mode left right stimulus f → IsReplayComplete report mode left right stimulus (status_of f)
replay_complete report mode left right stimulus f found can =
    let x = some_and left (λ s. IsSomeAnd right (λ t. IsSomeAnd stimulus (λ u. CanBeReplayed mode s t u))) can in
    let y = some_and right (λ t. IsSomeAnd stimulus (λ u. CanBeReplayed mode x.0 t u)) x.2 in
    let z = some_and stimulus (λ u. CanBeReplayed mode x.0 y.0 u) y.2 in
    replayed report mode left right stimulus x.0 y.0 z.0 x.1 y.1 z.1 z.2 f found
