-- What is told of two circuits that are run on one stimulus.
use Rattle.std.specs.Prelude.{◌≡◌, ℕ, ◌==◌, Bool, true, false, List, [], length, Result, Ok, Err, if◌then◌else◌}
use Rattle.circuit_theory.specs.declared.Mode.{Mode}
use Rattle.flat_net.specs.View.{NetView}
use Rattle.cycle_sim.specs.declared.pair_runs.differences.Replayed.{Replayed}
use Rattle.cycle_sim.specs.pair_runs.replay_report.Report.{settled_count, settled_replay_text, settle_text}
use Rattle.job_base.specs.declared.finding.Finding.{Finding}
use Rattle.job_base.specs.declared.finding.Finding.TheVariants as finding
use Rattle.job_base.specs.declared.finding.Judgement.{Judgement}
use Rattle.job_base.specs.declared.finding.Judgement.TheVariants as judgement
use Rattle.job_circuit.specs.declared.job_replay.fault.ReplayFault.{ReplayFault}
use Rattle.job_circuit.specs.declared.job_replay.replays.ReplayReport.{ReplayReport}
use Rattle.job_circuit.specs.declared.job_replay.replays.ReplayReport.TheVariants as told
use Rattle.job_circuit.specs.job_replay.Modes.{ReplaysIn}

-- what is told of a replay: with `settles` also how many pairs are settled
abbrev pub report_with : Bool → ReplayReport
report_with false = told.Differences
report_with true = told.DifferencesAndSettled

-- what is said of two circuits: some pair differs; or none does, and some is settled in both, or none
abbrev pub judgement_of : Replayed → Judgement
judgement_of r = if length r.differences == 0 then (if settled_count r.settlings == 0 then judgement.NotShown else judgement.Equal) else judgement.Different

-- what is found, by what is to be told, of what both circuits show in so many cycles
abbrev pub finding_of : ReplayReport → ℕ → Replayed → Finding
finding_of told.Differences cycles r = finding.Replayed r.differences
finding_of told.DifferencesAndSettled cycles r = finding.Judged (judgement_of r) [] (settled_replay_text cycles r)
finding_of told.Settled cycles r = finding.Done (settle_text cycles r.settlings)

-- what is found where both nets are run over the rows in the mode, or why they aren't
abbrev pub FindsIn : ReplayReport → Mode → NetView → NetView → List (List ℕ) → List (List Bool) → Result Finding ReplayFault → Type 0
FindsIn report mode a b header rows (Ok f) = (replayed : Replayed) × ReplaysIn mode a b header rows (Ok replayed) × (f ≡ finding_of report (length rows) replayed)
FindsIn report mode a b header rows (Err error) = ReplaysIn mode a b header rows (Err error)
