-- Where a circuit can be reported on, and a stimulus and a power word fit it, what is found is the report, in the event mode also the
-- limit of a query.
use Rattle.std.specs.Prelude.{IsSomeAnd}
use Rattle.std.proofs.Common.{◌≡◌, ℕ, Bool, List, refl, sym, ◌∙◌, ap, arith, Option, Some}
use Rattle.std.proofs.lemmas.Option.{none-some}
use Rattle.circuit_theory.specs.declared.Mode.{Mode}
use Rattle.circuit_theory.specs.declared.Mode.TheVariants.{Plain, Event}
use Rattle.circuit_theory.specs.declared.Side.TheVariants.{A, B}
use Rattle.flat_net.specs.View.{NetView}
use Rattle.circuit_report.specs.sim_report.Checks.{first_misfit}
use Rattle.pair_decide.specs.declared.query.Proof.{Proof}
use Rattle.job_base.specs.declared.finding.File.TheVariants as file
use Rattle.job_base.specs.declared.finding.LineFault.TheVariants as line_fault
use Rattle.job_base.specs.declared.finding.Refusal.{Refusal}
use Rattle.job_base.specs.declared.finding.Refusal.TheVariants as refusal
use Rattle.job_base.specs.declared.finding.Finding.{Finding}
use Rattle.job_base.specs.declared.finding.Finding.TheVariants as finding
use Rattle.job_base.specs.declared.status.StatusName.TheVariants as status
use Rattle.job_base.specs.Written.{status_of}
use Rattle.latch_kinds.specs.declared.kinds.KindsError.TheVariants as kinds_error
use Rattle.circuit_report.specs.graph_report.Jobs.{IsUnknown}
use Rattle.circuit_report.proofs.graph_report.Ended.{large_or_light}
use Rattle.job_base.specs.sec_files.Loading.{IsAccepted, Loads, IsTooLong}
use Rattle.job_base.specs.sec_files.Stimuli.{IsStimulus, HasBadHeader, HasBadRow}
use Rattle.job_base.proofs.sec_files.Texts.{text_sound}
use Rattle.job_base.proofs.sec_files.job_files.Accepted.{has_header, no_bad_row, same_names, not_long, not_faulty, not_unsound, not_misread}
use Rattle.job_base.proofs.sec_files.job_files.Reading.{some_and, if_told}
use Rattle.job_circuit.specs.Reports.{IsCircuitRefusal, IsGraphRefusal, IsGraphFound, IsSimRefusal, IsSimFound, CanBeTold, CanBeRun, IsReported, IsGraphComplete, IsSimComplete}

-- an accepted circuit is not refused
module _ (circuit : Option (List ℕ)) (x : List ℕ) (is : circuit ≡ Some x) (accepted : IsAccepted x) where
  pub circuit_stands : (r : Refusal) → IsCircuitRefusal circuit r → ⊥
  circuit_stands (refusal.TooLong file.A) h = not_long circuit x is accepted h
  circuit_stands (refusal.TooLong file.B) h = h
  circuit_stands (refusal.TooLong file.C) h = h
  circuit_stands (refusal.TooLong file.S) h = h
  circuit_stands (refusal.Text file.A line (line_fault.Circuit kind)) h = not_faulty circuit x is accepted line kind h
  circuit_stands (refusal.Text file.A line line_fault.BadHeader) h = h
  circuit_stands (refusal.Text file.A line line_fault.BadRow) h = h
  circuit_stands (refusal.Text file.A line (line_fault.Clauses kind)) h = h
  circuit_stands (refusal.Text file.B line fault) h = h
  circuit_stands (refusal.Text file.C line fault) h = h
  circuit_stands (refusal.Text file.S line fault) h = h
  circuit_stands (refusal.Design file.A fault) h = not_unsound circuit x is accepted fault h
  circuit_stands (refusal.Design file.B fault) h = h
  circuit_stands (refusal.Design file.C fault) h = h
  circuit_stands (refusal.Design file.S fault) h = h
  circuit_stands (refusal.Record file.A place kind) h = not_misread circuit x is accepted place kind h
  circuit_stands (refusal.Record file.B place kind) h = h
  circuit_stands (refusal.Record file.C place kind) h = h
  circuit_stands (refusal.Record file.S place kind) h = h
  circuit_stands (refusal.Interface name) h = h
  circuit_stands (refusal.TooLarge side) h = h
  circuit_stands (refusal.Misfit m) h = h
  circuit_stands refusal.TooManyEvents h = h
  circuit_stands (refusal.Assume fault) h = h
  circuit_stands refusal.Vacuous h = h
  circuit_stands (refusal.Pair name) h = h
  circuit_stands (refusal.Pairs fault) h = h

-- in the plain mode no query of a latch has met the limit
limit_reported : (mode : Mode) (n : NetView) (name : List ℕ) (proof : Proof) → IsUnknown mode n (kinds_error.Limit name proof) → IsReported mode status.Limit
limit_reported Plain n name proof unknown = absurd unknown
limit_reported Event n name proof unknown = refl

-- a circuit that can be reported on is not refused
module _ (mode : Mode) (circuit : Option (List ℕ)) (x : List ℕ) (is : circuit ≡ Some x) (can : CanBeTold mode x) where
  graph_stands : (r : Refusal) → IsGraphRefusal mode circuit r → ⊥
  graph_stands (refusal.TooLarge A) h =
      let loads : Loads x h.net = if_told circuit (λ t. Loads t h.net) x is h.loads in
      large_or_light mode h.net (text_sound x h.net loads) h.unknown (can.light h.net loads)
  graph_stands (refusal.TooLarge B) h = h
  graph_stands (refusal.TooLong f) h = circuit_stands circuit x is can.circuit (refusal.TooLong f) h
  graph_stands (refusal.Text f line fault) h = circuit_stands circuit x is can.circuit (refusal.Text f line fault) h
  graph_stands (refusal.Design f fault) h = circuit_stands circuit x is can.circuit (refusal.Design f fault) h
  graph_stands (refusal.Record f place kind) h = circuit_stands circuit x is can.circuit (refusal.Record f place kind) h
  graph_stands (refusal.Interface name) h = h
  graph_stands (refusal.Misfit m) h = h
  graph_stands refusal.TooManyEvents h = h
  graph_stands (refusal.Assume fault) h = h
  graph_stands refusal.Vacuous h = h
  graph_stands (refusal.Pair name) h = h
  graph_stands (refusal.Pairs fault) h = h

  graph_reported : (f : Finding) → IsGraphFound mode circuit f → IsReported mode (status_of f)
  graph_reported finding.Words h = absurd h
  graph_reported (finding.Refused r) h = absurd (graph_stands r h)
  graph_reported (finding.Cyclic side names) h = absurd h
  graph_reported (finding.Unpaired side names) h = absurd h
  graph_reported (finding.Checked o s) h = absurd h
  graph_reported (finding.Done report) h = tt
  graph_reported (finding.Generated o report) h = absurd h
  graph_reported (finding.Replayed differences) h = absurd h
  graph_reported (finding.Unrefuted u) h = absurd h
  graph_reported (finding.Judged j kept text) h = absurd h
  graph_reported (finding.Undecided A name proof) h = limit_reported mode h.net name proof h.unknown
  graph_reported (finding.Undecided B name proof) h = absurd h

-- nor is a stimulus that fits it
module _ (mode : Mode) (circuit stimulus power : Option (List ℕ)) (reset : Bool) (x y : List ℕ) (is : circuit ≡ Some x) (told : stimulus ≡ Some y) (can : CanBeRun mode x y power) where
  run_stands : (r : Refusal) → IsSimRefusal mode circuit stimulus power r → ⊥
  run_stands (refusal.TooLong file.C) h = circuit_stands circuit x is can.circuit (refusal.TooLong file.C) h
  run_stands (refusal.TooLong file.S) h = let long : IsTooLong y = if_told stimulus IsTooLong y told h.1 in omega (arith, can.stimulus.short)
  run_stands (refusal.Text file.S line line_fault.BadHeader) h = has_header y can.names can.rows can.stimulus.form (if_told stimulus (λ t. HasBadHeader t line) y told h.1).no_header
  run_stands (refusal.Text file.S line line_fault.BadRow) h = no_bad_row y can.names can.rows line can.stimulus.form (if_told stimulus (λ t. HasBadRow t line) y told h.1).bad_row
  run_stands (refusal.Misfit m) h =
      let loads : Loads x h.net = if_told circuit (λ t. Loads t h.net) x is h.loads in
      let spells : IsStimulus y h.names h.rows = if_told stimulus (λ t. IsStimulus t h.names h.rows) y told h.spells in
      let same : can.names ≡ h.names = same_names y can.names h.names can.rows h.rows can.stimulus.form spells.form in
      none-some m (sym (can.fits h.net loads) ∙ (ap (λ (names : List (List ℕ)). first_misfit h.net names power) same ∙ h.is_first))
  run_stands refusal.TooManyEvents h = h
  run_stands (refusal.Assume fault) h = h
  run_stands refusal.Vacuous h = h
  run_stands (refusal.Pair name) h = h
  run_stands (refusal.Pairs fault) h = h
  run_stands (refusal.TooLong file.A) h = circuit_stands circuit x is can.circuit (refusal.TooLong file.A) h
  run_stands (refusal.TooLong file.B) h = circuit_stands circuit x is can.circuit (refusal.TooLong file.B) h
  run_stands (refusal.Text file.A line fault) h = circuit_stands circuit x is can.circuit (refusal.Text file.A line fault) h
  run_stands (refusal.Text file.B line fault) h = circuit_stands circuit x is can.circuit (refusal.Text file.B line fault) h
  run_stands (refusal.Text file.C line fault) h = circuit_stands circuit x is can.circuit (refusal.Text file.C line fault) h
  run_stands (refusal.Text file.S line (line_fault.Circuit kind)) h = circuit_stands circuit x is can.circuit (refusal.Text file.S line (line_fault.Circuit kind)) h
  run_stands (refusal.Text file.S line (line_fault.Clauses kind)) h = circuit_stands circuit x is can.circuit (refusal.Text file.S line (line_fault.Clauses kind)) h
  run_stands (refusal.Design f fault) h = circuit_stands circuit x is can.circuit (refusal.Design f fault) h
  run_stands (refusal.Record f place kind) h = circuit_stands circuit x is can.circuit (refusal.Record f place kind) h
  run_stands (refusal.Interface name) h = h
  run_stands (refusal.TooLarge A) h =
      let loads : Loads x h.net = if_told circuit (λ t. Loads t h.net) x is h.loads in
      large_or_light mode h.net (text_sound x h.net loads) h.unknown (can.light h.net loads)
  run_stands (refusal.TooLarge B) h = h

  run_reported : (f : Finding) → IsSimFound mode circuit stimulus power reset f → IsReported mode (status_of f)
  run_reported finding.Words h = absurd h
  run_reported (finding.Refused r) h = absurd (run_stands r h)
  run_reported (finding.Cyclic side names) h = absurd h
  run_reported (finding.Unpaired side names) h = absurd h
  run_reported (finding.Checked o s) h = absurd h
  run_reported (finding.Done report) h = tt
  run_reported (finding.Generated o report) h = absurd h
  run_reported (finding.Replayed differences) h = absurd h
  run_reported (finding.Unrefuted u) h = absurd h
  run_reported (finding.Judged j kept text) h = absurd h
  run_reported (finding.Undecided A name proof) h = limit_reported mode h.net name proof h.unknown
  run_reported (finding.Undecided B name proof) h = absurd h

-- so what is found has the status of the report, or of the limit
pub graph_complete : (mode : Mode) (circuit : Option (List ℕ)) (f : Finding) → IsGraphFound mode circuit f → IsGraphComplete mode circuit (status_of f)
graph_complete mode circuit f found can = let x = some_and circuit (CanBeTold mode) can in graph_reported mode circuit x.0 x.1 x.2 f found

pub sim_complete : (mode : Mode) (circuit stimulus power : Option (List ℕ)) (reset : Bool) (f : Finding) → IsSimFound mode circuit stimulus power reset f → IsSimComplete mode circuit stimulus power (status_of f)
sim_complete mode circuit stimulus power reset f found can =
    let x = some_and circuit (λ t. IsSomeAnd stimulus (λ y. CanBeRun mode t y power)) can in
    let y = some_and stimulus (λ t. CanBeRun mode x.0 t power) x.2 in
    run_reported mode circuit stimulus power reset x.0 y.0 x.1 y.1 y.2 f found
