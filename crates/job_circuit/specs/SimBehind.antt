-- The run of a circuit behind the rows of a stimulus: what is true where the report on it ends as it does. A text is given where it is told.
use Rattle.std.specs.Prelude.{◌≡◌, ◌⊎◌, ℕ, ◌+◌, Bool, true, List, [], ◌∷◌, ◌++◌, length, codes, slice_get, Option, Some, None, Result, Ok, Err, IfSome, IsSomeAnd}
use Rattle.std.specs.List.{Contains}
use Rattle.circuit_theory.specs.declared.Mode.TheVariants.{Plain}
use Rattle.circuit_theory.specs.Agree.{EnabledIn}
use Rattle.circuit_theory.specs.Run.{IsRun}
use Rattle.base_shelves.specs.Outside.{Takes}
use Rattle.flat_net.specs.declared.parts.Port.{Port}
use Rattle.flat_net.specs.declared.parts.LatchAt.{LatchAt}
use Rattle.flat_net.specs.View.{NetView, circuit_of}
use Rattle.restart.specs.Behind.{IsBegun}
use Rattle.restart.specs.Agreement.{BeginsBy}
use Rattle.restart.specs.Report.{after_line, unknown_line}
use Rattle.circuit_report.specs.declared.sim_report.refusal.Misfit.{Misfit}
use Rattle.circuit_report.specs.sim_report.Checks.{first_misfit, word_bits}
use Rattle.circuit_report.specs.sim_report.Report.{Shown, IsShown, IsSimReport}
use Rattle.circuit_report.specs.declared.graph_report.runs.SimulateError.{SimulateError}
use Rattle.circuit_report.specs.declared.graph_report.runs.SimulateError.TheVariants as refused
use Rattle.job_base.specs.declared.status.StatusName.{StatusName}
use Rattle.job_base.specs.Meaning.{ReportMeans, EndsWith}
use Rattle.job_base.specs.declared.status.StatusName.TheVariants as status
use Rattle.job_base.specs.declared.finding.File.TheVariants as file
use Rattle.job_base.specs.declared.finding.LineFault.TheVariants as line_fault
use Rattle.job_base.specs.declared.finding.Refusal.{Refusal}
use Rattle.job_base.specs.declared.finding.Refusal.TheVariants as refusal
use Rattle.job_base.specs.declared.finding.Finding.{Finding}
use Rattle.job_base.specs.declared.finding.Finding.TheVariants as finding
use Rattle.job_base.specs.declared.finding.Stop.{Stop}
use Rattle.job_base.specs.Ends.{EndsBy}
use Rattle.job_base.specs.Reading.{ReadFailedAfter}
use Rattle.job_base.specs.sec_files.Loading.{IsAccepted, Loads, IsTooLong}
use Rattle.job_base.specs.sec_files.Stimuli.{IsStimulus, HasBadHeader, HasBadRow}
use Rattle.job_base.specs.sec_files.job_files.Reading.{IsLoaded, Held}
use Rattle.job_circuit.specs.Reports.{IsCircuitRefusal}

-- the paths that it reads, in the order of their fetches: the stimulus behind whose rows the run begins comes before that of the run
abbrev pub behind_paths : List ℕ → List ℕ → List ℕ → List (List ℕ)
behind_paths circuit before stimulus = circuit ∷ before ∷ stimulus ∷ []

-- the text spells a stimulus
abbrev pub IsSpelled : Option (List ℕ) → Type 0
IsSpelled text = IfSome text (λ y. (names : List (List ℕ)) × (rows : List (List Bool)) × IsStimulus y names rows)

-- the text of a circuit loads, or one spells a stimulus
abbrev pub LetsGoOn : Option (List ℕ) → Type 0
LetsGoOn text = IsLoaded text ⊎ IsSpelled text

-- A run of the net, whatever it powers up with, that begins by the first rows and goes on by the others, and in which each latch that isn't
-- known between them has its bit there.
pub record RunsOver (n : NetView) (first : List (List ℕ)) (before : List (List Bool)) (names : List (List ℕ)) (rows : List (List Bool)) (known : List (Option Bool)) (power : List Bool) (run : ℕ → ℕ → Bool) : Type 0 where
  pub is_run : IsRun (circuit_of n) (length rows + length before) run
  pub begins : BeginsBy (circuit_of n) first before run
  pub takes : (t k : ℕ) (row : List Bool) (bit : Bool) (port : Port) → slice_get rows t ≡ Some row → slice_get row k ≡ Some bit → Contains n.inputs port → slice_get names k ≡ Some port.name → run (t + length before) port.signal.0 ≡ bit
  pub free : (j : ℕ) (l : LatchAt) (bit : Bool) → slice_get n.latches j ≡ Some l → slice_get known j ≡ Some None → slice_get power j ≡ Some bit → run (length before) l.out.0 ≡ bit

-- The report is that of the net's run over the second stimulus from what is known behind the rows of the first. In each run over both what is
-- shown of a cycle is right, the first one behind those rows being cycle 0.
pub record IsReportBehind (n : NetView) (first : List (List ℕ)) (before : List (List Bool)) (names : List (List ℕ)) (rows : List (List Bool)) (power : Option (List ℕ)) (report : List ℕ) : Type 0 where
  pub fits_first : first_misfit n first None ≡ None
  pub fits : first_misfit n names power ≡ None
  pub known : List (Option Bool)
  pub start : NetView
  pub begun : IsBegun n first before known start
  pub told : List ℕ
  pub is_report : IsSimReport Plain start names rows power true told
  pub report_is : report ≡ after_line (length before) ++ unknown_line (codes "unknown A ") start known ++ told
  pub behind : (run : ℕ → ℕ → Bool) → RunsOver n first before names rows known (word_bits n power) run → (t : ℕ) (shown : Shown) → slice_get is_report.cycles t ≡ Some shown → IsShown start (EnabledIn Plain (circuit_of start)) t (λ s. run (s + length before)) shown

-- the first that doesn't fit the net: of the first stimulus, or else of the second and the power word
abbrev pub IsMisfitBehind : NetView → List (List ℕ) → List (List ℕ) → Option (List ℕ) → Misfit → Type 0
IsMisfitBehind n first names power m = (first_misfit n first None ≡ Some m) ⊎ ((first_misfit n first None ≡ None) × (first_misfit n names power ≡ Some m))

-- the report, or why there is none
abbrev pub RunsBehind : NetView → List (List ℕ) → List (List Bool) → List (List ℕ) → List (List Bool) → Option (List ℕ) → Result (List ℕ) SimulateError → Type 0
RunsBehind n first before names rows power (Ok report) = IsReportBehind n first before names rows power report
RunsBehind n first before names rows power (Err (refused.Misfit m)) = IsMisfitBehind n first names power m
RunsBehind n first before names rows power (Err refused.NoMemory) = Unit {0}
RunsBehind n first before names rows power (Err other) = ⊥

-- this is so of the net that the circuit's text loads as and of the stimuli that the other texts spell
pub record OfRunBehind (circuit before stimulus : Option (List ℕ)) (P : NetView → List (List ℕ) → List (List Bool) → List (List ℕ) → List (List Bool) → Type 0) : Type 0 where
  pub net : NetView
  pub first : List (List ℕ)
  pub first_rows : List (List Bool)
  pub names : List (List ℕ)
  pub rows : List (List Bool)
  pub loads : IfSome circuit (λ x. Loads x net)
  pub begins : IfSome before (λ y. IsStimulus y first first_rows)
  pub spells : IfSome stimulus (λ z. IsStimulus z names rows)
  pub said : P net first first_rows names rows

-- the circuit loads, and this is so of the first stimulus, or else of the second
abbrev pub OfStimuli : Option (List ℕ) → Option (List ℕ) → Option (List ℕ) → (List ℕ → Type 0) → Type 0
OfStimuli circuit before stimulus P = IsLoaded circuit × (IfSome before P ⊎ (IsSpelled before × IfSome stimulus P))

-- why the run is refused; the first cause in the order of the work
abbrev pub IsSimBehindRefusal : Option (List ℕ) → Option (List ℕ) → Option (List ℕ) → Option (List ℕ) → Refusal → Type 0
IsSimBehindRefusal circuit before stimulus power (refusal.TooLong file.S) = OfStimuli circuit before stimulus IsTooLong
IsSimBehindRefusal circuit before stimulus power (refusal.Text file.S line line_fault.BadHeader) = OfStimuli circuit before stimulus (λ y. HasBadHeader y line)
IsSimBehindRefusal circuit before stimulus power (refusal.Text file.S line line_fault.BadRow) = OfStimuli circuit before stimulus (λ y. HasBadRow y line)
IsSimBehindRefusal circuit before stimulus power (refusal.Misfit m) = OfRunBehind circuit before stimulus (λ n first first_rows names rows. IsMisfitBehind n first names power m)
IsSimBehindRefusal circuit before stimulus power other = IsCircuitRefusal circuit other

-- the report is that of the run
abbrev pub ReportsBehind : Option (List ℕ) → Option (List ℕ) → Option (List ℕ) → Option (List ℕ) → List ℕ → Type 0
ReportsBehind circuit before stimulus power report = OfRunBehind circuit before stimulus (λ n first first_rows names rows. IsReportBehind n first first_rows names rows power report)

-- what is found where such a run is asked for
abbrev pub IsSimBehindFound : Option (List ℕ) → Option (List ℕ) → Option (List ℕ) → Option (List ℕ) → Finding → Type 0
IsSimBehindFound circuit before stimulus power (finding.Done report) = ReportsBehind circuit before stimulus power report
IsSimBehindFound circuit before stimulus power (finding.Refused r) = IsSimBehindRefusal circuit before stimulus power r
IsSimBehindFound circuit before stimulus power other = ⊥

-- the work ends with a finding that is right, or by a read that failed, or at want of memory
abbrev pub SimBehindFound : Held → (List ℕ → ℕ) → (List ℕ → ℕ) → List ℕ → List ℕ → List ℕ → Option (List ℕ) → Result Finding Stop → Type 0
SimBehindFound held earlier now circuit before stimulus power r =
    EndsBy (IsSimBehindFound (held circuit) (held before) (held stimulus) power) (ReadFailedAfter LetsGoOn held earlier now (behind_paths circuit before stimulus)) r

-- the whole report is taken
abbrev pub TakesBehind : Option (List ℕ) → Option (List ℕ) → Option (List ℕ) → Option (List ℕ) → Option (List ℕ) → Option (List ℕ) → Type 0
TakesBehind circuit before stimulus power earlier now = (report : List ℕ) × ReportsBehind circuit before stimulus power report × Takes earlier now report

-- what the status says; no query is asked
abbrev pub SimBehindMeans : Option (List ℕ) → Option (List ℕ) → Option (List ℕ) → Option (List ℕ) → Option (List ℕ) → Option (List ℕ) → StatusName → Type 0
SimBehindMeans circuit before stimulus power earlier now name = ReportMeans (TakesBehind circuit before stimulus power earlier now) ⊥ name

-- the circuit's text is accepted, the others spell stimuli, and these and the power word fit the circuit
pub record CanBeRunBehind (x y z : List ℕ) (power : Option (List ℕ)) : Type 0 where
  pub circuit : IsAccepted x
  pub first : List (List ℕ)
  pub first_rows : List (List Bool)
  pub before : IsStimulus y first first_rows
  pub names : List (List ℕ)
  pub rows : List (List Bool)
  pub stimulus : IsStimulus z names rows
  pub fits : (net : NetView) → Loads x net → (first_misfit net first None ≡ None) × (first_misfit net names power ≡ None)

-- where the circuit can be run so, it is, if no read and no write fails
abbrev pub IsSimBehindComplete : Option (List ℕ) → Option (List ℕ) → Option (List ℕ) → Option (List ℕ) → StatusName → Type 0
IsSimBehindComplete circuit before stimulus power name = IsSomeAnd circuit (λ x. IsSomeAnd before (λ y. IsSomeAnd stimulus (λ z. CanBeRunBehind x y z power))) → EndsWith status.Done name
