-- What is true where a report on one circuit ends as it does. A text is given where it is told.
use Rattle.std.specs.Prelude.{◌≡◌, ℕ, Bool, List, [], ◌∷◌, Option, Some, None, IfSome, IsSomeAnd}
use Rattle.circuit_theory.specs.declared.Mode.TheVariants.{Event}
use Rattle.circuit_theory.specs.declared.Mode.{Mode}
use Rattle.circuit_theory.specs.declared.Side.TheVariants.{A}
use Rattle.base_shelves.specs.Outside.{Takes}
use Rattle.flat_net.specs.View.{NetView}
use Rattle.circuit_report.specs.declared.sim_report.refusal.Misfit.{Misfit}
use Rattle.circuit_report.specs.sim_report.Checks.{first_misfit}
use Rattle.circuit_report.specs.sim_report.Report.{IsSimReport}
use Rattle.circuit_report.specs.graph_report.Report.{IsGraphReport}
use Rattle.pair_decide.specs.declared.query.Proof.{Proof}
use Rattle.job_base.specs.declared.status.StatusName.{StatusName}
use Rattle.job_base.specs.declared.status.StatusName.TheVariants as status
use Rattle.job_base.specs.Lines.{undecided_text}
use Rattle.job_base.specs.Meaning.{ReportMeans}
use Rattle.job_base.specs.declared.finding.File.TheVariants as file
use Rattle.job_base.specs.declared.finding.LineFault.TheVariants as line_fault
use Rattle.job_base.specs.declared.finding.Refusal.{Refusal}
use Rattle.job_base.specs.declared.finding.Refusal.TheVariants as refusal
use Rattle.job_base.specs.declared.finding.Finding.{Finding}
use Rattle.job_base.specs.declared.finding.Finding.TheVariants as finding
use Rattle.latch_kinds.specs.declared.kinds.KindsError.{KindsError}
use Rattle.latch_kinds.specs.declared.kinds.KindsError.TheVariants as kinds_error
use Rattle.circuit_report.specs.graph_report.Jobs.{AreLightIn, IsUnknown}
use Rattle.job_base.specs.sec_files.Loading.{IsAccepted, Loads, IsTooLong, HasFault, HasDesignFault, HasRecordFault}
use Rattle.job_base.specs.sec_files.Stimuli.{IsStimulus, HasBadHeader, HasBadRow}
use Rattle.job_base.specs.sec_files.job_files.Reading.{IsLoaded}

-- the paths that the report of a latch graph reads
abbrev pub graph_paths : List ℕ → List (List ℕ)
graph_paths circuit = circuit ∷ []

-- the paths that a simulation reads, in the order of their fetches
abbrev pub sim_paths : List ℕ → List ℕ → List (List ℕ)
sim_paths circuit stimulus = circuit ∷ stimulus ∷ []

-- why the circuit is refused; its name is A
abbrev pub IsCircuitRefusal : Option (List ℕ) → Refusal → Type 0
IsCircuitRefusal circuit (refusal.TooLong file.A) = IfSome circuit IsTooLong
IsCircuitRefusal circuit (refusal.Text file.A line (line_fault.Circuit kind)) = IfSome circuit (λ x. HasFault x line kind)
IsCircuitRefusal circuit (refusal.Design file.A fault) = IfSome circuit (λ x. HasDesignFault x fault)
IsCircuitRefusal circuit (refusal.Record file.A place kind) = IfSome circuit (λ x. HasRecordFault x place kind)
IsCircuitRefusal circuit other = ⊥

-- the report is that of the latch graph of the net that the circuit's text loads as
pub record ReportsGraph (mode : Mode) (circuit : Option (List ℕ)) (report : List ℕ) : Type 0 where
  pub net : NetView
  pub loads : IfSome circuit (λ x. Loads x net)
  pub is_report : IsGraphReport mode net report
  pub light : AreLightIn mode net

-- it isn't found out what the latches of the net are that the circuit's text loads as, for this reason
pub record HasUnknown (mode : Mode) (circuit : Option (List ℕ)) (error : KindsError) : Type 0 where
  pub net : NetView
  pub loads : IfSome circuit (λ x. Loads x net)
  pub unknown : IsUnknown mode net error

-- why the report of a latch graph is refused
abbrev pub IsGraphRefusal : Mode → Option (List ℕ) → Refusal → Type 0
IsGraphRefusal mode circuit (refusal.TooLarge A) = HasUnknown mode circuit kinds_error.TooLarge
IsGraphRefusal mode circuit other = IsCircuitRefusal circuit other

-- what is found where the latch graph of a circuit is asked for
abbrev pub IsGraphFound : Mode → Option (List ℕ) → Finding → Type 0
IsGraphFound mode circuit (finding.Done report) = ReportsGraph mode circuit report
IsGraphFound mode circuit (finding.Refused r) = IsGraphRefusal mode circuit r
IsGraphFound mode circuit (finding.Undecided A name proof) = HasUnknown mode circuit (kinds_error.Limit name proof)
IsGraphFound mode circuit other = ⊥

-- the report is that of the run of the net that the circuit's text loads as, over the stimulus that the other text spells, from the
-- power word, with `reset` from the net's initial values before it; the stimulus and the power word fit the net
pub record ReportsRun (mode : Mode) (circuit stimulus power : Option (List ℕ)) (reset : Bool) (report : List ℕ) : Type 0 where
  pub net : NetView
  pub names : List (List ℕ)
  pub rows : List (List Bool)
  pub loads : IfSome circuit (λ x. Loads x net)
  pub spells : IfSome stimulus (λ y. IsStimulus y names rows)
  pub fits : first_misfit net names power ≡ None
  pub is_report : IsSimReport mode net names rows power reset report
  pub light : AreLightIn mode net

-- the first that doesn't fit the net that the circuit's text loads as, of the stimulus that the other text spells and the power word
pub record HasMisfit (circuit stimulus power : Option (List ℕ)) (m : Misfit) : Type 0 where
  pub net : NetView
  pub names : List (List ℕ)
  pub rows : List (List Bool)
  pub loads : IfSome circuit (λ x. Loads x net)
  pub spells : IfSome stimulus (λ y. IsStimulus y names rows)
  pub is_first : first_misfit net names power ≡ Some m

-- the stimulus and the power word fit the net, and it isn't found out what its latches are, for this reason
pub record HasUnknownRun (mode : Mode) (circuit stimulus power : Option (List ℕ)) (error : KindsError) : Type 0 where
  pub net : NetView
  pub names : List (List ℕ)
  pub rows : List (List Bool)
  pub loads : IfSome circuit (λ x. Loads x net)
  pub spells : IfSome stimulus (λ y. IsStimulus y names rows)
  pub fits : first_misfit net names power ≡ None
  pub unknown : IsUnknown mode net error

-- why a simulation is refused; the first cause in the order of the work
abbrev pub IsSimRefusal : Mode → Option (List ℕ) → Option (List ℕ) → Option (List ℕ) → Refusal → Type 0
IsSimRefusal mode circuit stimulus power (refusal.TooLong file.S) = IsLoaded circuit × IfSome stimulus IsTooLong
IsSimRefusal mode circuit stimulus power (refusal.Text file.S line line_fault.BadHeader) = IsLoaded circuit × IfSome stimulus (λ y. HasBadHeader y line)
IsSimRefusal mode circuit stimulus power (refusal.Text file.S line line_fault.BadRow) = IsLoaded circuit × IfSome stimulus (λ y. HasBadRow y line)
IsSimRefusal mode circuit stimulus power (refusal.Misfit m) = HasMisfit circuit stimulus power m
IsSimRefusal mode circuit stimulus power (refusal.TooLarge A) = HasUnknownRun mode circuit stimulus power kinds_error.TooLarge
IsSimRefusal mode circuit stimulus power other = IsCircuitRefusal circuit other

-- what is found where a simulation is asked for
abbrev pub IsSimFound : Mode → Option (List ℕ) → Option (List ℕ) → Option (List ℕ) → Bool → Finding → Type 0
IsSimFound mode circuit stimulus power reset (finding.Done report) = ReportsRun mode circuit stimulus power reset report
IsSimFound mode circuit stimulus power reset (finding.Refused r) = IsSimRefusal mode circuit stimulus power r
IsSimFound mode circuit stimulus power reset (finding.Undecided A name proof) = HasUnknownRun mode circuit stimulus power (kinds_error.Limit name proof)
IsSimFound mode circuit stimulus power reset other = ⊥

-- the whole report of the latch graph is taken
abbrev pub TakesGraph : Mode → Option (List ℕ) → Option (List ℕ) → Option (List ℕ) → Type 0
TakesGraph mode circuit before now = (report : List ℕ) × ReportsGraph mode circuit report × Takes before now report

-- the whole report of the run is taken
abbrev pub TakesRun : Mode → Option (List ℕ) → Option (List ℕ) → Option (List ℕ) → Bool → Option (List ℕ) → Option (List ℕ) → Type 0
TakesRun mode circuit stimulus power reset before now = (report : List ℕ) × ReportsRun mode circuit stimulus power reset report × Takes before now report

-- the report names a latch of the circuit, and the one proof shows that its query has met the limit
pub record TakesLimit (mode : Mode) (circuit : Option (List ℕ)) (proofs : List Proof) (before now : Option (List ℕ)) : Type 0 where
  pub name : List ℕ
  pub proof : Proof
  pub kept : proofs ≡ proof ∷ []
  pub shown : HasUnknown mode circuit (kinds_error.Limit name proof)
  pub printed : Takes before now (undecided_text A name)

-- the circuit's text is accepted, and it can be found out what its latches are
pub record CanBeTold (mode : Mode) (x : List ℕ) : Type 0 where
  pub circuit : IsAccepted x
  pub light : (net : NetView) → Loads x net → AreLightIn mode net

-- the circuit's text is accepted, the other spells a stimulus, and this and the power word fit the circuit; it can be found out what
-- the latches are
pub record CanBeRun (mode : Mode) (x y : List ℕ) (power : Option (List ℕ)) : Type 0 where
  pub circuit : IsAccepted x
  pub names : List (List ℕ)
  pub rows : List (List Bool)
  pub stimulus : IsStimulus y names rows
  pub fits : (net : NetView) → Loads x net → first_misfit net names power ≡ None
  pub light : (net : NetView) → Loads x net → AreLightIn mode net

-- the text is told, and the circuit can be reported on
abbrev pub CanTell : Mode → Option (List ℕ) → Type 0
CanTell mode circuit = IsSomeAnd circuit (CanBeTold mode)

-- both texts are told, and the circuit can be run over the stimulus from the power word
abbrev pub CanSimulate : Mode → Option (List ℕ) → Option (List ℕ) → Option (List ℕ) → Type 0
CanSimulate mode circuit stimulus power = IsSomeAnd circuit (λ x. IsSomeAnd stimulus (λ y. CanBeRun mode x y power))

-- the report on one circuit is done, or want of memory; in the event mode also a query has met the limit
abbrev pub IsReported : Mode → StatusName → Type 0
IsReported mode status.Done = Unit {0}
IsReported mode status.NoMemory = Unit {0}
IsReported mode status.Limit = mode ≡ Event
IsReported mode other = ⊥

-- what the status of the report of a latch graph says, with the proofs that the run ends with
abbrev pub GraphMeans : Mode → Option (List ℕ) → Option (List ℕ) → Option (List ℕ) → List Proof → StatusName → Type 0
GraphMeans mode circuit before now proofs name = ReportMeans (TakesGraph mode circuit before now) (TakesLimit mode circuit proofs before now) name

-- what that of a simulation says
abbrev pub SimMeans : Mode → Option (List ℕ) → Option (List ℕ) → Option (List ℕ) → Bool → Option (List ℕ) → Option (List ℕ) → List Proof → StatusName → Type 0
SimMeans mode circuit stimulus power reset before now proofs name = ReportMeans (TakesRun mode circuit stimulus power reset before now) (TakesLimit mode circuit proofs before now) name

-- where the latch graph can be told, it is, if no read and no write fails
abbrev pub IsGraphComplete : Mode → Option (List ℕ) → StatusName → Type 0
IsGraphComplete mode circuit name = CanTell mode circuit → IsReported mode name

-- where the circuit can be run, it is, if no read and no write fails
abbrev pub IsSimComplete : Mode → Option (List ℕ) → Option (List ℕ) → Option (List ℕ) → StatusName → Type 0
IsSimComplete mode circuit stimulus power name = CanSimulate mode circuit stimulus power → IsReported mode name
