-- How the work on one circuit ends.
use Rattle.std.specs.Prelude.{ℕ, Bool, List, Option, Result, Ok, Err}
use Rattle.circuit_theory.specs.declared.Mode.{Mode}
use Rattle.circuit_theory.specs.declared.Side.TheVariants.{A}
use Rattle.job_base.specs.Ends.{EndsBy}
use Rattle.job_base.specs.declared.finding.Refusal.TheVariants as refusal
use Rattle.job_base.specs.declared.finding.Finding.{Finding}
use Rattle.job_base.specs.declared.finding.Finding.TheVariants as finding
use Rattle.job_base.specs.declared.finding.Stop.{Stop}
use Rattle.job_base.specs.declared.finding.Stop.TheVariants as stop
use Rattle.latch_kinds.specs.declared.kinds.KindsError.{KindsError}
use Rattle.latch_kinds.specs.declared.kinds.KindsError.TheVariants as kinds_error
use Rattle.circuit_report.specs.declared.graph_report.runs.SimulateError.{SimulateError}
use Rattle.circuit_report.specs.declared.graph_report.runs.SimulateError.TheVariants as simulate_error
use Rattle.job_base.specs.sec_files.job_files.Reading.{Held, ReadFailed}
use Rattle.job_circuit.specs.Reports.{graph_paths, sim_paths, IsGraphFound, IsSimFound}

-- what is found where it isn't found out what a latch is
abbrev pub kinds_end : KindsError → Result Finding Stop
kinds_end kinds_error.TooLarge = Ok (finding.Refused (refusal.TooLarge A))
kinds_end (kinds_error.Limit name proof) = Ok (finding.Undecided A name proof)
kinds_end kinds_error.NoMemory = Err stop.NoMemory

-- what is found of a latch graph
abbrev pub graph_end : Result (List ℕ) KindsError → Result Finding Stop
graph_end (Ok report) = Ok (finding.Done report)
graph_end (Err error) = kinds_end error

-- what is found by a simulation
abbrev pub sim_end : Result (List ℕ) SimulateError → Result Finding Stop
sim_end (Ok report) = Ok (finding.Done report)
sim_end (Err (simulate_error.Misfit m)) = Ok (finding.Refused (refusal.Misfit m))
sim_end (Err simulate_error.TooLarge) = Ok (finding.Refused (refusal.TooLarge A))
sim_end (Err (simulate_error.Limit name proof)) = Ok (finding.Undecided A name proof)
sim_end (Err simulate_error.NoMemory) = Err stop.NoMemory

-- the work on a latch graph ends with a finding that is right, or by a read that failed, or at want of memory
abbrev pub GraphFound : Held → (List ℕ → ℕ) → (List ℕ → ℕ) → List ℕ → Mode → Result Finding Stop → Type 0
GraphFound held before now circuit mode r = EndsBy (IsGraphFound mode (held circuit)) (ReadFailed held before now (graph_paths circuit)) r

-- the same of a simulation
abbrev pub SimFound : Held → (List ℕ → ℕ) → (List ℕ → ℕ) → List ℕ → List ℕ → Mode → Option (List ℕ) → Bool → Result Finding Stop → Type 0
SimFound held before now circuit stimulus mode power reset r = EndsBy (IsSimFound mode (held circuit) (held stimulus) power reset) (ReadFailed held before now (sim_paths circuit stimulus)) r
