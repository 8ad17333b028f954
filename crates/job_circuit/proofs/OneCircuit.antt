-- What the parts of the work on one circuit find.
use Rattle.std.specs.Prelude.{IfSome}
use Rattle.std.proofs.Common.{◌≡◌, ℕ, ◌≤◌, Bool, List, [], subst, Option, Result, Ok, Err}
use Rattle.circuit_theory.specs.declared.Side.TheVariants.{A, B}
use Rattle.circuit_theory.specs.declared.Mode.{Mode}
use Rattle.base_shelves.specs.declared.whole_file.FetchError.TheVariants as fetch_error
use Rattle.base_shelves.specs.Outside.{Rose}
use Rattle.witness_report.specs.declared.error.StimError.TheVariants as stim_error
use Rattle.flat_net.specs.View.{NetView}
use Rattle.blif_read.specs.declared.error.ReadError.TheVariants as read_error
use Rattle.aiger_read.specs.declared.aiger_records.error.AigerError.TheVariants as aiger_error
use Rattle.elaborate.specs.declared.error.FlatError.TheVariants as flat_error
use Rattle.job_base.specs.declared.finding.File.TheVariants as file
use Rattle.job_base.specs.declared.finding.LineFault.TheVariants as line_fault
use Rattle.job_base.specs.declared.finding.Refusal.{Refusal}
use Rattle.job_base.specs.declared.finding.Refusal.TheVariants as refusal
use Rattle.job_base.specs.declared.finding.Finding.{Finding}
use Rattle.job_base.specs.declared.finding.Finding.TheVariants as finding
use Rattle.job_base.specs.Ends.{EndsBy}
use Rattle.latch_kinds.specs.declared.kinds.KindsError.{KindsError}
use Rattle.latch_kinds.specs.declared.kinds.KindsError.TheVariants as kinds_error
use Rattle.circuit_report.specs.declared.graph_report.runs.SimulateError.{SimulateError}
use Rattle.circuit_report.specs.declared.graph_report.runs.SimulateError.TheVariants as simulate_error
use Rattle.circuit_report.specs.graph_report.Jobs.{Tells, Simulates}
use Rattle.job_base.specs.declared.sec_files.loader.LoadError.{LoadError}
use Rattle.job_base.specs.declared.sec_files.loader.LoadError.TheVariants as load_error
use Rattle.job_base.specs.declared.sec_files.stimuli.StimulusError.{StimulusError}
use Rattle.job_base.specs.declared.sec_files.stimuli.StimulusError.TheVariants as stimulus_error
use Rattle.job_base.specs.sec_files.Loading.{Loads, LoadFails, IsTooLong}
use Rattle.job_base.specs.sec_files.Stimuli.{IsStimulus, HasBadHeader, HasBadRow, StimulusFails}
use Rattle.job_base.specs.sec_files.job_files.Reading.{IsLoaded, Held}
use Rattle.job_base.specs.sec_files.job_files.Ends.{load_end, stimulus_end}
use Rattle.job_base.proofs.sec_files.job_files.Reading.{second_failed, rose_before}
use Rattle.job_circuit.specs.Reports.{IsCircuitRefusal, IsGraphFound, IsGraphRefusal, IsSimFound, IsSimRefusal}
use Rattle.job_circuit.specs.Ends.{graph_end, sim_end, SimFound}

-- the circuit isn't loaded
pub circuit_ends : (P : Finding → Type 0) (failed rose : Type 0) (circuit : Option (List ℕ)) (error : LoadError) → ((r : Refusal) → IsCircuitRefusal circuit r → P (finding.Refused r)) → (rose → failed) →
    LoadFails circuit rose error → EndsBy P failed (load_end file.A error)
circuit_ends P failed rose circuit (load_error.Fetch fetch_error.Failed) refuse fail h = fail h
circuit_ends P failed rose circuit (load_error.Fetch fetch_error.TooLong) refuse fail h = refuse (refusal.TooLong file.A) h
circuit_ends P failed rose circuit (load_error.Fetch fetch_error.NoMemory) refuse fail h = tt
circuit_ends P failed rose circuit (load_error.Read (read_error.At line kind)) refuse fail h = refuse (refusal.Text file.A line (line_fault.Circuit kind)) h
circuit_ends P failed rose circuit (load_error.Read read_error.NoMemory) refuse fail h = tt
circuit_ends P failed rose circuit (load_error.Flat (flat_error.UnknownModel x)) refuse fail h = refuse (refusal.Design file.A (flat_error.UnknownModel x)) h
circuit_ends P failed rose circuit (load_error.Flat (flat_error.Recursive x)) refuse fail h = refuse (refusal.Design file.A (flat_error.Recursive x)) h
circuit_ends P failed rose circuit (load_error.Flat (flat_error.UnknownFormal x)) refuse fail h = refuse (refusal.Design file.A (flat_error.UnknownFormal x)) h
circuit_ends P failed rose circuit (load_error.Flat (flat_error.FormalTwice x)) refuse fail h = refuse (refusal.Design file.A (flat_error.FormalTwice x)) h
circuit_ends P failed rose circuit (load_error.Flat (flat_error.OpenInput x)) refuse fail h = refuse (refusal.Design file.A (flat_error.OpenInput x)) h
circuit_ends P failed rose circuit (load_error.Flat (flat_error.TwoDrivers x)) refuse fail h = refuse (refusal.Design file.A (flat_error.TwoDrivers x)) h
circuit_ends P failed rose circuit (load_error.Flat (flat_error.Undriven x)) refuse fail h = refuse (refusal.Design file.A (flat_error.Undriven x)) h
circuit_ends P failed rose circuit (load_error.Flat (flat_error.TwoClocks x)) refuse fail h = refuse (refusal.Design file.A (flat_error.TwoClocks x)) h
circuit_ends P failed rose circuit (load_error.Flat (flat_error.TwoEdges x)) refuse fail h = refuse (refusal.Design file.A (flat_error.TwoEdges x)) h
circuit_ends P failed rose circuit (load_error.Flat (flat_error.GatedClock x)) refuse fail h = refuse (refusal.Design file.A (flat_error.GatedClock x)) h
circuit_ends P failed rose circuit (load_error.Flat (flat_error.ClockRead x)) refuse fail h = refuse (refusal.Design file.A (flat_error.ClockRead x)) h
circuit_ends P failed rose circuit (load_error.Flat (flat_error.Loop x)) refuse fail h = refuse (refusal.Design file.A (flat_error.Loop x)) h
circuit_ends P failed rose circuit (load_error.Flat (flat_error.TooDeep x)) refuse fail h = refuse (refusal.Design file.A (flat_error.TooDeep x)) h
circuit_ends P failed rose circuit (load_error.Flat flat_error.TooMany) refuse fail h = refuse (refusal.Design file.A flat_error.TooMany) h
circuit_ends P failed rose circuit (load_error.Flat flat_error.LongName) refuse fail h = refuse (refusal.Design file.A flat_error.LongName) h
circuit_ends P failed rose circuit (load_error.Flat flat_error.NoMemory) refuse fail h = tt
circuit_ends P failed rose circuit (load_error.Aiger (aiger_error.At place kind)) refuse fail h = refuse (refusal.Record file.A place kind) h
circuit_ends P failed rose circuit (load_error.Aiger aiger_error.NoMemory) refuse fail h = tt

-- a refusal of the circuit is one of the report of its latch graph
pub graph_circuit : (mode : Mode) (circuit : Option (List ℕ)) (r : Refusal) → IsCircuitRefusal circuit r → IsGraphRefusal mode circuit r
graph_circuit mode circuit (refusal.TooLong f) h = h
graph_circuit mode circuit (refusal.Text f line fault) h = h
graph_circuit mode circuit (refusal.Design f fault) h = h
graph_circuit mode circuit (refusal.Record f place kind) h = h
graph_circuit mode circuit (refusal.Interface name) h = h
graph_circuit mode circuit (refusal.TooLarge A) h = absurd h
graph_circuit mode circuit (refusal.TooLarge B) h = h
graph_circuit mode circuit (refusal.Misfit m) h = h
graph_circuit mode circuit refusal.TooManyEvents h = h
graph_circuit mode circuit (refusal.Assume fault) h = h
graph_circuit mode circuit refusal.Vacuous h = h
graph_circuit mode circuit (refusal.Pair name) h = h
graph_circuit mode circuit (refusal.Pairs fault) h = h

-- and one of the simulation
pub sim_circuit : (mode : Mode) (circuit stimulus power : Option (List ℕ)) (r : Refusal) → IsCircuitRefusal circuit r → IsSimRefusal mode circuit stimulus power r
sim_circuit mode circuit stimulus power (refusal.TooLong file.A) h = h
sim_circuit mode circuit stimulus power (refusal.TooLong file.B) h = h
sim_circuit mode circuit stimulus power (refusal.TooLong file.C) h = h
sim_circuit mode circuit stimulus power (refusal.TooLong file.S) h = absurd h
sim_circuit mode circuit stimulus power (refusal.Text file.A line fault) h = h
sim_circuit mode circuit stimulus power (refusal.Text file.B line fault) h = h
sim_circuit mode circuit stimulus power (refusal.Text file.C line fault) h = h
sim_circuit mode circuit stimulus power (refusal.Text file.S line fault) h = absurd h
sim_circuit mode circuit stimulus power (refusal.Design f fault) h = h
sim_circuit mode circuit stimulus power (refusal.Record f place kind) h = h
sim_circuit mode circuit stimulus power (refusal.Interface name) h = h
sim_circuit mode circuit stimulus power (refusal.TooLarge A) h = absurd h
sim_circuit mode circuit stimulus power (refusal.TooLarge B) h = h
sim_circuit mode circuit stimulus power (refusal.Misfit m) h = absurd h
sim_circuit mode circuit stimulus power refusal.TooManyEvents h = h
sim_circuit mode circuit stimulus power (refusal.Assume fault) h = h
sim_circuit mode circuit stimulus power refusal.Vacuous h = h
sim_circuit mode circuit stimulus power (refusal.Pair name) h = h
sim_circuit mode circuit stimulus power (refusal.Pairs fault) h = h

-- the circuit is loaded, and its latch graph told
pub graph_ends : (mode : Mode) (circuit : Option (List ℕ)) (failed : Type 0) (net : NetView) (r : Result (List ℕ) KindsError) → IfSome circuit (λ x. Loads x net) → Tells mode net r →
    EndsBy (IsGraphFound mode circuit) failed (graph_end r)
graph_ends mode circuit failed net (Ok report) loads tells = record { net = net; loads = loads; is_report = tells.0; light = tells.1 }
graph_ends mode circuit failed net (Err kinds_error.TooLarge) loads tells = record { net = net; loads = loads; unknown = tells }
graph_ends mode circuit failed net (Err (kinds_error.Limit name proof)) loads tells = record { net = net; loads = loads; unknown = tells }
graph_ends mode circuit failed net (Err kinds_error.NoMemory) loads tells = tt

-- both are loaded, and the circuit is run
pub run_ends : (mode : Mode) (circuit stimulus power : Option (List ℕ)) (reset : Bool) (failed : Type 0) (net : NetView) (names : List (List ℕ)) (rows : List (List Bool)) (r : Result (List ℕ) SimulateError) →
    IfSome circuit (λ x. Loads x net) → IfSome stimulus (λ y. IsStimulus y names rows) → Simulates mode net names rows power reset r → EndsBy (IsSimFound mode circuit stimulus power reset) failed (sim_end r)
run_ends mode circuit stimulus power reset failed net names rows (Ok report) loads spells run =
    record { net = net; names = names; rows = rows; loads = loads; spells = spells; fits = run.0; is_report = run.1.0; light = run.1.1 }
run_ends mode circuit stimulus power reset failed net names rows (Err (simulate_error.Misfit m)) loads spells run = record { net = net; names = names; rows = rows; loads = loads; spells = spells; is_first = run }
run_ends mode circuit stimulus power reset failed net names rows (Err simulate_error.TooLarge) loads spells run = record { net = net; names = names; rows = rows; loads = loads; spells = spells; fits = run.0; unknown = run.1 }
run_ends mode circuit stimulus power reset failed net names rows (Err (simulate_error.Limit name proof)) loads spells run =
    record { net = net; names = names; rows = rows; loads = loads; spells = spells; fits = run.0; unknown = run.1 }
run_ends mode circuit stimulus power reset failed net names rows (Err simulate_error.NoMemory) loads spells run = tt

-- the circuit is loaded, and the stimulus isn't; what is held of it and its faults are those of a later time
pub stimulus_ends : (held : Held) (before now : List ℕ → ℕ) (circuit stimulus : List ℕ) (mode : Mode) (power : Option (List ℕ)) (reset : Bool) (later : Option (List ℕ)) (middle : ℕ) (error : StimulusError) → IsLoaded (held circuit) →
    later ≡ held stimulus → before stimulus ≤ middle → StimulusFails later (Rose middle (now stimulus)) error → SimFound held before now circuit stimulus mode power reset (stimulus_end error)
stimulus_ends held before now circuit stimulus mode power reset later middle (stimulus_error.Fetch fetch_error.Failed) loaded same grew h =
    second_failed held before now circuit stimulus [] loaded (rose_before (before stimulus) middle (now stimulus) grew h)
stimulus_ends held before now circuit stimulus mode power reset later middle (stimulus_error.Fetch fetch_error.TooLong) loaded same grew h = (loaded, subst (λ (o : Option (List ℕ)). IfSome o IsTooLong) same h)
stimulus_ends held before now circuit stimulus mode power reset later middle (stimulus_error.Fetch fetch_error.NoMemory) loaded same grew h = tt
stimulus_ends held before now circuit stimulus mode power reset later middle (stimulus_error.Read (stim_error.BadHeader line)) loaded same grew h = (loaded, subst (λ (o : Option (List ℕ)). IfSome o (λ y. HasBadHeader y line)) same h)
stimulus_ends held before now circuit stimulus mode power reset later middle (stimulus_error.Read (stim_error.BadRow line)) loaded same grew h = (loaded, subst (λ (o : Option (List ℕ)). IfSome o (λ y. HasBadRow y line)) same h)
stimulus_ends held before now circuit stimulus mode power reset later middle (stimulus_error.Read stim_error.NoMemory) loaded same grew h = tt
