-- Files that aren't loaded, whatever the job.
use Rattle.std.specs.Prelude.{IfSome}
use Rattle.std.proofs.Common.{◌≡◌, ℕ, ◌≤◌, List, subst, Option}
use Rattle.base_shelves.specs.Outside.{Rose}
use Rattle.base_shelves.specs.declared.whole_file.FetchError.TheVariants as fetch_error
use Rattle.witness_report.specs.declared.error.StimError.TheVariants as stim_error
use Rattle.blif_read.specs.declared.error.ReadError.TheVariants as read_error
use Rattle.blif_read.specs.declared.error.ReadKind.{ReadKind}
use Rattle.aiger_read.specs.declared.aiger_records.error.AigerKind.{AigerKind}
use Rattle.aiger_read.specs.declared.aiger_records.error.AigerError.TheVariants as aiger_error
use Rattle.elaborate.specs.declared.error.FlatError.{FlatError}
use Rattle.elaborate.specs.declared.error.FlatError.TheVariants as flat_error
use Rattle.job_base.specs.declared.finding.File.{File}
use Rattle.job_base.specs.declared.finding.File.TheVariants as file
use Rattle.job_base.specs.declared.finding.LineFault.TheVariants as line_fault
use Rattle.job_base.specs.declared.finding.Refusal.TheVariants as refusal
use Rattle.job_base.specs.declared.finding.Finding.{Finding}
use Rattle.job_base.specs.declared.finding.Finding.TheVariants as finding
use Rattle.job_base.specs.Ends.{EndsBy}
use Rattle.job_base.specs.declared.sec_files.loader.LoadError.{LoadError}
use Rattle.job_base.specs.declared.sec_files.loader.LoadError.TheVariants as load_error
use Rattle.job_base.specs.declared.sec_files.stimuli.StimulusError.{StimulusError}
use Rattle.job_base.specs.declared.sec_files.stimuli.StimulusError.TheVariants as stimulus_error
use Rattle.job_base.specs.sec_files.Loading.{LoadFails, FlattenFails, IsTooLong, HasFault, HasDesignFault, HasRecordFault}
use Rattle.job_base.specs.sec_files.Stimuli.{HasBadHeader, HasBadRow, StimulusFails}
use Rattle.job_base.specs.sec_files.job_files.Ends.{load_end, stimulus_end}
use Rattle.job_base.proofs.sec_files.job_files.Reading.{rose_before}

-- a circuit's file isn't loaded: by a read that failed, by want of memory, or by a refusal that the job looks for
module _ (P : Finding → Type 0) (failed rose : Type 0) (text : Option (List ℕ)) (f : File) (long : IfSome text IsTooLong → P (finding.Refused (refusal.TooLong f)))
    (faulty : (line : ℕ) (kind : ReadKind) → IfSome text (λ x. HasFault x line kind) → P (finding.Refused (refusal.Text f line (line_fault.Circuit kind))))
    (unsound : (fault : FlatError) → IfSome text (λ x. HasDesignFault x fault) → P (finding.Refused (refusal.Design f fault)))
    (misread : (place : ℕ) (kind : AigerKind) → IfSome text (λ x. HasRecordFault x place kind) → P (finding.Refused (refusal.Record f place kind))) (fail : rose → failed) where
  pub load_ends : (error : LoadError) → LoadFails text rose error → EndsBy P failed (load_end f error)
  load_ends (load_error.Fetch fetch_error.Failed) h = fail h
  load_ends (load_error.Fetch fetch_error.TooLong) h = long h
  load_ends (load_error.Fetch fetch_error.NoMemory) h = tt
  load_ends (load_error.Read (read_error.At line kind)) h = faulty line kind h
  load_ends (load_error.Read read_error.NoMemory) h = tt
  load_ends (load_error.Flat (flat_error.UnknownModel x)) h = unsound (flat_error.UnknownModel x) h
  load_ends (load_error.Flat (flat_error.Recursive x)) h = unsound (flat_error.Recursive x) h
  load_ends (load_error.Flat (flat_error.UnknownFormal x)) h = unsound (flat_error.UnknownFormal x) h
  load_ends (load_error.Flat (flat_error.FormalTwice x)) h = unsound (flat_error.FormalTwice x) h
  load_ends (load_error.Flat (flat_error.OpenInput x)) h = unsound (flat_error.OpenInput x) h
  load_ends (load_error.Flat (flat_error.TwoDrivers x)) h = unsound (flat_error.TwoDrivers x) h
  load_ends (load_error.Flat (flat_error.Undriven x)) h = unsound (flat_error.Undriven x) h
  load_ends (load_error.Flat (flat_error.TwoClocks x)) h = unsound (flat_error.TwoClocks x) h
  load_ends (load_error.Flat (flat_error.TwoEdges x)) h = unsound (flat_error.TwoEdges x) h
  load_ends (load_error.Flat (flat_error.GatedClock x)) h = unsound (flat_error.GatedClock x) h
  load_ends (load_error.Flat (flat_error.ClockRead x)) h = unsound (flat_error.ClockRead x) h
  load_ends (load_error.Flat (flat_error.Loop x)) h = unsound (flat_error.Loop x) h
  load_ends (load_error.Flat (flat_error.TooDeep x)) h = unsound (flat_error.TooDeep x) h
  load_ends (load_error.Flat flat_error.TooMany) h = unsound flat_error.TooMany h
  load_ends (load_error.Flat flat_error.LongName) h = unsound flat_error.LongName h
  load_ends (load_error.Flat flat_error.NoMemory) h = tt
  load_ends (load_error.Aiger (aiger_error.At place kind)) h = misread place kind h
  load_ends (load_error.Aiger aiger_error.NoMemory) h = tt

-- the same of a stimulus
module _ (P : Finding → Type 0) (failed rose : Type 0) (text : Option (List ℕ)) (long : IfSome text IsTooLong → P (finding.Refused (refusal.TooLong file.S)))
    (headless : (line : ℕ) → IfSome text (λ z. HasBadHeader z line) → P (finding.Refused (refusal.Text file.S line line_fault.BadHeader)))
    (rowless : (line : ℕ) → IfSome text (λ z. HasBadRow z line) → P (finding.Refused (refusal.Text file.S line line_fault.BadRow))) (fail : rose → failed) where
  pub stimulus_ends : (error : StimulusError) → StimulusFails text rose error → EndsBy P failed (stimulus_end error)
  stimulus_ends (stimulus_error.Fetch fetch_error.Failed) h = fail h
  stimulus_ends (stimulus_error.Fetch fetch_error.TooLong) h = long h
  stimulus_ends (stimulus_error.Fetch fetch_error.NoMemory) h = tt
  stimulus_ends (stimulus_error.Read (stim_error.BadHeader line)) h = headless line h
  stimulus_ends (stimulus_error.Read (stim_error.BadRow line)) h = rowless line h
  stimulus_ends (stimulus_error.Read stim_error.NoMemory) h = tt

-- a file that wasn't loaded later wasn't by what was held before
pub later_fails : (later held : Option (List ℕ)) (a b c : ℕ) (error : LoadError) → later ≡ held → a ≤ b → LoadFails later (Rose b c) error → LoadFails held (Rose a c) error
later_fails later held a b c (load_error.Fetch fetch_error.Failed) same grew h = rose_before a b c grew h
later_fails later held a b c (load_error.Fetch fetch_error.TooLong) same grew h = subst (λ (o : Option (List ℕ)). IfSome o IsTooLong) same h
later_fails later held a b c (load_error.Fetch fetch_error.NoMemory) same grew h = tt
later_fails later held a b c (load_error.Read (read_error.At line kind)) same grew h = subst (λ (o : Option (List ℕ)). IfSome o (λ text. HasFault text line kind)) same h
later_fails later held a b c (load_error.Read read_error.NoMemory) same grew h = tt
later_fails later held a b c (load_error.Flat e) same grew h = subst (λ (o : Option (List ℕ)). FlattenFails o e) same h
later_fails later held a b c (load_error.Aiger (aiger_error.At place kind)) same grew h = subst (λ (o : Option (List ℕ)). IfSome o (λ text. HasRecordFault text place kind)) same h
later_fails later held a b c (load_error.Aiger aiger_error.NoMemory) same grew h = tt

pub later_stimulus : (later held : Option (List ℕ)) (a b c : ℕ) (error : StimulusError) → later ≡ held → a ≤ b → StimulusFails later (Rose b c) error → StimulusFails held (Rose a c) error
later_stimulus later held a b c (stimulus_error.Fetch fetch_error.Failed) same grew h = rose_before a b c grew h
later_stimulus later held a b c (stimulus_error.Fetch fetch_error.TooLong) same grew h = subst (λ (o : Option (List ℕ)). IfSome o IsTooLong) same h
later_stimulus later held a b c (stimulus_error.Fetch fetch_error.NoMemory) same grew h = tt
later_stimulus later held a b c (stimulus_error.Read (stim_error.BadHeader line)) same grew h = subst (λ (o : Option (List ℕ)). IfSome o (λ z. HasBadHeader z line)) same h
later_stimulus later held a b c (stimulus_error.Read (stim_error.BadRow line)) same grew h = subst (λ (o : Option (List ℕ)). IfSome o (λ z. HasBadRow z line)) same h
later_stimulus later held a b c (stimulus_error.Read stim_error.NoMemory) same grew h = tt
