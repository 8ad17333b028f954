-- What a job finds where a file of it isn't loaded.
use Rattle.std.specs.Prelude.{Result, Ok, Err}
use Rattle.base_shelves.specs.declared.whole_file.FetchError.TheVariants as fetch_error
use Rattle.witness_report.specs.declared.error.StimError.TheVariants as stim_error
use Rattle.blif_read.specs.declared.error.ReadError.TheVariants as read_error
use Rattle.aiger_read.specs.declared.aiger_records.error.AigerError.TheVariants as aiger_error
use Rattle.elaborate.specs.declared.error.FlatError.{FlatError}
use Rattle.elaborate.specs.declared.error.FlatError.TheVariants as flat_error
use Rattle.job_base.specs.declared.finding.File.{File}
use Rattle.job_base.specs.declared.finding.File.TheVariants as file
use Rattle.job_base.specs.declared.finding.LineFault.TheVariants as line_fault
use Rattle.job_base.specs.declared.finding.Refusal.TheVariants as refusal
use Rattle.job_base.specs.declared.finding.Finding.{Finding}
use Rattle.job_base.specs.declared.finding.Finding.TheVariants as finding
use Rattle.job_base.specs.declared.finding.Stop.{Stop}
use Rattle.job_base.specs.declared.finding.Stop.TheVariants as stop
use Rattle.job_base.specs.declared.sec_files.loader.LoadError.{LoadError}
use Rattle.job_base.specs.declared.sec_files.loader.LoadError.TheVariants as load_error
use Rattle.job_base.specs.declared.sec_files.stimuli.StimulusError.{StimulusError}
use Rattle.job_base.specs.declared.sec_files.stimuli.StimulusError.TheVariants as stimulus_error

-- what is found where the design of a file isn't flattened
abbrev pub flatten_end : File → FlatError → Result Finding Stop
flatten_end f flat_error.NoMemory = Err stop.NoMemory
flatten_end f fault = Ok (finding.Refused (refusal.Design f fault))

-- what is found where the file of a circuit isn't loaded
abbrev pub load_end : File → LoadError → Result Finding Stop
load_end f (load_error.Fetch fetch_error.Failed) = Err stop.ReadFault
load_end f (load_error.Fetch fetch_error.TooLong) = Ok (finding.Refused (refusal.TooLong f))
load_end f (load_error.Fetch fetch_error.NoMemory) = Err stop.NoMemory
load_end f (load_error.Read (read_error.At line kind)) = Ok (finding.Refused (refusal.Text f line (line_fault.Circuit kind)))
load_end f (load_error.Read read_error.NoMemory) = Err stop.NoMemory
load_end f (load_error.Flat error) = flatten_end f error
load_end f (load_error.Aiger (aiger_error.At place kind)) = Ok (finding.Refused (refusal.Record f place kind))
load_end f (load_error.Aiger aiger_error.NoMemory) = Err stop.NoMemory

-- what is found where the stimulus isn't loaded
abbrev pub stimulus_end : StimulusError → Result Finding Stop
stimulus_end (stimulus_error.Fetch fetch_error.Failed) = Err stop.ReadFault
stimulus_end (stimulus_error.Fetch fetch_error.TooLong) = Ok (finding.Refused (refusal.TooLong file.S))
stimulus_end (stimulus_error.Fetch fetch_error.NoMemory) = Err stop.NoMemory
stimulus_end (stimulus_error.Read (stim_error.BadHeader line)) = Ok (finding.Refused (refusal.Text file.S line line_fault.BadHeader))
stimulus_end (stimulus_error.Read (stim_error.BadRow line)) = Ok (finding.Refused (refusal.Text file.S line line_fault.BadRow))
stimulus_end (stimulus_error.Read stim_error.NoMemory) = Err stop.NoMemory
