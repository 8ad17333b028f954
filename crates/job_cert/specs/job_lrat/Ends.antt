-- How the check of a refutation ends.
use Rattle.std.specs.Prelude.{ℕ, List, Option, Result, Ok, Err}
use Rattle.sec_base.specs.NoMemory.{NoMemory}
use Rattle.base_shelves.specs.declared.whole_file.FetchError.TheVariants as fetch_error
use Rattle.text_numbers.specs.declared.kinds.TextError.TheVariants as text_error
use Rattle.job_base.specs.Ends.{EndsBy}
use Rattle.job_base.specs.declared.finding.File.{File}
use Rattle.job_base.specs.declared.finding.LineFault.TheVariants as line_fault
use Rattle.job_base.specs.declared.finding.Refusal.TheVariants as refusal
use Rattle.job_base.specs.declared.finding.Finding.{Finding}
use Rattle.job_base.specs.declared.finding.Finding.TheVariants as finding
use Rattle.job_base.specs.declared.finding.Stop.{Stop}
use Rattle.job_base.specs.declared.finding.Stop.TheVariants as stop
use Rattle.job_cert.specs.job_lrat.Found.{IsLratFound, LratReadFailed}
use Rattle.job_cert.specs.declared.job_lrat.loading.TextLoadError.{TextLoadError}
use Rattle.job_cert.specs.declared.job_lrat.loading.TextLoadError.TheVariants as error

-- what is found where a text isn't loaded
abbrev pub text_end : File → TextLoadError → Result Finding Stop
text_end f (error.Fetch fetch_error.Failed) = Err stop.ReadFault
text_end f (error.Fetch fetch_error.TooLong) = Ok (finding.Refused (refusal.TooLong f))
text_end f (error.Fetch fetch_error.NoMemory) = Err stop.NoMemory
text_end f (error.Read (text_error.At line kind)) = Ok (finding.Refused (refusal.Text f line (line_fault.Clauses kind)))
text_end f (error.Read text_error.NoMemory) = Err stop.NoMemory

-- what is found where the refutation is accepted
abbrev pub verified_end : Result (List ℕ) NoMemory → Result Finding Stop
verified_end (Ok report) = Ok (finding.Done report)
verified_end (Err e) = Err stop.NoMemory

-- the work ends with a finding that is right, or by a read that failed, or at want of memory
abbrev pub LratFound : (List ℕ → Option (List ℕ)) → (List ℕ → ℕ) → (List ℕ → ℕ) → List ℕ → List ℕ → Result Finding Stop → Type 0
LratFound held before now clauses proof r = EndsBy (IsLratFound (held clauses) (held proof)) (LratReadFailed held before now clauses proof) r
