-- How the work on a certificate ends.
use Rattle.std.specs.Prelude.{◌≡◌, ◌⊎◌, ℕ, List, Option, Result, Ok, Err, IfSome}
use Rattle.flat_net.specs.View.{NetView}
use Rattle.plain_check.specs.declared.under_base.compare_base.error.CompareError.{CompareError}
use Rattle.plain_check.specs.declared.under_base.compare_base.error.CompareError.TheVariants as compare_error
use Rattle.job_base.specs.sec_files.Loading.{Loads, LoadFails}
use Rattle.job_base.specs.declared.sec_files.loader.LoadError.{LoadError}
use Rattle.job_cert.specs.declared.pair_clauses.error.CertError.{CertError}
use Rattle.job_cert.specs.declared.pair_clauses.error.CertError.TheVariants.{Compare, Pair}
use Rattle.job_base.specs.Ends.{EndsBy}
use Rattle.job_base.specs.declared.finding.File.TheVariants as file
use Rattle.job_base.specs.declared.finding.Refusal.TheVariants as refusal
use Rattle.job_base.specs.declared.finding.Finding.{Finding}
use Rattle.job_base.specs.declared.finding.Finding.TheVariants as finding
use Rattle.job_base.specs.declared.finding.Stop.{Stop}
use Rattle.job_base.specs.declared.finding.Stop.TheVariants as stop
use Rattle.job_base.specs.sec_files.job_files.Ends.{load_end}
use Rattle.job_base.specs.sec_files.job_files.Reading.{Held, ReadFailed}
use Rattle.job_cert.specs.Found.{IsCertFound, cert_paths}
use Rattle.job_cert.specs.Made.{Request, Made}

-- what is found where the circuits aren't compared
abbrev pub compare_end : CompareError → Result Finding Stop
compare_end (compare_error.Interface name) = Ok (finding.Refused (refusal.Interface name))
compare_end (compare_error.Cyclic side names) = Ok (finding.Cyclic side names)
compare_end (compare_error.Unpaired side names) = Ok (finding.Unpaired side names)
compare_end (compare_error.TooLarge side) = Ok (finding.Refused (refusal.TooLarge side))
compare_end compare_error.TooManyEvents = Ok (finding.Refused refusal.TooManyEvents)
compare_end (compare_error.Assume fault) = Ok (finding.Refused (refusal.Assume fault))
compare_end (compare_error.Vacuous by) = Ok (finding.Refused refusal.Vacuous)
compare_end compare_error.NoMemory = Err stop.NoMemory

-- what is found by a certificate, or by its refusal
abbrev pub cert_end : Result Finding CertError → Result Finding Stop
cert_end (Ok f) = Ok f
cert_end (Err (Compare e)) = compare_end e
cert_end (Err (Pair name)) = Ok (finding.Refused (refusal.Pair name))

-- the work on two files ends with a finding that is right, or by a read that failed, or at want of memory
abbrev pub CertFound : Held → (List ℕ → ℕ) → (List ℕ → ℕ) → Request → List ℕ → List ℕ → Result Finding Stop → Type 0
CertFound held before now request left right r = EndsBy (IsCertFound request (held left) (held right)) (ReadFailed held before now (cert_paths left right)) r

-- How the work on B's file ends beside A's net: B isn't loaded, by what is held of it and whether a read of it failed; or the certificate
-- is made of both nets.
abbrev pub EndsBeside : Option (List ℕ) → Type 0 → NetView → Request → Result Finding Stop → Type 0
EndsBeside text rose a request r =
    ((error : LoadError) × LoadFails text rose error × (r ≡ load_end file.B error))
    ⊎ ((b : NetView) × (made : Result Finding CertError) × IfSome text (λ y. Loads y b) × Made a b request made × (r ≡ cert_end made))
