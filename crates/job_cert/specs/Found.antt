-- What is true of the files of a certificate where it finds what it does. A text is given where it is told.
use Rattle.std.specs.Prelude.{ℕ, List, [], ◌∷◌, Option, Err}
use Rattle.plain_check.specs.under_base.compare_base.Compared.{Compared}
use Rattle.plain_check.specs.declared.under_base.compare_base.error.CompareError.TheVariants as compare_error
use Rattle.job_base.specs.sec_files.Loading.{IsTooLong, HasFault, HasDesignFault, HasRecordFault}
use Rattle.job_cert.specs.pair_clauses.Clauses.{plainly, PairGives}
use Rattle.job_cert.specs.declared.pair_clauses.error.CertError.TheVariants.{Pair}
use Rattle.job_base.specs.declared.finding.File.TheVariants as file
use Rattle.job_base.specs.declared.finding.LineFault.TheVariants as line_fault
use Rattle.job_base.specs.declared.finding.Refusal.{Refusal}
use Rattle.job_base.specs.declared.finding.Refusal.TheVariants as refusal
use Rattle.job_base.specs.declared.finding.Finding.{Finding}
use Rattle.job_base.specs.declared.finding.Finding.TheVariants as finding
use Rattle.job_cert.specs.Made.{Request, IsCertificate}
use Rattle.job_base.specs.sec_files.job_files.Texts.{OfNets, OfCircuit}

-- the paths that a certificate reads, in the order of their fetches
abbrev pub cert_paths : List ℕ → List ℕ → List (List ℕ)
cert_paths left right = left ∷ right ∷ []

-- why there is no certificate; the first cause in the order of the work
abbrev pub IsCertRefusal : Request → Option (List ℕ) → Option (List ℕ) → Refusal → Type 0
IsCertRefusal request left right (refusal.TooLong f) = OfCircuit left right f IsTooLong
IsCertRefusal request left right (refusal.Text f line (line_fault.Circuit kind)) = OfCircuit left right f (λ x. HasFault x line kind)
IsCertRefusal request left right (refusal.Design f fault) = OfCircuit left right f (λ x. HasDesignFault x fault)
IsCertRefusal request left right (refusal.Record f place kind) = OfCircuit left right f (λ x. HasRecordFault x place kind)
IsCertRefusal request left right (refusal.Interface name) = OfNets left right (λ a b. Compared a b plainly (Err (compare_error.Interface name)))
IsCertRefusal request left right (refusal.TooLarge side) = OfNets left right (λ a b. Compared a b plainly (Err (compare_error.TooLarge side)))
IsCertRefusal request left right (refusal.Pair name) = OfNets left right (λ a b. PairGives a b request.pair (Err (Pair name)))
IsCertRefusal request left right other = ⊥

-- what is found where a certificate is asked for
abbrev pub IsCertFound : Request → Option (List ℕ) → Option (List ℕ) → Finding → Type 0
IsCertFound request left right (finding.Refused r) = IsCertRefusal request left right r
IsCertFound request left right (finding.Cyclic side names) = OfNets left right (λ a b. Compared a b plainly (Err (compare_error.Cyclic side names)))
IsCertFound request left right (finding.Done text) = OfNets left right (λ a b. IsCertificate a b request (finding.Done text))
IsCertFound request left right (finding.Unrefuted u) = OfNets left right (λ a b. IsCertificate a b request (finding.Unrefuted u))
IsCertFound request left right other = ⊥
