-- What is true of two files where their comparison by blocks finds what it does. A text is given where it is told.
use Rattle.std.specs.Prelude.{◌≡◌, ℕ, List, [], ◌∷◌, Option, Some, None}
use Rattle.circuit_theory.specs.Interface.{first_mismatch}
use Rattle.flat_net.specs.View.{ports_of}
use Rattle.job_base.specs.sec_files.Loading.{IsTooLong, HasFault, HasDesignFault, HasRecordFault}
use Rattle.job_base.specs.declared.finding.File.TheVariants as file
use Rattle.job_base.specs.declared.finding.LineFault.TheVariants as line_fault
use Rattle.job_base.specs.declared.finding.Refusal.{Refusal}
use Rattle.job_base.specs.declared.finding.Refusal.TheVariants as refusal
use Rattle.job_base.specs.declared.finding.Finding.{Finding}
use Rattle.job_base.specs.declared.finding.Finding.TheVariants as finding
use Rattle.induct.specs.declared.induction.InductError.TheVariants as refused
use Rattle.induct.specs.Inductions.{IsRefusal}
use Rattle.sec_jobs.specs.job_induct.induct_meaning.Judged.{IsJudged}
use Rattle.job_base.specs.sec_files.job_files.Texts.{OfNets, OfCircuit}

-- the paths that the comparison reads, in the order of their fetches
abbrev pub induct_paths : List ℕ → List ℕ → List (List ℕ)
induct_paths left right = left ∷ right ∷ []

-- why the circuits aren't compared; the first cause in the order of the work
abbrev pub IsInductRefusal : Option (List ℕ) → Option (List ℕ) → Refusal → Type 0
IsInductRefusal left right (refusal.TooLong f) = OfCircuit left right f IsTooLong
IsInductRefusal left right (refusal.Text f line (line_fault.Circuit kind)) = OfCircuit left right f (λ x. HasFault x line kind)
IsInductRefusal left right (refusal.Design f fault) = OfCircuit left right f (λ x. HasDesignFault x fault)
IsInductRefusal left right (refusal.Record f place kind) = OfCircuit left right f (λ x. HasRecordFault x place kind)
IsInductRefusal left right (refusal.Interface name) = OfNets left right (λ a b. first_mismatch (ports_of a) (ports_of b) ≡ Some name)
IsInductRefusal left right (refusal.TooLarge side) = OfNets left right (λ a b. (first_mismatch (ports_of a) (ports_of b) ≡ None) × IsRefusal a b (refused.TooLarge side))
IsInductRefusal left right other = ⊥

-- what is found of two files
abbrev pub IsInductFound : ℕ → Option (List ℕ) → Option (List ℕ) → Finding → Type 0
IsInductFound conflicts left right (finding.Refused r) = IsInductRefusal left right r
IsInductFound conflicts left right (finding.Judged j proofs text) = OfNets left right (λ a b. IsJudged a b conflicts j proofs text)
IsInductFound conflicts left right other = ⊥
