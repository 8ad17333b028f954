-- What is true of two files where the search finds what it does. A text is given where it is told.
use Rattle.std.specs.Prelude.{◌≡◌, ℕ, List, Option, Some}
use Rattle.circuit_theory.specs.Interface.{first_mismatch}
use Rattle.flat_net.specs.View.{ports_of}
use Rattle.sec_setup.specs.Matching.{InterfacesMatch}
use Rattle.job_base.specs.sec_files.Loading.{IsTooLong, HasFault, HasDesignFault, HasRecordFault}
use Rattle.job_base.specs.declared.finding.LineFault.TheVariants as line_fault
use Rattle.job_base.specs.declared.finding.Refusal.{Refusal}
use Rattle.job_base.specs.declared.finding.Refusal.TheVariants as refusal
use Rattle.job_base.specs.declared.finding.Finding.{Finding}
use Rattle.job_base.specs.declared.finding.Finding.TheVariants as finding
use Rattle.cycle_search.specs.Outputs.{IsOneTooLarge}
use Rattle.job_base.specs.sec_files.job_files.Texts.{OfCircuit, OfNets}
use Rattle.sec_jobs.specs.job_search.search_meaning.Judged.{IsJudged}

-- why the circuits aren't compared; the first cause in the order of the work
abbrev pub IsSearchRefusal : Option (List ℕ) → Option (List ℕ) → Refusal → Type 0
IsSearchRefusal left right (refusal.TooLong f) = OfCircuit left right f IsTooLong
IsSearchRefusal left right (refusal.Text f line (line_fault.Circuit kind)) = OfCircuit left right f (λ x. HasFault x line kind)
IsSearchRefusal left right (refusal.Design f fault) = OfCircuit left right f (λ x. HasDesignFault x fault)
IsSearchRefusal left right (refusal.Record f place kind) = OfCircuit left right f (λ x. HasRecordFault x place kind)
IsSearchRefusal left right (refusal.Interface name) = OfNets left right (λ a b. first_mismatch (ports_of a) (ports_of b) ≡ Some name)
IsSearchRefusal left right (refusal.TooLarge side) = OfNets left right (λ a b. InterfacesMatch a b × IsOneTooLarge a b 0 side)
IsSearchRefusal left right other = ⊥

-- what is found of two files
abbrev pub IsSearchFound : ℕ → ℕ → Option (List ℕ) → Option (List ℕ) → Finding → Type 0
IsSearchFound cycles conflicts left right (finding.Refused r) = IsSearchRefusal left right r
IsSearchFound cycles conflicts left right (finding.Judged j proofs text) = OfNets left right (λ a b. IsJudged a b cycles conflicts j proofs text)
IsSearchFound cycles conflicts left right other = ⊥
