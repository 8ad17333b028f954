-- What is true where the check of a refutation ends as it does. A text is given where it is told.
use Rattle.std.specs.Prelude.{◌≡◌, ℕ, List, [], ◌∷◌, Option, IfSome, codes}
use Rattle.proof_check.specs.Clauses.{Unsatisfiable}
use Rattle.text_numbers.specs.declared.kinds.TextKind.{TextKind}
use Rattle.lrat_core.specs.dimacs_text.Formulas.{Formula}
use Rattle.job_base.specs.Reading.{ReadFailedAfter}
use Rattle.job_base.specs.declared.finding.File.TheVariants as file
use Rattle.job_base.specs.declared.finding.LineFault.TheVariants as line_fault
use Rattle.job_base.specs.declared.finding.Refusal.{Refusal}
use Rattle.job_base.specs.declared.finding.Refusal.TheVariants as refusal
use Rattle.job_base.specs.declared.finding.Finding.{Finding}
use Rattle.job_base.specs.declared.finding.Finding.TheVariants as finding
use Rattle.job_cert.specs.job_lrat.Texts.{IsLong, Spells, HasClausesFault, Refutes, HasProofFault}

-- the paths that the check of a refutation reads, in the order of their fetches
abbrev pub lrat_paths : List ℕ → List ℕ → List (List ℕ)
lrat_paths clauses proof = clauses ∷ proof ∷ []

-- the text spells clauses
abbrev pub AreSpelled : Option (List ℕ) → Type 0
AreSpelled clauses = IfSome clauses (λ x. (formula : Formula) × Spells x formula)

-- A read of the clauses failed, or a read of the refutation where the clauses are spelled.
abbrev pub LratReadFailed : (List ℕ → Option (List ℕ)) → (List ℕ → ℕ) → (List ℕ → ℕ) → List ℕ → List ℕ → Type 0
LratReadFailed held before now clauses proof = ReadFailedAfter AreSpelled held before now (lrat_paths clauses proof)

-- the report that a refutation is accepted
abbrev pub verified_text : List ℕ
verified_text = codes "verified\n"

-- the first text spells clauses, and the second is accepted over them at some line; so no assignment meets all of them
pub record Verifies (clauses proof : Option (List ℕ)) : Type 0 where
  pub formula : Formula
  pub spells : IfSome clauses (λ x. Spells x formula)
  pub line : ℕ
  pub accepted : IfSome proof (λ y. Refutes formula y line)
  pub refuted : Unsatisfiable formula.clauses

-- the first text spells clauses, and this line of the second is its first faulty one over them
pub record HasFaultOver (clauses proof : Option (List ℕ)) (line : ℕ) (kind : TextKind) : Type 0 where
  pub formula : Formula
  pub spells : IfSome clauses (λ x. Spells x formula)
  pub faulty : IfSome proof (λ y. HasProofFault formula y line kind)

-- why the check is refused, the clauses being A and the refutation B; the first cause in the order of the work
abbrev pub IsLratRefusal : Option (List ℕ) → Option (List ℕ) → Refusal → Type 0
IsLratRefusal clauses proof (refusal.TooLong file.A) = IfSome clauses IsLong
IsLratRefusal clauses proof (refusal.TooLong file.B) = AreSpelled clauses × IfSome proof IsLong
IsLratRefusal clauses proof (refusal.Text file.A line (line_fault.Clauses kind)) = IfSome clauses (λ x. HasClausesFault x line kind)
IsLratRefusal clauses proof (refusal.Text file.B line (line_fault.Clauses kind)) = HasFaultOver clauses proof line kind
IsLratRefusal clauses proof other = ⊥

-- what is found where a refutation is checked
abbrev pub IsLratFound : Option (List ℕ) → Option (List ℕ) → Finding → Type 0
IsLratFound clauses proof (finding.Done report) = Verifies clauses proof × (report ≡ verified_text)
IsLratFound clauses proof (finding.Refused r) = IsLratRefusal clauses proof r
IsLratFound clauses proof other = ⊥
