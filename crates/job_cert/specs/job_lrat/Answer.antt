-- What the status says of a refutation that is checked, and when it can be checked.
use Rattle.std.specs.Prelude.{ℕ, List, Option, IsSomeAnd}
use Rattle.base_shelves.specs.Outside.{Takes}
use Rattle.lrat_core.specs.dimacs_text.Formulas.{Formula}
use Rattle.job_base.specs.declared.status.StatusName.{StatusName}
use Rattle.job_base.specs.declared.status.StatusName.TheVariants as status
use Rattle.job_base.specs.Meaning.{ReportMeans, EndsWith}
use Rattle.job_cert.specs.job_lrat.Texts.{Spells, Refutes}
use Rattle.job_cert.specs.job_lrat.Found.{Verifies, verified_text}

-- the refutation is accepted, which is told
abbrev pub TellsVerified : Option (List ℕ) → Option (List ℕ) → Option (List ℕ) → Option (List ℕ) → Type 0
TellsVerified clauses proof before now = Verifies clauses proof × Takes before now verified_text

-- what the status says: there is no verdict and no limit
abbrev pub LratMeans : Option (List ℕ) → Option (List ℕ) → Option (List ℕ) → Option (List ℕ) → StatusName → Type 0
LratMeans clauses proof before now name = ReportMeans (TellsVerified clauses proof before now) ⊥ name

-- the first text spells clauses, and the second is accepted over them at this line
pub record IsRefuted (x y : List ℕ) : Type 0 where
  pub formula : Formula
  pub spells : Spells x formula
  pub line : ℕ
  pub refutes : Refutes formula y line

-- both texts are told, and the second refutes the clauses of the first
abbrev pub CanVerify : Option (List ℕ) → Option (List ℕ) → Type 0
CanVerify clauses proof = IsSomeAnd clauses (λ x. IsSomeAnd proof (λ y. IsRefuted x y))

-- a refutation that is accepted is told as such, if no read and no write fails
abbrev pub IsLratComplete : Option (List ℕ) → Option (List ℕ) → StatusName → Type 0
IsLratComplete clauses proof name = CanVerify clauses proof → EndsWith status.Done name
