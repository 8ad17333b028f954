-- How a comparison by ties of signals under an assumption ends.
use Rattle.std.specs.Prelude.{ℕ, List, Result}
use Rattle.flat_net.specs.View.{NetView}
use Rattle.induct.specs.declared.induction.InductError.{InductError}
use Rattle.induct.specs.declared.induction.InductError.TheVariants as heavy
use Rattle.job_base.specs.Ends.{EndsBy}
use Rattle.job_base.specs.declared.finding.Finding.{Finding}
use Rattle.job_base.specs.declared.finding.Stop.{Stop}
use Rattle.job_base.specs.sec_files.job_files.Reading.{Held, ReadFailed}
use Rattle.cycle_under.specs.declared.found.UnderError.{UnderError}
use Rattle.cycle_under.specs.declared.found.UnderError.TheVariants as under
use Rattle.job_under.specs.declared.judging.Judged.{Judged}
use Rattle.job_under.specs.Found.{under_paths}
use Rattle.job_under.specs.Ends.{IsJudgedOr}
use Rattle.job_under.specs.ties.Judged.{AreJudged}
use Rattle.job_under.specs.ties.Found.{TiesRefuse, AreTiesFound}

-- the judgement of both nets under the third, or the first refusal
abbrev pub AreJudgedBy : NetView → NetView → NetView → ℕ → Result Judged UnderError → Type 0
AreJudgedBy a b c conflicts r = IsJudgedOr (TiesRefuse conflicts) (AreJudged conflicts) a b c r

-- the refusal of a circuit that is too large
abbrev pub oversized : InductError → UnderError
oversized (heavy.TooLarge side) = under.TooLarge side
oversized heavy.NoMemory = under.NoMemory

-- the work on three files ends with a finding that is right, or by a read that failed, or at want of memory
abbrev pub TiesFound : Held → (List ℕ → ℕ) → (List ℕ → ℕ) → List ℕ → List ℕ → List ℕ → ℕ → Result Finding Stop → Type 0
TiesFound held before now left right assumed conflicts r = EndsBy (AreTiesFound conflicts (held left) (held right) (held assumed)) (ReadFailed held before now (under_paths left right assumed)) r
