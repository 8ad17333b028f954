-- What is true of four files where their comparison by ties of signals behind the rows of a stimulus finds what it does.
use Rattle.std.specs.Prelude.{ℕ, List, Option}
use Rattle.job_base.specs.declared.finding.Finding.{Finding}
use Rattle.job_under.specs.ties.Found.{TiesRefuse}
use Rattle.job_after_under.specs.Found.{IsFoundBy}
use Rattle.job_after_under.specs.ties.Judged.{AreJudged}

-- what is found of four files; the nets that begin are refused where their comparison by ties refuses them
abbrev pub AreTiesBehindFound : ℕ → Option (List ℕ) → Option (List ℕ) → Option (List ℕ) → Option (List ℕ) → Finding → Type 0
AreTiesBehindFound conflicts left right assumed stimulus f = IsFoundBy (TiesRefuse conflicts) (AreJudged conflicts) left right assumed stimulus f
