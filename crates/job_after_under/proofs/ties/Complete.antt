-- Where two circuits can be compared by ties of signals behind the rows of a stimulus under an assumption, they are.
use Rattle.std.proofs.Common.{ℕ, List, Option}
use Rattle.job_base.specs.declared.finding.Finding.{Finding}
use Rattle.job_base.specs.Written.{status_of}
use Rattle.job_under.specs.ties.Found.{TiesRefuse}
use Rattle.job_after_under.specs.ties.Judged.{AreJudged}
use Rattle.job_after_under.specs.ties.Found.{AreTiesBehindFound}
use Rattle.job_after_under.specs.ties.Answer.{AreTiesBehindComplete}
use Rattle.job_after_under.proofs.Complete.{found_complete}

pub ties_behind_complete : (conflicts : ℕ) (left right assumed stimulus : Option (List ℕ)) (f : Finding) → AreTiesBehindFound conflicts left right assumed stimulus f →
    AreTiesBehindComplete conflicts left right assumed stimulus (status_of f)
ties_behind_complete conflicts left right assumed stimulus f found = found_complete (TiesRefuse conflicts) (AreJudged conflicts) left right assumed stimulus f found
