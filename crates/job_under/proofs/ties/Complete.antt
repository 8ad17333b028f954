-- Where two circuits can be compared by ties of signals under an assumption, they are.
use Rattle.std.proofs.Common.{ℕ, List, Option}
use Rattle.job_base.specs.declared.finding.Finding.{Finding}
use Rattle.job_base.specs.Written.{status_of}
use Rattle.job_under.specs.ties.Judged.{AreJudged}
use Rattle.job_under.specs.ties.Found.{TiesRefuse, AreTiesFound}
use Rattle.job_under.specs.ties.Answer.{AreTiesComplete}
use Rattle.job_under.proofs.Complete.{found_complete}

pub ties_complete : (conflicts : ℕ) (left right assumed : Option (List ℕ)) (f : Finding) → AreTiesFound conflicts left right assumed f → AreTiesComplete conflicts left right assumed (status_of f)
ties_complete conflicts left right assumed f found = found_complete (TiesRefuse conflicts) (AreJudged conflicts) left right assumed f found
