-- The table has the stimulus' names.
use Rattle.std.proofs.Common.{ℕ, List, subst}
use Rattle.job_after.specs.Ends.{FitsAfter}
use Rattle.job_known.proofs.replaying.fit.Goals as goal

pub returns : goal.returns
returns c = subst (λ (names : List (List ℕ)). FitsAfter c.args.a.now c.args.b.now names c.match_header.result) c.in_ok-names.ensures c.match_header.ensures
