-- The interfaces match.
use Rattle.std.proofs.Common.{sym, subst}
use Rattle.cycle_search.specs.Refusals.{mismatch_of}
use Rattle.cycle_under.specs.declared.found.UnderError.{UnderError}
use Rattle.job_under.proofs.ties.Judgements.{mismatched}
use Rattle.job_under.proofs.ties.judging.judge_where.Goals as goal

pub tie_under-requires-clause-orders : goal.tie_under-requires-clause-orders
tie_under-requires-clause-orders c = c.in-Ok.ensures.ok.1
