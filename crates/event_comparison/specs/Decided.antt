-- What is found by what is asked.
use Rattle.std.specs.Prelude.{◌≡◌, ℕ, List}
use Rattle.event_nodes.specs.Nodes.{EventGraphView}
use Rattle.obligations.specs.declared.decision.Decided.{Decided}
use Rattle.obligations.specs.declared.obligation.Obligation.{Obligation}
use Rattle.obligations.specs.declared.verdict.VerdictAt.{VerdictAt}
use Rattle.obligations.specs.Decided.{HaveDecided}
use Rattle.obligations.specs.Verdict.{IsVerdictAt}
use Rattle.event_form.specs.event_agreement.pair_events.View.{EventsView}
use Rattle.event_comparison.specs.Shown.{IsShown}
use Rattle.event_form.specs.declared.event_findings.findings.EventFindings.{EventFindings}
use Rattle.event_form.specs.declared.event_findings.pairs.EventPairs.{EventPairs}

-- the results are those of the obligations over the event graph, and the verdict is shown at the one that gives it, while the graph grows
pub record AreFound (w : EventGraphView) (e : EventsView) (c : EventPairs) (conflicts : ℕ) (asked : List Obligation) (f : EventFindings) : Type 0 where
  pub decided : Decided
  pub have : HaveDecided w.graph conflicts asked decided
  pub at : VerdictAt
  pub found : IsVerdictAt decided.different decided.not_shown decided.results at
  pub results : f.pairs ≡ decided.results
  pub shown : IsShown e c asked decided.results at f.verdict
