-- What is found of pairs under an assumption, and why pairs aren't compared.
use Rattle.std.specs.Prelude.{◌≡◌, ℕ, List, length, Result, Err}
use Rattle.flat_net.specs.View.{NetView}
use Rattle.event_nodes.specs.Nodes.{EventGraphView}
use Rattle.event_nodes.specs.View.{EventCircuitView}
use Rattle.event_form.specs.event_agreement.pair_events.View.{EventsView, side_of_both}
use Rattle.sec_setup.specs.declared.ports.pairs.SignalPair.{SignalPair}
use Rattle.obligations.specs.declared.decision.Decided.{Decided}
use Rattle.obligations.specs.declared.verdict.VerdictAt.{VerdictAt}
use Rattle.obligations.specs.Decided.{HaveDecided}
use Rattle.obligations.specs.Verdict.{IsVerdictAt}
use Rattle.event_form.specs.declared.error.EventFormError.{EventFormError}
use Rattle.event_form.specs.declared.event_findings.findings.EventFindings.{EventFindings}
use Rattle.event_form.specs.declared.event_findings.pairs.EventPairs.{EventPairs}
use Rattle.event_form.specs.Stopped.{IsStoppedFor}
use Rattle.event_comparison.specs.Counted.{ArePairsCounted}
use Rattle.assume_queries.specs.assume_sequences.Assumed.{IsAssumedBy}
use Rattle.assume_queries.specs.declared.assume_sequences.premise.Premise.{Premise}
use Rattle.assume_queries.specs.assume_sequences.Filled.{bit_of}
use Rattle.assume_laws.specs.assume_shape.Shape.{assumption_of}
use Rattle.event_under.specs.Places.{IsLightAtNodes, IsOverAtNodes}
use Rattle.event_under.specs.event_shown_under.event_under_fits.Findings.{FindingsFitUnder}
use Rattle.event_under.specs.event_under_form.event_under_verdicts.Shown.{IsShownUnder}
use Rattle.event_under.specs.event_under_form.Refusals.{refusal_of}
use Rattle.event_under.specs.declared.event_under_form.error.EventUnderError.{EventUnderError}
use Rattle.event_under.specs.declared.event_under_form.verdict.Shows.{Shows}

-- what is found of the pairs fits the circuits under each assumption of the premise
abbrev pub FindingsFitAssumed : EventCircuitView → EventCircuitView → EventPairs → Premise → ℕ → EventFindings → Type 0
FindingsFitAssumed a b c p conflicts f = (n : NetView) (inputs : List ℕ) (output size : ℕ) → IsAssumedBy p (length c.names.now) n inputs output size → FindingsFitUnder (assumption_of n inputs output) a b (bit_of p.meeting) c conflicts f

-- The pairs are counted, and then an assumption of this weight weighs no more than 2,000,000 at all event nodes that have a variable of one of them,
-- with one more for each node of each pair;
abbrev pub ArePairsLight : ℕ → List SignalPair → EventsView → EventsView → Type 0
ArePairsLight weight pairs old new = ArePairsCounted pairs old new × IsLightAtNodes weight (side_of_both old) pairs

-- or it weighs more
abbrev pub ArePairsOver : ℕ → List SignalPair → EventsView → EventsView → Type 0
ArePairsOver weight pairs old new = ArePairsCounted pairs old new × IsOverAtNodes weight (side_of_both old) pairs

-- what is refused but for the assumption is refused as without one
abbrev pub AreRefusedUnder : {X : Type 0} → List SignalPair → EventsView → Result X EventUnderError → Type 0
AreRefusedUnder {X} pairs e result = (error : EventFormError) → result ≡ Err (refusal_of error) → IsStoppedFor {X = X} pairs e (Err error)

-- the results are those of the obligations over the graph of their own, and the verdict is shown at the one that gives it, while the event graph grows
pub record AreFoundUnder (w : EventGraphView) (e : EventsView) (c : EventPairs) (conflicts : ℕ) (s : Shows) (f : EventFindings) : Type 0 where
  pub decided : Decided
  pub have : HaveDecided s.questions.now.aig conflicts s.questions.now.asked.items decided
  pub at : VerdictAt
  pub found : IsVerdictAt decided.different decided.not_shown decided.results at
  pub results : f.pairs ≡ decided.results
  pub shown : IsShownUnder w e c s.asked.now s.questions.now (bit_of s.meeting.now) decided.results at f.verdict
