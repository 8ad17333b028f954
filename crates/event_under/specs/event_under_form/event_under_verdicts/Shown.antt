-- What shows the verdict at an obligation under an assumption.
use Rattle.std.specs.Prelude.{◌≡◌, ℕ, ◌<◌, Bool, List, length, slice_get, Some}
use Rattle.circuit_theory.specs.Sequence.{sequence_rows}
use Rattle.circuit_theory.specs.Frame.{bits_as_shifts}
use Rattle.aig.specs.Values.{value}
use Rattle.pair_decide.specs.declared.query.Query.{Query}
use Rattle.pair_decide.specs.Queries.{assigned_to}
use Rattle.event_nodes.specs.Nodes.{EventGraphView}
use Rattle.event_nodes.specs.event_variables.Variables.{variables_of}
use Rattle.obligations.specs.declared.obligation.Difference.{Difference}
use Rattle.obligations.specs.declared.obligation.Obligation.{Obligation}
use Rattle.obligations.specs.declared.verdict.VerdictAt.{VerdictAt}
use Rattle.obligations.specs.declared.verdict.VerdictAt.TheVariants as at
use Rattle.obligations.specs.Decided.{IsFirstOf}
use Rattle.obligations.specs.declared.outcome.verdict.PairResult.{PairResult}
use Rattle.event_under.specs.event_shown_under.event_under_fits.event_agreement.View.{EventsView, side_of_both}
use Rattle.witness_report.specs.declared.witness.Witness.{Witness}
use Rattle.sec_base.specs.declared.basics.PairAnswer.TheVariants as answer
use Rattle.sec_setup.specs.declared.ports.pairs.SignalPair.{SignalPair}
use Rattle.event_under.specs.event_shown_under.event_under_fits.event_witness.UnshownFrame.{UnshownFrame}
use Rattle.event_under.specs.event_shown_under.event_under_fits.event_findings.Reached.{BothReachAlways}
use Rattle.event_under.specs.event_shown_under.event_under_fits.event_findings.Separations.{AreToldApart}
use Rattle.event_under.specs.event_shown_under.event_under_fits.event_findings.Told.{TellsBits}
use Rattle.event_under.specs.event_shown_under.event_under_fits.event_findings.EventPairs.{EventPairs}
use Rattle.event_under.specs.event_shown_under.event_under_fits.event_findings.EventVerdict.{EventVerdict}
use Rattle.event_under.specs.event_shown_under.event_under_fits.event_findings.EventVerdict.TheVariants as verdict
use Rattle.assume_laws.specs.Assume.{Assumption}
use Rattle.assume_laws.specs.Sequences.{filled_frame}
use Rattle.event_under.specs.Asked.{variables_in, AreAskedUnder}
use Rattle.event_under.specs.declared.event_asked_under.asked.EventQuestions.{EventQuestions}
use Rattle.event_under.specs.event_asked_under.Questions.{named_at}
use Rattle.event_nodes.specs.event_variables.ranked_nodes.Ranks.{AreRanked}

-- what is asked of the pairs of the circuits without the assumption, and under one
pub record AreQuestions (e : EventsView) (c : EventPairs) (asked : List Obligation) (x : EventQuestions) : Type 0 where
  pub assumption : Assumption
  pub under : AreAskedUnder assumption (side_of_both e) e.events x.aig (named_at e.events.children x) c.cut c.pairs.now asked x.asked.items
  pub ranked : AreRanked e.events.children x.ranked

-- the first difference of its kind is one of these
abbrev pub DiffersFirstUnder : EventQuestions → Difference → Type 0
DiffersFirstUnder x d = (results : List PairResult) × IsFirstOf x.aig x.asked.items answer.NotShown results d

abbrev pub IsFoundUnder : EventQuestions → List PairResult → VerdictAt → Type 0
IsFoundUnder x results at.Equal = Unit {0}
IsFoundUnder x results (at.Different d) = IsFirstOf x.aig x.asked.items answer.Different results d
IsFoundUnder x results (at.Limit place) = place < length results
IsFoundUnder x results (at.NotShown d) = IsFirstOf x.aig x.asked.items answer.NotShown results d

-- the obligation of a difference under the assumption, the one without, and the query of each
pub record IsQuestionAt (asked : List Obligation) (x : EventQuestions) (d : Difference) (o u : Obligation) (sides query : Query) : Type 0 where
  pub asked_at : slice_get asked d.pair ≡ Some o
  pub own_at : slice_get o.queries 0 ≡ Some sides
  pub under_at : slice_get x.asked.items d.pair ≡ Some u
  pub query_at : slice_get u.queries d.query ≡ Some query

-- the values of both sides where the variables have these bits
abbrev pub AreSidesUnder : EventQuestions → Query → List Bool → Bool → Bool → Type 0
AreSidesUnder x q bits left right = (left ≡ value x.aig (assigned_to q.vars bits) q.left.0) × (right ≡ value x.aig (assigned_to q.vars bits) q.right.0)

-- The sequence of a difference, up to the depth of its pair: the meeting row stands where no variable of both sides has the node of a cycle.
pub record IsWitnessUnder (w : EventGraphView) (c : EventPairs) (asked : List Obligation) (x : EventQuestions) (meeting : ℕ → Bool) (d : Difference) (y : Witness) : Type 0 where
  pub plain : Obligation
  pub under : Obligation
  pub sides : Query
  pub query : Query
  pub at : IsQuestionAt asked x d plain under sides query
  pub depth_at : slice_get c.depths.now d.pair ≡ Some y.cycle
  pub pair_is : y.pair ≡ under.name
  pub values : AreSidesUnder x query d.bits y.left y.right
  pub names_are : y.stimulus.names ≡ c.names.now
  pub rows_are : y.stimulus.rows ≡ sequence_rows y.cycle (bits_as_shifts (filled_frame (variables_of w sides.vars) (variables_in (named_at w.children x) query.vars) meeting d.bits)) (length c.names.now)

-- its frame
pub record IsFrameAtUnder (w : EventGraphView) (x : EventQuestions) (d : Difference) (y : UnshownFrame) : Type 0 where
  pub under : Obligation
  pub query : Query
  pub under_at : slice_get x.asked.items d.pair ≡ Some under
  pub query_at : slice_get under.queries d.query ≡ Some query
  pub pair_is : y.pair ≡ under.name
  pub values : AreSidesUnder x query d.bits y.left y.right
  pub told : TellsBits (variables_in (named_at w.children x) query.vars) d.bits y.frame.items

-- what holds of the pair of a difference
abbrev pub OfPair : EventPairs → Difference → (SignalPair → Type 0) → Type 0
OfPair c d P = (p : SignalPair) → slice_get c.pairs.now d.pair ≡ Some p → P p

-- A difference that isn't decisive: the sequence where its pair reaches class 0 alone, or else the frame, and what tells the pair's classes apart.
-- What was asked was asked over the graph w, and the graph of e is as great or greater.
abbrev pub IsShownUnshownUnder : EventGraphView → EventsView → EventPairs → List Obligation → EventQuestions → (ℕ → Bool) → Difference → EventVerdict → Type 0
IsShownUnshownUnder w e c asked x meeting d verdict.Equal = ⊥
IsShownUnshownUnder w e c asked x meeting d (verdict.Different y) = ⊥
IsShownUnshownUnder w e c asked x meeting d (verdict.Limit name) = ⊥
IsShownUnshownUnder w e c asked x meeting d (verdict.Cut y) = IsWitnessUnder w c asked x meeting d y × OfPair c d (BothReachAlways (side_of_both e))
IsShownUnshownUnder w e c asked x meeting d (verdict.Events y) = IsFrameAtUnder w x d y.frame × OfPair c d (λ p. AreToldApart e.left e.right p y.apart)

abbrev pub IsShownUnder : EventGraphView → EventsView → EventPairs → List Obligation → EventQuestions → (ℕ → Bool) → List PairResult → VerdictAt → EventVerdict → Type 0
IsShownUnder w e c asked x meeting results at.Equal v = v ≡ verdict.Equal
IsShownUnder w e c asked x meeting results (at.Different d) v = (y : Witness) × (v ≡ verdict.Different y) × IsWitnessUnder w c asked x meeting d y
IsShownUnder w e c asked x meeting results (at.Limit place) v = (r : PairResult) × (slice_get results place ≡ Some r) × (v ≡ verdict.Limit r.name)
IsShownUnder w e c asked x meeting results (at.NotShown d) v = IsShownUnshownUnder w e c asked x meeting d v
