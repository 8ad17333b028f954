-- What is asked of pairs under an assumption, and what a verdict on it is shown by.
use Rattle.std.specs.Prelude.{◌≡◌, ℕ, List, length}
use Rattle.flat_net.specs.View.{NetView}
use Rattle.base_tables.specs.Table.{AreDistinct}
use Rattle.sec_base.specs.declared.basics.PairAnswer.{PairAnswer}
use Rattle.event_form.specs.event_agreement.pair_events.View.{EventsView, side_of_both}
use Rattle.obligations.specs.Decided.{IsFirstOf}
use Rattle.obligations.specs.declared.obligation.Difference.{Difference}
use Rattle.obligations.specs.declared.obligation.Obligation.{Obligation}
use Rattle.obligations.specs.declared.outcome.verdict.PairResult.{PairResult}
use Rattle.event_nodes.specs.event_variables.ranked_nodes.Ranks.{AreRanked}
use Rattle.event_comparison.specs.Asked.{AreAskedFrom}
use Rattle.event_form.specs.declared.event_findings.pairs.EventPairs.{EventPairs}
use Rattle.assume_queries.specs.assume_sequences.Assumed.{IsAssumedBy}
use Rattle.assume_queries.specs.declared.assume_sequences.premise.Premise.{Premise}
use Rattle.assume_laws.specs.assume_shape.Shape.{assumption_of}
use Rattle.event_under.specs.Asked.{AreAskedUnder}
use Rattle.event_under.specs.Places.{IsLightAtNodes}
use Rattle.event_under.specs.declared.event_asked_under.asked.EventQuestions.{EventQuestions}
use Rattle.event_under.specs.event_asked_under.Questions.{named_at}
use Rattle.event_under.specs.event_under_form.event_under_verdicts.Shown.{AreQuestions}
use Rattle.event_under.specs.declared.event_under_form.verdict.Shows.{Shows}

-- What is asked of the pairs is asked under each assumption of the premise, which is light at their nodes.
pub record AreAskedAssumed (e : EventsView) (c : EventPairs) (p : Premise) (asked : List Obligation) (x : EventQuestions) : Type 0 where
  pub under : (n : NetView) (inputs : List ℕ) (output size : ℕ) → IsAssumedBy p (length c.names.now) n inputs output size →
      AreAskedUnder (assumption_of n inputs output) (side_of_both e) e.events x.aig (named_at e.events.children x) c.cut c.pairs.now asked x.asked.items
  pub distinct : AreDistinct (named_at e.events.children x)
  pub ranked : AreRanked e.events.children x.ranked
  pub light : IsLightAtNodes p.weight (side_of_both e) c.pairs.now

-- what is asked of the pairs of the circuits, and what is asked under an assumption, with a row for as many inputs as have names
pub record CanShow (e : EventsView) (c : EventPairs) (s : Shows) : Type 0 where
  pub plain : AreAskedFrom e s.aparts.now c s.asked.now
  pub questions : AreQuestions e c s.asked.now s.questions.now
  pub row : length s.meeting.now ≡ length c.names.now

-- the difference is the first of those with some answer
abbrev pub DiffersAt : EventQuestions → Difference → Type 0
DiffersAt x d = (wanted : PairAnswer) × (results : List PairResult) × IsFirstOf x.aig x.asked.items wanted results d
