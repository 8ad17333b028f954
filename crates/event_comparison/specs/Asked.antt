-- What is asked of pairs, and what was decided of it.
use Rattle.std.specs.Prelude.{◌≡◌, ℕ, ◌<◌, List, ◌++◌, length, All}
use Rattle.circuit_theory.specs.EventSizes.{Start}
use Rattle.event_form.specs.event_findings.unshown_pairs.class_events.Separated.{AreSeparated}
use Rattle.class_search.specs.declared.class_separations.apart.Apart.{Apart}
use Rattle.event_nodes.specs.Nodes.{EventGraphView}
use Rattle.sec_setup.specs.declared.ports.pairs.SignalPair.{SignalPair}
use Rattle.obligations.specs.declared.obligation.Difference.{Difference}
use Rattle.obligations.specs.declared.obligation.Obligation.{Obligation}
use Rattle.obligations.specs.declared.verdict.VerdictAt.{VerdictAt}
use Rattle.obligations.specs.declared.verdict.VerdictAt.TheVariants as at
use Rattle.obligations.specs.Decided.{IsFirstOf}
use Rattle.obligations.specs.declared.outcome.verdict.PairResult.{PairResult}
use Rattle.event_form.specs.event_agreement.pair_events.Counted.{HaveCounted}
use Rattle.event_form.specs.event_agreement.pair_events.View.{EventsView, IsWithinLimits, side_of_both}
use Rattle.base_tables.specs.Table.{AreDistinct}
use Rattle.sec_base.specs.declared.basics.PairAnswer.TheVariants as answer
use Rattle.event_form.specs.Asked.{AreAsked, IsPairOf}
use Rattle.event_form.specs.Counted.{left_starts, right_starts}
use Rattle.event_form.specs.declared.event_findings.pairs.EventPairs.{EventPairs}

-- what is asked of the pairs of the circuits, and what tells their classes apart
pub record AreAskedFrom (e : EventsView) (aparts : List Apart) (c : EventPairs) (obligations : List Obligation) : Type 0 where
  pub pairs : All (IsPairOf e) c.pairs.now
  pub within : IsWithinLimits e
  pub separated : AreSeparated e aparts
  pub asked : AreAsked (side_of_both e) e.events c.cut c.pairs.now obligations
  pub depths : length c.depths.now ≡ length obligations
  pub distinct : AreDistinct c.names.now

-- the difference is the first that isn't decisive
abbrev pub DiffersFirst : EventGraphView → List Obligation → Difference → Type 0
DiffersFirst w asked d = (results : List PairResult) × IsFirstOf w.graph asked answer.NotShown results d

-- what gives the verdict was found there
abbrev pub IsFoundAt : EventGraphView → List Obligation → List PairResult → VerdictAt → Type 0
IsFoundAt w asked results at.Equal = Unit {0}
IsFoundAt w asked results (at.Different d) = IsFirstOf w.graph asked answer.Different results d
IsFoundAt w asked results (at.Limit place) = place < length results
IsFoundAt w asked results (at.NotShown d) = IsFirstOf w.graph asked answer.NotShown results d

-- what was counted with the starts of the pairs stays so
abbrev pub StayCounted : List SignalPair → EventsView → EventsView → Type 0
StayCounted pairs old new = (left right : List (Start ℕ)) → HaveCounted old (left ++ left_starts pairs) (right ++ right_starts pairs) → HaveCounted new (left ++ left_starts pairs) (right ++ right_starts pairs)
