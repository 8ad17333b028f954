-- What shows a difference of an obligation.
use Rattle.std.specs.Prelude.{◌≡◌, ℕ, ◌<◌, List, length, slice_get, Some, All}
use Rattle.event_nodes.specs.Nodes.{EventGraphView}
use Rattle.event_form.specs.Difference.{Difference}
use Rattle.event_form.specs.Obligation.{Obligation}
use Rattle.obligations.specs.outcome.pair_decide.Query.{Query}
use Rattle.obligations.specs.outcome.pair_decide.Queries.{IsQuery}
use Rattle.obligations.specs.outcome.witness_report.Witness.{Witness}
use Rattle.event_form.specs.declared.event_findings.event_witness.unshown.UnshownFrame.{UnshownFrame}
use Rattle.event_form.specs.event_findings.event_witness.Sequences.{IsWitnessOf}
use Rattle.event_form.specs.event_findings.event_witness.Unshown.{IsUnshownOf}

-- the obligation and the query of a difference
pub record IsQueryAt (asked : List Obligation) (d : Difference) (o : Obligation) (q : Query) : Type 0 where
  pub asked_at : slice_get asked d.pair ≡ Some o
  pub query_at : slice_get o.queries d.query ≡ Some q

-- its bits are those of the query's variables
pub record IsShowable (w : EventGraphView) (asked : List Obligation) (d : Difference) : Type 0 where
  pub obligation : Obligation
  pub query : Query
  pub at : IsQueryAt asked d obligation query
  pub is_query : IsQuery w.graph query
  pub within : All (λ v. v < length w.places) query.vars
  pub each : length d.bits ≡ length query.vars

-- the sequence of a difference, up to the depth of its pair
pub record IsWitnessAt (w : EventGraphView) (asked : List Obligation) (depths : List ℕ) (names : List (List ℕ)) (d : Difference) (x : Witness) : Type 0 where
  pub obligation : Obligation
  pub query : Query
  pub at : IsQueryAt asked d obligation query
  pub depth : ℕ
  pub depth_at : slice_get depths d.pair ≡ Some depth
  pub is : IsWitnessOf w query d.bits obligation.name depth names x

-- its frame
pub record IsUnshownAt (w : EventGraphView) (asked : List Obligation) (d : Difference) (x : UnshownFrame) : Type 0 where
  pub obligation : Obligation
  pub query : Query
  pub at : IsQueryAt asked d obligation query
  pub is : IsUnshownOf w query d.bits obligation.name x
