-- The values and the variables of a difference under an assumption.
use Rattle.std.specs.Prelude.{◌≡◌, ◌<◌, ◌≤◌, Bool, List, length, slice_get, Some, All}
use Rattle.aig.specs.declared.node.Node.{Node}
use Rattle.aig.specs.Values.{value}
use Rattle.pair_decide.specs.declared.query.Query.{Query}
use Rattle.pair_decide.specs.Queries.{IsQuery, assigned_to}
use Rattle.event_nodes.specs.Nodes.{EventGraphView}
use Rattle.event_nodes.specs.event_variables.Variables.{variables_of}
use Rattle.obligations.specs.declared.obligation.Difference.{Difference}
use Rattle.obligations.specs.declared.obligation.Obligation.{Obligation}
use Rattle.witness_report.specs.declared.witness.PairName.{PairName}
use Rattle.event_under.specs.Asked.{variables_in}
use Rattle.event_under.specs.declared.event_asked_under.asked.EventQuestions.{EventQuestions}
use Rattle.event_under.specs.event_asked_under.Questions.{named_at}
use Rattle.event_under.specs.declared.event_under_form.event_witness_under.ready.ReadyDifference.{ReadyDifference}

-- the values of both sides where the variables have these bits
abbrev pub AreSidesOf : List Node → Query → List Bool → Bool × Bool → Type 0
AreSidesOf g q bits sides = (sides.0 ≡ value g (assigned_to q.vars bits) q.left.0) × (sides.1 ≡ value g (assigned_to q.vars bits) q.right.0)

-- the obligation and the query of a difference; its bits are those of the query's variables, which stand at nodes of the event graph
pub record IsShowableUnder (w : EventGraphView) (x : EventQuestions) (d : Difference) : Type 0 where
  pub obligation : Obligation
  pub query : Query
  pub asked_at : slice_get x.asked.items d.pair ≡ Some obligation
  pub query_at : slice_get obligation.queries d.query ≡ Some query
  pub is_query : IsQuery x.aig query
  pub within : All (λ v. v < length x.places) query.vars
  pub each : length d.bits ≡ length query.vars
  pub nodes : All (λ n. n ≤ length w.children) x.ranked.nodes

-- the values of both sides under these bits, and the variables of the query at event nodes
pub record IsReadyOf (w : EventGraphView) (x : EventQuestions) (q : Query) (bits : List Bool) (name : PairName) (y : ReadyDifference) : Type 0 where
  pub pair_is : y.pair ≡ name
  pub values : AreSidesOf x.aig q bits (y.left, y.right)
  pub within : All (λ v. v < length y.made.events.places) y.made.vars.items
  pub each : length bits ≡ length y.made.vars.items
  pub variables : variables_of y.made.events y.made.vars.items ≡ variables_in (named_at w.children x) q.vars

-- the same of the difference's query
pub record IsReadyAt (w : EventGraphView) (x : EventQuestions) (d : Difference) (y : ReadyDifference) : Type 0 where
  pub obligation : Obligation
  pub query : Query
  pub asked_at : slice_get x.asked.items d.pair ≡ Some obligation
  pub query_at : slice_get obligation.queries d.query ≡ Some query
  pub is : IsReadyOf w x query d.bits obligation.name y
