-- What is asked of pairs under an assumption.
use Rattle.std.specs.Prelude.{◌≡◌, ℕ, ◌*◌, ◌<◌, List, [], ◌∷◌, length}
use Rattle.event_nodes.specs.Nodes.{EventGraphView}
use Rattle.event_nodes.specs.event_variables.Variables.{AreInOrder}
use Rattle.obligations.specs.declared.obligation.Obligation.{Obligation}
use Rattle.pair_decide.specs.declared.query.Query.{Query}
use Rattle.event_under.specs.declared.event_asked_under.asked.EventQuestions.{EventQuestions}
use Rattle.event_nodes.specs.event_variables.ranked_nodes.Named.{named_ranks}

-- it asks one query over the event graph, whose variables are in their order
pub record IsOneOver (w : EventGraphView) (o : Obligation) : Type 0 where
  pub query : Query
  pub only : o.queries ≡ query ∷ []
  pub left : query.left.0 < 2 * length w.graph
  pub right : query.right.0 < 2 * length w.graph
  pub care : query.care.0 < 2 * length w.graph
  pub vars : AreInOrder w query.vars

-- the places of the variables, by the paths of the event nodes
abbrev pub named_at : List (ℕ × ℕ) → EventQuestions → List (ℕ × List ℕ)
named_at children x = named_ranks children x.ranked.nodes x.places
