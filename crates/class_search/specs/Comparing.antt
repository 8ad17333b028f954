-- Queries of load enables.
use Rattle.std.specs.Prelude.{◌≡◌, ℕ, ◌*◌, ◌<◌, [], ◌∷◌, length, slice_get, Some, Contains}
use Rattle.event_nodes.specs.event_variables.aig.Node.TheVariants.{Input}
use Rattle.event_nodes.specs.event_variables.aig.Cone.{IsReached}
use Rattle.event_nodes.specs.event_variables.aig.Rules.{IsAndOf}
use Rattle.event_nodes.specs.Nodes.{EventGraphView}
use Rattle.event_nodes.specs.event_variables.Variables.{AreInOrder, IsMergeOf}
use Rattle.pair_decide.specs.declared.query.Query.{Query}
use Rattle.pair_decide.specs.Answers.{Decides}
use Rattle.class_search.specs.declared.compare.Enable.{Enable}
use Rattle.class_search.specs.declared.compare.Compared.{Compared}

-- the literals are of the graph, and the variables, in their order, are all that they read and maybe more
pub record IsReadyEnable (w : EventGraphView) (x : Enable) : Type 0 where
  pub value_within : x.value.0 < 2 * length w.graph
  pub care_within : x.care.0 < 2 * length w.graph
  pub in_order : AreInOrder w x.vars
  pub covers : (n v : ℕ) → IsReached w.graph (x.value.0 ∷ x.care.0 ∷ []) n → slice_get w.graph n ≡ Some (Input v) → Contains x.vars v

-- the answer to the query whether the two enables agree wherever both have care, over the variables of either
pub record IsComparison (w : EventGraphView) (x y : Enable) (conflicts : ℕ) (r : Compared) : Type 0 where
  pub query : Query
  pub left : query.left ≡ x.value
  pub right : query.right ≡ y.value
  pub both : IsAndOf w.graph x.care.0 y.care.0 query.care.0
  pub within : query.care.0 < 2 * length w.graph
  pub vars : query.vars ≡ r.vars
  pub merged : IsMergeOf w x.vars y.vars r.vars
  pub decided : Decides w.graph query conflicts r.decision

-- the answer to the query whether the enable is 1 wherever it has care
pub record IsAlwaysComparison (w : EventGraphView) (x : Enable) (conflicts : ℕ) (r : Compared) : Type 0 where
  pub query : Query
  pub left : query.left ≡ x.value
  pub right : query.right.0 ≡ 1
  pub care : query.care ≡ x.care
  pub vars : query.vars ≡ r.vars
  pub own : r.vars ≡ x.vars
  pub decided : Decides w.graph query conflicts r.decision
