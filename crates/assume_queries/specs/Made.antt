-- A query with several functions as its care.
use Rattle.std.specs.Prelude.{◌≡◌, ℕ, ◌<◌, List, length}
use Rattle.std.specs.List.{All}
use Rattle.aig.specs.declared.node.Node.{Node}
use Rattle.pair_decide.specs.declared.query.Query.{Query}
use Rattle.cbf_unfold.specs.declared.unfold_places.signal_function.Unfolded.{Unfolded}
use Rattle.assume_queries.specs.Care.{IsConjunction}
use Rattle.assume_queries.specs.declared.assume_answers.order.VariableOrder.{VariableOrder}
use Rattle.assume_queries.specs.assume_answers.Order.{AreOrdered, IsOrderedMerge}
use Rattle.assume_queries.specs.Parts.{literals_at, variables_at}

-- r has the sides of q, the functions of g with these numbers together as its care, and the variables of q and of these functions
pub record IsMadeOf (order : VariableOrder) (table : List (ℕ × ℕ)) (g : List Node) (functions : List Unfolded) (q : Query) (own : List ℕ) (h : List Node) (r : Query) : Type 0 where
  pub within : All (λ n. n < length functions) own
  pub sides : AreOrdered order table q.vars
  pub left_is : r.left ≡ q.left
  pub right_is : r.right ≡ q.right
  pub care : IsConjunction g (literals_at functions own) h r.care.0
  pub variables : IsOrderedMerge order table q.vars (variables_at functions own) r.vars
