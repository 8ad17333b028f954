-- What is found of a pair in a cycle under an assumption.
use Rattle.std.specs.Prelude.{ℕ, Bool, List}
use Rattle.circuit_theory.specs.Asked.{AreEqual, AreDifferent}
use Rattle.circuit_laws.specs.reset_laws.Reset.{reset_pair}
use Rattle.base_tables.specs.Table.{AreDistinct}
use Rattle.flat_net.specs.View.{NetView, circuit_of}
use Rattle.aig.specs.declared.node.Node.{Node}
use Rattle.aig.specs.Graph.{IsGraph}
use Rattle.aig.specs.Builds.{HasTreeValues}
use Rattle.obligations.specs.Fits.{IsUndecided}
use Rattle.pair_decide.specs.declared.query.Query.{Query}
use Rattle.pair_decide.specs.declared.query.Proof.{Proof}
use Rattle.pair_decide.specs.declared.query.Decision.TheVariants as decision
use Rattle.pair_decide.specs.Queries.{IsQuery, IsSame}
use Rattle.pair_decide.specs.Answers.{IsDifference}
use Rattle.swept_queries.specs.InStead.{DecidesInStead}
use Rattle.cbf_unfold.specs.declared.unfold_places.signal_function.Unfolded.{Unfolded}
use Rattle.reset_form.specs.reset_unfold.Unfolded.{IsResetUnfolded}
use Rattle.reset_form.specs.reset_asked.Asked.{IsCycleQuery}
use Rattle.assume_laws.specs.Assume.{Assumption, under}
use Rattle.assume_queries.specs.declared.assume_answers.order.VariableOrder.TheVariants as order
use Rattle.assume_queries.specs.assume_answers.Under.{IsUnder}

-- the query q asks of both functions of a pair in a cycle, on a graph and a table that are sound
pub record AsksCycle (a b : NetView) (left right : List ℕ) (left_base right_base : ℕ) (g : List Node) (places : List (ℕ × ℕ)) (s t cycle : ℕ) (q : Query) : Type 0 where
  pub graph : IsGraph g
  pub values : HasTreeValues g
  pub distinct : AreDistinct places
  pub left_function : Unfolded
  pub right_function : Unfolded
  pub left_is : IsResetUnfolded a left left_base g places s cycle left_function.lit.0 left_function.vars
  pub right_is : IsResetUnfolded b right right_base g places t cycle right_function.lit.0 right_function.vars
  pub asks : IsCycleQuery places left_function right_function q

-- Under an assumption it is a query over the graph; and what is found of it is true of the pair.
abbrev pub CyclesFitUnder : Type 0
CyclesFitUnder = (c : Assumption) (a b : NetView) (left right : List ℕ) (left_base right_base : ℕ) (g : List Node) (places : List (ℕ × ℕ)) (s t cycle : ℕ) (q r : Query) →
    AsksCycle a b left right left_base right_base g places s t cycle q → IsUnder order.Cycles c g places q r →
    IsQuery g r
    × (IsSame g r → AreEqual (under c (reset_pair (circuit_of a) (circuit_of b) left right left_base right_base s t cycle)))
    × ((bits : List Bool) → IsDifference g r bits → AreDifferent (under c (reset_pair (circuit_of a) (circuit_of b) left right left_base right_base s t cycle)))
    × ((conflicts : ℕ) (proof : Proof) → DecidesInStead g r conflicts (decision.Limit proof) → IsUndecided (under c (reset_pair (circuit_of a) (circuit_of b) left right left_base right_base s t cycle)) conflicts proof)
