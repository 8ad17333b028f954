-- What is asked under an assumption that has the function.
use Rattle.std.proofs.Common.{ℕ, List}
use Rattle.std.specs.List.{AllZip}
use Rattle.aig.specs.declared.node.Node.{Node}
use Rattle.flat_net.specs.View.{NetView}
use Rattle.obligations.specs.declared.obligation.Obligation.{Obligation}
use Rattle.assume_laws.specs.assume_shape.Shape.{assumption_of}
use Rattle.assume_queries.specs.declared.assume_sequences.premise.Premise.{Premise}
use Rattle.assume_queries.specs.assume_sequences.Assumed.{IsAssumedBy}
use Rattle.assume_queries.proofs.assume_sequences.Numbers.{number_below}
use Rattle.assume_queries.specs.declared.assume_answers.order.VariableOrder.{VariableOrder}
use Rattle.assume_queries.specs.assume_answers.Under.{IsObligationUnder}
use Rattle.plain_check.specs.asked_under.Asked.{AreAskedBoth}

pub asked_by : (order : VariableOrder) (p : Premise) (count : ℕ) (n : NetView) (inputs : List ℕ) (output size : ℕ) → IsAssumedBy p count n inputs output size →
    (g : List Node) (places : List (ℕ × ℕ)) (Asked : List Obligation → Type 0) (asked under : List Obligation) → Asked asked → AllZip (IsObligationUnder order (assumption_of n inputs output) g places) asked under →
    AreAskedBoth order g places count Asked asked under p.meeting (assumption_of n inputs output)
asked_by order p count n inputs output size is g places Asked asked under are each = record { asked_are = are; under_are = each; columns = number_below p count n inputs output size is; row = is.row }
