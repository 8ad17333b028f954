-- What is asked of pairs without an assumption and under it.
use Rattle.std.specs.Prelude.{ℕ, ◌<◌, Bool, List}
use Rattle.std.specs.List.{AllZip}
use Rattle.circuit_theory.specs.Tree.{IsInputNumber}
use Rattle.aig.specs.declared.node.Node.{Node}
use Rattle.obligations.specs.declared.obligation.Obligation.{Obligation}
use Rattle.assume_laws.specs.Assume.{Assumption}
use Rattle.assume_laws.specs.Sequences.{IsMeetingRow}
use Rattle.assume_queries.specs.declared.assume_answers.order.VariableOrder.{VariableOrder}
use Rattle.assume_queries.specs.assume_answers.Under.{IsObligationUnder}
use Rattle.assume_queries.specs.assume_sequences.Filled.{bit_of}

-- What a form asks, and the same under the assumption, which reads so many columns alone and is met by the row.
pub record AreAskedBoth (order : VariableOrder) (g : List Node) (places : List (ℕ × ℕ)) (count : ℕ) (Asked : List Obligation → Type 0) (asked under : List Obligation) (meeting : List Bool) (c : Assumption) : Type 0 where
  pub asked_are : Asked asked
  pub under_are : AllZip (IsObligationUnder order c g places) asked under
  pub columns : (i p : ℕ) → IsInputNumber c.circuit c.order p i → i < count
  pub row : IsMeetingRow c count (bit_of meeting)
