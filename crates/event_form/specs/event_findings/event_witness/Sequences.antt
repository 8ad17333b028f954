-- The sequence of a difference, by the bits of a query's variables.
use Rattle.std.specs.Prelude.{◌≡◌, ◌<◌, ℕ, Bool, List, length}
use Rattle.circuit_theory.specs.Circuit.{Circuit}
use Rattle.circuit_theory.specs.Sequence.{sequence_rows}
use Rattle.circuit_theory.specs.Sizes.{Visits}
use Rattle.circuit_theory.specs.Tree.{IsInputNumber}
use Rattle.circuit_theory.specs.EventFrames.{frame_of}
use Rattle.circuit_theory.specs.Frame.{bits_as_shifts}
use Rattle.aig.specs.Values.{value}
use Rattle.event_nodes.specs.Nodes.{EventGraphView}
use Rattle.event_nodes.specs.event_variables.Variables.{variables_of}
use Rattle.obligations.specs.outcome.pair_decide.Query.{Query}
use Rattle.obligations.specs.outcome.pair_decide.Queries.{assigned_to}
use Rattle.obligations.specs.outcome.witness_report.PairName.{PairName}
use Rattle.obligations.specs.outcome.witness_report.Witness.{Witness}

-- each input that the unfolding of the place visits has a number below this one
abbrev pub HasInputsBelow : Circuit ℕ → List ℕ → ℕ → ℕ → Type 0
HasInputsBelow c order count p = (q k i : ℕ) → Visits c p 0 q k → IsInputNumber c order q i → i < count

-- the values of both sides where the variables have these bits
abbrev pub AreSidesOf : EventGraphView → Query → List Bool → Bool × Bool → Type 0
AreSidesOf w q bits sides = (sides.0 ≡ value w.graph (assigned_to q.vars bits) q.left.0) × (sides.1 ≡ value w.graph (assigned_to q.vars bits) q.right.0)

-- the rows of the frame in which the variables have these bits, for so many inputs
abbrev pub rows_at : EventGraphView → Query → List Bool → ℕ → ℕ → List (List Bool)
rows_at w q bits last count = sequence_rows last (bits_as_shifts (frame_of (variables_of w q.vars) bits)) count

-- the sequence that ends in a cycle, over the inputs of these names, with the values of both sides
pub record IsWitnessOf (w : EventGraphView) (q : Query) (bits : List Bool) (name : PairName) (last : ℕ) (names : List (List ℕ)) (x : Witness) : Type 0 where
  pub pair_is : x.pair ≡ name
  pub cycle_is : x.cycle ≡ last
  pub sides : AreSidesOf w q bits (x.left, x.right)
  pub names_are : x.stimulus.names ≡ names
  pub rows_are : x.stimulus.rows ≡ rows_at w q bits last (length names)
