-- The query of a difference, and the sequence that it gives, by the bits of its variables.
use Rattle.std.specs.Prelude.{◌≡◌, ℕ, Bool, List, length, slice_get, Some}
use Rattle.circuit_theory.specs.Sequence.{sequence_rows}
use Rattle.aig.specs.declared.node.Node.{Node}
use Rattle.aig.specs.Values.{value}
use Rattle.pair_decide.specs.declared.query.Query.{Query}
use Rattle.pair_decide.specs.Queries.{assigned_to}
use Rattle.witness_report.specs.declared.witness.PairName.{PairName}
use Rattle.witness_report.specs.declared.witness.Witness.{Witness}
use Rattle.outcome_fits.specs.Obligation.{Obligation}
use Rattle.outcome_fits.specs.Difference.{Difference}
pub use Rattle.cbf_unfold.specs.shift_variables.Sequences.{bits_at, IsSequence}

-- the obligation and the query of a difference
pub record IsQueryAt (asked : List Obligation) (d : Difference) (o : Obligation) (q : Query) : Type 0 where
  pub asked_at : slice_get asked d.pair ≡ Some o
  pub query_at : slice_get o.queries d.query ≡ Some q

-- the sequence that ends in a cycle, over the inputs of these names, with the values of both sides
pub record IsWitnessOf (g : List Node) (places : List (ℕ × ℕ)) (q : Query) (bits : List Bool) (name : PairName) (last : ℕ) (names : List (List ℕ)) (w : Witness) : Type 0 where
  pub pair_is : w.pair ≡ name
  pub cycle_is : w.cycle ≡ last
  pub left_is : w.left ≡ value g (assigned_to q.vars bits) q.left.0
  pub right_is : w.right ≡ value g (assigned_to q.vars bits) q.right.0
  pub names_are : w.stimulus.names ≡ names
  pub rows_are : w.stimulus.rows ≡ sequence_rows last (bits_at places q.vars bits) (length names)
