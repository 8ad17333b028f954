-- The sequence and the frame of a difference that is ready.
use Rattle.std.specs.Prelude.{◌≡◌, ℕ, ◌<◌, Bool, List, length, slice_get, Some, All}
use Rattle.circuit_theory.specs.Sequence.{sequence_rows}
use Rattle.circuit_theory.specs.Frame.{bits_as_shifts}
use Rattle.pair_decide.specs.declared.query.Query.{Query}
use Rattle.event_nodes.specs.Nodes.{EventGraphView}
use Rattle.event_nodes.specs.event_variables.Variables.{variables_of}
use Rattle.obligations.specs.declared.obligation.Difference.{Difference}
use Rattle.obligations.specs.declared.obligation.Obligation.{Obligation}
use Rattle.witness_report.specs.declared.witness.Witness.{Witness}
use Rattle.event_under.specs.event_shown_under.event_form.Frames.{TellsFrame}
use Rattle.event_form.specs.declared.event_findings.event_witness.unshown.UnshownFrame.{UnshownFrame}
use Rattle.event_form.specs.declared.event_findings.pairs.EventPairs.{EventPairs}
use Rattle.assume_laws.specs.Sequences.{filled_frame}
use Rattle.event_under.specs.event_shown_under.assume_sequences.Filled.{bit_of}
use Rattle.event_under.specs.declared.event_under_form.event_witness_under.ready.ReadyDifference.{ReadyDifference}

-- the pair of a difference has a depth, and the variables of its sides stand in the event graph
pub record HasSides (w : EventGraphView) (c : EventPairs) (asked : List Obligation) (d : Difference) : Type 0 where
  pub obligation : Obligation
  pub sides : Query
  pub asked_at : slice_get asked d.pair ≡ Some obligation
  pub sides_at : slice_get obligation.queries 0 ≡ Some sides
  pub within : All (λ v. v < length w.places) sides.vars
  pub depth : d.pair < length c.depths.now

-- The sequence that ends in a cycle, over the inputs of these names: the rows of the frame in which the variables of the query have these bits, and
-- the meeting row in each cycle at whose node none of the variables of both sides stands.
pub record IsSequenceOf (w : EventGraphView) (sides : List ℕ) (last : ℕ) (names : List (List ℕ)) (meeting : List Bool) (bits : List Bool) (y : ReadyDifference) (x : Witness) : Type 0 where
  pub pair_is : x.pair ≡ y.pair
  pub left_is : x.left ≡ y.left
  pub right_is : x.right ≡ y.right
  pub cycle_is : x.cycle ≡ last
  pub names_are : x.stimulus.names ≡ names
  pub rows_are : x.stimulus.rows ≡ sequence_rows last (bits_as_shifts (filled_frame (variables_of w sides) (variables_of y.made.events y.made.vars.items) (bit_of meeting) bits)) (length names)

-- that of a difference, up to the depth of its pair
pub record IsSequenceAt (w : EventGraphView) (c : EventPairs) (asked : List Obligation) (meeting : List Bool) (d : Difference) (y : ReadyDifference) (x : Witness) : Type 0 where
  pub obligation : Obligation
  pub sides : Query
  pub asked_at : slice_get asked d.pair ≡ Some obligation
  pub sides_at : slice_get obligation.queries 0 ≡ Some sides
  pub depth : ℕ
  pub depth_at : slice_get c.depths.now d.pair ≡ Some depth
  pub is : IsSequenceOf w sides.vars depth c.names.now meeting d.bits y x

-- the frame, with a bit for each of the query's variables
pub record IsFrameOf (bits : List Bool) (y : ReadyDifference) (x : UnshownFrame) : Type 0 where
  pub pair_is : x.pair ≡ y.pair
  pub left_is : x.left ≡ y.left
  pub right_is : x.right ≡ y.right
  pub told : TellsFrame y.made.events y.made.vars.items bits x.frame.items
