-- The frame of a difference, by the bits of a query's variables.
use Rattle.std.specs.Prelude.{◌≡◌, Bool, List}
use Rattle.event_nodes.specs.Nodes.{EventGraphView}
use Rattle.event_form.specs.Frames.{TellsFrame}
use Rattle.obligations.specs.outcome.pair_decide.Query.{Query}
use Rattle.obligations.specs.outcome.witness_report.PairName.{PairName}
use Rattle.event_form.specs.declared.event_findings.event_witness.unshown.UnshownFrame.{UnshownFrame}
use Rattle.event_form.specs.event_findings.event_witness.Sequences.{AreSidesOf}

-- the frame in which the variables have these bits, with the values of both sides
pub record IsUnshownOf (w : EventGraphView) (q : Query) (bits : List Bool) (name : PairName) (x : UnshownFrame) : Type 0 where
  pub pair_is : x.pair ≡ name
  pub sides : AreSidesOf w q bits (x.left, x.right)
  pub frame_is : TellsFrame w q.vars bits x.frame.items
