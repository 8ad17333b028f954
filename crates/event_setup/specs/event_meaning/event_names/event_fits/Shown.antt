-- What is shown of a pair that reaches another class than 0 and isn't equal.
use Rattle.std.specs.Prelude.{◌≡◌, ℕ, Bool, List, reverse, slice_get, Some, Contains}
use Rattle.std.specs.List.{AllZip}
use Rattle.circuit_theory.specs.Joined.{Left, Right}
use Rattle.circuit_theory.specs.Query.{Variable}
use Rattle.circuit_theory.specs.Classes.{HasClasses}
use Rattle.circuit_theory.specs.EventFits.{ReachesAlways}
use Rattle.circuit_theory.specs.EventFrames.{IsUnshownFrame}
use Rattle.flat_net.specs.View.{NetView, circuit_of}
use Rattle.witness_report.specs.declared.frame_report.frame.Spot.{Spot}
use Rattle.sec_setup.specs.ports.Pairs.{NamedPair, named_pairs}
use Rattle.obligations.specs.declared.outcome.verdict.Outcome.{Outcome}
use Rattle.obligations.specs.declared.outcome.verdict.Unshown.{Unshown}
use Rattle.plain_check.specs.under_base.compare_base.Cuts.{columns_of}
use Rattle.edbf_unfold.specs.class_queries.Enables.{both_of}
use Rattle.event_nodes.specs.View.{EventCircuitView}
use Rattle.event_setup.specs.event_meaning.event_names.event_fits.Circuits.{AreEventCircuits}

-- the variable is told: its input by its name, and its event node by the steps from the root
pub record TellsVariable (columns : List (List ℕ)) (v : Variable (List ℕ)) (spot : Spot) : Type 0 where
  pub path : spot.path ≡ reverse v.at
  pub input : slice_get columns v.input ≡ Some spot.input

-- each variable is told with its bit, in order
pub record TellsFrame (columns : List (List ℕ)) (variables : List (Variable (List ℕ))) (bits : List Bool) (spots : List Spot) : Type 0 where
  pub told : AllZip (TellsVariable columns) variables spots
  pub each : AllZip (λ (bit : Bool) (x : Spot). x.bit ≡ bit) bits spots

-- The frame that is printed holds exactly the variables of the query of the named pair of the cut circuits, has care for both sides, and gives them
-- the printed values, which differ. The pair reaches another class than 0.
pub record IsFramed (a b : NetView) (expose : Bool) (o : Outcome) (u : Unshown) : Type 0 where
  pub left : EventCircuitView
  pub right : EventCircuitView
  pub circuits : AreEventCircuits a b expose o.exposed left right
  pub map : HasClasses (both_of left right)
  pub place : NamedPair ℕ ℕ
  pub listed : Contains (named_pairs o.exposed (circuit_of a) (circuit_of b)) place
  pub named : u.pair ≡ place.name
  pub others : ReachesAlways (both_of left right) (Left place.left) → ReachesAlways (both_of left right) (Right place.right) → ⊥
  pub variables : List (Variable (List ℕ))
  pub bits : List Bool
  pub frame : IsUnshownFrame (both_of left right) (Left place.left) (Right place.right) variables bits u.left u.right
  pub told : TellsFrame (columns_of a b o.exposed) variables bits u.frame.spots
