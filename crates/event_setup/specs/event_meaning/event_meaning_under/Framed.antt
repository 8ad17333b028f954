-- What is shown of a pair that reaches another class than 0 and isn't equal under an assumption.
use Rattle.std.specs.Prelude.{◌≡◌, ℕ, Bool, List, Contains}
use Rattle.circuit_theory.specs.Joined.{Left, Right}
use Rattle.circuit_theory.specs.Query.{Variable}
use Rattle.circuit_theory.specs.Classes.{HasClasses}
use Rattle.circuit_theory.specs.EventFits.{ReachesAlways}
use Rattle.flat_net.specs.View.{NetView, circuit_of}
use Rattle.sec_setup.specs.ports.Pairs.{NamedPair, named_pairs}
use Rattle.obligations.specs.declared.outcome.verdict.Outcome.{Outcome}
use Rattle.obligations.specs.declared.outcome.verdict.Unshown.{Unshown}
use Rattle.sec_setup.specs.Cuts.{columns_of}
use Rattle.edbf_unfold.specs.class_queries.Enables.{both_of}
use Rattle.event_nodes.specs.View.{EventCircuitView}
use Rattle.event_setup.specs.event_meaning.event_names.event_fits.Circuits.{AreEventCircuits}
use Rattle.event_setup.specs.event_meaning.event_names.event_fits.Shown.{TellsFrame}
use Rattle.assume_laws.specs.Assume.{Assumption}
use Rattle.assume_laws.specs.Sequences.{IsUnshownFrameUnder}

-- The frame that is printed holds exactly the variables of the query of the named pair of the cut circuits, has care for both sides, meets the
-- assumption at each node that has a variable of the two or of their cares, and gives the sides the printed values, which differ. The pair reaches
-- another class than 0.
pub record IsFramedUnder (c : Assumption) (a b : NetView) (expose : Bool) (o : Outcome) (u : Unshown) : Type 0 where
  pub left : EventCircuitView
  pub right : EventCircuitView
  pub circuits : AreEventCircuits a b expose o.exposed left right
  pub map : HasClasses (both_of left right)
  pub place : NamedPair ℕ ℕ
  pub listed : Contains (named_pairs o.exposed (circuit_of a) (circuit_of b)) place
  pub named : u.pair ≡ place.name
  pub others : ReachesAlways (both_of left right) (Left place.left) → ReachesAlways (both_of left right) (Right place.right) → ⊥
  pub variables : List (Variable (List ℕ))
  pub bits : List Bool
  pub frame : IsUnshownFrameUnder c (both_of left right) (Left place.left) (Right place.right) variables bits u.left u.right
  pub told : TellsFrame (columns_of a b o.exposed) variables bits u.frame.spots
