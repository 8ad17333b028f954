-- What a setup in the event form gives to the calls above it. Each law is the contract of a function of this crate.
use Rattle.std.specs.Prelude.{◌≡◌, Bool, []}
use Rattle.std.specs.List.{All}
use Rattle.circuit_theory.specs.declared.Mode.TheVariants.{Event}
use Rattle.circuit_theory.specs.Agree.{Agree, AgreeOnward}
use Rattle.flat_net.specs.Comparable.{IsComparable}
use Rattle.flat_net.specs.Sound.{IsSound}
use Rattle.flat_net.specs.View.{NetView, circuit_of}
use Rattle.event_setup.specs.declared.setup.EventSetup.{EventSetup}
use Rattle.event_setup.specs.Setup.{IsEventSetup, IsEventSetupOf}
use Rattle.event_form.specs.Asked.{IsPairOf}
use Rattle.event_comparison.specs.EventPairs.{EventPairs}
use Rattle.event_comparison.specs.Agreement.{AreAllPairs, AreCutFrom, CircuitsAgree}
use Rattle.event_comparison.specs.Compared.{AreCompared}
use Rattle.event_form.specs.event_agreement.pair_events.View.{EventsView}

-- the circuits are those of the setup, whatever classes their latches have
pub record HaveClassesGiven (s : EventSetup) (e : EventsView) : Type 0 where
  pub left : e.left ≡ record s.left { classes = e.left.classes }
  pub right : e.right ≡ record s.right { classes = e.right.classes }

-- what is compared are the pairs of the setup, with their depths, and the columns are the names of the inputs
pub record ArePairsOfSetup (s : EventSetup) (c : EventPairs) : Type 0 where
  pub pairs : c.pairs.now ≡ s.pairs
  pub depths : c.depths.now ≡ s.depths
  pub names : c.names.now ≡ s.columns

-- The circuits of a setup, once their latches have their classes, are as a comparison of its pairs asks.
abbrev pub SetupsAreCompared : Type 0
SetupsAreCompared = (s : EventSetup) (e : EventsView) (c : EventPairs) → IsSound s.left.net → IsSound s.right.net → IsEventSetup s → HaveClassesGiven s e → ArePairsOfSetup s c →
    All (IsPairOf e) c.pairs.now × AreCompared e.left e.right c

-- They are what both nets are once the exposed latches are cut open, and the pairs are all that are compared. So where it says that the circuits
-- agree, both nets agree in the event mode, and agree onward.
abbrev pub EqualSetupsAgree : Type 0
EqualSetupsAgree = (a b : NetView) (expose : Bool) (s : EventSetup) (e : EventsView) → IsSound a → IsSound b → IsComparable b → IsEventSetupOf a b expose s → HaveClassesGiven s e →
    AreCutFrom s.exposed (circuit_of a) (circuit_of b) e.left e.right × AreAllPairs s.exposed (circuit_of a) (circuit_of b) s.pairs
    × (CircuitsAgree e.left e.right s.pairs → Agree Event (circuit_of a) (circuit_of b) × AgreeOnward Event s.exposed (circuit_of a) (circuit_of b))

-- Where no latch is cut open, the circuits are those of both nets.
abbrev pub UncutSetupsAreWhole : Type 0
UncutSetupsAreWhole = (a b : NetView) (expose : Bool) (s : EventSetup) → IsEventSetupOf a b expose s → s.exposed ≡ [] →
    (circuit_of s.left.net ≡ circuit_of a) × (circuit_of s.right.net ≡ circuit_of b)
