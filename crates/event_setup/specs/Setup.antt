-- What two circuits are compared by in the event form.
use Rattle.std.specs.Prelude.{◌≡◌, ◌<◌, ℕ, max, Bool, false, [], map, length, Result, Ok, Err}
use Rattle.std.specs.List.{All, AllZip}
use Rattle.circuit_theory.specs.declared.Mode.TheVariants.{Event}
use Rattle.circuit_theory.specs.Agree.{IsMinimalCut}
use Rattle.circuit_theory.specs.Depth.{IsDepth, LatchesHaveDepths}
use Rattle.circuit_theory.specs.Interface.{shared_inputs}
use Rattle.circuit_theory.specs.Run.{IsEnabled}
use Rattle.base_tables.specs.Table.{AreDistinct}
use Rattle.flat_net.specs.View.{NetView, circuit_of, ports_of}
use Rattle.sec_setup.specs.declared.cut_points.exposed.Exposure.{Exposure}
use Rattle.sec_setup.specs.declared.ports.pairs.SignalPair.{SignalPair}
use Rattle.sec_setup.specs.ports.Pairs.{ArePairsOf, named_pairs, places_of}
use Rattle.sec_setup.specs.declared.error.SetupError.{SetupError}
use Rattle.sec_setup.specs.Cuts.{AreCutAt, columns_of}
use Rattle.sec_setup.specs.Setup.{AreColumns}
use Rattle.event_nodes.specs.View.{EventCircuitView}
use Rattle.event_setup.specs.declared.setup.EventSetup.{EventSetup}
use Rattle.event_setup.specs.Choosing.{HaveNoCycles, RefusesCycle}

-- each latch has a depth, where self-edges of enabled latches don't count
abbrev pub HaveDepths : NetView → Type 0
HaveDepths n = LatchesHaveDepths (circuit_of n) (IsEnabled (circuit_of n))

-- both signals are of the nets
pub record IsPairWithin (a b : NetView) (p : SignalPair) : Type 0 where
  pub left : p.left.0 < length a.drivers
  pub right : p.right.0 < length b.drivers

-- the depth of a pair is the greater of both depths, where self-edges of enabled latches don't count
pub record IsPairDepthIn (a b : NetView) (p : SignalPair) (depth : ℕ) : Type 0 where
  pub left : ℕ
  pub right : ℕ
  pub left_is : IsDepth (circuit_of a) (IsEnabled (circuit_of a)) p.left.0 left
  pub right_is : IsDepth (circuit_of b) (IsEnabled (circuit_of b)) p.right.0 right
  pub greater : depth ≡ max left right

-- a circuit whose latches have depths and are all of class 0 so far
pub record CanBeGivenClasses (e : EventCircuitView) : Type 0 where
  pub depths : HaveDepths e.net
  pub none : All (λ k. k ≡ 0) e.classes

-- What the event form may rely on: no cycle of latches is left in either circuit but self-edges of enabled ones, no latch has a class yet,
-- the inputs of both are numbered by the columns, and the pairs, with their depths, are those of their outputs.
pub record IsEventSetup (s : EventSetup) : Type 0 where
  pub left : CanBeGivenClasses s.left
  pub right : CanBeGivenClasses s.right
  pub left_columns : AreColumns s.left.net s.columns s.left.order s.right.order
  pub right_columns : AreColumns s.right.net s.columns s.right.order s.left.order
  pub distinct : AreDistinct s.columns
  pub pairs : ArePairsOf s.left.net s.right.net s.pairs
  pub depths : AllZip (IsPairDepthIn s.left.net s.right.net) s.pairs s.depths

-- the setup of two nets with these latches cut out
pub record IsSetupBy (a b : NetView) (e : Exposure) (s : EventSetup) : Type 0 where
  pub is : IsEventSetup s
  pub exposed : s.exposed ≡ e.names
  pub are_cut : AreCutAt a b s.exposed s.left.net s.right.net
  pub inputs : s.inputs ≡ length (shared_inputs (ports_of a) (ports_of b))
  pub columns : s.columns ≡ columns_of a b s.exposed
  pub pairs : map places_of s.pairs ≡ named_pairs s.exposed (circuit_of a) (circuit_of b)

-- The setup of a comparison of two nets in the event form: its nets are these with the exposed latches cut out, a minimal cut, of which there is
-- none where no latch may be cut open; its columns are the shared inputs and the exposed latches, and its pairs the outputs of one name, then
-- what the exposed latches take over.
pub record IsEventSetupOf (a b : NetView) (expose : Bool) (s : EventSetup) : Type 0 where
  pub is : IsEventSetup s
  pub minimal : IsMinimalCut Event (circuit_of a) (circuit_of b) s.exposed
  pub closed : expose ≡ false → s.exposed ≡ []
  pub no_cycles : HaveNoCycles a b expose
  pub are_cut : AreCutAt a b s.exposed s.left.net s.right.net
  pub inputs : s.inputs ≡ length (shared_inputs (ports_of a) (ports_of b))
  pub columns : s.columns ≡ columns_of a b s.exposed
  pub pairs : map places_of s.pairs ≡ named_pairs s.exposed (circuit_of a) (circuit_of b)

-- the setup, or the cycle that is refused
abbrev pub SetsUpEvents : NetView → NetView → Bool → Result EventSetup SetupError → Type 0
SetsUpEvents a b expose (Ok s) = IsEventSetupOf a b expose s
SetsUpEvents a b expose (Err error) = RefusesCycle a b expose error
