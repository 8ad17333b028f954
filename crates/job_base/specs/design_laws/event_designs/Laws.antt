-- What a design says of all of its nets in the event mode. Each law is the contract of a function of this crate.
use Rattle.std.specs.Prelude.{◌↔◌, ℕ, List}
use Rattle.circuit_theory.specs.declared.Mode.TheVariants.{Event}
use Rattle.circuit_theory.specs.Agree.{Agree, AgreeOnward, IsMinimalCut}
use Rattle.circuit_theory.specs.Depth.{HasCycle}
use Rattle.circuit_theory.specs.Run.{IsEnabled}
use Rattle.blif_read.specs.declared.design.BlifModel.{BlifModel}
use Rattle.blif_read.specs.Design.{Place, circuit_of_design}
use Rattle.flat_net.specs.View.{NetView, circuit_of}
use Rattle.flatten.specs.DesignFaults.{IsFlatOf}

-- An enabled latch of a design is one of its nets at its signal, and one of a net is one of the design where it is driven.
abbrev pub EnabledAreKept : Type 0
EnabledAreKept = (models : List BlifModel) (net : NetView) (f : IsFlatOf models net) →
    ((u : Place) → IsEnabled (circuit_of_design models net.clock) u → IsEnabled (circuit_of net) (f.signal u))
    × ((i : ℕ) → IsEnabled (circuit_of net) i → IsEnabled (circuit_of_design models net.clock) (f.origin i))

-- The latch graph of the design has a cycle without the latches of some names where that of the net has one.
abbrev pub EventCyclesAreKept : Type 0
EventCyclesAreKept = (models : List BlifModel) (net : NetView) → IsFlatOf models net → (removed : List (List ℕ)) →
    HasCycle (circuit_of_design models net.clock) (IsEnabled (circuit_of_design models net.clock)) removed ↔ HasCycle (circuit_of net) (IsEnabled (circuit_of net)) removed

-- The minimal cuts of two designs are those of their nets.
abbrev pub EventCutsAreKept : Type 0
EventCutsAreKept = (left right : List BlifModel) (a b : NetView) → IsFlatOf left a → IsFlatOf right b → (names : List (List ℕ)) →
    IsMinimalCut Event (circuit_of_design left a.clock) (circuit_of_design right b.clock) names ↔ IsMinimalCut Event (circuit_of a) (circuit_of b) names

-- Two designs agree where their nets do, and agree onward over some names where these do.
abbrev pub EventAgreementIsKept : Type 0
EventAgreementIsKept = (left right : List BlifModel) (a b : NetView) → IsFlatOf left a → IsFlatOf right b → (names : List (List ℕ)) →
    (Agree Event (circuit_of a) (circuit_of b) → Agree Event (circuit_of_design left a.clock) (circuit_of_design right b.clock))
    × (AgreeOnward Event names (circuit_of a) (circuit_of b) → AgreeOnward Event names (circuit_of_design left a.clock) (circuit_of_design right b.clock))
