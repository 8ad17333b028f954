-- What a design says of all of its nets. Each law is the contract of a function of this crate.
use Rattle.std.specs.Prelude.{◌≡◌, ◌↔◌, ℕ, ◌<◌, Bool, List, [], map, None}
use Rattle.std.specs.List.{sum_by}
use Rattle.circuit_theory.specs.declared.Mode.TheVariants.{Plain}
use Rattle.circuit_theory.specs.Agree.{cut, IsMinimalCut, AgreeOnward}
use Rattle.circuit_theory.specs.Depth.{HasCycle}
use Rattle.circuit_theory.specs.Flattened.{latch_names}
use Rattle.circuit_theory.specs.Places.{IsPlace}
use Rattle.circuit_theory.specs.Run.{IsRun, Marked, NoneEnabled}
use Rattle.circuit_theory.specs.Sizes.{Weighed, IsOver}
use Rattle.blif_read.specs.declared.design.BlifModel.{BlifModel}
use Rattle.blif_read.specs.Design.{Place, clock_places, circuit_of_design}
use Rattle.flat_net.specs.View.{NetView, circuit_of, ports_of}
use Rattle.net_assembly.specs.net_alike.Closed.{IsClosed}
use Rattle.flatten.specs.DesignFaults.{IsClocked, IsFlatOf}

-- A closed list of the places of a design with latches cut out bounds the unfolding of its nets with these cut out.
abbrev pub ClosedCutsBound : Type 0
ClosedCutsBound = (models : List BlifModel) (net : NetView) (names : List (List ℕ)) (spots : List (Weighed Place)) → IsFlatOf models net → IsClosed (cut names (circuit_of_design models net.clock)) spots →
    (cap : ℕ) → IsOver (cut names (circuit_of net)) (map (λ o. o.place) (cut names (circuit_of net)).outputs) cap → cap < sum_by (λ x. x.weight) spots

-- the names of a net's ports and latches are the design's
pub record HasNames (models : List BlifModel) (net : NetView) : Type 0 where
  pub inputs : (ports_of net).inputs ≡ map (λ i. i.name) (circuit_of_design models net.clock).inputs
  pub outputs : (ports_of net).outputs ≡ map (λ o. o.name) (circuit_of_design models net.clock).outputs
  pub latches : latch_names (circuit_of net).equations ≡ latch_names (circuit_of_design models net.clock).equations
  pub counted : map (λ l. l.name) net.latches ≡ latch_names (circuit_of net).equations
  pub unclocked : clock_places models ≡ [] → net.clock ≡ None

abbrev pub NamesAreKept : Type 0
NamesAreKept = (models : List BlifModel) (net : NetView) → IsFlatOf models net → HasNames models net

-- A place that isn't the clock's is settled in the plain mode in the design in the cycles in which its signal is in the net; and so where
-- the latches of some names are cut out of both.
abbrev pub MarksAreKept : Type 0
MarksAreKept = (models : List BlifModel) (net : NetView) (f : IsFlatOf models net) (left : ℕ → Place → Bool) (right : ℕ → ℕ → Bool) (t : ℕ) (p : Place) → (IsClocked (circuit_of_design models net.clock) net.clock p → ⊥) →
    (IsPlace (circuit_of_design models net.clock) p → Marked (circuit_of_design models net.clock) NoneEnabled left t p ↔ Marked (circuit_of net) NoneEnabled right t (f.signal p))
    × ((names : List (List ℕ)) → IsPlace (cut names (circuit_of_design models net.clock)) p →
    Marked (cut names (circuit_of_design models net.clock)) NoneEnabled left t p ↔ Marked (cut names (circuit_of net)) NoneEnabled right t (f.signal p))

-- The runs of the design with the latches of some names cut out are those of the net with these cut out.
abbrev pub CutRunsAreKept : Type 0
CutRunsAreKept = (models : List BlifModel) (net : NetView) (f : IsFlatOf models net) (names : List (List ℕ)) (n : ℕ) →
    ((run : ℕ → Place → Bool) → IsRun (cut names (circuit_of_design models net.clock)) n run → IsRun (cut names (circuit_of net)) n (λ t s. run t (f.origin s)))
    × ((run : ℕ → ℕ → Bool) → IsRun (cut names (circuit_of net)) n run → IsRun (cut names (circuit_of_design models net.clock)) n (λ t p. run t (f.signal p)))

-- The latch graph of the design has a cycle without the latches of some names where that of the net has one.
abbrev pub CyclesAreKept : Type 0
CyclesAreKept = (models : List BlifModel) (net : NetView) → IsFlatOf models net → (removed : List (List ℕ)) → HasCycle (circuit_of_design models net.clock) NoneEnabled removed ↔ HasCycle (circuit_of net) NoneEnabled removed

-- The minimal cuts of two designs are those of their nets.
abbrev pub MinimalCutsAreKept : Type 0
MinimalCutsAreKept = (left right : List BlifModel) (a b : NetView) → IsFlatOf left a → IsFlatOf right b → (names : List (List ℕ)) →
    IsMinimalCut Plain (circuit_of_design left a.clock) (circuit_of_design right b.clock) names ↔ IsMinimalCut Plain (circuit_of a) (circuit_of b) names

-- Two designs agree onward over some names in the plain mode where their nets do.
abbrev pub AgreementIsKept : Type 0
AgreementIsKept = (left right : List BlifModel) (a b : NetView) → IsFlatOf left a → IsFlatOf right b → (names : List (List ℕ)) →
    AgreeOnward Plain names (circuit_of_design left a.clock) (circuit_of_design right b.clock) ↔ AgreeOnward Plain names (circuit_of a) (circuit_of b)
