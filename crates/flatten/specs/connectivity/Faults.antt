-- The faults of drivers and clocks, in the order in which they are told.
use Rattle.std.specs.Prelude.{◌≡◌, ◌≢◌, ℕ, ◌<◌, List, [], ◌∷◌, ◌++◌, map, take, Some, slice_get}
use Rattle.std.specs.List.{Contains}
use Rattle.elaborate.specs.declared.error.FlatError.{FlatError}
use Rattle.elaborate.specs.declared.error.FlatError.TheVariants as flat
use Rattle.elaborate.specs.Flat.{FlatDesign}
use Rattle.flatten.specs.connectivity.Wiring.{Wiring, TypedLatch, Cell, wiring_of}
use Rattle.flatten.specs.connectivity.Events.{IsFirst, IsNever, IsAt}

-- what the inputs, the clocks and the first i statements drive
abbrev pub driven_before : {P : Type 0} → Wiring P → ℕ → List P
driven_before w i = (w.inputs ++ w.clocks) ++ take i w.outs

abbrev pub driven : {P : Type 0} → Wiring P → List P
driven w = (w.inputs ++ w.clocks) ++ w.outs

-- the i-th statement drives p, which an input, a clock or a statement before drives too
pub record DrivesAgain {P : Type 0} (w : Wiring P) (i : ℕ) (p : P) : Type 0 where
  pub drives : slice_get w.outs i ≡ Some p
  pub before : Contains (driven_before w i) p

abbrev pub IsUndriven : {P : Type 0} → Wiring P → P → Type 0
IsUndriven w p = Contains (driven w) p → ⊥

-- the i-th read is of p, which nothing drives; the main model's outputs are read last
abbrev pub ReadsUndriven : {P : Type 0} → Wiring P → ℕ → P → Type 0
ReadsUndriven w = IsAt (w.reads ++ w.outputs) (λ p. p) (IsUndriven w)

-- following ports back from p comes by q
pub data Follows {P : Type 0} (w : Wiring P) : P → P → Type 0 where
  here : {p : P} → Follows w p p
  there : {p from q : P} → Contains w.ports (record { out = p; from = from }) → Follows w from q → Follows w p q

-- The net of p is where following ports back ends. On a ring of ports it never ends: such a place has no net.
pub record HasNet {P : Type 0} (w : Wiring P) (p net : P) : Type 0 where
  pub follows : Follows w p net
  pub ends : (from : P) → Contains w.ports (record { out = net; from = from }) → ⊥

-- the main model's clocks, and then the clocks of latches
abbrev pub clock_signals : {P : Type 0} → Wiring P → List P
clock_signals w = w.clocks ++ w.controls

-- the net of the i-th clock
pub record HasClockNet {P : Type 0} (w : Wiring P) (i : ℕ) (net : P) : Type 0 where
  pub signal : P
  pub here : slice_get (clock_signals w) i ≡ Some signal
  pub leads : HasNet w signal net

abbrev pub IsClockNet : {P : Type 0} → Wiring P → P → Type 0
IsClockNet w net = (i : ℕ) × HasClockNet w i net

-- the net of the i-th clock differs from that of a clock before; a clock without a net doesn't count
pub record OtherClock {P : Type 0} (w : Wiring P) (i : ℕ) (net : P) : Type 0 where
  pub own : HasClockNet w i net
  pub earlier : ℕ
  pub other : P
  pub before : earlier < i
  pub theirs : HasClockNet w earlier other
  pub apart : net ≢ other

-- the edge differs from that of the first latch with an edge
pub record HasOtherEdge {P : Type 0} (w : Wiring P) (l : TypedLatch P) : Type 0 where
  pub first : TypedLatch P
  pub is_first : slice_get w.typed 0 ≡ Some first
  pub apart : l.edge ≢ first.edge

abbrev pub OtherEdge : {P : Type 0} → Wiring P → ℕ → P → Type 0
OtherEdge w = IsAt w.typed (λ l. l.out) (HasOtherEdge w)

-- a gate or a latch drives the clock net p
pub record IsGatedClock {P : Type 0} (w : Wiring P) (p : P) : Type 0 where
  pub clock : IsClockNet w p
  pub cell : Cell P
  pub there : Contains w.cells cell
  pub drives : cell.out ≡ p

-- a main output as one that reads itself
abbrev pub output_cell : {P : Type 0} → P → Cell P
output_cell p = record { out = p; reads = p ∷ [] }

-- the gates and latches, and then the main outputs
abbrev pub readers : {P : Type 0} → Wiring P → List (Cell P)
readers w = w.cells ++ map output_cell w.outputs

-- it reads the clock net, through ports or at once
pub record ReadsClockNet {P : Type 0} (w : Wiring P) (c : Cell P) : Type 0 where
  pub signal : P
  pub net : P
  pub reads : Contains c.reads signal
  pub leads : HasNet w signal net
  pub clock : IsClockNet w net

abbrev pub ClockRead : {P : Type 0} → Wiring P → ℕ → P → Type 0
ClockRead w = IsAt (readers w) (λ c. c.out) (ReadsClockNet w)

-- the wiring's first fault; no other kind is one of drivers and clocks
abbrev pub FirstFault : Wiring (List ℕ) → FlatError → Type 0
FirstFault w (flat.TwoDrivers p) = IsFirst (DrivesAgain w) p
FirstFault w (flat.Undriven p) = IsNever (DrivesAgain w) × IsFirst (ReadsUndriven w) p
FirstFault w (flat.TwoClocks p) = IsNever (DrivesAgain w) × IsNever (ReadsUndriven w) × IsFirst (OtherClock w) p
FirstFault w (flat.TwoEdges p) = IsNever (DrivesAgain w) × IsNever (ReadsUndriven w) × IsNever (OtherClock w) × IsFirst (OtherEdge w) p
FirstFault w (flat.GatedClock p) = IsNever (DrivesAgain w) × IsNever (ReadsUndriven w) × IsNever (OtherClock w) × IsNever (OtherEdge w) × IsGatedClock w p
FirstFault w (flat.ClockRead p) =
    IsNever (DrivesAgain w) × IsNever (ReadsUndriven w) × IsNever (OtherClock w) × IsNever (OtherEdge w) × ((q : List ℕ) → IsGatedClock w q → ⊥) × IsFirst (ClockRead w) p
FirstFault w other = ⊥

-- the design's first fault of drivers and clocks
abbrev pub IsWireFault : FlatDesign (List ℕ) → FlatError → Type 0
IsWireFault d e = FirstFault (wiring_of d) e

-- the design has no fault of drivers and clocks
pub record HasNoWireFault {P : Type 0} (w : Wiring P) : Type 0 where
  pub single : IsNever (DrivesAgain w)
  pub driven : IsNever (ReadsUndriven w)
  pub one_clock : IsNever (OtherClock w)
  pub one_edge : IsNever (OtherEdge w)
  pub not_gated : (p : P) → IsGatedClock w p → ⊥
  pub not_read : IsNever (ClockRead w)
