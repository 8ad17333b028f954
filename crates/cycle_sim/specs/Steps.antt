-- The values and the marks of one cycle, against every choice of values v that meets the equations.
use Rattle.std.specs.Prelude.{◌≡◌, ℕ, ◌<◌, Bool, true, List, length, map, slice_get, Some}
use Rattle.flat_net.specs.View.{NetView}
use Rattle.flat_net.specs.declared.parts.Port.{Port}
use Rattle.flat_net.specs.declared.parts.LatchAt.{LatchAt}
use Rattle.signal_graph.specs.declared.inner_cone.parts.InnerParts.{InnerParts}
use Rattle.signal_graph.specs.inner_cone.Inner.{LeadsAside}
use Rattle.signal_graph.specs.inner_cone.Sides.{AreSides}
use Rattle.signal_graph.specs.inner_cone.Gates.{AreInnerGates}
use Rattle.cycle_sim.specs.View.{HasMark}

-- v has these bits at the inputs
abbrev pub HasInputs : NetView → List Bool → (ℕ → Bool) → Type 0
HasInputs n bits v = map (λ port. v port.signal.0) n.inputs ≡ bits

-- v has these bits at the latches
abbrev pub HasLatches : NetView → List Bool → (ℕ → Bool) → Type 0
HasLatches n bits v = map (λ l. v l.out.0) n.latches ≡ bits

-- the list has v's value at the place
abbrev pub IsRight : (ℕ → Bool) → List Bool → ℕ → Type 0
IsRight v bits p = slice_get bits p ≡ Some (v p)

-- what had v's value has it still
abbrev pub Keeps : (ℕ → Bool) → List Bool → List Bool → Type 0
Keeps v old new = (p : ℕ) → IsRight v old p → IsRight v new p

abbrev pub AreInputsRight : NetView → (ℕ → Bool) → List Bool → Type 0
AreInputsRight n v bits = (i : ℕ) (port : Port) → slice_get n.inputs i ≡ Some port → IsRight v bits port.signal.0

abbrev pub AreLatchesRight : NetView → (ℕ → Bool) → List Bool → Type 0
AreLatchesRight n v bits = (j : ℕ) (l : LatchAt) → slice_get n.latches j ≡ Some l → IsRight v bits l.out.0

-- the bits are v's values of all signals from which no way leads back to this one
abbrev pub AreAsideRight : NetView → ℕ → (ℕ → Bool) → List Bool → Type 0
AreAsideRight n own v bits = (p : ℕ) → p < length n.drivers → LeadsAside n own p → IsRight v bits p

-- the bits are v's values of all signals
abbrev pub HasValues : NetView → (ℕ → Bool) → List Bool → Type 0
HasValues n v bits = (p : ℕ) → p < length n.drivers → IsRight v bits p

-- what had its mark of cycle t has it still
abbrev pub KeepsMarks : NetView → List Bool → (ℕ → ℕ → Bool) → ℕ → List Bool → List Bool → Type 0
KeepsMarks n enabled run t old new = (p : ℕ) → HasMark n enabled run t old p p → HasMark n enabled run t new p p

abbrev pub AreInputsMarked : NetView → List Bool → (ℕ → ℕ → Bool) → ℕ → List Bool → Type 0
AreInputsMarked n enabled run t bits = (i : ℕ) (port : Port) → slice_get n.inputs i ≡ Some port → HasMark n enabled run t bits port.signal.0 port.signal.0

abbrev pub AreLatchesMarked : NetView → List Bool → (ℕ → ℕ → Bool) → ℕ → List Bool → Type 0
AreLatchesMarked n enabled run t bits = (j : ℕ) (l : LatchAt) → slice_get n.latches j ≡ Some l → HasMark n enabled run t bits l.out.0 l.out.0

-- each latch's own bit is its mark of cycle t
abbrev pub AreMarksAhead : NetView → List Bool → (ℕ → ℕ → Bool) → ℕ → List Bool → Type 0
AreMarksAhead n enabled run t bits = (j : ℕ) (l : LatchAt) → slice_get n.latches j ≡ Some l → HasMark n enabled run t bits j l.out.0

abbrev pub AreMarks : NetView → List Bool → (ℕ → ℕ → Bool) → ℕ → List Bool → Type 0
AreMarks n enabled run t bits = (p : ℕ) → p < length n.drivers → HasMark n enabled run t bits p p

-- for each latch whose bit is set, the parts of its cone by which its next value depends on it
pub record AreConesKept (n : NetView) (enabled : List Bool) (cones : List InnerParts) : Type 0 where
  pub each : length cones ≡ length n.latches
  pub sides : (j : ℕ) (l : LatchAt) (cone : InnerParts) → slice_get n.latches j ≡ Some l → slice_get enabled j ≡ Some true → slice_get cones j ≡ Some cone → AreSides n l.next.0 l.out.0 cone.sides
  pub gates : (j : ℕ) (l : LatchAt) (cone : InnerParts) → slice_get n.latches j ≡ Some l → slice_get enabled j ≡ Some true → slice_get cones j ≡ Some cone → AreInnerGates n l cone.gates
