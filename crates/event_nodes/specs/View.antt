-- What a contract sees of a circuit whose latches have classes.
use Rattle.std.specs.Prelude.{◌≡◌, ◌↔◌, ℕ, ◌==◌, if◌then◌else◌, Bool, true, List, [], ◌∷◌, length, slice_get, Some}
use Rattle.flat_net.specs.circuit_theory.Run.{IsEnabled}
use Rattle.flat_net.specs.circuit_theory.Frame.{EventSide}
use Rattle.flat_net.specs.Table.{AreDistinct}
use Rattle.flat_net.specs.declared.parts.LatchAt.{LatchAt}
use Rattle.flat_net.specs.View.{NetView, circuit_of}

pub record EventCircuitView : Type 0 where
  pub net : NetView
  -- by latch, whether it is enabled
  pub enabled : List Bool
  -- by input, its number
  pub order : List ℕ
  -- by latch, its class
  pub classes : List ℕ

-- the class of the latch at p
abbrev pub class_at : List LatchAt → List ℕ → ℕ → ℕ
class_at [] ks p = 0
class_at (l ∷ ls) [] p = 0
class_at (l ∷ ls) (k ∷ ks) p = if l.out.0 == p then k else class_at ls ks p

-- the circuit as the event form sees it
abbrev pub side_of : EventCircuitView → EventSide ℕ
side_of e = record { circuit = circuit_of e.net; order = e.order; class = class_at e.net.latches e.classes }

-- the latch is enabled
abbrev pub Enabled : EventCircuitView → ℕ → Type 0
Enabled e p = IsEnabled (circuit_of e.net) p

-- the bits mark exactly the enabled latches
pub record MarksEnabled (n : NetView) (bits : List Bool) : Type 0 where
  pub each : length bits ≡ length n.latches
  pub exactly : (j : ℕ) (l : LatchAt) (bit : Bool) → slice_get n.latches j ≡ Some l → slice_get bits j ≡ Some bit → (bit ≡ true) ↔ IsEnabled (circuit_of n) l.out.0

-- what each such circuit keeps
pub record IsEventCircuit (e : EventCircuitView) : Type 0 where
  pub marks : MarksEnabled e.net e.enabled
  pub each_order : length e.order ≡ length e.net.inputs
  pub order_once : AreDistinct e.order
  pub each_class : length e.classes ≡ length e.net.latches

-- the latch with this position drives the signal, and is enabled
pub record IsEnabledAt (e : EventCircuitView) (p position : ℕ) : Type 0 where
  pub latch : LatchAt
  pub at : slice_get e.net.latches position ≡ Some latch
  pub out : latch.out.0 ≡ p
  pub enabled : Enabled e p
