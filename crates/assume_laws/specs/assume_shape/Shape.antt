-- The shape of an assumption, and its first fault.
use Rattle.std.specs.Prelude.{◌≡◌, ◌≢◌, ℕ, ◌<◌, List, [], ◌∷◌, length, Option, Some, None, slice_get}
use Rattle.std.specs.List.{All, Contains}
use Rattle.sec_setup.specs.ports.flat_net.Port.{Port}
use Rattle.sec_setup.specs.ports.flat_net.LatchAt.{LatchAt}
use Rattle.sec_setup.specs.ports.flat_net.View.{NetView, circuit_of}
use Rattle.assume_laws.specs.Assume.{Assumption}
use Rattle.assume_laws.specs.declared.assume_shape.shape.ShapeFault.{ShapeFault}
use Rattle.assume_laws.specs.declared.assume_shape.shape.ShapeFault.TheVariants as fault

-- the name of each of these ports is one of the names
abbrev pub AreShared : List (List ℕ) → List Port → Type 0
AreShared shared ports = All (λ (p : Port). Contains shared p.name) ports

-- the input at the position is the first whose name isn't among these
pub record IsFirstForeign (n : NetView) (shared : List (List ℕ)) (position : ℕ) : Type 0 where
  pub port : Port
  pub at : slice_get n.inputs position ≡ Some port
  pub foreign : Contains shared port.name → ⊥
  pub earlier : (i : ℕ) (p : Port) → i < position → slice_get n.inputs i ≡ Some p → Contains shared p.name

-- no latch, one output, and no input but those of these names
pub record HasShape (n : NetView) (shared : List (List ℕ)) : Type 0 where
  pub latches : n.latches ≡ []
  pub output : Port
  pub outputs : n.outputs ≡ output ∷ []
  pub inputs : AreShared shared n.inputs

-- the name is that of the first foreign input
abbrev pub IsForeignName : NetView → List (List ℕ) → List ℕ → Type 0
IsForeignName n shared name = (position : ℕ) × (is : IsFirstForeign n shared position) × (name ≡ is.port.name)

-- the first fault in this order: a latch, a number of outputs that isn't one, an input that isn't shared
abbrev pub IsShapeFault : NetView → List (List ℕ) → Option ShapeFault → Type 0
IsShapeFault n shared None = HasShape n shared
IsShapeFault n shared (Some (fault.Latch name)) = (l : LatchAt) × (slice_get n.latches 0 ≡ Some l) × (name ≡ l.name)
IsShapeFault n shared (Some (fault.Outputs count)) = (n.latches ≡ []) × (count ≡ length n.outputs) × (count ≢ 1)
IsShapeFault n shared (Some (fault.Input name)) = (n.latches ≡ []) × (length n.outputs ≡ 1) × IsForeignName n shared name
IsShapeFault n shared (Some fault.TooLarge) = ⊥

-- the circuit, with these numbers of its inputs, as an assumption
abbrev pub assumption_of : NetView → List ℕ → ℕ → Assumption
assumption_of n order output = record { circuit = circuit_of n; order = order; output = output }
