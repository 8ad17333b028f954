-- The functions of pairs of signals in cycles, on one graph and table.
use Rattle.std.specs.Prelude.{◌≡◌, ◌↔◌, ◌⊎◌, ℕ, ◌+◌, ◌≤◌, List, length, slice_get, Some, Result, Ok, Err}
use Rattle.std.specs.List.{AllZip, Contains}
use Rattle.circuit_theory.specs.declared.Side.{Side}
use Rattle.circuit_theory.specs.declared.Side.TheVariants.{A, B}
use Rattle.circuit_theory.specs.Fits.{IsPairDepth}
use Rattle.sec_base.specs.declared.limits.TheConstants.{MAX_WEIGHT}
use Rattle.flat_net.specs.View.{NetView, circuit_of}
use Rattle.circuit_laws.specs.reset_laws.Weight.{IsResetWeight, IsResetOver}
use Rattle.aig.specs.declared.node.Node.{Node}
use Rattle.cbf_unfold.specs.declared.unfold_places.signal_function.Unfolded.{Unfolded}
use Rattle.reset_form.specs.reset_unfold.Places.{starts_of}
use Rattle.reset_form.specs.reset_unfold.View.{ResetView}
use Rattle.reset_form.specs.reset_unfold.Unfolded.{IsResetUnfolded}
use Rattle.sec_setup.specs.declared.ports.pairs.SignalPair.{SignalPair}
use Rattle.sec_setup.specs.declared.setup.Setup.{Setup}
use Rattle.reset_form.specs.declared.reset_functions.bases.Bases.{Bases}
use Rattle.reset_form.specs.declared.reset_functions.error.ResetError.{ResetError}
use Rattle.reset_form.specs.declared.reset_functions.error.ResetError.TheVariants as refused
use Rattle.reset_form.specs.declared.reset_functions.functions.Functions.{Functions}
use Rattle.reset_form.specs.declared.reset_functions.functions.Part.{Part}
use Rattle.reset_form.specs.declared.reset_functions.functions.Tops.{Tops}

-- the functions are the signal's in the cycles from 0 to its top
pub record AreCyclesOf (n : NetView) (order : List ℕ) (base : ℕ) (g : List Node) (places : List (ℕ × ℕ)) (top : ℕ × ℕ) (us : List Unfolded) : Type 0 where
  pub each : length us ≡ top.0 + 1
  pub are : (t : ℕ) (u : Unfolded) → slice_get us t ≡ Some u → IsResetUnfolded n order base g places top.1 t u.lit.0 u.vars

abbrev pub CyclesOf : Part → List Node → List (ℕ × ℕ) → ℕ × ℕ → List Unfolded → Type 0
CyclesOf p g places top us = AreCyclesOf p.net.now p.order.now p.base g places top us

-- the signal in a cycle up to its top
abbrev pub IsBelow : ℕ × ℕ → ℕ × ℕ → Type 0
IsBelow top p = (p.0 ≤ top.0) × (p.1 ≡ top.1)

abbrev pub IsAmong : List (ℕ × ℕ) → ℕ × ℕ → Type 0
IsAmong tops p = (top : ℕ × ℕ) × Contains tops top × IsBelow top p

-- an output of A, or of B, in a cycle up to the depth of its pair
abbrev pub IsLeftSide : Setup → ℕ × ℕ → Type 0
IsLeftSide s p = (x : SignalPair) × Contains s.pairs x × (depth : ℕ) × IsPairDepth (circuit_of s.left.now) (circuit_of s.right.now) x.left.0 x.right.0 depth × (p.0 ≤ depth) × (p.1 ≡ x.left.0)

abbrev pub IsRightSide : Setup → ℕ × ℕ → Type 0
IsRightSide s p = (x : SignalPair) × Contains s.pairs x × (depth : ℕ) × IsPairDepth (circuit_of s.left.now) (circuit_of s.right.now) x.left.0 x.right.0 depth × (p.0 ≤ depth) × (p.1 ≡ x.right.0)

-- the unfoldings of these sides weigh at most 2,000,000 together
abbrev pub IsLight : NetView → (ℕ × ℕ → Type 0) → Type 0
IsLight n IsSide = (sides : List (ℕ × ℕ)) × ((p : ℕ × ℕ) → Contains sides p ↔ IsSide p) × (w : ℕ) × IsResetWeight (circuit_of n) (starts_of sides) w × (w ≤ MAX_WEIGHT)

-- some of them weigh more
abbrev pub IsTooLarge : NetView → (ℕ × ℕ → Type 0) → Type 0
IsTooLarge n IsSide = (sides : List (ℕ × ℕ)) × ((p : ℕ × ℕ) → Contains sides p → IsSide p) × IsResetOver (circuit_of n) (starts_of sides) MAX_WEIGHT

-- the circuit of this side is refused because its sides weigh too much, or memory was wanted
abbrev pub IsRefusalOf : Side → NetView → (ℕ × ℕ → Type 0) → ResetError → Type 0
IsRefusalOf side n IsSide (refused.TooLarge other) = (other ≡ side) × IsTooLarge n IsSide
IsRefusalOf side n IsSide refused.NoMemory = Unit {0}

-- the signals below the top are unfolded besides those before
abbrev pub HasDoneBelow : ℕ × ℕ → List (ℕ × ℕ) → List (ℕ × ℕ) → Type 0
HasDoneBelow top old new = (p : ℕ × ℕ) → Contains new p ↔ (Contains old p ⊎ IsBelow top p)

-- some of these weigh too much with those before
abbrev pub IsOverBelow : ResetView → ℕ × ℕ → Type 0
IsOverBelow u top = IsTooLarge u.net (λ p. Contains u.done p ⊎ IsBelow top p)

-- the signals of a pair, with its depth
pub record IsTopOf (s : Setup) (side : SignalPair → ℕ) (x : SignalPair) (top : ℕ × ℕ) : Type 0 where
  pub depth : IsPairDepth (circuit_of s.left.now) (circuit_of s.right.now) x.left.0 x.right.0 top.0
  pub signal : top.1 ≡ side x

pub record AreTops (s : Setup) (pairs : List SignalPair) (t : Tops) : Type 0 where
  pub left : AllZip (IsTopOf s (λ x. x.left.0)) pairs t.left.items
  pub right : AllZip (IsTopOf s (λ x. x.right.0)) pairs t.right.items

-- both functions of each pair in each cycle up to its depth, on one graph and table
pub record HaveFunctions (s : Setup) (b : Bases) (f : Functions) : Type 0 where
  pub tops : Tops
  pub are_tops : AreTops s s.pairs tops
  pub left_are : AllZip (AreCyclesOf s.left.now s.orders.left b.left f.aig f.places) tops.left.items f.left.items
  pub right_are : AllZip (AreCyclesOf s.right.now s.orders.right b.right f.aig f.places) tops.right.items f.right.items

-- the functions of the pairs, or the first circuit whose outputs weigh too much
abbrev pub Unfolds : Setup → Bases → Result Functions ResetError → Type 0
Unfolds s b (Ok f) = IsLight s.left.now (IsLeftSide s) × IsLight s.right.now (IsRightSide s) × HaveFunctions s b f
Unfolds s b (Err (refused.TooLarge A)) = IsTooLarge s.left.now (IsLeftSide s)
Unfolds s b (Err (refused.TooLarge B)) = IsLight s.left.now (IsLeftSide s) × IsTooLarge s.right.now (IsRightSide s)
Unfolds s b (Err refused.NoMemory) = Unit {0}
