-- The latches that are exposed, and what is told where there are none.
use Rattle.std.specs.Prelude.{◌≡◌, ℕ, ◌<◌, List, length, Result, Ok, Err}
use Rattle.std.specs.List.{All, AllPairs, AllZip}
use Rattle.circuit_theory.specs.declared.Mode.{Mode}
use Rattle.circuit_theory.specs.declared.Side.{Side}
use Rattle.circuit_theory.specs.declared.Side.TheVariants.{A, B}
use Rattle.circuit_theory.specs.Agree.{EnabledIn, IsMinimalCut}
use Rattle.circuit_theory.specs.Circuit.{IsLatch}
use Rattle.circuit_theory.specs.Depth.{HasCycle, IsCycle, BeginsWithLeast}
use Rattle.base_tables.specs.Table.{AreDistinct}
use Rattle.latch_graph.specs.flat_net.View.{NetView, circuit_of}
use Rattle.latch_graph.specs.flat_net.Cut.{exposed_names}
use Rattle.sec_setup.specs.declared.cut_points.exposed.Exposure.{Exposure}
use Rattle.sec_setup.specs.declared.cut_points.exposed.ExposeError.{ExposeError}
use Rattle.sec_setup.specs.declared.cut_points.exposed.ExposeError.TheVariants as refused
use Rattle.sec_setup.specs.cut_points.Common.{common_names}

-- without the latches of these names no latch lies on a cycle
abbrev pub IsFreeWithout : Mode → NetView → List (List ℕ) → Type 0
IsFreeWithout mode n names = HasCycle (circuit_of n) (EnabledIn mode (circuit_of n)) names → ⊥

-- the cycle that is told, by the names of its latches, of those that are left without the latches of some names: each is read by
-- the next, the last by the first, and no latch of it has a name before the first
pub record IsToldCycle (mode : Mode) (n : NetView) (without names : List (List ℕ)) : Type 0 where
  pub latches : List ℕ
  pub cycle : IsCycle (circuit_of n) (EnabledIn mode (circuit_of n)) without latches
  pub least : BeginsWithLeast (circuit_of n) latches
  pub named : AllZip (λ name u. (next : ℕ) × IsLatch (circuit_of n) name u next) names latches

-- The exposed latches are a minimal cut of the two circuits. Their names are those of the latches at the left positions of A, in
-- A's order, and at the right positions of B. No cycle is left in either circuit without all latches of common names.
pub record AreExposed (mode : Mode) (a b : NetView) (e : Exposure) : Type 0 where
  pub minimal : IsMinimalCut mode (circuit_of a) (circuit_of b) e.names
  pub in_order : AllPairs (λ i j. i < j) e.left
  pub left_within : All (λ j. j < length a.latches) e.left
  pub right_within : All (λ j. j < length b.latches) e.right
  pub left_distinct : AreDistinct e.left
  pub right_distinct : AreDistinct e.right
  pub left_names : exposed_names a e.left ≡ e.names
  pub right_names : exposed_names b e.right ≡ e.names
  pub paired : IsFreeWithout mode a (common_names (circuit_of a) (circuit_of b)) × IsFreeWithout mode b (common_names (circuit_of a) (circuit_of b))

-- the exposed latches, or a cycle that is left without all latches of common names: one of A, or else one of B
abbrev pub Exposes : Mode → NetView → NetView → Result Exposure ExposeError → Type 0
Exposes mode a b (Ok e) = AreExposed mode a b e
Exposes mode a b (Err (refused.Unpaired A names)) = IsToldCycle mode a (common_names (circuit_of a) (circuit_of b)) names
Exposes mode a b (Err (refused.Unpaired B names)) =
    IsFreeWithout mode a (common_names (circuit_of a) (circuit_of b)) × IsToldCycle mode b (common_names (circuit_of a) (circuit_of b)) names
Exposes mode a b (Err refused.NoMemory) = Unit {0}

-- what is told is the cycle at these positions, of this circuit
abbrev pub TellsCycle : NetView → Side → List ℕ → ExposeError → Type 0
TellsCycle n side cycle (refused.Unpaired told names) = (told ≡ side) × (names ≡ exposed_names n cycle)
TellsCycle n side cycle refused.NoMemory = Unit {0}
