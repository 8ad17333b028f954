-- Which latches are cut open, and the nets in which they are cut out.
use Rattle.std.specs.Prelude.{◌≡◌, ℕ, ◌<◌, Bool, true, false, List, [], ◌∷◌, ◌++◌, length, All}
use Rattle.std.specs.List.{AllPairs}
use Rattle.circuit_theory.specs.declared.Mode.{Mode}
use Rattle.circuit_theory.specs.declared.Mode.TheVariants.{Plain}
use Rattle.circuit_theory.specs.Agree.{IsMinimalCut}
use Rattle.circuit_theory.specs.Interface.{shared_inputs}
use Rattle.sec_setup.specs.ports.flat_net.Cut.{IsCut, IsCutCircuit, exposed_names}
use Rattle.sec_setup.specs.ports.flat_net.View.{NetView, circuit_of, ports_of}
use Rattle.sec_setup.specs.declared.cut_points.exposed.Exposure.{Exposure}
use Rattle.sec_setup.specs.ports.Pairing.{AreNamedAt}

-- The names are a minimal cut, which has no name where no latch is to be cut open.
pub record IsChoice (a b : NetView) (expose : Bool) (names : List (List ℕ)) : Type 0 where
  pub minimal : IsMinimalCut Plain (circuit_of a) (circuit_of b) names
  pub closed : expose ≡ false → names ≡ []

-- The latches that are cut open are a minimal cut in this mode: their names, in A's order, with their positions in both nets.
pub record AreCutOpenIn (mode : Mode) (a b : NetView) (e : Exposure) : Type 0 where
  pub minimal : IsMinimalCut mode (circuit_of a) (circuit_of b) e.names
  pub in_order : AllPairs (λ i j. i < j) e.left
  pub left : AreNamedAt a e.names e.left
  pub right : AreNamedAt b e.names e.right

-- the same in the plain mode
abbrev pub AreCutOpen : NetView → NetView → Exposure → Type 0
AreCutOpen a b e = AreCutOpenIn Plain a b e

-- both nets with the chosen latches cut out
pub record AreCutBy (a b : NetView) (e : Exposure) (m k : NetView) : Type 0 where
  pub left : IsCut a m e.left
  pub right : IsCut b k e.right
  pub left_circuit : IsCutCircuit e.names (circuit_of a) (circuit_of m)
  pub right_circuit : IsCutCircuit e.names (circuit_of b) (circuit_of k)

-- Both nets with the latches of these names cut out, which stand in A's order: each is an input, and what it takes over an output.
pub record AreCutAt (a b : NetView) (names : List (List ℕ)) (m k : NetView) : Type 0 where
  pub left : List ℕ
  pub right : List ℕ
  pub in_order : AllPairs (λ i j. i < j) left
  pub left_within : All (λ j. j < length a.latches) left
  pub right_within : All (λ j. j < length b.latches) right
  pub left_names : exposed_names a left ≡ names
  pub right_names : exposed_names b right ≡ names
  pub left_cut : IsCut a m left
  pub right_cut : IsCut b k right
  pub left_circuit : IsCutCircuit names (circuit_of a) (circuit_of m)
  pub right_circuit : IsCutCircuit names (circuit_of b) (circuit_of k)

-- the names are those of latches of the net, in its order
pub record StandInOrder (n : NetView) (names : List (List ℕ)) : Type 0 where
  pub positions : List ℕ
  pub in_order : AllPairs (λ i j. i < j) positions
  pub within : All (λ j. j < length n.latches) positions
  pub named : exposed_names n positions ≡ names

-- the names of a sequence: the shared inputs in A's order, then the exposed latches
abbrev pub columns_of : NetView → NetView → List (List ℕ) → List (List ℕ)
columns_of a b names = shared_inputs (ports_of a) (ports_of b) ++ names

-- some latch is cut open
abbrev pub is_cut : List (List ℕ) → Bool
is_cut [] = false
is_cut (name ∷ names) = true
