-- What the laws of the event form ask of a pair of circuits.
use Rattle.std.specs.Prelude.{◌≡◌, ℕ, List, length}
use Rattle.circuit_theory.specs.declared.Mode.TheVariants.{Event}
use Rattle.circuit_theory.specs.Circuit.{Circuit}
use Rattle.circuit_theory.specs.Run.{IsEnabled}
use Rattle.circuit_theory.specs.Net.{IsNet, HasDistinctNames}
use Rattle.circuit_theory.specs.Depth.{LatchesHaveDepths}
use Rattle.circuit_theory.specs.Tree.{AreNumbered}
use Rattle.circuit_theory.specs.Agree.{cut, IsPair, IsMinimalCut}
use Rattle.circuit_theory.specs.Joined.{Either, Left, Right, joined}
use Rattle.circuit_theory.specs.Classes.{HasClasses}
use Rattle.circuit_theory.specs.EventFits.{side_by_side, HaveEqualEvents}

-- two nets whose inputs are numbered, with the class map and the depths of both side by side
pub record AreEventSides (a b : Circuit ℕ) (m n : ℕ) (left right : List ℕ) (class : Either ℕ ℕ → ℕ) : Type 0 where
  pub left_net : IsNet a m
  pub right_net : IsNet b n
  pub numbered : AreNumbered a b left right
  pub left_long : length left ≡ length a.inputs
  pub right_long : length right ≡ length b.inputs
  pub classes : HasClasses (side_by_side a b left right class)
  pub depths : LatchesHaveDepths (joined a b) (IsEnabled (joined a b))

-- two nets with latches exposed by a minimal cut, of which the cut circuits are such sides
pub record AreExposedSides (a b : Circuit ℕ) (m n : ℕ) (names : List (List ℕ)) (left right : List ℕ) (class : Either ℕ ℕ → ℕ) : Type 0 where
  pub left_net : IsNet a m
  pub right_net : IsNet b n
  pub left_names : HasDistinctNames a
  pub right_names : HasDistinctNames b
  pub minimal : IsMinimalCut Event a b names
  pub sides : AreEventSides (cut names a) (cut names b) m n left right class

-- the functions of each pair are equal in each frame with care for both
abbrev pub PairsAreEqual : List (List ℕ) → Circuit ℕ → Circuit ℕ → Circuit ℕ → Circuit ℕ → List ℕ → List ℕ → (Either ℕ ℕ → ℕ) → Type 0
PairsAreEqual names a b cut_a cut_b left right class = (p q : ℕ) → IsPair names a b p q → HaveEqualEvents (side_by_side cut_a cut_b left right class) (Left p) (Right q)
