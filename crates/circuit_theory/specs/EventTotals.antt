-- What an event comparison has counted so far: the starts of its unfoldings, the nodes and the weight of each side, and the classes of
-- the latches that were taken.
use Rattle.std.specs.Prelude.{◌≡◌, ◌≢◌, ℕ, ◌<◌, ◌≤◌, List, ◌∷◌, ◌++◌, length, map, Option, Some, None}
use Rattle.std.specs.List.{Contains, AllPairs, AllZip}
use Rattle.circuit_theory.specs.Circuit.{IsLatch}
use Rattle.circuit_theory.specs.Run.{IsEnabled}
use Rattle.circuit_theory.specs.Frame.{EventSide, ConeLatches, IsNode}
use Rattle.circuit_theory.specs.Classes.{EnablesEqual, DiffersFromMember, IsInFirstClass, IsLatchOrder, classes_of}
use Rattle.circuit_theory.specs.EventSizes.{Start, IsOther}

-- the start of an enable: what the latch takes over, the latch left out
abbrev pub IsEnableStart : {P : Type 0} → EventSide P → P → Start P → Type 0
IsEnableStart s u x = (x.left_out ≡ Some u) × ((name : List ℕ) × IsLatch s.circuit name u x.place)

-- the starts so far: the enables of these latches, and then these places
pub record AreStarts {P : Type 0} (s : EventSide P) (latches places : List P) (starts : List (Start P)) : Type 0 where
  pub enables : List (Start P)
  pub each : AllZip (IsEnableStart s) latches enables
  pub are : starts ≡ enables ++ map (λ p. record { place = p; left_out = None }) places

-- a latch that some start reaches at the root
abbrev pub StartLatches : {P : Type 0} → EventSide P → List (Start P) → P → Type 0
StartLatches {P} s starts v = (x : Start P) × Contains starts x × ConeLatches s.circuit x.place v × IsOther x.left_out v

-- more nodes than the cap are reached
pub record IsNodesOver {P : Type 0} (s : EventSide P) (starts : List (Start P)) (cap : ℕ) : Type 0 where
  pub nodes : List (List ℕ)
  pub distinct : AllPairs (λ m n. m ≢ n) nodes
  pub each : (node : List ℕ) → Contains nodes node → IsNode s (IsEnabled s.circuit) (StartLatches s starts) node
  pub total : cap < length nodes

-- no more nodes than the cap are reached
pub record IsNodesWithin {P : Type 0} (s : EventSide P) (starts : List (Start P)) (cap : ℕ) : Type 0 where
  pub nodes : List (List ℕ)
  pub all : (node : List ℕ) → IsNode s (IsEnabled s.circuit) (StartLatches s starts) node → Contains nodes node
  pub total : length nodes ≤ cap

-- The class map as far as it goes: of the enabled latches, in their order, these have been taken. The classes of later ones say nothing.
pub record IsMapSoFar {P : Type 0} (s : EventSide P) (taken rest : List P) : Type 0 where
  pub is_order : IsLatchOrder s (taken ++ rest)
  pub plain : (name : List ℕ) (u next : P) → IsLatch s.circuit name u next → (IsEnabled s.circuit u → ⊥) → s.class u ≡ 0
  pub each : (before after : List P) (v : P) → taken ≡ before ++ v ∷ after → IsInFirstClass s before v

-- Which enable the next latch is asked about: it differs from a member of each class before, and equals each member of this class that
-- joined before the other latch. None stands for `always`.
abbrev pub IsAsked : {P : Type 0} → EventSide P → List P → P → Option P → Type 0
IsAsked s taken v None = Unit {0}
IsAsked {P} s taken v (Some u) =
    (before : List P) × (after : List P) × (taken ≡ before ++ u ∷ after) × ((k : ℕ) → k < s.class u → DiffersFromMember s taken k v)
    × ((w : P) → Contains before w → s.class w ≡ s.class u → EnablesEqual s w v) × (0 < s.class u)

-- the next latch would found one class too many
abbrev pub IsClassesOver : {P : Type 0} → EventSide P → List P → P → ℕ → Type 0
IsClassesOver s taken v cap = (cap ≤ classes_of s taken) × ((k : ℕ) → k ≤ classes_of s taken → DiffersFromMember s taken k v)
