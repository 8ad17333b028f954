-- A latch is given its class.
use Rattle.std.specs.Prelude.{◌≡◌, ℕ, max, List, [], ◌∷◌, ◌++◌, slice_set, Contains}
use Rattle.circuit_theory.specs.Joined.{Either}
use Rattle.circuit_theory.specs.Frame.{EventSide}
use Rattle.circuit_theory.specs.Classes.{classes_of}
use Rattle.circuit_theory.specs.EventTotals.{IsMapSoFar}
use Rattle.event_nodes.specs.Nodes.{EventGraphView}
use Rattle.event_nodes.specs.View.{EventCircuitView}
use Rattle.edbf_unfold.specs.class_queries.Enables.{class_map, both_of, IsEnableFunction}

-- the circuit with this class for the latch with this position
abbrev pub with_class : EventCircuitView → ℕ → ℕ → EventCircuitView
with_class e j class = record e { classes = slice_set e.classes j class }

-- The next latch has been given this class: the class map of the two circuits goes on from there to that of the two circuits with the class.
pub record HasJoined (a b c d : EventCircuitView) (taken rest : List (Either ℕ ℕ)) (v : Either ℕ ℕ) (class : ℕ) : Type 0 where
  pub map : IsMapSoFar (both_of c d) (taken ++ v ∷ []) rest
  pub number : classes_of (both_of c d) (taken ++ v ∷ []) ≡ max (classes_of (both_of a b) taken) class
  pub class_is : class_map c d v ≡ class
  pub kept : (u : Either ℕ ℕ) → Contains taken u → class_map a b u ≡ class_map c d u
  pub functions : (w : EventGraphView) (u : Either ℕ ℕ) (enable care : ℕ) → Contains (taken ++ v ∷ []) u → IsEnableFunction (both_of a b) w u enable care → IsEnableFunction (both_of c d) w u enable care

-- each entry of the table is the enable of a latch that was taken, with the literals of the enable and of its care and the class of the latch
abbrev pub AreKnownEnables : EventSide (Either ℕ ℕ) → EventGraphView → List (Either ℕ ℕ) → List ((ℕ × ℕ) × ℕ) → Type 0
AreKnownEnables s w taken table = (p : ℕ × ℕ) (class : ℕ) → Contains table (p, class) → (u : Either ℕ ℕ) × Contains taken u × (s.class u ≡ class) × IsEnableFunction s w u p.0 p.1

-- Latches of one class, each with the literals of its enable and of its care: each was taken and is of this class, and each latch of the
-- class that was taken has the literals of one of them.
pub record AreMembers (s : EventSide (Either ℕ ℕ)) (w : EventGraphView) (taken : List (Either ℕ ℕ)) (class : ℕ) (members : List (Either ℕ ℕ × (ℕ × ℕ))) : Type 0 where
  pub each : (m : Either ℕ ℕ × (ℕ × ℕ)) → Contains members m → Contains taken m.0 × (s.class m.0 ≡ class) × IsEnableFunction s w m.0 m.1.0 m.1.1
  pub all : (u : Either ℕ ℕ) → Contains taken u → s.class u ≡ class → (m : Either ℕ ℕ × (ℕ × ℕ)) × Contains members m × IsEnableFunction s w u m.1.0 m.1.1
