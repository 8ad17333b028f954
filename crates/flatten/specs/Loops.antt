-- Loops of a flat design: cycles through gates and ports.
use Rattle.std.specs.Prelude.{◌≡◌, ◌⊎◌, ℕ, suc, ◌-◌, ◌<◌, Bool, List, [], ◌∷◌, ◌++◌, map, length, take, drop, slice_get, slice_index_or, Some}
use Rattle.std.specs.List.{All, Contains, filter}
use Rattle.circuit_theory.specs.Names.{ListBefore}
use Rattle.base_tables.specs.Table.{AreDistinct}
use Rattle.elaborate.specs.Flat.{FlatDesign, FlatOf, Kind, gate, latch, port, name_at}

-- a gate or a port has its value in the cycle in which it reads
abbrev pub IsQuick : {P : Type 0} → Kind P → Type 0
IsQuick (gate cover) = Unit {0}
IsQuick (latch edge control init) = ⊥
IsQuick port = Unit {0}

-- the gate or port that drives p reads q
pub record ReadsFrom {P : Type 0} (d : FlatDesign P) (p q : P) : Type 0 where
  pub statement : FlatOf P
  pub there : Contains d.statements statement
  pub drives : statement.out ≡ p
  pub quick : IsQuick statement.kind
  pub reads : Contains statement.reads q

-- distinct signals, each of which is read by the driver of the next, and the last by that of the first
pub record IsCycle {P : Type 0} (d : FlatDesign P) (signals : List P) : Type 0 where
  pub some : 0 < length signals
  pub once : AreDistinct signals
  pub next : (i : ℕ) (p q : P) → slice_get signals i ≡ Some p → slice_get signals (suc i) ≡ Some q → ReadsFrom d q p
  pub closes : (first last : P) → slice_get signals 0 ≡ Some first → slice_get signals (length signals - 1) ≡ Some last → ReadsFrom d first last

abbrev pub IsGate : {P : Type 0} → Kind P → Type 0
IsGate (gate cover) = Unit {0}
IsGate (latch edge control init) = ⊥
IsGate port = ⊥

-- a gate drives the signal
pub record IsGateOut {P : Type 0} (d : FlatDesign P) (p : P) : Type 0 where
  pub statement : FlatOf P
  pub there : Contains d.statements statement
  pub drives : statement.out ≡ p
  pub gate : IsGate statement.kind

-- the second list has those of the first that are meant, in their order
pub data AreKept {P : Type 0} (Meant : P → Type 0) : List P → List P → Type 0 where
  none : AreKept Meant [] []
  kept : {p : P} {ps qs : List P} → Meant p → AreKept Meant ps qs → AreKept Meant (p ∷ ps) (p ∷ qs)
  passed : {p : P} {ps qs : List P} → (Meant p → ⊥) → AreKept Meant ps qs → AreKept Meant (p ∷ ps) qs

-- The nets of a cycle. A net has the name at its driver, so they are what the gates on the cycle drive. No gate drives a
-- ring of ports: there all signals are meant.
abbrev pub AreNetsOf : {P : Type 0} → FlatDesign P → List P → List P → Type 0
AreNetsOf d cycle nets = ((0 < length nets) × AreKept (IsGateOut d) cycle nets) ⊎ ((nets ≡ cycle) × All (λ p. IsGateOut d p → ⊥) cycle)

-- The nets of a cycle in its order, where none comes before the first of them in the order of bytes.
pub record IsLoop (d : FlatDesign (List ℕ)) (names : List (List ℕ)) : Type 0 where
  pub cycle : List (List ℕ)
  pub is_cycle : IsCycle d cycle
  pub front : List (List ℕ)
  pub back : List (List ℕ)
  pub nets : AreNetsOf d cycle (front ++ back)
  pub turned : names ≡ back ++ front
  pub least : (first name : List ℕ) → slice_get names 0 ≡ Some first → Contains names name → ListBefore name first → ⊥

-- the names of the numbers from a place on, and then of those before it; none of them comes before the first
pub record IsNamedTurn (names : List (List ℕ)) (numbers : List ℕ) (words : List (List ℕ)) : Type 0 where
  pub place : ℕ
  pub within : place < length numbers
  pub words_are : words ≡ map (name_at names) (drop place numbers ++ take place numbers)
  pub least : (k : ℕ) → k < length numbers → ListBefore (name_at names (slice_index_or numbers k 0)) (name_at names (slice_index_or numbers place 0)) → ⊥

-- the names of the gates among the numbers, or of all where none is a gate's
abbrev pub AreLoopNames : List (List ℕ) → (ℕ → Bool) → List ℕ → List (List ℕ) → Type 0
AreLoopNames names is_gate numbers words =
    ((0 < length (filter is_gate numbers)) × IsNamedTurn names (filter is_gate numbers) words) ⊎ ((filter is_gate numbers ≡ []) × IsNamedTurn names numbers words)
