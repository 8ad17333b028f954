-- What the signals that lead back to a signal read besides.
use Rattle.std.specs.Prelude.{◌≡◌, ◌≢◌, ◌⊎◌, ℕ, ◌<◌, List, [], ◌∷◌, ◌++◌, length, Contains}
use Rattle.signal_graph.specs.inner_cone.latch_cone.circuit_theory.Circuit.{IsSource, Reaches}
use Rattle.signal_graph.specs.inner_cone.latch_cone.flat_net.Signal.{Signal}
use Rattle.signal_graph.specs.inner_cone.latch_cone.flat_net.View.{NetView, circuit_of}
use Rattle.signal_graph.specs.inner_cone.Inner.{LeadsAside, IsLow}

-- Signals that are reached from one and don't lead back to another, by which each input and other latch is reached that is reached at
-- all.
pub record AreSides (n : NetView) (from own : ℕ) (sides : List Signal) : Type 0 where
  pub within : (r : Signal) → Contains sides r → r.0 < length n.drivers
  pub reached : (r : Signal) → Contains sides r → Reaches (circuit_of n) from r.0
  pub aside : (r : Signal) → Contains sides r → LeadsAside n own r.0
  pub all : (s : ℕ) → IsSource (circuit_of n) s → s ≢ own → Reaches (circuit_of n) from s → (r : Signal) × Contains sides r × Reaches (circuit_of n) r.0 s

-- a signal that is reached and has a lesser number, or is another source
pub record IsSomeSide (n : NetView) (ranks : List ℕ) (least from own s : ℕ) : Type 0 where
  pub within : s < length n.drivers
  pub reached : Reaches (circuit_of n) from s
  pub aside : IsLow ranks least s ⊎ (IsSource (circuit_of n) s × (s ≢ own))

-- all of these are
abbrev pub AreSomeSides : NetView → List ℕ → ℕ → ℕ → ℕ → List Signal → Type 0
AreSomeSides n ranks least from own sides = (r : Signal) → Contains sides r → IsSomeSide n ranks least from own r.0

-- what is there stays
abbrev pub AreKept : List Signal → List Signal → Type 0
AreKept old new = (r : Signal) → Contains old r → Contains new r

-- the signal is put last if it is low
abbrev pub IsLowPut : List ℕ → ℕ → List Signal → List Signal → Signal → Type 0
IsLowPut ranks least old new s = ((new ≡ old ++ s ∷ []) × IsLow ranks least s.0) ⊎ ((new ≡ old) × (IsLow ranks least s.0 → ⊥))
