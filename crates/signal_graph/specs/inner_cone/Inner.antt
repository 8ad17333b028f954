-- Numbers of signals, and what of a cone leads back to a signal.
use Rattle.std.specs.Prelude.{◌≡◌, ◌⊎◌, ℕ, ◌<◌, ◌≤◌, List, [], ◌∷◌, ◌++◌, length, slice_index_or, All, Contains}
use Rattle.std.specs.List.Sorted.{IsStrictlyIncreasing}
use Rattle.signal_graph.specs.inner_cone.latch_cone.circuit_theory.Circuit.{Reads, Reaches}
use Rattle.signal_graph.specs.inner_cone.latch_cone.flat_net.View.{NetView, circuit_of}
use Rattle.signal_graph.specs.inner_cone.latch_cone.Cones.{AreSome}

-- no signal reads one with a greater number
abbrev pub AreRanked : NetView → List ℕ → Type 0
AreRanked n ranks = (s q : ℕ) → Reads (circuit_of n) s q → slice_index_or ranks q 0 ≤ slice_index_or ranks s 0

-- no way through gates leads from the signal back to this one
abbrev pub LeadsAside : NetView → ℕ → ℕ → Type 0
LeadsAside n own s = Reaches (circuit_of n) s own → ⊥

-- Signals that are reached from one, each once, increasing, among them all that lead back to another: what isn't there, of what
-- they read, leads aside.
pub record AreInside (n : NetView) (from own : ℕ) (signals : List ℕ) : Type 0 where
  pub increasing : IsStrictlyIncreasing signals
  pub within : All (λ s. s < length n.drivers) signals
  pub reached : (s : ℕ) → Contains signals s → Reaches (circuit_of n) from s
  pub begins : Contains signals from ⊎ LeadsAside n own from
  pub closed : (s q : ℕ) → Contains signals s → Reads (circuit_of n) s q → Contains signals q ⊎ LeadsAside n own q

-- the signal has a lesser number
abbrev pub IsLow : List ℕ → ℕ → ℕ → Type 0
IsLow ranks least s = slice_index_or ranks s 0 < least

-- signals that are reached from one, among them all that are reached through none that has a lesser number
pub record AreHigh (n : NetView) (ranks : List ℕ) (least from : ℕ) (seen : List ℕ) : Type 0 where
  pub some : AreSome n from seen
  pub begins : Contains seen from ⊎ IsLow ranks least from
  pub closed : (s q : ℕ) → Contains seen s → Reads (circuit_of n) s q → Contains seen q ⊎ IsLow ranks least q

-- the signal is low and nothing is put, or it is there, put last if it wasn't before
abbrev pub IsHighPut : List ℕ → ℕ → List ℕ → List ℕ → ℕ → Type 0
IsHighPut ranks least old new s = ((new ≡ old) × IsLow ranks least s) ⊎ (((new ≡ old) × Contains old s) ⊎ ((new ≡ old ++ s ∷ []) × (Contains old s → ⊥)))
