-- The net circuit of a design: the design without its ports.
use Rattle.std.specs.Prelude.{◌≡◌, ℕ, ◌<◌, List, map}
use Rattle.std.specs.List.{Contains}
use Rattle.circuit_theory.specs.Cover.{Cover}
use Rattle.circuit_theory.specs.Circuit.{Circuit, Equation, Gate, Port, IsLatch}
use Rattle.circuit_theory.specs.Joined.{moved, moved_name, moved_start}
use Rattle.circuit_theory.specs.Flattened.{Follows}
use Rattle.circuit_theory.specs.Places.{IsPlace}
use Rattle.net_assembly.specs.net_alike.Renumbered.{latch_rows}

-- the place has a signal of the net, and following its ports back ends where that signal is driven
pub record HasSignal {P : Type 0} (d : Circuit P) (size : ℕ) (origin : ℕ → P) (p : P) (s : ℕ) : Type 0 where
  pub within : s < size
  pub follows : Follows d p (origin s)

-- The net is the design without its ports, each place p read as the signal `signal p`: the inputs, outputs, latches and initial
-- values in their order, and each gate with its fan-ins and its cover; no other equation. A port's two sides are one signal.
-- `origin` is the place at which a signal is driven. Each place has its signal, but those that only the clock has.
pub record IsFlatCircuit {P : Type 0} (d : Circuit P) (net : Circuit ℕ) (size : ℕ) (clocked : P → Type 0) (origin : ℕ → P) (signal : P → ℕ) : Type 0 where
  pub inputs : net.inputs ≡ map (moved_name signal) d.inputs
  pub outputs : net.outputs ≡ map (moved_name signal) d.outputs
  pub latches : latch_rows net.equations ≡ map (moved signal) (latch_rows d.equations)
  pub starts : net.starts ≡ map (moved_start signal) d.starts
  pub gate : (out : P) (fanins : List P) (cover : Cover) → Contains d.equations (Gate out fanins cover) → Contains net.equations (Gate (signal out) (map signal fanins) cover)
  pub only : (e : Equation ℕ) → Contains net.equations e → (x : Equation P) × Contains d.equations x × (moved signal x ≡ e)
  pub no_port : (out from : ℕ) → Contains net.equations (Port out from) → ⊥
  pub port : (out from : P) → Contains d.equations (Port out from) → signal out ≡ signal from
  pub back : (s : ℕ) → s < size → signal (origin s) ≡ s
  pub entered : (name : List ℕ) (p : P) → Contains d.inputs (record { name = name; place = p }) → HasSignal d size origin p (signal p)
  pub shown : (name : List ℕ) (p : P) → Contains d.outputs (record { name = name; place = p }) → HasSignal d size origin p (signal p)
  pub read : (out : P) (fanins : List P) (cover : Cover) → Contains d.equations (Gate out fanins cover) → HasSignal d size origin out (signal out) × ((p : P) → Contains fanins p → HasSignal d size origin p (signal p))
  pub taken : (name : List ℕ) (out next : P) → IsLatch d name out next → HasSignal d size origin out (signal out) × HasSignal d size origin next (signal next)
  pub started : map (moved_start origin) net.starts ≡ d.starts
  pub placed : (p : P) → IsPlace d p → (clocked p → ⊥) → HasSignal d size origin p (signal p)
