-- The signals of a net within one cycle, where each input and each latch is a variable.
use Rattle.std.specs.Prelude.{◌≡◌, ◌↔◌, ◌⊎◌, ℕ, ◌+◌, ◌*◌, ◌<◌, ◌^◌, Bool, List, [], ◌∷◌, length, map, slice_get, slice_index_or, Option, Some, None, option_and_then, All, Contains}
use Rattle.std.specs.List.{sum_by}
use Rattle.std.specs.List.Sorted.{IsStrictlyIncreasing}
use Rattle.circuit_theory.specs.Cover.{cover_value}
use Rattle.circuit_theory.specs.Circuit.{Meets, Reaches}
use Rattle.flat_net.specs.declared.parts.Gate.{Gate}
use Rattle.flat_net.specs.declared.parts.Driver.{Driver}
use Rattle.flat_net.specs.declared.parts.Driver.TheVariants as driver
use Rattle.flat_net.specs.View.{NetView, circuit_of, cover_of}
use Rattle.aig.specs.declared.node.Lit.{Lit}
use Rattle.aig.specs.declared.node.Node.{Node}
use Rattle.aig.specs.declared.node.Node.TheVariants.{Input}
use Rattle.aig.specs.Graph.{IsLitOf}
use Rattle.aig.specs.Values.{value}
use Rattle.aig.specs.Rules.{IsCoverOf}
use Rattle.aig.specs.Builds.{HasTreeLit}
use Rattle.aig.specs.Cone.{IsReached}
use Rattle.flat_net.specs.Weights.{driver_weight}
use Rattle.block_refine.specs.declared.latch_blocks.variables.Variables.{Variables}

-- what all inputs, latches and gates count together, each once
abbrev pub net_weight : NetView → ℕ
net_weight n = sum_by (λ d. driver_weight n (Some d)) n.drivers

-- one small variable for each input, and for each latch
pub record AreVariables (n : NetView) (w : Variables) : Type 0 where
  pub inputs : length w.inputs ≡ length n.inputs
  pub latches : length w.latches ≡ length n.latches
  pub small_inputs : All (λ k. k + 1 < 2 ^ 32) w.inputs
  pub small_latches : All (λ k. k + 1 < 2 ^ 32) w.latches

-- the variable of an input or a latch
abbrev pub variable_of : Variables → Driver → Option ℕ
variable_of w (driver.Input i) = slice_get w.inputs i
variable_of w (driver.Gate j) = None
variable_of w (driver.Latch j) = slice_get w.latches j

-- the variable of the signal, where it is an input's or a latch's
abbrev pub variable_at : NetView → Variables → ℕ → Option ℕ
variable_at n w s = option_and_then (variable_of w) (slice_get n.drivers s)

-- values of all signals that meet the gates, where each input and each latch has its variable's bit
pub record IsReading (n : NetView) (w : Variables) (a v : ℕ → Bool) : Type 0 where
  pub meets : Meets (circuit_of n) v
  pub variables : (p k : ℕ) → variable_at n w p ≡ Some k → v p ≡ a k

-- the variable is that of an input or a latch that the signal is reached from
abbrev pub IsLeaf : NetView → Variables → ℕ → ℕ → Type 0
IsLeaf n w s k = (p : ℕ) × Reaches (circuit_of n) s p × (variable_at n w p ≡ Some k)

-- the literal is the variable of an input or a latch
abbrev pub IsVariableLit : NetView → Variables → List Node → ℕ → ℕ → Type 0
IsVariableLit n w g s x = (k : ℕ) × (variable_at n w s ≡ Some k) × IsLitOf g (Input k) x

-- The literal is that of the signal's tree, has the signal's value under each assignment, and reads no variable but the signal's.
pub record IsSignalLit (n : NetView) (w : Variables) (g : List Node) (s : ℕ) (x : Lit) : Type 0 where
  pub within : x.0 < 2 * length g
  pub tree : HasTreeLit (circuit_of n) g (IsVariableLit n w g) s x.0
  pub values : (a v : ℕ → Bool) → IsReading n w a v → v s ≡ value g a x.0
  pub reads : (m k : ℕ) → IsReached g (x.0 ∷ []) m → slice_get g m ≡ Some (Input k) → IsLeaf n w s k

-- the literals of the signals in their order
abbrev pub AreSignalLits : NetView → Variables → List Node → List Lit → Type 0
AreSignalLits n w g lits = (s : ℕ) (x : Lit) → slice_get lits s ≡ Some x → IsSignalLit n w g s x

-- the literal of a signal
abbrev pub lit_at : List Lit → ℕ → Lit
lit_at lits s = slice_index_or lits s (record { 0 = 0 })

-- the literal is the cover of the gate's fan-ins' literals
pub record IsGateLit (n : NetView) (j : ℕ) (lits : List Lit) (g h : List Node) (x : Lit) : Type 0 where
  pub gate : Gate
  pub at : slice_get n.gates j ≡ Some gate
  pub is : IsCoverOf h (cover_of n.covers gate) (map (λ f. (lit_at lits f.0).0) gate.fanins) x.0
  pub value : (a : ℕ → Bool) → value h a x.0 ≡ cover_value (cover_of n.covers gate) (map (λ f. value g a (lit_at lits f.0).0) gate.fanins)
  pub within : x.0 < 2 * length h

-- exactly the variables of the signal
abbrev pub AreLeaves : NetView → Variables → ℕ → List ℕ → Type 0
AreLeaves n w s vars = (k : ℕ) → Contains vars k ↔ IsLeaf n w s k

-- what one of both lists has, each once, increasing
pub record AreMerged (left right all : List ℕ) : Type 0 where
  pub increasing : IsStrictlyIncreasing all
  pub each : (k : ℕ) → Contains all k ↔ (Contains left k ⊎ Contains right k)
