-- How a net grows.
use Rattle.std.specs.Prelude.{ℕ, zero, suc, Bool, List, [], ◌∷◌, ◌++◌, length, Some, None}
use Rattle.circuit_theory.specs.Cover.{Cover}
use Rattle.sec_base.specs.declared.basics.Init.{Init}
use Rattle.flat_net.specs.declared.signals.Signal.{Signal}
use Rattle.flat_net.specs.declared.parts.LatchAt.{LatchAt}
use Rattle.flat_net.specs.declared.parts.Driver.TheVariants as driver
use Rattle.flat_net.specs.View.{NetView}

-- the net without signals
abbrev pub empty_net : NetView
empty_net = record { inputs = []; outputs = []; gates = []; latches = []; covers = []; drivers = []; names = []; clock = None }

-- the signal that comes next
abbrev pub new_signal : NetView → Signal
new_signal n = record { 0 = length n.drivers }

-- one input more, on a new signal
abbrev pub with_input : NetView → List ℕ → NetView
with_input n name = record n {
  inputs = n.inputs ++ (record { name = name; signal = new_signal n }) ∷ [];
  drivers = n.drivers ++ driver.Input (length n.inputs) ∷ [];
  names = n.names ++ name ∷ [];
}

-- one latch more, on a new signal; until its next is set it takes over itself
abbrev pub with_latch : NetView → List ℕ → Init → NetView
with_latch n name init = record n {
  latches = n.latches ++ (record { name = name; next = new_signal n; out = new_signal n; init = init }) ∷ [];
  drivers = n.drivers ++ driver.Latch (length n.latches) ∷ [];
  names = n.names ++ name ∷ [];
}

-- one gate more, on a new signal
abbrev pub with_gate : NetView → List ℕ → List Signal → ℕ → NetView
with_gate n name fanins cover = record n {
  gates = n.gates ++ (record { fanins = fanins; cover = cover; out = new_signal n }) ∷ [];
  drivers = n.drivers ++ driver.Gate (length n.gates) ∷ [];
  names = n.names ++ name ∷ [];
}

-- one cover more
abbrev pub with_cover : NetView → Cover → NetView
with_cover n cover = record n { covers = n.covers ++ cover ∷ [] }

-- one output more
abbrev pub with_output : NetView → List ℕ → Signal → NetView
with_output n name s = record n { outputs = n.outputs ++ (record { name = name; signal = s }) ∷ [] }

-- the latches with another next at place j
abbrev pub next_set : List LatchAt → ℕ → Signal → List LatchAt
next_set [] j next = []
next_set (l ∷ ls) zero next = (record l { next = next }) ∷ ls
next_set (l ∷ ls) (suc j) next = l ∷ next_set ls j next

-- latch j takes over another signal
abbrev pub with_next : NetView → ℕ → Signal → NetView
with_next n j next = record n { latches = next_set n.latches j next }

-- the latches with another initial value at place j
abbrev pub init_set : List LatchAt → ℕ → Init → List LatchAt
init_set [] j init = []
init_set (l ∷ ls) zero init = (record l { init = init }) ∷ ls
init_set (l ∷ ls) (suc j) init = l ∷ init_set ls j init

-- latch j has another initial value
abbrev pub with_init : NetView → ℕ → Init → NetView
with_init n j init = record n { latches = init_set n.latches j init }

-- a clock of this name
abbrev pub with_clock : NetView → List ℕ → NetView
with_clock n name = record n { clock = Some name }

-- a net under construction: the net so far, and for each latch whether its next was set
pub record MakerView : Type 0 where
  pub net : NetView
  pub set : List Bool
