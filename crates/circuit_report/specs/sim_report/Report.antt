-- The report of a simulation: the outputs' values and marks in each cycle.
use Rattle.std.specs.Prelude.{◌≡◌, ℕ, ◌+◌, ◌↔◌, Bool, true, List, [], ◌∷◌, ◌++◌, map, length, codes, slice_get, Some, Option}
use Rattle.std.specs.Fmt.{decimal}
use Rattle.std.specs.List.{Contains}
use Rattle.circuit_theory.specs.declared.Mode.{Mode}
use Rattle.circuit_theory.specs.Run.{IsRun, Marked}
use Rattle.circuit_theory.specs.Agree.{EnabledIn}
use Rattle.flat_net.specs.declared.parts.Port.{Port}
use Rattle.flat_net.specs.View.{NetView, circuit_of}
use Rattle.witness_report.specs.Text.{names_text, row_text}
use Rattle.circuit_report.specs.sim_report.Checks.{power_of}

-- the values of all outputs in one cycle, and their marks
pub record Shown : Type 0 where
  pub values : List Bool
  pub marks : List Bool

-- the line of cycle t
abbrev pub cycle_line : ℕ → Shown → List ℕ
cycle_line t shown = codes "cycle " ++ decimal t ++ codes " values " ++ row_text shown.values ++ codes " marks " ++ row_text shown.marks ++ 10 ∷ []

-- the lines of the cycles from one on
abbrev pub cycle_lines : ℕ → List Shown → List ℕ
cycle_lines t [] = []
cycle_lines t (shown ∷ rest) = cycle_line t shown ++ cycle_lines (t + 1) rest

-- the whole report
abbrev pub sim_text : List (List ℕ) → List Shown → List ℕ
sim_text outputs cycles = codes "outputs" ++ names_text outputs ++ 10 ∷ [] ++ cycle_lines 0 cycles

-- a run of the net over the stimulus: in each cycle, each input has the bit that stands under its name, and the latches power up
-- with these bits
pub record IsSimulated (n : NetView) (names : List (List ℕ)) (rows : List (List Bool)) (power : List Bool) (run : ℕ → ℕ → Bool) : Type 0 where
  pub is_run : IsRun (circuit_of n) (length rows) run
  pub powers_up : map (λ l. run 0 l.out.0) n.latches ≡ power
  pub takes : (t k : ℕ) (row : List Bool) (bit : Bool) (port : Port) → slice_get rows t ≡ Some row → slice_get row k ≡ Some bit → Contains n.inputs port → slice_get names k ≡ Some port.name → run t port.signal.0 ≡ bit

-- What is shown of a cycle is right: in each such run the values of the outputs, in their order, and each mark is 1 exactly where
-- the output is settled, with these latches as the enabled ones.
pub record IsShown (n : NetView) (enabled : ℕ → Type 0) (t : ℕ) (run : ℕ → ℕ → Bool) (shown : Shown) : Type 0 where
  pub values : shown.values ≡ map (λ port. run t port.signal.0) n.outputs
  pub each : length shown.marks ≡ length n.outputs
  pub marks : (i : ℕ) (port : Port) (mark : Bool) → slice_get n.outputs i ≡ Some port → slice_get shown.marks i ≡ Some mark → (mark ≡ true) ↔ Marked (circuit_of n) enabled run t port.signal.0

-- The text is the report of the net's run over the stimulus from the power word, with `reset` from the initial values before it, with the
-- marks of the mode. There is such a run.
pub record IsSimReport (mode : Mode) (n : NetView) (names : List (List ℕ)) (rows : List (List Bool)) (power : Option (List ℕ)) (reset : Bool) (text : List ℕ) : Type 0 where
  pub run : ℕ → ℕ → Bool
  pub runs : IsSimulated n names rows (power_of n power reset) run
  pub cycles : List Shown
  pub each : length cycles ≡ length rows
  pub text_is : text ≡ sim_text (map (λ (p : Port). p.name) n.outputs) cycles
  pub shown : (run : ℕ → ℕ → Bool) → IsSimulated n names rows (power_of n power reset) run → (t : ℕ) (shown : Shown) → slice_get cycles t ≡ Some shown → IsShown n (EnabledIn mode (circuit_of n)) t run shown
