-- A circuit of a generated pair: what its words decide.
use Rattle.std.specs.Prelude.{◌≡◌, ℕ, ◌+◌, ◌*◌, ◌<◌, ◌==◌, ◌&&◌, Bool, List, [], ◌∷◌, length, slice_get, slice_index, Some, None}
use Rattle.circuit_theory.specs.declared.Side.{Side}
use Rattle.sec_base.specs.declared.basics.Init.TheVariants as init
use Rattle.flat_net.specs.declared.signals.Signal.{Signal}
use Rattle.flat_net.specs.declared.parts.Port.{Port}
use Rattle.flat_net.specs.declared.parts.Gate.{Gate}
use Rattle.flat_net.specs.declared.parts.LatchAt.{LatchAt}
use Rattle.flat_net.specs.View.{NetView}
use Rattle.job_gen.specs.declared.pair_gen.cells.Cell.{Cell}
use Rattle.job_gen.specs.declared.pair_gen.cells.Cell.TheVariants as cell
use Rattle.job_gen.specs.pair_gen.Kinds.{kind_of, rows_of}
use Rattle.job_gen.specs.pair_gen.Cells.{name_of, output_name, column_of, data_of, shown_by, second_of}

-- the place of a gate, and of its word: stage by stage, layer by layer, column by column
abbrev pub place_of : ℕ → ℕ → ℕ → ℕ
place_of s l c = 1680 * s + 40 * l + c

-- exclusive ors of the first layer of the first stage are regrouped, where that is asked for
abbrev pub is_regrouped : Bool → ℕ → ℕ → Bool
is_regrouped regroup s l = regroup && (s == 0) && (l == 0)

-- the signal is a cell's, by its name
abbrev pub IsOf : Side → NetView → Cell → Signal → Type 0
IsOf circuit net cell signal = slice_get net.names signal.0 ≡ Some (name_of circuit cell)

-- the input of a column
pub record HasInput (circuit : Side) (net : NetView) (c : ℕ) : Type 0 where
  pub port : Port
  pub at : slice_get net.inputs c ≡ Some port
  pub name : port.name ≡ name_of circuit (cell.Input c)

-- the output of a column
pub record HasOutput (circuit : Side) (net : NetView) (c : ℕ) : Type 0 where
  pub port : Port
  pub at : slice_get net.outputs c ≡ Some port
  pub name : port.name ≡ output_name c
  pub shows : IsOf circuit net (shown_by circuit c) port.signal

-- the latch of a stage and column
pub record HasLatch (circuit : Side) (net : NetView) (s c : ℕ) : Type 0 where
  pub latch : LatchAt
  pub at : slice_get net.latches (40 * s + c) ≡ Some latch
  pub name : latch.name ≡ name_of circuit (cell.Latch s c)
  pub takes_over : IsOf circuit net (data_of circuit s c) latch.next
  pub starts : latch.init ≡ init.DontCare

-- The gate of a stage, layer and column, with the word that decides it: it reads its own column of the layer before, and the word's
-- second one, and has the rows of the word's kind.
pub record HasGate (circuit : Side) (regroup : Bool) (word : ℕ) (net : NetView) (s l c : ℕ) : Type 0 where
  pub gate : Gate
  pub at : slice_get net.gates (place_of s l c) ≡ Some gate
  pub is : IsOf circuit net (cell.Gate s l c) gate.out
  pub first : Signal
  pub second : Signal
  pub reads : gate.fanins ≡ first ∷ second ∷ []
  pub reads_first : IsOf circuit net (column_of circuit s l c) first
  pub reads_second : IsOf circuit net (column_of circuit s l (second_of word c)) second
  pub rows : slice_get net.covers gate.cover ≡ Some (rows_of circuit (is_regrouped regroup s l) (kind_of word))

-- a circuit of the pair that these words decide
pub record IsTwin (circuit : Side) (regroup : Bool) (words : List ℕ) (net : NetView) : Type 0 where
  pub input_count : length net.inputs ≡ 40
  pub inputs : (c : ℕ) → c < 40 → HasInput circuit net c
  pub output_count : length net.outputs ≡ 40
  pub outputs : (c : ℕ) → c < 40 → HasOutput circuit net c
  pub latch_count : length net.latches ≡ 120
  pub latches : (s c : ℕ) → s < 3 → c < 40 → HasLatch circuit net s c
  pub gate_count : length net.gates ≡ 5040
  pub gates : (s l c : ℕ) → s < 3 → l < 42 → c < 40 → HasGate circuit regroup (slice_index words (place_of s l c)) net s l c
  pub signal_count : length net.drivers ≡ 5200
  pub clock : net.clock ≡ None
