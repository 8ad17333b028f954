-- A circuit of a generated pair while it is made: the inputs have the first signals, then the latches, then the gates.
use Rattle.std.specs.Prelude.{◌≡◌, ℕ, ◌+◌, ◌-◌, ◌*◌, ◌/◌, ◌%◌, ◌<◌, nat_lt, Bool, true, false, if◌then◌else◌, List, [], ◌∷◌, map, length, slice_get, slice_index, Some, None}
use Rattle.std.specs.List.{range_with_len}
use Rattle.circuit_theory.specs.Cover.{Cover}
use Rattle.circuit_theory.specs.declared.Side.{Side}
use Rattle.sec_base.specs.declared.basics.Init.TheVariants as init
use Rattle.flat_net.specs.declared.signals.Signal.{Signal}
use Rattle.flat_net.specs.declared.parts.Port.{Port}
use Rattle.flat_net.specs.declared.parts.Gate.{Gate}
use Rattle.flat_net.specs.declared.parts.LatchAt.{LatchAt}
use Rattle.flat_net.specs.Makes.{MakerView}
use Rattle.job_gen.specs.declared.pair_gen.cells.Cell.{Cell}
use Rattle.job_gen.specs.declared.pair_gen.cells.Cell.TheVariants as cell
use Rattle.job_gen.specs.declared.pair_gen.kinds.Kind.{Kind}
use Rattle.job_gen.specs.declared.pair_gen.kinds.Kind.TheVariants as kind
use Rattle.job_gen.specs.pair_gen.Kinds.{kind_of, rows_of}
use Rattle.job_gen.specs.pair_gen.Cells.{name_of, output_name, column_of, data_of, shown_by, second_of}
use Rattle.job_gen.specs.pair_gen.Twins.{is_regrouped}

-- the first so many values of a sequence
unfoldable pub first_of : {X : Type 0} → (ℕ → X) → ℕ → List X
first_of f n = map f (range_with_len 0 n)

-- the latch and the gate of a place
abbrev pub latch_cell : ℕ → Cell
latch_cell j = cell.Latch (j / 40) (j % 40)

abbrev pub gate_cell : ℕ → Cell
gate_cell k = cell.Gate (k / 1680) (k / 40 % 42) (k % 40)

-- the cell of a signal's number, and back
abbrev pub cell_at : ℕ → Cell
cell_at n = if nat_lt n 40 then cell.Input n else if nat_lt n 160 then latch_cell (n - 40) else gate_cell (n - 160)

abbrev pub number_of : Cell → ℕ
number_of (cell.Input c) = c
number_of (cell.Latch s c) = 40 + 40 * s + c
number_of (cell.Gate s l c) = 160 + 1680 * s + 40 * l + c

abbrev pub signal_of : Cell → Signal
signal_of cell = record { 0 = number_of cell }

abbrev pub input_at : Side → ℕ → Port
input_at circuit c = record { name = name_of circuit (cell.Input c); signal = signal_of (cell.Input c) }

abbrev pub output_at : Side → ℕ → Port
output_at circuit c = record { name = output_name c; signal = signal_of (shown_by circuit c) }

-- the latch of a place, with what it takes over, or itself until that is set
abbrev pub latch_at : Side → Bool → ℕ → LatchAt
latch_at circuit set j = record {
  name = name_of circuit (latch_cell j);
  next = if set then signal_of (data_of circuit (j / 40) (j % 40)) else signal_of (latch_cell j);
  out = signal_of (latch_cell j);
  init = init.DontCare;
}

-- the number of the rows of a kind
abbrev pub cover_number : Bool → Kind → ℕ
cover_number regrouped kind.And = 0
cover_number regrouped kind.Or = 1
cover_number false kind.Xor = 2
cover_number true kind.Xor = 4
cover_number regrouped kind.AndNot = 3

-- the rows of the kinds, and of an exclusive or that is regrouped
abbrev pub covers_of : Side → Bool → List Cover
covers_of circuit regroup =
    rows_of circuit false kind.And ∷ rows_of circuit false kind.Or ∷ rows_of circuit false kind.Xor ∷ rows_of circuit false kind.AndNot
    ∷ (if regroup then rows_of circuit true kind.Xor ∷ [] else [])

-- the gate of a stage, layer and column with this word
abbrev pub gate_of : Side → Bool → ℕ → ℕ → ℕ → ℕ → Gate
gate_of circuit regroup word s l c = record {
  fanins = signal_of (column_of circuit s l c) ∷ signal_of (column_of circuit s l (second_of word c)) ∷ [];
  cover = cover_number (is_regrouped regroup s l) (kind_of word);
  out = signal_of (cell.Gate s l c);
}

-- the gate of a place
abbrev pub gate_at : Side → Bool → List ℕ → ℕ → Gate
gate_at circuit regroup words k = gate_of circuit regroup (slice_index words k) (k / 1680) (k / 40 % 42) (k % 40)

-- the net of so many inputs, and then so many latches, and then so many gates
pub record IsSketch (circuit : Side) (regroup : Bool) (words : List ℕ) (rows : List Cover) (made : MakerView) (i j k : ℕ) : Type 0 where
  pub inputs : made.net.inputs ≡ first_of (input_at circuit) i
  pub outputs : made.net.outputs ≡ []
  pub gates : made.net.gates ≡ first_of (gate_at circuit regroup words) k
  pub latches : made.net.latches ≡ first_of (latch_at circuit false) j
  pub covers : made.net.covers ≡ rows
  pub size : length made.net.drivers ≡ i + j + k
  pub names : made.net.names ≡ first_of (λ n. name_of circuit (cell_at n)) (i + j + k)
  pub clock : made.net.clock ≡ None
  pub set : made.set ≡ first_of (λ n. false) j

-- the net with the first so many latches tied to what they take over
pub record IsTied (circuit : Side) (before made : MakerView) (n : ℕ) : Type 0 where
  pub net : made.net ≡ record before.net { latches = made.net.latches }
  pub latch_count : length made.net.latches ≡ 120
  pub latches : (j : ℕ) → j < 120 → slice_get made.net.latches j ≡ Some (latch_at circuit (nat_lt j n) j)
  pub set_count : length made.set ≡ 120
  pub set : (j : ℕ) → j < 120 → slice_get made.set j ≡ Some (nat_lt j n)
