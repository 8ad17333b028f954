-- The cut net: exposed latches become inputs, and what they take over outputs.
use Rattle.std.specs.Prelude.{◌≡◌, ◌+◌, ℕ, Bool, false, not, List, [], ◌++◌, length, map, take, slice_get, slice_index_or, unwrap_or, Some}
use Rattle.std.specs.List.{filter}
use Rattle.circuit_theory.specs.Circuit.{Circuit}
use Rattle.circuit_theory.specs.Agree.{cut}
use Rattle.base_tables.specs.Table.{is_among}
use Rattle.sec_base.specs.declared.basics.Init.TheVariants as init
use Rattle.flat_net.specs.declared.parts.Port.{Port}
use Rattle.flat_net.specs.declared.parts.LatchAt.{LatchAt}
use Rattle.flat_net.specs.declared.parts.Driver.{Driver}
use Rattle.flat_net.specs.declared.parts.Driver.TheVariants as driver
use Rattle.flat_net.specs.View.{NetView}

-- stands where there is no latch
abbrev pub no_latch : LatchAt
no_latch = record { name = []; next = record { 0 = 0 }; out = record { 0 = 0 }; init = init.Unknown }

-- the latch at a place
abbrev pub latch_at : NetView → ℕ → LatchAt
latch_at n j = slice_index_or n.latches j no_latch

-- the names of the exposed latches
abbrev pub exposed_names : NetView → List ℕ → List (List ℕ)
exposed_names n exposed = map (λ j. (latch_at n j).name) exposed

-- the input that an exposed latch becomes, and the output that shows what it takes over
abbrev pub as_input : LatchAt → Port
as_input l = record { name = l.name; signal = l.out }

abbrev pub as_output : LatchAt → Port
as_output l = record { name = l.name; signal = l.next }

-- the latch stays
abbrev pub stays : List (List ℕ) → LatchAt → Bool
stays names l = not (is_among names l.name)

-- m is n with these latches cut out: signals, gates and covers keep their numbers, and the other latches their order
pub record IsCut (n m : NetView) (exposed : List ℕ) : Type 0 where
  pub inputs : m.inputs ≡ n.inputs ++ map (λ j. as_input (latch_at n j)) exposed
  pub outputs : m.outputs ≡ n.outputs ++ map (λ j. as_output (latch_at n j)) exposed
  pub latches : m.latches ≡ filter (stays (exposed_names n exposed)) n.latches
  pub gates : m.gates ≡ n.gates
  pub covers : m.covers ≡ n.covers
  pub names : m.names ≡ n.names
  pub clock : m.clock ≡ n.clock
  pub size : length m.drivers ≡ length n.drivers

-- d is the cut circuit of c, but for the initial values, of which those of the other latches are left
pub record IsCutCircuit (names : List (List ℕ)) (c d : Circuit ℕ) : Type 0 where
  pub inputs : d.inputs ≡ (cut names c).inputs
  pub outputs : d.outputs ≡ (cut names c).outputs
  pub equations : d.equations ≡ (cut names c).equations

-- what drives a latch's signal after the cut: an input behind the first ones, or the latch at its new place
abbrev pub IsPlaceOf : List (List ℕ) → ℕ → ℕ → List ℕ → Driver → Type 0
IsPlaceOf names inputs rank name (driver.Input i) = (k : ℕ) × (i ≡ inputs + k) × (slice_get names k ≡ Some name)
IsPlaceOf names inputs rank name (driver.Gate j) = ⊥
IsPlaceOf names inputs rank name (driver.Latch j) = (j ≡ rank) × (is_among names name ≡ false)

-- such a driver for each latch in turn
abbrev pub ArePlaces : NetView → List (List ℕ) → List Driver → Type 0
ArePlaces n names places =
    (j : ℕ) (l : LatchAt) → slice_get n.latches j ≡ Some l →
    (d : Driver) × (slice_get places j ≡ Some d) × IsPlaceOf names (length n.inputs) (length (filter (stays names) (take j n.latches))) l.name d

-- a driver with a latch's replaced by the one at its place
abbrev pub moved_to : List Driver → Driver → Driver
moved_to places (driver.Input i) = driver.Input i
moved_to places (driver.Gate j) = driver.Gate j
moved_to places (driver.Latch j) = unwrap_or (slice_get places j) (driver.Latch j)

-- the drivers after the cut: each latch's is that of its new place
pub record AreMoved (n : NetView) (names : List (List ℕ)) (drivers : List Driver) : Type 0 where
  pub places : List Driver
  pub right : ArePlaces n names places
  pub moved : drivers ≡ map (moved_to places) n.drivers
