-- The differences of two circuits on a stimulus, and since when their pairs are settled.
use Rattle.std.specs.Prelude.{◌≡◌, ◌<◌, ◌≤◌, ◌^◌, ◌↔◌, ℕ, Bool, false, List, map, length, slice_get, Option, Some, None, Result, Ok, Err, IfOk}
use Rattle.std.specs.List.{Contains}
use Rattle.circuit_theory.specs.declared.Mode.{Mode}
use Rattle.circuit_theory.specs.Circuit.{Circuit, IsLatch}
use Rattle.circuit_theory.specs.Run.{IsRun}
use Rattle.circuit_theory.specs.Agree.{cut, PairAt, IsSettled}
use Rattle.circuit_theory.specs.Replay.{AreDifferences, Difference as PlacedDifference}
use Rattle.flat_net.specs.View.{NetView, circuit_of}
use Rattle.flat_net.specs.declared.parts.Port.{Port}
use Rattle.signal_graph.specs.inner_cone.latch_cone.Cones.{MarksEnabled}
use Rattle.base_tables.specs.Table.{AreDistinct}
use Rattle.sec_base.specs.NoMemory.{NoMemory}
use Rattle.sec_setup.specs.Matching.{InterfacesMatch}
use Rattle.sec_setup.specs.ports.Pairs.{NamedPair, named_pairs}
use Rattle.cycle_sim.specs.declared.pair_runs.differences.Difference.{Difference}
use Rattle.cycle_sim.specs.declared.pair_runs.differences.Replayed.{Replayed}
use Rattle.cycle_sim.specs.declared.pair_runs.differences.Settling.{Settling}
use Rattle.job_circuit.specs.declared.replay.replay_header.error.ReplayError.{ReplayError}
use Rattle.job_circuit.specs.declared.replay.replay_header.error.ReplayError.TheVariants as refused
use Rattle.job_circuit.specs.replay.replay_header.Header.{FitsBoth, FitsOr, opened}
use Rattle.cycle_sim.specs.pair_runs.Showing.{called}

-- A run over a stimulus, with one cycle for each row: each input that the header names has in each cycle the bit that stands under
-- its name, and the latches power up with zeros. An input that the header doesn't name is free.
pub record IsReplayRun {P : Type 0} (c : Circuit P) (header : List (List ℕ)) (rows : List (List Bool)) (run : ℕ → P → Bool) : Type 0 where
  pub is_run : IsRun c (length rows) run
  pub takes : (t k : ℕ) (row : List Bool) (bit : Bool) (name : List ℕ) (p : P) → slice_get rows t ≡ Some row → slice_get row k ≡ Some bit → slice_get header k ≡ Some name →
      Contains c.inputs (record { name = name; place = p }) → run t p ≡ bit
  pub powers_up : (name : List ℕ) (u next : P) → IsLatch c name u next → run 0 u ≡ false

-- the places of a pair
abbrev pub places_of : {P Q : Type 0} → NamedPair P Q → PairAt P Q
places_of pair = record { left = pair.left; right = pair.right }

-- The differences, under their pairs' names, of two circuits in which the latches of these names are cut open: in any two runs over
-- the stimulus, by cycle and then by pair, each pair that is settled in both and differs. There are such runs.
pub record AreReplayed {P Q : Type 0} (mode : Mode) (names : List (List ℕ)) (a : Circuit P) (b : Circuit Q) (header : List (List ℕ)) (rows : List (List Bool)) (differences : List Difference) : Type 0 where
  pub found : List PlacedDifference
  pub named : differences ≡ map (called (map (λ (pair : NamedPair P Q). pair.name) (named_pairs names a b))) found
  pub right_is : (left : ℕ → P → Bool) (right : ℕ → Q → Bool) → IsReplayRun (cut names a) header rows left → IsReplayRun (cut names b) header rows right →
      AreDifferences mode (cut names a) (cut names b) (map places_of (named_pairs names a b)) (length rows) left right found
  pub left_run : (run : ℕ → P → Bool) × IsReplayRun (cut names a) header rows run
  pub right_run : (run : ℕ → Q → Bool) × IsReplayRun (cut names b) header rows run

-- the pair is settled in both runs
abbrev pub AreBothSettled : {P Q : Type 0} → Mode → Circuit P → Circuit Q → (ℕ → P → Bool) → (ℕ → Q → Bool) → PairAt P Q → ℕ → Type 0
AreBothSettled mode a b left right pair t = IsSettled mode a left t pair.left × IsSettled mode b right t pair.right

-- Of n cycles this is the first in which the pair is settled in both runs, and it is so from there on; none where it is so in no cycle.
abbrev pub IsSettledFrom : {P Q : Type 0} → Mode → Circuit P → Circuit Q → ℕ → (ℕ → P → Bool) → (ℕ → Q → Bool) → PairAt P Q → Option ℕ → Type 0
IsSettledFrom mode a b n left right pair None = (t : ℕ) → t < n → AreBothSettled mode a b left right pair t → ⊥
IsSettledFrom mode a b n left right pair (Some first) = (first < n) × ((t : ℕ) → t < n → AreBothSettled mode a b left right pair t ↔ (first ≤ t))

-- Since when the pairs of two circuits are settled, in which the latches of these names are cut open: each pair by its name, in order, and
-- from which cycle on it is settled in both, in any two runs over the stimulus.
pub record AreSettled {P Q : Type 0} (mode : Mode) (names : List (List ℕ)) (a : Circuit P) (b : Circuit Q) (header : List (List ℕ)) (rows : List (List Bool)) (settlings : List Settling) : Type 0 where
  pub named : map (λ (s : Settling). s.pair) settlings ≡ map (λ (pair : NamedPair P Q). pair.name) (named_pairs names a b)
  pub right_is : (left : ℕ → P → Bool) (right : ℕ → Q → Bool) → IsReplayRun (cut names a) header rows left → IsReplayRun (cut names b) header rows right →
      (j : ℕ) (pair : NamedPair P Q) (s : Settling) → slice_get (named_pairs names a b) j ≡ Some pair → slice_get settlings j ≡ Some s →
      IsSettledFrom mode (cut names a) (cut names b) (length rows) left right (places_of pair) s.first

-- what two nets show, where the header fits both: the latches that it names are cut open
pub record IsReplay (mode : Mode) (a b : NetView) (header : List (List ℕ)) (rows : List (List Bool)) (replayed : Replayed) : Type 0 where
  pub differences : AreReplayed mode (opened a b header) (circuit_of a) (circuit_of b) header rows replayed.differences
  pub settled : AreSettled mode (opened a b header) (circuit_of a) (circuit_of b) header rows replayed.settlings

-- what they show, or the first name that doesn't fit
abbrev pub Replays : Mode → NetView → NetView → List (List ℕ) → List (List Bool) → Result Replayed ReplayError → Type 0
Replays mode a b header rows (Ok replayed) = FitsBoth a b header × IsReplay mode a b header rows replayed
Replays mode a b header rows (Err refused.NoMemory) = Unit {0}
Replays mode a b header rows (Err (refused.Unknown name)) = FitsOr a b header (Err (refused.Unknown name))
Replays mode a b header rows (Err (refused.Missing name)) = FitsOr a b header (Err (refused.Missing name))

-- The header fits both nets, or this is the first name that doesn't, whichever latches count as enabled.
abbrev pub HasFitting : NetView → NetView → List (List ℕ) → Result Replayed ReplayError → Type 0
HasFitting a b header (Ok replayed) = FitsBoth a b header
HasFitting a b header (Err e) = FitsOr a b header (Err e)

-- the header, of which this is the table, fits both nets, and these are the names of the latches that are cut open
pub record IsFitting (a b : NetView) (enabled_a enabled_b : List Bool) (table names header : List (List ℕ)) (rows : List (List Bool)) : Type 0 where
  pub distinct : AreDistinct (map (λ (p : Port). p.name) b.outputs)
  pub matches : InterfacesMatch a b
  pub left_bits : length enabled_a ≡ length a.latches
  pub right_bits : length enabled_b ≡ length b.latches
  pub same : table ≡ header
  pub fits : FitsBoth a b table
  pub named : names ≡ opened a b table
  pub few : length rows < 2 ^ 32

-- what is found is what both nets show in each mode whose enabled latches are marked
abbrev pub FindsReplay : NetView → NetView → List Bool → List Bool → List (List ℕ) → List (List Bool) → Result Replayed NoMemory → Type 0
FindsReplay a b enabled_a enabled_b header rows found = (mode : Mode) → MarksEnabled mode a enabled_a → MarksEnabled mode b enabled_b → IfOk found (IsReplay mode a b header rows)
