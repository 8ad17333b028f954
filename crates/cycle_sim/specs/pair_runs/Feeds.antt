-- Circuits that are fed the rows of a stimulus, and what both of them show.
use Rattle.std.specs.Prelude.{◌≡◌, ℕ, ◌+◌, ◌^◌, ◌<◌, Bool, false, List, [], ◌∷◌, ◌++◌, length, map, replicate, slice_get, Some, Option}
use Rattle.std.specs.List.{All}
use Rattle.flat_net.specs.View.{NetView}
use Rattle.cycle_sim.specs.Runs.{IsRunFrom}
use Rattle.cycle_sim.specs.View.{HasMarkedRun, IsMark}
use Rattle.cycle_sim.specs.declared.pair_runs.differences.Difference.{Difference}
use Rattle.cycle_sim.specs.declared.pair_runs.feed.Feed.{Feed}
use Rattle.cycle_sim.specs.declared.pair_runs.differences.OutputPair.{OutputPair}
use Rattle.cycle_sim.specs.declared.pair_runs.differences.Replayed.{Replayed}
use Rattle.cycle_sim.specs.declared.pair_runs.differences.Settling.{Settling}
use Rattle.cycle_sim.specs.declared.pair_runs.shown.Shown.{Shown}
use Rattle.cycle_sim.specs.pair_runs.Feeding.{AreColumns, IsWithin, reordered}
use Rattle.cycle_sim.specs.pair_runs.Listing.{differences_from, IsFirstIn}
use Rattle.cycle_sim.specs.pair_runs.Outputs.{output_at}
use Rattle.cycle_sim.specs.pair_runs.Showing.{called, names_of}

-- 0 in each latch
abbrev pub zeros : NetView → List Bool
zeros n = replicate (length n.latches) false

-- the net before its first cycle, with the columns of its inputs
pub record IsFresh (n : NetView) (enabled : List Bool) (header : List (List ℕ)) (f : Feed) : Type 0 where
  pub net : f.sim.sim.net ≡ n
  pub bits : f.sim.enabled ≡ enabled
  pub columns : AreColumns n header f.columns.items
  pub space : length f.bits.items ≡ length f.columns.items
  pub run : HasMarkedRun f.sim (zeros n) []

-- a row can be fed: it has each column, and there is room for one cycle more
pub record CanStep (f : Feed) (row : List Bool) : Type 0 where
  pub within : All (IsWithin (length row)) f.columns.items
  pub width : length f.columns.items ≡ length f.sim.sim.net.inputs
  pub space : length f.bits.items ≡ length f.columns.items
  pub room : f.sim.sim.cycles + 1 < 2 ^ 32

-- the row has been fed
pub record Steps (old : Feed) (row : List Bool) (new : Feed) : Type 0 where
  pub net : new.sim.sim.net ≡ old.sim.sim.net
  pub bits : new.sim.enabled ≡ old.sim.enabled
  pub cycles : new.sim.sim.cycles ≡ old.sim.sim.cycles + 1
  pub columns : new.columns.items ≡ old.columns.items
  pub space : length new.bits.items ≡ length old.bits.items
  pub run : (power : List Bool) (rows : List (List Bool)) → HasMarkedRun old.sim power rows → HasMarkedRun new.sim power (rows ++ reordered old.columns.items row ∷ [])

-- the rows can be fed to the circuit from its power-up with zeros on
pub record IsReady (f : Feed) (rows : List (List Bool)) : Type 0 where
  pub within : (t : ℕ) (row : List Bool) → slice_get rows t ≡ Some row → All (IsWithin (length row)) f.columns.items
  pub width : length f.columns.items ≡ length f.sim.sim.net.inputs
  pub space : length f.bits.items ≡ length f.columns.items
  pub run : HasMarkedRun f.sim (zeros f.sim.sim.net) []

-- a net with the bits of its enabled latches and the columns of its inputs
pub record Fed : Type 0 where
  pub net : NetView
  pub bits : List Bool
  pub columns : List (Option ℕ)

abbrev pub fed : Feed → Fed
fed f = record { net = f.sim.sim.net; bits = f.sim.enabled; columns = f.columns.items }

-- a run of the net over the rows
abbrev pub IsRunOf : Fed → List (List Bool) → (ℕ → ℕ → Bool) → Type 0
IsRunOf f rows run = IsRunFrom f.net (zeros f.net) (map (reordered f.columns) rows) run

-- the values and the marks of the pair in cycle t of both runs
pub record IsShownAt (f g : Fed) (left right : ℕ → ℕ → Bool) (t : ℕ) (p : OutputPair) (s : Shown) : Type 0 where
  pub left_is : s.left ≡ left t (output_at f.net p.left).signal.0
  pub right_is : s.right ≡ right t (output_at g.net p.right).signal.0
  pub left_mark : IsMark f.net f.bits left t (output_at f.net p.left).signal.0 s.left_mark
  pub right_mark : IsMark g.net g.bits right t (output_at g.net p.right).signal.0 s.right_mark

-- those of each pair
pub record AreShownAt (f g : Fed) (pairs : List OutputPair) (left right : ℕ → ℕ → Bool) (t : ℕ) (shown : List Shown) : Type 0 where
  pub each : length shown ≡ length pairs
  pub right_is : (j : ℕ) (p : OutputPair) (s : Shown) → slice_get pairs j ≡ Some p → slice_get shown j ≡ Some s → IsShownAt f g left right t p s

-- The differences of all cycles over the rows stand behind the others, and of each pair the first cycle is noted in which it is settled
-- in both circuits.
pub record PutsCycles (f g : Fed) (pairs : List OutputPair) (rows : List (List Bool)) (old new : List Difference) (firsts : List (Option ℕ)) : Type 0 where
  pub cycles : List (List Shown)
  pub each : length cycles ≡ length rows
  pub found_is : new ≡ old ++ map (called (names_of pairs)) (differences_from 0 cycles)
  pub shown : (left right : ℕ → ℕ → Bool) → IsRunOf f rows left → IsRunOf g rows right → (t : ℕ) (shown : List Shown) → slice_get cycles t ≡ Some shown → AreShownAt f g pairs left right t shown
  pub size : length firsts ≡ length pairs
  pub firsts_are : (j : ℕ) (first : Option ℕ) → slice_get firsts j ≡ Some first → IsFirstIn cycles j first

-- The differences of both nets, with 0 in each latch, over the rows under the header, and since when each pair is settled in both.
pub record AreFound (m : NetView) (left_bits : List Bool) (k : NetView) (right_bits : List Bool) (pairs : List OutputPair) (header : List (List ℕ)) (rows : List (List Bool)) (found : Replayed) : Type 0 where
  pub left_columns : List (Option ℕ)
  pub right_columns : List (Option ℕ)
  pub left_are : AreColumns m header left_columns
  pub right_are : AreColumns k header right_columns
  pub puts : PutsCycles (record { net = m; bits = left_bits; columns = left_columns }) (record { net = k; bits = right_bits; columns = right_columns }) pairs rows [] found.differences (map (λ (s : Settling). s.first) found.settlings)
  pub named : map (λ (s : Settling). s.pair) found.settlings ≡ names_of pairs
