-- What the latest cycle of two circuits shows of their pairs.
use Rattle.std.specs.Prelude.{◌≡◌, ℕ, ◌<◌, ◌≤◌, List, [], ◌∷◌, ◌++◌, length, map, slice_get, slice_index_or, Option, Some, IfSome, if◌then◌else◌}
use Rattle.circuit_theory.specs.Replay.{Difference as PlacedDifference}
use Rattle.flat_net.specs.View.{NetView}
use Rattle.cycle_sim.specs.View.{MarkedView, IsLatest, IsLatestMark}
use Rattle.witness_report.specs.declared.witness.PairName.{PairName}
use Rattle.witness_report.specs.declared.witness.PairName.TheVariants as pair
use Rattle.cycle_sim.specs.declared.pair_runs.differences.Difference.{Difference}
use Rattle.cycle_sim.specs.declared.pair_runs.differences.OutputPair.{OutputPair}
use Rattle.cycle_sim.specs.declared.pair_runs.shown.Shown.{Shown}
use Rattle.cycle_sim.specs.pair_runs.Listing.{is_difference, differences_in, first_with}

-- the values and the marks of the pair in the latest cycle
pub record IsShown (l r : MarkedView) (p : OutputPair) (s : Shown) : Type 0 where
  pub left : IfSome (slice_get l.sim.net.outputs p.left) (λ port. IsLatest l.sim port.signal.0 s.left)
  pub right : IfSome (slice_get r.sim.net.outputs p.right) (λ port. IsLatest r.sim port.signal.0 s.right)
  pub left_mark : IfSome (slice_get l.sim.net.outputs p.left) (λ port. IsLatestMark l port.signal.0 s.left_mark)
  pub right_mark : IfSome (slice_get r.sim.net.outputs p.right) (λ port. IsLatestMark r port.signal.0 s.right_mark)

-- each pair's outputs are among those of both nets
pub record ArePlacesOf (m k : NetView) (pairs : List OutputPair) : Type 0 where
  pub left : (j : ℕ) (p : OutputPair) → slice_get pairs j ≡ Some p → p.left < length m.outputs
  pub right : (j : ℕ) (p : OutputPair) → slice_get pairs j ≡ Some p → p.right < length k.outputs

-- the difference that the pair is, if it is one
abbrev pub as_pair : ℕ → PairName → Shown → List Difference
as_pair cycle name s = if is_difference s then (record { cycle = cycle; pair = name; left = s.left; right = s.right }) ∷ [] else []

-- the difference under the name of its pair
abbrev pub called : List PairName → PlacedDifference → Difference
called names d = record { cycle = d.cycle; pair = slice_index_or names d.pair (pair.Output []); left = d.left; right = d.right }

abbrev pub names_of : List OutputPair → List PairName
names_of pairs = map (λ (p : OutputPair). p.name) pairs

-- The differences of the first so many pairs in the latest cycle stand behind the others, and it is noted which of these pairs are
-- settled in both circuits first in this cycle.
pub record PutsSome (l r : MarkedView) (pairs : List OutputPair) (cycle count : ℕ) (old new : List Difference) (firsts noted : List (Option ℕ)) : Type 0 where
  pub shown : List Shown
  pub each : length shown ≡ count
  pub right : (j : ℕ) (p : OutputPair) (s : Shown) → slice_get pairs j ≡ Some p → slice_get shown j ≡ Some s → IsShown l r p s
  pub found_is : new ≡ old ++ map (called (names_of pairs)) (differences_in cycle 0 shown)
  pub size : length noted ≡ length firsts
  pub noted_are : (j : ℕ) (s : Shown) (first : Option ℕ) → slice_get shown j ≡ Some s → slice_get firsts j ≡ Some first → slice_get noted j ≡ Some (first_with first cycle s)
  pub others : (j : ℕ) (first : Option ℕ) → count ≤ j → slice_get firsts j ≡ Some first → slice_get noted j ≡ Some first

-- those of all pairs
abbrev pub PutsShown : MarkedView → MarkedView → List OutputPair → ℕ → List Difference → List Difference → List (Option ℕ) → List (Option ℕ) → Type 0
PutsShown l r pairs cycle old new firsts noted = PutsSome l r pairs cycle (length pairs) old new firsts noted
