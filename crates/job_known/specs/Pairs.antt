-- What two circuits show of their pairs of outputs, as far as it is known.
use Rattle.std.specs.Prelude.{◌≡◌, ◌≢◌, ℕ, zero, suc, ◌+◌, ◌<◌, Bool, true, false, ◌||◌, List, [], ◌∷◌, ◌++◌, length, map, Option, Some, None, if◌then◌else◌}
use Rattle.std.specs.List.{Contains, flat_map, list_any}
use Rattle.circuit_theory.specs.Run.{IsRun, IsResetRun}
use Rattle.flat_net.specs.View.{NetView, circuit_of}
use Rattle.witness_report.specs.declared.witness.PairName.{PairName}
use Rattle.sec_setup.specs.ports.Pairs.{NamedPair}
use Rattle.cycle_sim.specs.declared.pair_runs.differences.Difference.{Difference}
use Rattle.cycle_sim.specs.pair_runs.Listing.{differ}
use Rattle.restart.specs.Agreement.{BeginsBy}
use Rattle.job_known.specs.Known.{KnownRun}
use Rattle.job_known.specs.declared.known_pairs.KnownReplay.{KnownReplay}

-- both values are known
abbrev pub both_known : Option Bool → Option Bool → Bool
both_known (Some l) (Some r) = true
both_known (Some l) None = false
both_known None r = false

-- the difference of a pair in a cycle, where both its values are known and aren't one
abbrev pub difference_of : ℕ → PairName → Option Bool → Option Bool → List Difference
difference_of t name (Some l) (Some r) = if differ l r then (record { cycle = t; pair = name; left = l; right = r }) ∷ [] else []
difference_of t name (Some l) None = []
difference_of t name None r = []

-- those of a cycle, in the order of the pairs, by what is known of A's and of B's signals in it
abbrev pub differences_in : ℕ → (ℕ → Option Bool) → (ℕ → Option Bool) → List (NamedPair ℕ ℕ) → List Difference
differences_in t x y pairs = flat_map (λ (p : NamedPair ℕ ℕ). difference_of t p.name (x p.left) (y p.right)) pairs

-- in the cycle some pair is known in both
abbrev pub some_known : (ℕ → Option Bool) → (ℕ → Option Bool) → List (NamedPair ℕ ℕ) → Bool
some_known x y pairs = list_any (λ (p : NamedPair ℕ ℕ). both_known (x p.left) (y p.right)) pairs

-- the differences of the first cycles of two three-valued runs, by cycle and then by pair
abbrev pub differences_of : (ℕ → ℕ → Option Bool) → (ℕ → ℕ → Option Bool) → List (NamedPair ℕ ℕ) → ℕ → List Difference
differences_of v w pairs zero = []
differences_of v w pairs (suc t) = differences_of v w pairs t ++ differences_in t (v t) (w t) pairs

-- in one of the first cycles the pair is known in both
abbrev pub is_seen : (ℕ → ℕ → Option Bool) → (ℕ → ℕ → Option Bool) → ℕ → NamedPair ℕ ℕ → Bool
is_seen v w zero p = false
is_seen v w (suc t) p = is_seen v w t p || both_known (v t p.left) (w t p.right)

-- in how many of the first cycles some pair is
abbrev pub cycles_of : (ℕ → ℕ → Option Bool) → (ℕ → ℕ → Option Bool) → List (NamedPair ℕ ℕ) → ℕ → ℕ
cycles_of v w pairs zero = 0
cycles_of v w pairs (suc t) = if some_known (v t) (w t) pairs then suc (cycles_of v w pairs t) else cycles_of v w pairs t

-- what the first cycles of the runs show of the pairs
pub record AreShown (v w : ℕ → ℕ → Option Bool) (pairs : List (NamedPair ℕ ℕ)) (count : ℕ) (found : KnownReplay) : Type 0 where
  pub differences : found.differences ≡ differences_of v w pairs count
  pub seen : found.seen.items ≡ map (is_seen v w count) pairs
  pub cycles : found.cycles ≡ cycles_of v w pairs count

-- what both nets show over the rows from their initial values
pub record ShowsKnown (a b : NetView) (pairs : List (NamedPair ℕ ℕ)) (names : List (List ℕ)) (rows : List (List Bool)) (found : KnownReplay) : Type 0 where
  pub left : KnownRun a names rows
  pub right : KnownRun b names rows
  pub shown : AreShown left.run right.run pairs (length rows) found

-- runs of the net from its initial values that read the rows
abbrev pub ReadsFromReset : NetView → List (List ℕ) → List (List Bool) → ℕ → (ℕ → ℕ → Bool) → Type 0
ReadsFromReset n names rows count run = IsResetRun (circuit_of n) count run × BeginsBy (circuit_of n) names rows run

-- runs of the net, whatever they power up with, that read the first rows and then the others
abbrev pub ReadsBehind : NetView → List (List ℕ) → List (List Bool) → List (List ℕ) → List (List Bool) → ℕ → (ℕ → ℕ → Bool) → Type 0
ReadsBehind n first before names rows count run =
    IsRun (circuit_of n) count run × BeginsBy (circuit_of n) first before run × BeginsBy (circuit_of n) names rows (λ s. run (s + length before))

-- in all these runs the place has the bit in the cycle
abbrev pub HasAlways : (ℕ → (ℕ → ℕ → Bool) → Type 0) → ℕ → ℕ → Bool → Type 0
HasAlways Runs t p bit = (count : ℕ) (run : ℕ → ℕ → Bool) → Runs count run → t < count → run t p ≡ bit

-- Each difference is one of a pair of these, whose sides have its two values, so many cycles behind its own, in all these runs of A and of B.
abbrev pub DifferAlways : (ℕ → (ℕ → ℕ → Bool) → Type 0) → (ℕ → (ℕ → ℕ → Bool) → Type 0) → ℕ → List (NamedPair ℕ ℕ) → List Difference → Type 0
DifferAlways Left Right later pairs differences =
    (d : Difference) → Contains differences d →
    (p : NamedPair ℕ ℕ) × Contains pairs p × (p.name ≡ d.pair) × (d.left ≢ d.right) × HasAlways Left (d.cycle + later) p.left d.left × HasAlways Right (d.cycle + later) p.right d.right
