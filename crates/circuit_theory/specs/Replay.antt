-- The differences of two circuits on a stimulus.
use Rattle.std.specs.Prelude.{◌≡◌, ◌≢◌, ℕ, ◌<◌, ◌⊎◌, ◌↔◌, Bool, false, List, slice_get, Some}
use Rattle.std.specs.List.{Contains, AllPairs}
use Rattle.circuit_theory.specs.declared.Mode.{Mode}
use Rattle.circuit_theory.specs.Circuit.{Circuit, IsLatch}
use Rattle.circuit_theory.specs.Run.{IsRun}
use Rattle.circuit_theory.specs.Sequence.{TakesInputs}
use Rattle.circuit_theory.specs.Agree.{PairAt, IsSettled}

-- a run of n cycles over the stimulus, which gives the value of the input with a number in a cycle, that powers up with zeros
pub record IsZeroRun {P : Type 0} (c : Circuit P) (order : List ℕ) (stimulus : ℕ → ℕ → Bool) (n : ℕ) (run : ℕ → P → Bool) : Type 0 where
  pub is_run : IsRun c n run
  pub inputs : TakesInputs c order stimulus n run
  pub power : (name : List ℕ) (u next : P) → IsLatch c name u next → run 0 u ≡ false

-- a pair by its place in the list of pairs, and its two values in a cycle
pub record Difference : Type 0 where
  pub cycle : ℕ
  pub pair : ℕ
  pub left : Bool
  pub right : Bool

-- by cycle, then by pair
abbrev pub IsBefore : Difference → Difference → Type 0
IsBefore x y = (x.cycle < y.cycle) ⊎ ((x.cycle ≡ y.cycle) × (x.pair < y.pair))

-- the differences of two runs, in order: each pair that is settled in both and differs
pub record AreDifferences {P Q : Type 0} (mode : Mode) (a : Circuit P) (b : Circuit Q) (pairs : List (PairAt P Q)) (n : ℕ)
    (left : ℕ → P → Bool) (right : ℕ → Q → Bool) (found : List Difference) : Type 0 where
  pub in_order : AllPairs IsBefore found
  pub exactly : (d : Difference) → Contains found d ↔
      ((d.cycle < n) × ((p : P) × (q : Q) × (slice_get pairs d.pair ≡ Some (record { left = p; right = q })) × IsSettled mode a left d.cycle p × IsSettled mode b right d.cycle q
      × (d.left ≡ left d.cycle p) × (d.right ≡ right d.cycle q) × (d.left ≢ d.right)))
