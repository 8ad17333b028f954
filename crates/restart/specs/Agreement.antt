-- Runs that begin with the rows of a stimulus, and what is said of two circuits behind them.
use Rattle.std.specs.Prelude.{◌≡◌, ℕ, ◌-◌, ◌<◌, ◌≤◌, Bool, List, [], length, Some, slice_get}
use Rattle.std.specs.List.{Contains}
use Rattle.circuit_theory.specs.Agree.{AreAlike, IsPair}
use Rattle.circuit_theory.specs.Circuit.{Circuit}

-- in the cycles of the rows each of the circuit's inputs that the stimulus names has its bit
abbrev pub BeginsBy : {P : Type 0} → Circuit P → List (List ℕ) → List (List Bool) → (ℕ → P → Bool) → Type 0
BeginsBy {P} c names rows run =
    (t i : ℕ) (row : List Bool) (name : List ℕ) (bit : Bool) (p : P) → slice_get rows t ≡ Some row → slice_get row i ≡ Some bit → slice_get names i ≡ Some name →
    Contains c.inputs (record { name = name; place = p }) → run t p ≡ bit

-- In any two runs with equal inputs that begin by the rows, whatever both power up with, each output has equal values in these cycles
-- behind the rows; the first of them is 0.
abbrev pub AgreeBehind : {P Q : Type 0} → List (List ℕ) → List (List Bool) → (ℕ → Type 0) → Circuit P → Circuit Q → Type 0
AgreeBehind {P} {Q} names rows Wanted a b =
    (n : ℕ) (left : ℕ → P → Bool) (right : ℕ → Q → Bool) → AreAlike a b n left right → BeginsBy a names rows left → BeginsBy b names rows right →
    (t : ℕ) (p : P) (q : Q) → length rows ≤ t → t < n → Wanted (t - length rows) → IsPair [] a b p q → left t p ≡ right t q

-- every cycle
abbrev pub Each : ℕ → Type 0
Each t = Unit {0}

-- the cycles up to the last, or before it
abbrev pub UpTo : ℕ → ℕ → Type 0
UpTo last t = t ≤ last

abbrev pub Before : ℕ → ℕ → Type 0
Before last t = t < last
