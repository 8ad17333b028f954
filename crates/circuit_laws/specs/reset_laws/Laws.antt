-- What holds of reset runs. Each law is the contract of a function of this crate.
use Rattle.std.specs.Prelude.{◌≡◌, ◌≢◌, ℕ, ◌+◌, ◌<◌, ◌≤◌, Bool, List, [], length, Some, slice_get}
use Rattle.std.specs.List.{AllPairs}
use Rattle.circuit_theory.specs.Circuit.{Circuit, IsInput, IsLatch, IsSingleDriven}
use Rattle.circuit_theory.specs.Cone.{latches_of}
use Rattle.circuit_theory.specs.Run.{IsResetRun}
use Rattle.circuit_theory.specs.Net.{IsNet}
use Rattle.circuit_theory.specs.Tree.{Tree, IsInputNumber, AreNumbered, tree_value}
use Rattle.circuit_theory.specs.Agree.{IsPair}
use Rattle.circuit_laws.specs.reset_laws.Weight.{PlaceInCycle, IsResetWeight, IsResetOver}
use Rattle.circuit_laws.specs.reset_laws.Reset.{ResetUnfolds, IsFree, HasStarts, AreBased, AreEqualFromReset, AgreeFromReset, IsResetWitness, MakesDifferFromReset, start_at, power_of}

-- In a flat net each signal has one unfolding in each cycle, cycles of latches or not.
abbrev pub ResetTreesAreOne : Type 0
ResetTreesAreOne = (c : Circuit ℕ) (size : ℕ) (order : List ℕ) (base s t : ℕ) → IsNet c size → HasStarts c → AllPairs (λ u v. u ≢ v) (latches_of c) → length order ≡ length c.inputs → s < size →
    ((tree : Tree ℕ) × ResetUnfolds c order base s t tree) × ((l r : Tree ℕ) → ResetUnfolds c order base s t l → ResetUnfolds c order base s t r → l ≡ r)

-- In every reset run the unfolding of a cycle has the value of its signal there: input i in a cycle being the run's, and a free latch's
-- variable its value in cycle 0.
abbrev pub ResetTreeIsRun : Type 0
ResetTreeIsRun = (c : Circuit ℕ) (order : List ℕ) (base s t : ℕ) (tree : Tree ℕ) → ResetUnfolds c order base s t tree → (n : ℕ) (run : ℕ → ℕ → Bool) → IsResetRun c n run → t < n →
    (x : ℕ → ℕ → Bool) → ((p i k : ℕ) → IsInputNumber c order p i → k ≤ t → x i k ≡ run k p) →
    ((j u : ℕ) → slice_get (latches_of c) j ≡ Some u → IsFree c u → x (base + j) 0 ≡ run 0 u) → tree_value x tree ≡ run t s

-- Equal functions up to the depth of each pair mean agreement in every cycle of reset runs.
abbrev pub EqualResetsAgree : Type 0
EqualResetsAgree = (a b : Circuit ℕ) (m n : ℕ) (left right : List ℕ) (left_base right_base : ℕ) → IsNet a m → IsNet b n → HasStarts a → HasStarts b → AreNumbered a b left right →
    AreBased a b left right left_base right_base → ((p q : ℕ) → IsPair [] a b p q → AreEqualFromReset a b left right left_base right_base p q) → AgreeFromReset a b

-- The printed sequence and power-ups make the pair differ.
abbrev pub ResetWitnessMakesDiffer : Type 0
ResetWitnessMakesDiffer = (a b : Circuit ℕ) (left right : List ℕ) (left_base right_base p q count : ℕ) (rows : List (List Bool)) (left_power right_power : List Bool) (last : ℕ) (l r : Bool) →
    HasStarts a → HasStarts b → AreBased a b left right left_base right_base → IsResetWitness a b left right left_base right_base p q count rows left_power right_power last l r →
    MakesDifferFromReset a b left right p q rows left_power right_power last l r

-- The weight of unfoldings in cycles is one number, and what is over a cap weighs more.
abbrev pub ResetWeightIsOne : Type 0
ResetWeightIsOne = (c : Circuit ℕ) → IsSingleDriven c → (starts : List (PlaceInCycle ℕ)) (v w cap : ℕ) → IsResetWeight c starts v →
    (IsResetWeight c starts w → v ≡ w) × (IsResetOver c starts cap → cap < v)

-- There is a reset run of each length for each sequence of inputs and each power-up of the free latches, and only one.
abbrev pub ResetRunsExist : Type 0
ResetRunsExist = (c : Circuit ℕ) (size n : ℕ) (free : ℕ → Bool) (inputs : ℕ → ℕ → Bool) → IsNet c size → HasStarts c →
    (run : ℕ → ℕ → Bool) × IsResetRun c n run × ((t p : ℕ) → IsInput c p → run t p ≡ inputs t p)
    × ((name : List ℕ) (u next : ℕ) → IsLatch c name u next → run 0 u ≡ power_of (start_at c.starts u) (free u))
    × ((other : ℕ → ℕ → Bool) → IsResetRun c n other → ((t p : ℕ) → t < n → IsInput c p → other t p ≡ inputs t p) →
    ((name : List ℕ) (u next : ℕ) → 0 < n → IsLatch c name u next → IsFree c u → other 0 u ≡ free u) → (t s : ℕ) → t < n → s < size → other t s ≡ run t s)
