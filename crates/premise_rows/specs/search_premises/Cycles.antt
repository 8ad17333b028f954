-- Two circuits whose latches read themselves, or not, and agree in two cycles.
use Rattle.std.specs.Prelude.{◌≢◌, ◌≡◌, ◌↔◌, ℕ, ◌≤◌, Bool, true, false, [], ◌∷◌, length}
use Rattle.std.specs.List.{AllPairs}
use Rattle.circuit_theory.specs.Agree.{IsPair}
use Rattle.circuit_theory.specs.Circuit.{Circuit, Gate, Latch}
use Rattle.circuit_theory.specs.Cone.{latches_of}
use Rattle.circuit_theory.specs.Cover.{Cover}
use Rattle.circuit_theory.specs.Net.{IsNet}
use Rattle.circuit_theory.specs.Tree.{Tree, AreNumbered, tree_value}
use Rattle.circuit_laws.specs.reset_laws.Reset.{ResetUnfolds, HasStarts, AreBased, HaveEqualResets}
use Rattle.circuit_laws.specs.cycle_laws.Bounded.{AgreeUpTo}
use Rattle.circuit_laws.specs.cycle_laws.Samples.{toggle}

-- the constant 1
abbrev pub always : Cover
always = record { width = 0; rows = [] ∷ []; on = true }

-- a latch that begins with 0 and takes over 1
abbrev pub rises : Circuit ℕ
rises = record { inputs = []; outputs = record { name = 111 ∷ []; place = 0 } ∷ []; equations = Latch (117 ∷ []) 0 1 ∷ Gate 1 [] always ∷ []; starts = record { place = 0; bit = false } ∷ [] }

-- A latch that turns each cycle, and one that rises: nets with initial values, whose functions are equal in the cycles 0 and 1.
pub record AreEqualInCycles : Type 0 where
  pub numbered : AreNumbered toggle rises [] []
  pub based : AreBased toggle rises [] [] 0 1
  pub equal : (p q t : ℕ) → IsPair [] toggle rises p q → t ≤ 1 → HaveEqualResets toggle rises [] [] 0 1 p q t
  pub left_net : IsNet toggle 2
  pub right_net : IsNet rises 2
  pub left_starts : HasStarts toggle
  pub right_starts : HasStarts rises
  pub left_once : AllPairs (λ u v. u ≢ v) (latches_of toggle)
  pub right_once : AllPairs (λ u v. u ≢ v) (latches_of rises)
  pub left_each : 0 ≡ length toggle.inputs
  pub right_each : 0 ≡ length rises.inputs

-- so they agree in these, and in cycle 2 they have two functions, which differ
pub record AgreeInTwoCycles : Type 0 where
  pub sides : AreEqualInCycles
  pub agree : AgreeUpTo 1 toggle rises
  pub left_tree : Tree ℕ
  pub right_tree : Tree ℕ
  pub left_unfolds : ResetUnfolds toggle [] 0 0 2 left_tree
  pub right_unfolds : ResetUnfolds rises [] 1 0 2 right_tree
  pub decided : HaveEqualResets toggle rises [] [] 0 1 0 0 2 ↔ ((x : ℕ → ℕ → Bool) → tree_value x left_tree ≡ tree_value x right_tree)
  pub differ : HaveEqualResets toggle rises [] [] 0 1 0 0 2 → ⊥
