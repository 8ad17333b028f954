-- What the examples of runs from initial values and of assumptions say.
use Rattle.std.specs.Prelude.{ℕ, Bool, false, List, [], ◌∷◌, map}
use Rattle.std.specs.List.{Contains}
use Rattle.circuit_theory.specs.declared.Mode.TheVariants.{Plain}
use Rattle.circuit_theory.specs.Run.{IsResetRun, IsRun}
use Rattle.circuit_theory.specs.Net.{IsNet, HasDistinctNames}
use Rattle.circuit_theory.specs.Tree.{Leaf, AreNumbered}
use Rattle.circuit_theory.specs.Sequence.{TakesInputs, row_value}
use Rattle.circuit_theory.specs.Agree.{cut, IsPair, IsMinimalCut}
use Rattle.circuit_theory.specs.Interface.{AreNumbersOf}
use Rattle.circuit_laws.specs.reset_laws.Reset.{ResetUnfolds, HasStarts, AreBased, AreEqualFromReset}
use Rattle.circuit_laws.specs.reset_laws.Weight.{IsResetWeight, IsResetOver}
use Rattle.assume_laws.specs.Assume.{ReadsInputs, HaveEqualFunctionsUnder, AreEqualFromResetUnder}
use Rattle.call_rows.specs.circuit_samples.Circuits.{and_cover, first_cover, one, two, only_a, one_from, late_from_zero, early_from_zero, constant_from_zero, toggle_with, toggled, ones}

-- two nets with initial values, whose pairs are equal from reset
pub record AreResetSides : Type 0 where
  pub left_net : IsNet late_from_zero 4
  pub right_net : IsNet early_from_zero 5
  pub left_starts : HasStarts late_from_zero
  pub right_starts : HasStarts early_from_zero
  pub numbered : AreNumbered late_from_zero early_from_zero (0 ∷ 1 ∷ []) (0 ∷ 1 ∷ [])
  pub based : AreBased late_from_zero early_from_zero (0 ∷ 1 ∷ []) (0 ∷ 1 ∷ []) 2 3
  pub equal : (p q : ℕ) → IsPair [] late_from_zero early_from_zero p q → AreEqualFromReset late_from_zero early_from_zero (0 ∷ 1 ∷ []) (0 ∷ 1 ∷ []) 2 3 p q

-- a reset run, in whose cycle 1 the latch has what its tree says, and the weight of that tree
pub record HasResetValue : Type 0 where
  pub net : IsNet (one_from false) 2
  pub starts : HasStarts (one_from false)
  pub unfolds : ResetUnfolds (one_from false) (0 ∷ []) 1 1 1 (Leaf 0 0)
  pub run : ℕ → ℕ → Bool
  pub is_run : IsResetRun (one_from false) 2 run
  pub weight : IsResetWeight (one_from false) (record { place = 1; cycle = 1 } ∷ []) 2
  pub over : IsResetOver (one_from false) (record { place = 1; cycle = 1 } ∷ []) 1

-- two nets from initial values whose pairs are equal where the assumption holds
pub record AreResetSidesUnder : Type 0 where
  pub left_net : IsNet (one_from false) 2
  pub right_net : IsNet constant_from_zero 3
  pub left_starts : HasStarts (one_from false)
  pub right_starts : HasStarts constant_from_zero
  pub numbered : AreNumbered (one_from false) constant_from_zero (0 ∷ []) (0 ∷ [])
  pub based : AreBased (one_from false) constant_from_zero (0 ∷ []) (0 ∷ []) 1 2
  pub reads : ReadsInputs only_a (one_from false) (0 ∷ [])
  pub equal : (p q : ℕ) → IsPair [] (one_from false) constant_from_zero p q → AreEqualFromResetUnder only_a (one_from false) constant_from_zero (0 ∷ []) (0 ∷ []) 1 2 p q

-- two nets with an exposed latch whose pairs are equal where the assumption holds
pub record AreExposedSidesUnder : Type 0 where
  pub left_net : IsNet (toggle_with and_cover) 4
  pub right_net : IsNet (toggle_with first_cover) 4
  pub left_names : HasDistinctNames (toggle_with and_cover)
  pub right_names : HasDistinctNames (toggle_with first_cover)
  pub minimal : IsMinimalCut Plain (toggle_with and_cover) (toggle_with first_cover) toggled
  pub numbered : AreNumbered (cut toggled (toggle_with and_cover)) (cut toggled (toggle_with first_cover)) (0 ∷ 1 ∷ []) (0 ∷ 1 ∷ [])
  pub reads : ReadsInputs only_a (cut toggled (toggle_with and_cover)) (0 ∷ 1 ∷ [])
  pub equal : (p q : ℕ) → IsPair toggled (toggle_with and_cover) (toggle_with first_cover) p q →
      HaveEqualFunctionsUnder only_a (cut toggled (toggle_with and_cover)) (cut toggled (toggle_with first_cover)) (0 ∷ 1 ∷ []) (0 ∷ 1 ∷ []) p q

-- the inputs of the assumption and of a circuit have the number of their column
pub record AreColumnNumbers : Type 0 where
  pub assumed : AreNumbersOf (map (λ n. n.name) only_a.circuit.inputs) (map (λ n. n.name) one.inputs) (0 ∷ []) []
  pub own : AreNumbersOf (map (λ n. n.name) one.inputs) (map (λ n. n.name) one.inputs) (0 ∷ []) []
  pub columns : (name : List ℕ) → Contains (map (λ n. n.name) only_a.circuit.inputs) name → Contains (map (λ n. n.name) one.inputs) name

-- a run over the rows
abbrev pub HasRunOverOnes : Type 0
HasRunOverOnes = (run : ℕ → ℕ → Bool) × IsRun two 3 run × TakesInputs two (0 ∷ []) (row_value ones) 3 run
