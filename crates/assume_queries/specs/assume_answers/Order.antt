-- The orders of variables, by their numbers in a table.
use Rattle.std.specs.Prelude.{◌⊎◌, ◌↔◌, ℕ, ◌<◌, List, length}
use Rattle.std.specs.List.{All, AllPairs, Contains}
use Rattle.circuit_theory.specs.Query.{Variable, ShiftBefore}
use Rattle.circuit_laws.specs.reset_laws.Reset.{CycleBefore}
use Rattle.cbf_unfold.specs.shift_variables.Variables.{variable_of}
use Rattle.assume_queries.specs.declared.assume_answers.order.VariableOrder.{VariableOrder}
use Rattle.assume_queries.specs.declared.assume_answers.order.VariableOrder.TheVariants as order

-- the first variable goes before the second
abbrev pub GoesFirst : VariableOrder → Variable ℕ → Variable ℕ → Type 0
GoesFirst order.Shifts x y = ShiftBefore x y
GoesFirst order.Cycles x y = CycleBefore x y

-- numbers of the table, in the order of their variables
pub record AreOrdered (order : VariableOrder) (table : List (ℕ × ℕ)) (vars : List ℕ) : Type 0 where
  pub within : All (λ v. v < length table) vars
  pub ordered : AllPairs (λ u v. GoesFirst order (variable_of table u) (variable_of table v)) vars

-- the numbers that one of two lists has, in that order
pub record IsOrderedMerge (order : VariableOrder) (table : List (ℕ × ℕ)) (left right merged : List ℕ) : Type 0 where
  pub ordered : AllPairs (λ u v. GoesFirst order (variable_of table u) (variable_of table v)) merged
  pub exactly : (v : ℕ) → Contains merged v ↔ (Contains left v ⊎ Contains right v)
