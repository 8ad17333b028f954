-- Sorting variables into their order.
use Rattle.std.specs.Prelude.{◌≡◌, ◌≢◌, ◌↔◌, ℕ, ◌+◌, ◌-◌, ◌^◌, List, length, reverse, Contains}
use Rattle.std.specs.List.{AllPairs, AllZip}
use Rattle.event_nodes.specs.Nodes.{EventGraphView}
use Rattle.event_nodes.specs.declared.event_variables.ordering.Key.{Key}
use Rattle.event_nodes.specs.event_variables.Variables.{variable_of, AreInOrder}

-- the same numbers, each once
pub record IsOnce (numbers once : List ℕ) : Type 0 where
  pub same : (v : ℕ) → Contains once v ↔ Contains numbers v
  pub apart : AllPairs ◌≢◌ once

-- what the variable goes by: the longer the path, the lower the first part
pub record IsKeyOf (w : EventGraphView) (v : ℕ) (key : Key) : Type 0 where
  pub variable : key.variable ≡ v
  pub input : key.input ≡ (variable_of w v).input
  pub path : key.path.items ≡ reverse (variable_of w v).at
  pub shortness : key.shortness + length (variable_of w v).at ≡ 2 ^ 64 - 1

abbrev pub AreKeysOf : EventGraphView → List ℕ → List Key → Type 0
AreKeysOf w numbers keys = AllZip (IsKeyOf w) numbers keys

-- the same numbers, each once, in the order of their variables
pub record IsOrderOf (w : EventGraphView) (numbers ordered : List ℕ) : Type 0 where
  pub same : (v : ℕ) → Contains ordered v ↔ Contains numbers v
  pub in_order : AreInOrder w ordered
