-- The roots' bits under numbered assignments.
use Rattle.std.specs.Prelude.{◌≡◌, ℕ, ◌<◌, Bool, false, List, length, slice_get, slice_index_or, Some}
use Rattle.circuit_theory.specs.Query.{bits_of}
use Rattle.aig.specs.declared.node.Lit.{Lit}
use Rattle.aig.specs.declared.node.Node.{Node}
use Rattle.aig.specs.Values.{value}
use Rattle.aig.specs.lane_eval.Tables.{assigned_to}

-- the value of the root at a place under the assignment of this number
abbrev pub row_of : List Node → List ℕ → List Lit → ℕ → ℕ → Bool
row_of g vars roots number i = value g (assigned_to vars (bits_of number (length vars))) (slice_index_or roots i (record { 0 = 0 })).0

-- the first of the variables have these bits
abbrev pub HasBits : List ℕ → List Bool → ℕ → List Bool → Type 0
HasBits vars bits count assignment = (k v : ℕ) → k < count → slice_get vars k ≡ Some v → slice_index_or assignment v false ≡ slice_index_or bits k false
