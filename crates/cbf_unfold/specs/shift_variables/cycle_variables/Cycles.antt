-- Variables: inputs in cycles, and latches in cycle 0, by their numbers in a table.
use Rattle.std.specs.Prelude.{◌≡◌, ℕ, Bool, true, false, List, length, Some, slice_get, slice_index_or}
use Rattle.std.specs.declared.cmp.Ordering.{Ordering}
use Rattle.circuit_theory.specs.Circuit.{Circuit}
use Rattle.circuit_theory.specs.Cone.{latches_of}
use Rattle.sec_base.specs.declared.basics.Init.{Init}
use Rattle.sec_base.specs.declared.basics.Init.TheVariants as init
use Rattle.aig.specs.Merged.{StandsBy, AreOrdered, IsMergeBy}
use Rattle.circuit_laws.specs.reset_laws.Reset.{CycleBefore, power_of, start_at}
use Rattle.cbf_unfold.specs.shift_variables.Variables.{variable_of}

-- the number of an input or a latch
abbrev pub number_of : List (ℕ × ℕ) → ℕ → ℕ
number_of places v = (variable_of places v).input

-- the first number's variable goes before the second's
abbrev pub GoesFirst : List (ℕ × ℕ) → ℕ → ℕ → Type 0
GoesFirst places u v = CycleBefore (variable_of places u) (variable_of places v)

-- how the variables of two numbers stand to each other
abbrev pub Stands : List (ℕ × ℕ) → ℕ → ℕ → Ordering → Type 0
Stands places = StandsBy (GoesFirst places)

-- numbers of the table, in the order of their variables
abbrev pub AreInCycles : List (ℕ × ℕ) → List ℕ → Type 0
AreInCycles places = AreOrdered (length places) (GoesFirst places)

-- the numbers that one of two lists has, in the order of their variables
abbrev pub IsCycleMerge : List (ℕ × ℕ) → List ℕ → List ℕ → List ℕ → Type 0
IsCycleMerge places = IsMergeBy (GoesFirst places)

-- the initial value where it is 0 or 1, and else the bit
abbrev pub start_or : Init → Bool → Bool
start_or init.Zero bit = false
start_or init.One bit = true
start_or init.DontCare bit = bit
start_or init.Unknown bit = bit

-- the power-up where the latches have these bits that have no initial value 0 or 1
pub record IsPowerUp (c : Circuit ℕ) (free power : List Bool) : Type 0 where
  pub each : length power ≡ length (latches_of c)
  pub is : (j u : ℕ) → slice_get (latches_of c) j ≡ Some u → slice_index_or power j false ≡ power_of (start_at c.starts u) (slice_index_or free j false)
