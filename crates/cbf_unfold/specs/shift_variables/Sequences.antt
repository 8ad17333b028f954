-- The bits of a sequence, by those of its variables.
use Rattle.std.specs.Prelude.{◌≡◌, ◌≢◌, ℕ, ◌<◌, ◌≤◌, Bool, List, length, slice_get, Some}
use Rattle.std.specs.List.{All}
use Rattle.circuit_theory.specs.Query.{assigned, same_shift}
use Rattle.cbf_unfold.specs.shift_variables.Variables.{variable_of, variables_of, AreInOrder}

-- each variable has its bit, and every other input at a shift 0
abbrev pub bits_at : List (ℕ × ℕ) → List ℕ → List Bool → ℕ → ℕ → Bool
bits_at places vars bits = assigned same_shift (variables_of places vars) bits

-- one bit for each variable; the variables are in order, each one of so many inputs, at a shift up to the last cycle
pub record IsSequence (places : List (ℕ × ℕ)) (vars : List ℕ) (bits : List Bool) (last count : ℕ) : Type 0 where
  pub each : length bits ≡ length vars
  pub in_order : AreInOrder places vars
  pub inputs : All (λ v. (variable_of places v).input < count) vars
  pub shifts : All (λ v. (variable_of places v).at ≤ last) vars

-- the variables from one place to another are those of a shift, and the next one isn't
pub record EndsShift (places : List (ℕ × ℕ)) (vars : List ℕ) (from shift to : ℕ) : Type 0 where
  pub behind : from ≤ to
  pub within : to ≤ length vars
  pub same : (k v : ℕ) → from ≤ k → k < to → slice_get vars k ≡ Some v → (variable_of places v).at ≡ shift
  pub next : (v : ℕ) → slice_get vars to ≡ Some v → (variable_of places v).at ≢ shift
