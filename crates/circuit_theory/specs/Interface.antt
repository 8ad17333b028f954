-- Which inputs two circuits share, the first name that doesn't match, and the numbers of the inputs.
use Rattle.std.specs.Prelude.{◌≡◌, ◌≢◌, ℕ, ◌≤◌, Bool, false, not, ◌&&◌, List, length, Option, Some, None, slice_get}
use Rattle.std.specs.List.{Contains, AllPairs, filter, find}
use Rattle.circuit_theory.specs.Names.{same_name, is_among}

-- what the interface looks at
pub record Ports : Type 0 where
  pub inputs : List (List ℕ)
  pub outputs : List (List ℕ)
  pub clock : Option (List ℕ)
  -- the inputs that a gate, a latch or an output reads
  pub read : List (List ℕ)

-- the name is the clock's
abbrev pub is_clock : Ports → List ℕ → Bool
is_clock ports name = among ports.clock
  where
    among : Option (List ℕ) → Bool
    among None = false
    among (Some c) = same_name c name

-- the inputs without the other's clock, where nothing reads it
abbrev pub inputs_beside : Ports → Ports → List (List ℕ)
inputs_beside own other = filter (λ name. not (is_clock other name && not (is_among own.read name))) own.inputs

-- the first name that isn't among the others
abbrev pub first_missing : List (List ℕ) → List (List ℕ) → Option (List ℕ)
first_missing names others = find (λ name. not (is_among others name)) names

-- the first that is there
infixl 10 ◌or_else◌
abbrev pub ◌or_else◌ : {X : Type 0} → Option X → Option X → Option X
None or_else y = y
(Some x) or_else y = Some x

-- the refused name: the first of A's inputs missing in B, B's in A, A's outputs in B, B's in A
abbrev pub first_mismatch : Ports → Ports → Option (List ℕ)
first_mismatch a b =
    first_missing (inputs_beside a b) (inputs_beside b a)
    or_else first_missing (inputs_beside b a) (inputs_beside a b)
    or_else first_missing a.outputs b.outputs
    or_else first_missing b.outputs a.outputs

-- the shared inputs in A's order, where the interfaces match
abbrev pub shared_inputs : Ports → Ports → List (List ℕ)
shared_inputs a b = inputs_beside a b

-- The numbers of one circuit's inputs, by their names: a shared input has its place among the shared ones, and an input that is
-- left out a number above these that no other input of either circuit has.
pub record AreNumbersOf (own shared : List (List ℕ)) (numbers others : List ℕ) : Type 0 where
  pub each : length numbers ≡ length own
  pub distinct : AllPairs (λ i j. i ≢ j) numbers
  pub common : (k i : ℕ) (name : List ℕ) → slice_get own k ≡ Some name → slice_get shared i ≡ Some name → slice_get numbers k ≡ Some i
  pub left_out : (k i : ℕ) (name : List ℕ) → slice_get own k ≡ Some name → (Contains shared name → ⊥) → slice_get numbers k ≡ Some i →
      (length shared ≤ i) × (Contains others i → ⊥)

-- the orders of both circuits: the numbers of A's inputs, and of B's
pub record AreOrders (a b : Ports) (left right : List ℕ) : Type 0 where
  pub left_is : AreNumbersOf a.inputs (shared_inputs a b) left right
  pub right_is : AreNumbersOf b.inputs (shared_inputs a b) right left
