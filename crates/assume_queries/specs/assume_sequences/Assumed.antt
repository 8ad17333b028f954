-- What is known of an assumption by its function and a row that meets it.
use Rattle.std.specs.Prelude.{◌≡◌, ℕ, ◌<◌, List, [], ◌∷◌, length}
use Rattle.std.specs.List.{All}
use Rattle.circuit_theory.specs.Sizes.{IsWeight}
use Rattle.flat_net.specs.View.{NetView, circuit_of}
use Rattle.assume_laws.specs.Assume.{IsAssumption}
use Rattle.assume_laws.specs.Sequences.{IsMeetingRow}
use Rattle.assume_laws.specs.assume_shape.Shape.{assumption_of}
use Rattle.assume_queries.specs.assume_functions.Functions.{IsOwnFunction}
use Rattle.assume_queries.specs.assume_sequences.Filled.{bit_of}
use Rattle.assume_queries.specs.declared.assume_sequences.premise.Premise.{Premise}

-- The net, with these numbers of its inputs, which are below the count, and this output, is an assumption; it has the function, and the row
-- meets it.
pub record IsAssumedBy (p : Premise) (count : ℕ) (n : NetView) (inputs : List ℕ) (output size : ℕ) : Type 0 where
  pub function : IsOwnFunction n inputs output p.own
  pub assumption : IsAssumption (assumption_of n inputs output) size
  pub below : All (λ i. i < count) inputs
  pub row : IsMeetingRow (assumption_of n inputs output) count (bit_of p.meeting)

-- there is such a net, what its output reads at one place has the weight, and the row has so many bits
pub record CanBeAssumed (p : Premise) (count : ℕ) : Type 0 where
  pub net : NetView
  pub inputs : List ℕ
  pub output : ℕ
  pub size : ℕ
  pub is : IsAssumedBy p count net inputs output size
  pub weighs : IsWeight (circuit_of net) (output ∷ []) p.weight
  pub bits : length p.meeting ≡ count
