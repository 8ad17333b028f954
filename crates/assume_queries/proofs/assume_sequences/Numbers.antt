-- The numbers of an assumption's inputs.
use Rattle.std.proofs.Common.{ℕ, ◌<◌, List}
use Rattle.std.proofs.lemmas.List.Elements.{All-contains}
use Rattle.circuit_theory.specs.Tree.{IsInputNumber}
use Rattle.circuit_theory.proofs.Lists.{of_at}
use Rattle.circuit_theory.proofs.Numbers.{beside_at}
use Rattle.flat_net.specs.View.{NetView, circuit_of}
use Rattle.assume_queries.specs.declared.assume_sequences.premise.Premise.{Premise}
use Rattle.assume_queries.specs.assume_sequences.Assumed.{IsAssumedBy}

-- they are below the count
pub number_below : (p : Premise) (count : ℕ) (n : NetView) (inputs : List ℕ) (output size : ℕ) → IsAssumedBy p count n inputs output size → (i q : ℕ) → IsInputNumber (circuit_of n) inputs q i → i < count
number_below p count n inputs output size is i q h = let k = beside_at (circuit_of n).inputs inputs q i h in All-contains (λ (j : ℕ). j < count) inputs i is.below (of_at inputs k.0 i k.4)
