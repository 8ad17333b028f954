-- The function of a net of the shape.
use Rattle.std.specs.Prelude.{◌≡◌, ℕ, List, Result, Ok, Err}
use Rattle.flat_net.specs.View.{NetView}
use Rattle.assume_queries.specs.assume_functions.Functions.{IsOwnFunction}
use Rattle.assume_queries.specs.declared.assume_sequences.assume_taken.error.TakeError.{TakeError}
use Rattle.assume_queries.specs.declared.assume_sequences.assume_taken.error.TakeError.TheVariants as refused
use Rattle.assume_queries.specs.declared.assume_sequences.assume_taken.taken.Function.{Function}
use Rattle.assume_queries.specs.assume_sequences.assume_taken.Taken.{IsAssumed, IsFirstFault}

-- it has the net's function and weight
pub record IsFunctionOf (names : List (List ℕ)) (c : NetView) (f : Function) : Type 0 where
  pub assumed : IsAssumed names c
  pub function : IsOwnFunction c assumed.order assumed.shape.output.signal.0 f.own
  pub weight_is : f.weight ≡ assumed.weight

-- the function, or that it is too large
abbrev pub HasFunction : List (List ℕ) → NetView → Result Function TakeError → Type 0
HasFunction names c (Ok f) = IsFunctionOf names c f
HasFunction names c (Err (refused.Fault f)) = IsFirstFault names c f
HasFunction names c (Err (refused.Vacuous by)) = ⊥
HasFunction names c (Err refused.NoMemory) = Unit {0}
