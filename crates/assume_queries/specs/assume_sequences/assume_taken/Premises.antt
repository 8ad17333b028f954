-- What is known of the premise of a net that is taken as an assumption.
use Rattle.std.specs.Prelude.{◌≡◌, ℕ, List, length, Result, Ok, Err}
use Rattle.flat_net.specs.View.{NetView}
use Rattle.assume_queries.specs.assume_functions.Functions.{IsOwnFunction}
use Rattle.assume_queries.specs.assume_sequences.Filled.{bit_of}
use Rattle.assume_queries.specs.declared.assume_sequences.premise.Premise.{Premise}
use Rattle.assume_queries.specs.declared.assume_sequences.assume_taken.error.TakeError.{TakeError}
use Rattle.assume_queries.specs.declared.assume_sequences.assume_taken.error.TakeError.TheVariants as refused
use Rattle.assume_queries.specs.declared.assume_sequences.assume_taken.taken.Taken.{Taken}
use Rattle.assume_queries.specs.declared.assume_sequences.assume_taken.taken.Taken.TheVariants as taken
use Rattle.assume_queries.specs.assume_sequences.assume_taken.Asked.{IsKeptRow}
use Rattle.assume_queries.specs.assume_sequences.assume_taken.Taken.{IsAssumed, assumed_by, IsFirstFault, IsVacuousBy, IsUndecidedBy}

-- it has the net's function and weight, and the row that is kept, with zeros up to so many bits
pub record IsPremiseOf (names : List (List ℕ)) (c : NetView) (count : ℕ) (p : Premise) : Type 0 where
  pub assumed : IsAssumed names c
  pub function : IsOwnFunction c assumed.order assumed.shape.output.signal.0 p.own
  pub weight_is : p.weight ≡ assumed.weight
  pub kept : IsKeptRow (assumed_by assumed) (length names) (bit_of p.meeting)
  pub bits : length p.meeting ≡ count

-- What is taken, or the first refusal: a fault, or that no row meets the assumption.
abbrev pub IsTaken : List (List ℕ) → NetView → ℕ → Result Taken TakeError → Type 0
IsTaken names c conflicts (Ok (taken.Met p)) = IsPremiseOf names c (length names) p
IsTaken names c conflicts (Ok (taken.Limit proof)) = IsUndecidedBy names c conflicts proof
IsTaken names c conflicts (Err (refused.Fault f)) = IsFirstFault names c f
IsTaken names c conflicts (Err (refused.Vacuous by)) = IsVacuousBy names c conflicts by
IsTaken names c conflicts (Err refused.NoMemory) = Unit {0}
