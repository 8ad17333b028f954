-- Rows that meet an assumption.
use Rattle.std.specs.Prelude.{◌≡◌, ℕ, ◌<◌, Bool, false, List, [], slice_index_or}
use Rattle.std.specs.List.{All}
use Rattle.circuit_theory.specs.Sequence.{sequence_rows}
use Rattle.flat_net.specs.View.{NetView}
use Rattle.pair_decide.specs.declared.query.Query.{Query}
use Rattle.pair_decide.specs.declared.query.Decision.TheVariants as decision
use Rattle.pair_decide.specs.Answers.{Decides, IsDifference}
use Rattle.cbf_unfold.specs.shift_variables.Sequences.{bits_at}
use Rattle.assume_laws.specs.Assume.{IsAssumption, RowMeets}
use Rattle.assume_laws.specs.Sequences.{IsMeetingRow}
use Rattle.assume_laws.specs.assume_shape.Shape.{assumption_of}
use Rattle.assume_queries.specs.declared.assume_functions.own.OwnFunction.{OwnFunction}
use Rattle.assume_queries.specs.assume_functions.Functions.{HasNoLatch, IsOwnFunction}
use Rattle.assume_queries.specs.declared.assume_sequences.assume_taken.meeting.Meeting.{Meeting}
use Rattle.assume_queries.specs.declared.assume_sequences.assume_taken.meeting.Meeting.TheVariants as meeting

-- it is the function of a net without latches whose inputs have numbers below the count
pub record CanMeet (own : OwnFunction) (count : ℕ) : Type 0 where
  pub net : NetView
  pub order : List ℕ
  pub output : ℕ
  pub function : IsOwnFunction net order output own
  pub gates : HasNoLatch net
  pub inputs : All (λ i. i < count) order

-- is the function 0 always?
abbrev pub meeting_query : OwnFunction → Query
meeting_query own = record { left = own.function.lit; right = record { 0 = 0 }; care = record { 0 = 1 }; vars = own.function.vars }

-- the row of the bits of the function's variables
abbrev pub IsRowOf : OwnFunction → List Bool → ℕ → List Bool → Type 0
IsRowOf own bits count row = row ≡ slice_index_or (sequence_rows 0 (bits_at own.places own.function.vars bits) count) 0 []

-- no row meets an assumption with this function
abbrev pub IsVacuous : OwnFunction → Type 0
IsVacuous own = (n : NetView) (order : List ℕ) (s size : ℕ) → IsOwnFunction n order s own → IsAssumption (assumption_of n order s) size → (row : ℕ → Bool) → RowMeets (assumption_of n order s) row → ⊥

-- the row meets each assumption with this function, and is 0 at all that it doesn't read
abbrev pub Meets : OwnFunction → ℕ → List Bool → Type 0
Meets own count row = (n : NetView) (order : List ℕ) (s size : ℕ) → IsOwnFunction n order s own → IsAssumption (assumption_of n order s) size → IsMeetingRow (assumption_of n order s) count (λ i. slice_index_or row i false)

-- The answer of the assumption's query: none meets it exactly where the query's sides are the same; or the row of the query's
-- assignment does; or the limit was met.
abbrev pub IsMeeting : OwnFunction → ℕ → ℕ → Meeting → Type 0
IsMeeting own count conflicts (meeting.Never by) = Decides own.aig (meeting_query own) conflicts (decision.Same by) × IsVacuous own
IsMeeting own count conflicts (meeting.Row row) = ((bits : List Bool) × IsDifference own.aig (meeting_query own) bits × IsRowOf own bits count row) × Meets own count row
IsMeeting own count conflicts (meeting.Limit proof) = Decides own.aig (meeting_query own) conflicts (decision.Limit proof)
