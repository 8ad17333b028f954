-- The query of a pair, over inputs at shifts as `shift_variables` numbers them.
use Rattle.std.specs.Prelude.{ℕ, List}
use Rattle.pair_decide.specs.declared.query.Query.{Query}
use Rattle.cbf_unfold.specs.declared.unfold_places.signal_function.Unfolded.{Unfolded}
use Rattle.cbf_unfold.specs.shift_variables.Queries.{IsQueryBy}
pub use Rattle.cbf_unfold.specs.shift_variables.Variables.{variable_of, variables_of, GoesBefore, AreInOrder, IsMergeOf}

-- the query of two functions: do they agree always? Its variables are those of both.
abbrev pub IsPairQuery : List (ℕ × ℕ) → Unfolded → Unfolded → Query → Type 0
IsPairQuery places = IsQueryBy (GoesBefore places)
