-- The state of a search from turn to turn.
use Rattle.std.specs.Prelude.{◌≡◌, ℕ, ◌+◌, ◌-◌, ◌*◌, ◌<◌, ◌^◌, List, [], length}
use Rattle.proof_check.specs.Literals.{Literal}
use Rattle.sat_search.specs.Found.{IsFound}
use Rattle.clause_watch.specs.Watching.{IsWatched}
use Rattle.clause_watch.specs.Learning.{IsLoading}
use Rattle.sat_search.specs.Running.{IsSearching}
use Rattle.sat_search.specs.declared.outcome.Found.TheVariants as found
use Rattle.sat_search.specs.declared.search_state.SearchState.{SearchState}
use Rattle.sat_search.specs.declared.search_state.Turn.{Turn}
use Rattle.sat_search.specs.declared.search_state.Turn.TheVariants.{Goes, Model, Refuted, Limit}

-- the given clauses are there, and nothing was done with them
pub record IsNewState (s : SearchState) : Type 0 where
  pub numbers : length s.watches.clauses.known < 2 ^ 32
  pub empty : s.log ≡ []
  pub loading : IsLoading s.watches.clauses.known s.trail s.watches.clauses.pairs s.watches.clauses.rows 0
  pub first : s.watches.head ≡ 0

-- the given clauses and those that the log derives are watched
pub record IsRunning (clauses : List (List Literal)) (variables conflicts : ℕ) (s : SearchState) : Type 0 where
  pub searching : IsSearching clauses variables conflicts s.watches.clauses.known s.trail s.log
  pub watched : IsWatched s.watches.clauses.known s.trail s.watches.clauses.pairs s.watches.clauses.rows s.watches.head

-- how many conflicts are left, and before the next of them free variables
abbrev pub work_left : ℕ → ℕ → SearchState → ℕ
work_left variables conflicts s = (conflicts - length s.log) * (variables + 1) + (variables - length s.trail.entries)

-- the search goes on with less work left, or something is found
abbrev pub IsTurned : List (List Literal) → ℕ → ℕ → SearchState → SearchState → Turn → Type 0
IsTurned clauses variables conflicts old new Goes = IsRunning clauses variables conflicts new × (work_left variables conflicts new < work_left variables conflicts old)
IsTurned clauses variables conflicts old new (Model bits) = IsFound clauses variables conflicts (found.Model bits)
IsTurned clauses variables conflicts old new Refuted = IsFound clauses variables conflicts (found.Refuted new.log)
IsTurned clauses variables conflicts old new Limit = IsFound clauses variables conflicts (found.Limit new.log)
