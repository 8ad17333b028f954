-- For each literal the clauses that watch it.
use Rattle.std.specs.Prelude.{◌≡◌, ◌≢◌, ◌⊎◌, ℕ, ◌+◌, ◌*◌, ◌≤◌, List, [], ◌∷◌, ◌++◌, length, Some, slice_get, slice_set, unwrap_or, if◌then◌else◌}
use Rattle.clause_base.specs.Literals.{Literal}
use Rattle.clause_watch.specs.declared.watchers.Watcher.{Watcher}

abbrev pub row_of : Literal → ℕ
row_of l = 2 * l.variable + (if l.positive then 1 else 0)

-- those that watch the literal
abbrev pub row : List (List Watcher) → Literal → List Watcher
row rows l = unwrap_or (slice_get rows (row_of l)) []

-- there is a row for each literal of so many variables, and all are empty
pub record AreEmpty (variables : ℕ) (rows : List (List Watcher)) : Type 0 where
  pub sized : length rows ≡ 2 * variables + 2
  pub empty : (l : Literal) → row rows l ≡ []

-- the one at the place was taken away, and what stood at it or after it still does
pub record IsTaken (old : List Watcher) (place : ℕ) (new : List Watcher) : Type 0 where
  pub shorter : length new + 1 ≡ length old
  pub stays : (q : ℕ) (e : Watcher) → slice_get old q ≡ Some e → q ≢ place → (r : ℕ) × (slice_get new r ≡ Some e) × (place ≤ q → place ≤ r)
  pub only : (q : ℕ) (e : Watcher) → slice_get new q ≡ Some e → (r : ℕ) × (slice_get old r ≡ Some e) × (r ≢ place) × ((r ≡ q) ⊎ ((q ≡ place) × (r ≡ length new)))

pub record IsAdded (old : List (List Watcher)) (literal : Literal) (watcher : Watcher) (new : List (List Watcher)) : Type 0 where
  pub sized : length new ≡ length old
  pub here : row new literal ≡ row old literal ++ watcher ∷ []
  pub others : (l : Literal) → l ≢ literal → row new l ≡ row old l

pub record IsPut (old : List (List Watcher)) (literal : Literal) (place : ℕ) (watcher : Watcher) (new : List (List Watcher)) : Type 0 where
  pub sized : length new ≡ length old
  pub here : row new literal ≡ slice_set (row old literal) place watcher
  pub others : (l : Literal) → l ≢ literal → row new l ≡ row old l

pub record IsRemoved (old : List (List Watcher)) (literal : Literal) (place : ℕ) (new : List (List Watcher)) : Type 0 where
  pub sized : length new ≡ length old
  pub here : IsTaken (row old literal) place (row new literal)
  pub others : (l : Literal) → l ≢ literal → row new l ≡ row old l

-- the last one was taken out of the literal's row
abbrev pub IsPopped : List (List Watcher) → Literal → List (List Watcher) → Type 0
IsPopped old literal new = (watcher : Watcher) × IsAdded new literal watcher old

-- each row has what it had
pub record AreSameRows (old new : List (List Watcher)) : Type 0 where
  pub sized : length new ≡ length old
  pub same : (l : Literal) → row new l ≡ row old l
