-- Clauses, each of which watches two of its literals, and the rows of those that watch a literal.
use Rattle.std.specs.Prelude.{◌≡◌, ◌≢◌, ◌⊎◌, ℕ, ◌<◌, ◌≤◌, List, length, Some, slice_get, slice_set, [], ◌∷◌, ◌++◌}
use Rattle.std.specs.List.{Contains}
use Rattle.clause_base.specs.Literals.{Literal}
use Rattle.clause_watch.specs.Rows.{row, IsAdded, IsRemoved}
use Rattle.clause_watch.specs.declared.pair.Pair.{Pair}
use Rattle.clause_watch.specs.declared.watchers.Watcher.{Watcher}

-- the clauses, what each watches, and for each literal the clauses that watch it
pub record WatchedView : Type 0 where
  pub known : List (List Literal)
  pub pairs : List Pair
  pub rows : List (List Watcher)

-- the numbered clause watches the literal
abbrev pub IsWatch : List Pair → ℕ → Literal → Type 0
IsWatch pairs n w = (p : Pair) × (slice_get pairs n ≡ Some p) × ((p.first ≡ w) ⊎ (p.second ≡ w))

-- in the literal's row, at a place or after it, stands the numbered clause
abbrev pub IsListed : List (List Watcher) → Literal → ℕ → ℕ → Type 0
IsListed rows w from n = (q : ℕ) × (e : Watcher) × (from ≤ q) × (slice_get (row rows w) q ≡ Some e) × (e.clause ≡ n)

-- two literals of the clause, of two variables
pub record AreOwn (c : List Literal) (p : Pair) : Type 0 where
  pub first : Contains c p.first
  pub second : Contains c p.second
  pub differ : p.first.variable ≢ p.second.variable

-- a clause of two or more literals, and one of them
pub record IsNamed (known : List (List Literal)) (e : Watcher) : Type 0 where
  pub clause : List Literal
  pub is_there : slice_get known e.clause ≡ Some clause
  pub long : 2 ≤ length clause
  pub holds : Contains clause e.blocker

-- each clause of two or more literals watches two of its own, and stands in both rows
pub record IsWatching (known : List (List Literal)) (pairs : List Pair) (rows : List (List Watcher)) : Type 0 where
  pub counted : length pairs ≡ length known
  pub owned : (n : ℕ) (c : List Literal) (p : Pair) → slice_get known n ≡ Some c → 2 ≤ length c → slice_get pairs n ≡ Some p → AreOwn c p
  pub listed : (n : ℕ) (c : List Literal) (w : Literal) → slice_get known n ≡ Some c → 2 ≤ length c → IsWatch pairs n w → IsListed rows w 0 n
  pub named : (l : Literal) (q : ℕ) (e : Watcher) → slice_get (row rows l) q ≡ Some e → IsNamed known e

-- in each row stand clauses that watch its literal, each once
pub record AreAlone (pairs : List Pair) (rows : List (List Watcher)) : Type 0 where
  pub watching : (l : Literal) (q : ℕ) (e : Watcher) → slice_get (row rows l) q ≡ Some e → IsWatch pairs e.clause l
  pub once : (l : Literal) (q r : ℕ) (e f : Watcher) → slice_get (row rows l) q ≡ Some e → slice_get (row rows l) r ≡ Some f → e.clause ≡ f.clause → q ≡ r

-- each clause of two or more literals watches two of its own, and the rows hold exactly the clauses that watch their literals
pub record KeepsWatches (known : List (List Literal)) (pairs : List Pair) (rows : List (List Watcher)) : Type 0 where
  pub all : IsWatching known pairs rows
  pub alone : AreAlone pairs rows

-- the clause went into the rows of the two literals
pub record IsInBothRows (rows : List (List Watcher)) (number : ℕ) (first second : Literal) (new_rows : List (List Watcher)) : Type 0 where
  pub between : List (List Watcher)
  pub left : IsAdded rows first (record { clause = number; blocker = second }) between
  pub right : IsAdded between second (record { clause = number; blocker = first }) new_rows

-- the clause was put last, with its pair, and if it has two literals or more, into the rows of the pair
pub record IsPushed (old : WatchedView) (clause : List Literal) (pair : Pair) (new : WatchedView) : Type 0 where
  pub stored : new.known ≡ old.known ++ clause ∷ []
  pub paired : new.pairs ≡ old.pairs ++ pair ∷ []
  pub short : length clause < 2 → new.rows ≡ old.rows
  pub long : 2 ≤ length clause → IsInBothRows old.rows (length old.known) pair.first pair.second new.rows

-- the clause's number went into the row of `next`, its pair was written, and it was taken out of the literal's row
pub record IsRewatched (pairs : List Pair) (rows : List (List Watcher)) (literal : Literal) (place number : ℕ) (kept next : Literal) (new_pairs : List Pair) (new_rows : List (List Watcher)) : Type 0 where
  pub between : List (List Watcher)
  pub added : IsAdded rows next (record { clause = number; blocker = kept }) between
  pub written : new_pairs ≡ slice_set pairs number (record { first = kept; second = next })
  pub removed : IsRemoved between literal place new_rows
