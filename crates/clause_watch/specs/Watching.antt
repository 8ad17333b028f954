-- What two watched literals keep true while a trail grows.
use Rattle.std.specs.Prelude.{◌≡◌, ◌≢◌, ◌⊎◌, ℕ, ◌+◌, ◌*◌, ◌<◌, ◌≤◌, List, length, Option, Some, None, slice_get, [], ◌∷◌, ◌++◌}
use Rattle.std.specs.List.{Contains}
use Rattle.clause_base.specs.Literals.{Literal, negation}
use Rattle.clause_watch.specs.Range.{InRange}
use Rattle.clause_watch.specs.Rows.{row}
use Rattle.clause_watch.specs.TwoWatches.{IsWatch, IsListed, IsWatching}
use Rattle.clause_watch.specs.Trails.{TrailView, At, TrueBefore, FreeBefore, OthersFalse, Quiet, IsTrail}
use Rattle.clause_watch.specs.Answers.{IsConflict}
use Rattle.clause_watch.specs.declared.entry.Entry.{Entry}
use Rattle.clause_watch.specs.declared.watchers.Watcher.{Watcher}
use Rattle.clause_watch.specs.declared.pair.Pair.{Pair}
use Rattle.clause_watch.specs.declared.pair.Visit.{Visit}
use Rattle.clause_watch.specs.declared.pair.Visit.TheVariants.{Stays, Gone, Conflict}

-- from a place on, up to another, nothing was decided
abbrev pub NoDecision : List Entry → ℕ → ℕ → Type 0
NoDecision t from to = (d : ℕ) (e : Entry) → from ≤ d → d ≤ to → slice_get t d ≡ Some e → e.reason ≢ None

-- the clause is met, and a cut at a decision that isn't before the place leaves it met
abbrev pub StaysMet : List Entry → ℕ → List Literal → Type 0
StaysMet t from c = (m : Literal) × (j : ℕ) × Contains c m × At t j m × NoDecision t from j

-- where a watch became false before the head, its clause is met, and stays so as long as the watch is false
abbrev pub AreSettled : List (List Literal) → List Entry → List Pair → ℕ → Type 0
AreSettled known t pairs head = (n k : ℕ) (c : List Literal) (w : Literal) → slice_get known n ≡ Some c → 2 ≤ length c → IsWatch pairs n w → k < head → At t k (negation w) → StaysMet t (k + 1) c

-- clauses of fewer literals are met whatever is cut
abbrev pub AreShortMet : List (List Literal) → List Entry → Type 0
AreShortMet known t = (n : ℕ) (c : List Literal) → slice_get known n ≡ Some c → length c < 2 → StaysMet t 0 c

-- the state between two steps of a search: the entries before the head are propagated
pub record IsWatched (known : List (List Literal)) (trail : TrailView) (pairs : List Pair) (rows : List (List Watcher)) (head : ℕ) : Type 0 where
  pub range : InRange trail.variables known
  pub is_trail : IsTrail known trail.entries
  pub sized : length rows ≡ 2 * trail.variables + 2
  pub watching : IsWatching known pairs rows
  pub settled : AreSettled known trail.entries pairs head
  pub short : AreShortMet known trail.entries
  pub late : (d : ℕ) (e : Entry) → head < d → slice_get trail.entries d ≡ Some e → e.reason ≢ None
  pub within : head ≤ length trail.entries

-- the state while the row of the literal that became false at the head is visited, up to a place
pub record IsVisiting (known : List (List Literal)) (trail : TrailView) (pairs : List Pair) (rows : List (List Watcher)) (head : ℕ) (literal : Literal) (place : ℕ) : Type 0 where
  pub watched : IsWatched known trail pairs rows head
  pub there : At trail.entries head (negation literal)
  pub pending : (n : ℕ) (c : List Literal) → slice_get known n ≡ Some c → 2 ≤ length c → IsWatch pairs n literal → StaysMet trail.entries (head + 1) c ⊎ IsListed rows literal place n

-- what a visit of one place of the row leaves, where the row had so many before
abbrev pub IsVisited : List (List Literal) → TrailView → List Pair → List (List Watcher) → ℕ → Literal → ℕ → ℕ → Visit → Type 0
IsVisited known trail pairs rows head l place before Stays = IsVisiting known trail pairs rows head l (place + 1) × (length (row rows l) ≡ before)
IsVisited known trail pairs rows head l place before Gone = IsVisiting known trail pairs rows head l place × (length (row rows l) + 1 ≡ before)
IsVisited known trail pairs rows head l place before (Conflict n) = IsWatched known trail pairs rows head × IsConflict known trail.entries n

-- after a whole row either the head goes on or a clause is false
abbrev pub IsRowVisited : List (List Literal) → TrailView → List Pair → List (List Watcher) → ℕ → Option ℕ → Type 0
IsRowVisited known trail pairs rows head None = IsWatched known trail pairs rows (head + 1)
IsRowVisited known trail pairs rows head (Some n) = IsWatched known trail pairs rows head × IsConflict known trail.entries n

-- after propagation a clause is false, or all entries are propagated and no clause is false or forces anything
abbrev pub IsPropagated : List (List Literal) → TrailView → List Pair → List (List Watcher) → ℕ → Option ℕ → Type 0
IsPropagated known trail pairs rows head None = IsWatched known trail pairs rows head × (head ≡ length trail.entries) × Quiet known trail.entries (length trail.entries)
IsPropagated known trail pairs rows head (Some n) = IsWatched known trail pairs rows head × IsConflict known trail.entries n

-- the other one of the two
abbrev pub IsOther : Pair → Literal → Option Literal → Type 0
IsOther p l (Some m) = ((p.first ≡ l) × (p.second ≡ m)) ⊎ ((p.second ≡ l) × (p.first ≡ m))
IsOther p l None = (p.first ≢ l) × (p.second ≢ l)

-- a literal of another variable that isn't false, or none
abbrev pub IsNextWatch : List Entry → List Literal → Literal → Option Literal → Type 0
IsNextWatch t c other (Some l) = Contains c l × (l.variable ≢ other.variable) × (TrueBefore t (length t) l ⊎ FreeBefore t (length t) l)
IsNextWatch t c other None = OthersFalse t (length t) c other

-- the literal is true, it was free and is made true, or it is false
abbrev pub IsForced : TrailView → TrailView → Literal → ℕ → Visit → Type 0
IsForced old new l number Stays = ((new ≡ old) × TrueBefore old.entries (length old.entries) l) ⊎ (FreeBefore old.entries (length old.entries) l × (new.entries ≡ old.entries ++ record { literal = l; reason = Some number } ∷ []))
IsForced old new l number Gone = ⊥
IsForced old new l number (Conflict n) = (n ≡ number) × (new ≡ old) × TrueBefore old.entries (length old.entries) (negation l)
