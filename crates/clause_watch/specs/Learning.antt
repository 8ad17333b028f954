-- Clauses that come to a search: the given ones, and those that are learnt.
use Rattle.std.specs.Prelude.{◌≡◌, ◌≢◌, ℕ, ◌+◌, ◌*◌, ◌<◌, ◌≤◌, List, length, Option, Some, None, slice_get}
use Rattle.std.specs.List.{Contains}
use Rattle.clause_base.specs.Literals.{Literal, negation}
use Rattle.clause_base.specs.New.{IsNew}
use Rattle.clause_watch.specs.Range.{InRange}
use Rattle.clause_watch.specs.Trails.{TrailView, At, FreeBefore, OthersFalse, TwoFreeBefore, IsTrail}
use Rattle.clause_watch.specs.Answers.{IsConflict}
use Rattle.clause_watch.specs.TwoWatches.{IsWatching}
use Rattle.clause_watch.specs.Watching.{StaysMet, IsWatched}
use Rattle.clause_watch.specs.declared.entry.Entry.{Entry}
use Rattle.clause_watch.specs.declared.places.Placed.{Placed}
use Rattle.clause_watch.specs.declared.watchers.Watcher.{Watcher}
use Rattle.clause_watch.specs.declared.pair.Pair.{Pair}
use Rattle.clause_watch.specs.declared.pair.Visit.{Visit}
use Rattle.clause_watch.specs.declared.pair.Visit.TheVariants.{Stays, Gone, Conflict}

-- the entry at the place is a decision
abbrev pub IsDecision : List Entry → ℕ → Type 0
IsDecision t k = (e : Entry) × (slice_get t k ≡ Some e) × (e.reason ≡ None)

-- each entry was forced
abbrev pub AreForced : List Entry → Type 0
AreForced t = (d : ℕ) (e : Entry) → slice_get t d ≡ Some e → e.reason ≢ None

-- between the place and the cut nothing was decided
abbrev pub IsForcedUpTo : List Entry → ℕ → ℕ → Type 0
IsForcedUpTo t from keep = (d : ℕ) (e : Entry) → from ≤ d → d < keep → slice_get t d ≡ Some e → e.reason ≢ None

-- another literal of the clause, after which nothing was decided before the cut, or none
abbrev pub IsSecond : List Entry → List Literal → Literal → ℕ → Option Placed → Type 0
IsSecond t c l keep None = (length c < 2) × IsForcedUpTo t 0 keep
IsSecond t c l keep (Some p) =
    Contains c p.literal × (p.literal.variable ≢ l.variable) × At t p.place (negation p.literal) × (p.place < keep) × IsForcedUpTo t (p.place + 1) keep

-- the new clause forces the literal by the first `keep` entries, and each decision before them stays good
pub record IsAsserting (known : List (List Literal)) (t : List Entry) (clause : List Literal) (literal : Literal) (other : Option Placed) (keep : ℕ) : Type 0 where
  pub holds : Contains clause literal
  pub is_new : IsNew known clause
  pub shorter : keep ≤ length t
  pub forced : OthersFalse t keep clause literal
  pub free : FreeBefore t keep literal
  pub kept : (k : ℕ) (e : Entry) → k < keep → slice_get t k ≡ Some e → e.reason ≡ None → TwoFreeBefore t k clause
  pub decision : IsDecision t keep
  pub second : IsSecond t clause literal keep other

-- what a learnt clause watches: the literal that it forces, and the other one if there is one
abbrev pub IsLearntPair : Literal → Option Placed → Pair → Type 0
IsLearntPair l None pair = pair ≡ record { first = l; second = l }
IsLearntPair l (Some p) pair = pair ≡ record { first = l; second = p.literal }

-- the state before the first propagation: nothing was decided, and the first clauses are met if they have less than two literals
pub record IsLoading (known : List (List Literal)) (trail : TrailView) (pairs : List Pair) (rows : List (List Watcher)) (number : ℕ) : Type 0 where
  pub range : InRange trail.variables known
  pub is_trail : IsTrail known trail.entries
  pub sized : length rows ≡ 2 * trail.variables + 2
  pub watching : IsWatching known pairs rows
  pub forced : AreForced trail.entries
  pub short : (n : ℕ) (c : List Literal) → n < number → slice_get known n ≡ Some c → length c < 2 → StaysMet trail.entries 0 c

-- a clause is false, and nothing was decided
abbrev pub IsFirstConflict : List (List Literal) → TrailView → ℕ → Type 0
IsFirstConflict known trail n = IsTrail known trail.entries × IsConflict known trail.entries n × AreForced trail.entries

-- one clause more is met if it has less than two literals, or it is false
abbrev pub IsEntered : List (List Literal) → TrailView → List Pair → List (List Watcher) → ℕ → Visit → Type 0
IsEntered known trail pairs rows number Stays = IsLoading known trail pairs rows (number + 1)
IsEntered known trail pairs rows number Gone = ⊥
IsEntered known trail pairs rows number (Conflict n) = IsFirstConflict known trail n

-- all clauses are loaded, or one is false
abbrev pub IsLoaded : List (List Literal) → TrailView → List Pair → List (List Watcher) → Option ℕ → Type 0
IsLoaded known trail pairs rows None = IsWatched known trail pairs rows 0
IsLoaded known trail pairs rows (Some n) = IsFirstConflict known trail n
