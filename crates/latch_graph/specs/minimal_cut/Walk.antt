-- How far a walk from a latch that is put back has come.
use Rattle.std.specs.Prelude.{◌≡◌, ◌≢◌, ◌==◌, ℕ, ◌<◌, ◌⊎◌, if◌then◌else◌, Bool, true, false, List, [], ◌∷◌, ◌++◌, length, slice_get, slice_set, Some}
use Rattle.std.specs.List.{sum_by}
use Rattle.latch_graph.specs.minimal_cut.graph_components.Node.{Node}
use Rattle.latch_graph.specs.minimal_cut.graph_components.flat_net.Signal.{Signal}
use Rattle.latch_graph.specs.declared.minimal_cut.marks.Direction.{Direction}
use Rattle.latch_graph.specs.declared.minimal_cut.marks.Direction.TheVariants.{Back, Ahead}
use Rattle.latch_graph.specs.declared.minimal_cut.marks.Mark.{Mark}
use Rattle.latch_graph.specs.declared.minimal_cut.marks.Mark.TheVariants.{Out, Met}
use Rattle.latch_graph.specs.minimal_cut.Readers.{NodeReads, WayBack}
use Rattle.latch_graph.specs.minimal_cut.Marks.{IsBlocked}

-- the direction of the other walk
abbrev pub other_way : Direction → Direction
other_way Back = Ahead
other_way Ahead = Back

-- the mark of a signal that wasn't met in this turn
abbrev pub IsOlder : ℕ → Mark → Type 0
IsOlder turn Out = ⊥
IsOlder turn (Met way t) = t ≢ turn

-- Later in a turn: some signals that weren't met are met by the walk of this direction, and nothing else has changed.
pub record IsLater (way : Direction) (turn : ℕ) (old new : List Mark) : Type 0 where
  pub size : length new ≡ length old
  pub from : (s : ℕ) (mark : Mark) → slice_get new s ≡ Some mark → (slice_get old s ≡ Some mark) ⊎ ((mark ≡ Met way turn) × ((m : Mark) × (slice_get old s ≡ Some m) × IsOlder turn m))
  pub to : (s : ℕ) (mark : Mark) → slice_get old s ≡ Some mark → (slice_get new s ≡ Some mark) ⊎ ((slice_get new s ≡ Some (Met way turn)) × IsOlder turn mark)

-- how many signals weren't met in this turn
abbrev pub unseen_of : ℕ → Mark → ℕ
unseen_of turn Out = 0
unseen_of turn (Met way t) = if t == turn then 0 else 1

abbrev pub unseen_count : ℕ → List Mark → ℕ
unseen_count turn marks = sum_by (unseen_of turn) marks

-- the signal isn't the root, and is that of a latch taken out, or was met by this walk
abbrev pub IsPassed : List Mark → ℕ → Direction → ℕ → ℕ → Type 0
IsPassed marks root way turn r = (r ≢ root) × (IsBlocked marks r ⊎ (slice_get marks r ≡ Some (Met way turn)))

-- the signal is the root, or a way leads to it and it was met by this walk
abbrev pub IsMet : List Node → List Mark → ℕ → Direction → ℕ → ℕ → Type 0
IsMet nodes marks root way turn s = (s ≡ root) ⊎ (WayBack nodes (IsBlocked marks) root s × (slice_get marks s ≡ Some (Met way turn)))

-- A walk from the root: the signals that were met, in order, the first of which so many have only passed signals before them.
pub record IsWalk (nodes : List Node) (marks : List Mark) (root : ℕ) (way : Direction) (turn : ℕ) (met : List ℕ) (at : ℕ) : Type 0 where
  pub begun : slice_get met 0 ≡ Some root
  pub seen : (s : ℕ) → slice_get marks s ≡ Some (Met way turn) → (i : ℕ) × (slice_get met i ≡ Some s)
  pub are_met : (i s : ℕ) → slice_get met i ≡ Some s → IsMet nodes marks root way turn s
  pub passed : (i s r : ℕ) → i < at → slice_get met i ≡ Some s → NodeReads nodes s r → IsPassed marks root way turn r

-- the same, where the first k readings of the next signal s are passed too
pub record IsGoing (nodes : List Node) (marks : List Mark) (root : ℕ) (way : Direction) (turn : ℕ) (met : List ℕ) (at k s : ℕ) (reads : List Signal) : Type 0 where
  pub walk : IsWalk nodes marks root way turn met at
  pub here : slice_get met at ≡ Some s
  pub reads_passed : (i : ℕ) (r : Signal) → i < k → slice_get reads i ≡ Some r → IsPassed marks root way turn r.0

-- a way leads from the root to the root, or to a signal that the other walk has met
abbrev pub HasMet : List Node → List Mark → ℕ → Direction → ℕ → Type 0
HasMet nodes marks root way turn = (x : ℕ) × WayBack nodes (IsBlocked marks) root x × ((x ≡ root) ⊎ (slice_get marks x ≡ Some (Met (other_way way) turn)))

-- nothing has changed, or the signal wasn't met in this turn and is met now
abbrev pub Adds : List Mark → List Mark → List ℕ → List ℕ → ℕ → Direction → ℕ → Type 0
Adds old new met later signal way turn =
    ((new ≡ old) × (later ≡ met) × ((slice_get old signal ≡ Some Out) ⊎ (slice_get old signal ≡ Some (Met way turn))))
    ⊎ ((new ≡ slice_set old signal (Met way turn)) × (later ≡ met ++ signal ∷ []) × ((m : Mark) × (slice_get old signal ≡ Some m) × IsOlder turn m))

-- what the answer says: the signal is the root or was met by the other walk, or else
abbrev pub Meets : List Mark → List Mark → List ℕ → List ℕ → ℕ → Direction → ℕ → ℕ → Bool → Type 0
Meets old new met later signal way root turn true = (new ≡ old) × (later ≡ met) × ((signal ≡ root) ⊎ (slice_get old signal ≡ Some (Met (other_way way) turn)))
Meets old new met later signal way root turn false = (signal ≢ root) × Adds old new met later signal way turn
