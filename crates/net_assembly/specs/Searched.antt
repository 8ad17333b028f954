-- How far a search through what numbers read has come.
use Rattle.std.specs.Prelude.{◌≡◌, ◌≢◌, ℕ, suc, ◌+◌, ◌-◌, ◌<◌, ◌≤◌, List, [], ◌∷◌, length, slice_get, Some}
use Rattle.std.specs.List.{Contains}
use Rattle.base_tables.specs.Table.{AreDistinct}
use Rattle.net_assembly.specs.declared.search.Mark.{Mark}
use Rattle.net_assembly.specs.declared.search.Mark.TheVariants.{New, Entered, Done}
use Rattle.net_assembly.specs.Order.{reads_of, IsBehind}

-- the search has come to the number
abbrev pub IsMet : List Mark → ℕ → Type 0
IsMet marks n = (mark : Mark) × (slice_get marks n ≡ Some mark) × (mark ≢ New)

-- so many reads of an entered number were looked at
abbrev pub looked_at : Mark → ℕ
looked_at New = 0
looked_at (Entered looked) = looked
looked_at Done = 0

-- Each number on the way reads the next. All reads of a number on the way that were looked at are done, and so is each
-- number of the order, which stands behind all that it reads.
pub record IsSearch (graph : List (List ℕ)) (marks : List Mark) (way order : List ℕ) : Type 0 where
  pub size : length marks ≡ length graph
  pub entered : (i n : ℕ) → slice_get way i ≡ Some n → (k : ℕ) × (slice_get marks n ≡ Some (Entered k))
  pub on_way : (n k : ℕ) → slice_get marks n ≡ Some (Entered k) → (i : ℕ) × (slice_get way i ≡ Some n)
  pub distinct : AreDistinct way
  pub next : (i n m : ℕ) → slice_get way i ≡ Some n → slice_get way (suc i) ≡ Some m → Contains (reads_of graph n) m
  pub few : (n k : ℕ) → slice_get marks n ≡ Some (Entered k) → k ≤ length (reads_of graph n)
  pub looked : (n k j r : ℕ) → slice_get marks n ≡ Some (Entered k) → j < k → slice_get (reads_of graph n) j ≡ Some r → slice_get marks r ≡ Some Done
  pub done : (n : ℕ) → slice_get marks n ≡ Some Done → (i : ℕ) × (slice_get order i ≡ Some n)
  pub only : (i n : ℕ) → slice_get order i ≡ Some n → slice_get marks n ≡ Some Done
  pub once : AreDistinct order
  pub behind : IsBehind graph order

-- the last number on the way reads one that stands on the way
pub record IsClosed (graph : List (List ℕ)) (way : List ℕ) (read : ℕ) : Type 0 where
  pub distinct : AreDistinct way
  pub next : (i n m : ℕ) → slice_get way i ≡ Some n → slice_get way (suc i) ≡ Some m → Contains (reads_of graph n) m
  pub place : ℕ
  pub there : slice_get way place ≡ Some read
  pub last : ℕ
  pub last_there : slice_get way (length way - 1) ≡ Some last
  pub reads : Contains (reads_of graph last) read

-- how many steps a number still takes
abbrev pub steps_of : List ℕ → Mark → ℕ
steps_of reads New = length reads + 2
steps_of reads (Entered looked) = length reads + 1 - looked
steps_of reads Done = 0

-- how many steps the search still takes
abbrev pub steps_left : List (List ℕ) → List Mark → ℕ
steps_left [] marks = 0
steps_left (reads ∷ graph) [] = 0
steps_left (reads ∷ graph) (mark ∷ marks) = steps_of reads mark + steps_left graph marks

-- what a turn of the search leaves: the state after it, what was met is still met, and fewer steps are left
pub record IsTurn (graph : List (List ℕ)) (before after : List Mark) (way order : List ℕ) : Type 0 where
  pub search : IsSearch graph after way order
  pub met : (n : ℕ) → IsMet before n → IsMet after n
  pub fewer : steps_left graph after < steps_left graph before
