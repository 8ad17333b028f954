-- What is told of a net behind the rows of a stimulus.
use Rattle.std.specs.Prelude.{ℕ, Bool, true, false, List, [], ◌∷◌, ◌++◌, length, codes, Option, Some, None, filter, position}
use Rattle.std.specs.Fmt.{decimal}
use Rattle.flat_net.specs.Cut.{latch_at}
use Rattle.flat_net.specs.View.{NetView}

-- nothing is known of it
abbrev pub is_unknown : Option Bool → Bool
is_unknown None = true
is_unknown (Some bit) = false

-- how many aren't known
abbrev pub unknown_count : List (Option Bool) → ℕ
unknown_count known = length (filter is_unknown known)

-- the place of the first that isn't known
abbrev pub first_unknown : List (Option Bool) → Option ℕ
first_unknown known = position is_unknown known

-- the first latch's name behind a space, if there is one
abbrev pub first_name : NetView → Option ℕ → List ℕ
first_name n None = []
first_name n (Some j) = 32 ∷ (latch_at n j).name

-- the line of a net's latches that aren't known
abbrev pub unknown_line : List ℕ → NetView → List (Option Bool) → List ℕ
unknown_line front n known = front ++ decimal (unknown_count known) ++ first_name n (first_unknown known) ++ 10 ∷ []

-- how many rows the stimulus has
abbrev pub after_line : ℕ → List ℕ
after_line rows = codes "after " ++ decimal rows ++ 10 ∷ []
