use Rattle.std.proofs.Common.{◌≡◌, ◌<◌, ◌+◌, ◌-◌, ℕ, List, length, take}
use Rattle.std.specs.Prelude.{IfSome}
use Rattle.base_shelves.specs.Outside.{SameHeld, NoneFell}
use Rattle.base_shelves.proofs.whole_file.fetch_through.Given as goal

abbrev pub invariant-loop-shelf : goal.invariant-loop-shelf
invariant-loop-shelf g l =
    (0 < length l.room)
    × SameHeld (g.S.Shelf.held l.initial.shelf) (g.S.Shelf.held l.shelf)
    × NoneFell (g.S.Shelf.faults l.initial.shelf) (g.S.Shelf.faults l.shelf)
    × ((other : List ℕ) → g.S.Shelf.serves l.initial.shelf other → g.S.Shelf.serves l.shelf other)
    × IfSome (g.S.Shelf.held l.initial.shelf l.path) (λ bytes. l.text.items ≡ take (length l.text.items) bytes)

abbrev pub decreases-loop-shelf : goal.decreases-loop-shelf
decreases-loop-shelf g l = (l.limit + 1) - length l.text.items
