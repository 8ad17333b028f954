use Rattle.std.proofs.Common.{take}
use Rattle.cbf_unfold.specs.unfold_places.Visitors.{ArePlacesAt}
use Rattle.cbf_unfold.proofs.unfold_places.visitors.places_at.Given as goal

abbrev pub invariant-loop-number : goal.invariant-loop-number
invariant-loop-number l = ArePlacesAt l.memo (take l.number-index l.numbers) l.places.items
