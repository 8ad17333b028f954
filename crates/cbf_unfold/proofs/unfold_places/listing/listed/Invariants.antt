use Rattle.std.proofs.Common.{◌≡◌, take}
use Rattle.cbf_unfold.proofs.unfold_places.listing.listed.Given as goal

abbrev pub invariant-loop-number : goal.invariant-loop-number
invariant-loop-number l = l.places.items ≡ take l.number l.table
