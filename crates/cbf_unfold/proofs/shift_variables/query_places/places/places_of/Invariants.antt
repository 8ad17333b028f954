use Rattle.std.proofs.Common.{take}
use Rattle.cbf_unfold.specs.shift_variables.query_places.Places.{ArePlacesOf, ComeInTurn}
use Rattle.cbf_unfold.proofs.shift_variables.query_places.places.places_of.Given as goal

abbrev pub invariant-loop-i : goal.invariant-loop-i
invariant-loop-i l = record { are : ArePlacesOf l.table (take l.i l.vars) l.places.items; turn : ComeInTurn l.table l.vars l.places.items }
