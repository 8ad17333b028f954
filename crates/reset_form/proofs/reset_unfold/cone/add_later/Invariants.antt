use Rattle.std.proofs.Common.{take}
use Rattle.std.specs.List.{AllPairs}
use Rattle.cbf_unfold.specs.unfold_places.Places.{PlaceBefore}
use Rattle.reset_form.specs.reset_unfold.Cone.{HasLater}
use Rattle.reset_form.proofs.reset_unfold.cone.add_later.Given as goal

abbrev pub invariant-loop-leaf : goal.invariant-loop-leaf
invariant-loop-leaf l = record { later : HasLater (take l.leaf-index l.before) l.base l.initial.found.items l.found.items; ordered : AllPairs PlaceBefore l.found.items }
