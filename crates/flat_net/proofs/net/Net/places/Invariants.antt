use Rattle.flat_net.proofs.PlaceLists.{PlacesSoFar}
use Rattle.flat_net.proofs.net.Net.places.Given as goal

abbrev pub invariant-loop-latch : goal.invariant-loop-latch
invariant-loop-latch l = PlacesSoFar l.names l.first l.latch-items l.latch-index l.left l.places.items
