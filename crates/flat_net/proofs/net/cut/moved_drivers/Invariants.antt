use Rattle.std.proofs.Common.{◌≡◌, map, take}
use Rattle.flat_net.specs.Cut.{moved_to}
use Rattle.flat_net.proofs.net.cut.moved_drivers.Given as goal

abbrev pub invariant-loop-driver : goal.invariant-loop-driver
invariant-loop-driver l = l.moved.items ≡ map (moved_to l.places) (take l.driver-index l.drivers)
