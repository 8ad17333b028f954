-- Each latch's driver is that of its place.
use Rattle.std.proofs.Common.{rules}
use Rattle.std.proofs.lemmas.Result.{IfOk-weaker}
use Rattle.flat_net.proofs.net.Net.drivers_after.Goals as goal

pub returns : goal.returns
returns c =
    let places = c.in_ok-places.places.items in
    IfOk-weaker c.moved_drivers.result _ _ (λ drivers is. record { places = places; right = c.in_ok-places.ensures; moved = is }) (search rules)
