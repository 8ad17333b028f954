-- A clock changes nothing else.
use Rattle.std.proofs.Common.{rules, subst}
use Rattle.flat_net.specs.Makes.{with_clock}
use Rattle.flat_net.specs.Sound.{IsSound}
use Rattle.flat_net.proofs.Growth.{sound_along, sound_clock}
use Rattle.flat_net.proofs.net.Net.put_clock.Goals as goal

pub invariant_of-self : goal.invariant_of-self
invariant_of-self c =
    sound_along (with_clock c.args.self.now c.args.name)
    (sound_clock c.args.self.now c.args.name (subst IsSound c.self.view_is c.self.invariant))
    (search rules)
