-- The net has one cover more.
use Rattle.std.proofs.Common.{rules, subst}
use Rattle.flat_net.specs.Makes.{with_cover}
use Rattle.flat_net.specs.Sound.{IsSound}
use Rattle.flat_net.proofs.Growth.{sound_along, sound_cover}
use Rattle.flat_net.proofs.net.Net.add_cover.Goals as goal

pub invariant_of-self-2 : goal.invariant_of-self-2
invariant_of-self-2 c =
    sound_along (with_cover c.args.self.now c.args.cover)
    (sound_cover c.args.self.now c.args.cover (subst IsSound c.self.view_is c.self.invariant) c.keeps.ensures c.requires)
    (search rules)
