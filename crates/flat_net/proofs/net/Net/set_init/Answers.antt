-- The latch starts with another value.
use Rattle.std.proofs.Common.{subst}
use Rattle.flat_net.specs.contracts.net.Net.{the_view}
use Rattle.flat_net.specs.Makes.{with_init}
use Rattle.flat_net.specs.Sound.{IsSound}
use Rattle.flat_net.proofs.Growth.{sound_along}
use Rattle.flat_net.proofs.InitSet.{sound_init, written}
use Rattle.flat_net.proofs.net.Net.set_init.Goals as goal

pub invariant_of-self : goal.invariant_of-self
invariant_of-self c =
    let sound : IsSound c.args.self.now = subst IsSound c.self.view_is c.self.invariant in
    sound_along (with_init c.args.self.now c.args.j c.args.init) (sound_init c.args.self.now c.args.j c.args.init sound)
    (written (the_view c.self.inside) c.args.self.now c.args.j c.args.init c.index_mut.result.now c.self.view_is c.requires c.index_mut.ensures.value)

pub returns : goal.returns
returns c = written (the_view c.self.inside) c.args.self.now c.args.j c.args.init c.index_mut.result.now c.self.view_is c.requires c.index_mut.ensures.value
