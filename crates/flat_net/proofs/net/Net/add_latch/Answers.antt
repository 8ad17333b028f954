-- The net has one latch more, or is as it was.
use Rattle.std.proofs.Common.{◌≡◌, ◌++◌, ◌∷◌, [], rules, subst}
use Rattle.base_tables.specs.Table.{AreDistinct}
use Rattle.flat_net.specs.Makes.{with_latch}
use Rattle.flat_net.specs.Sound.{IsSound}
use Rattle.flat_net.proofs.Growth.{either_way, ok_together, err_together, sound_along, sound_latch}
use Rattle.flat_net.proofs.net.Net.add_latch.Goals as goal

pub invariant_of-self : goal.invariant_of-self
invariant_of-self c =
    let sound = subst IsSound c.self.view_is c.self.invariant in
    let entered = c.enter.ensures in
    either_way c.enter.result
    (ok_together c.enter.result entered.names entered.distinct entered.drivers entered.items (λ names distinct drivers items.
    let own : c.enter.new.names ≡ c.args.self.now.names ++ c.args.name.now ∷ [] = search rules in
    sound_along (with_latch c.args.self.now c.args.name.now c.args.init) (sound_latch c.args.self.now c.args.name.now c.args.init sound (subst AreDistinct own distinct) c.requires.room) (search rules)))
    (err_together c.enter.result entered.names_err entered.drivers_err entered.items_err (λ names drivers items. sound_along c.args.self.now sound (search rules)))
