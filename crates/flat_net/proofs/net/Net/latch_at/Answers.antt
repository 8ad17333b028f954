-- What stands at a place, by its default.
use Rattle.std.proofs.Common.{◌≡◌, ◌<◌, length, slice_get, Some, refl, subst, sym}
use Rattle.std.proofs.lemmas.Option.{slice_get_read, get_or_from_slice_get}
use Rattle.flat_net.specs.View.{NetView}
use Rattle.flat_net.specs.Cut.{no_latch}
use Rattle.flat_net.proofs.net.Net.latch_at.Goals as goal

pub returns-clause-is : goal.returns-clause-is
returns-clause-is c =
    let within : c.args.j < length c.self.inside.latches.items = subst (λ (n : NetView). c.args.j < length n.latches) (sym c.self.view_is) c.requires in
    let inside : slice_get c.self.inside.latches.items c.args.j ≡ Some c.index.result.now = slice_get_read _ _ c.args.j _ refl within c.index.ensures in
    let here : slice_get c.args.self.now.latches c.args.j ≡ Some c.index.result.now = subst (λ (n : NetView). slice_get n.latches c.args.j ≡ Some c.index.result.now) c.self.view_is inside in
    sym (get_or_from_slice_get c.args.self.now.latches c.args.j c.index.result.now no_latch here)
