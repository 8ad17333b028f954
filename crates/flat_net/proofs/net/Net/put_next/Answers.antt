-- The latch that drives the signal takes over another signal.
use Rattle.std.proofs.Common.{◌≡◌, ◌<◌, length, slice_get, Some, subst, sym, ap, arith}
use Rattle.std.proofs.lemmas.Option.{slice_get_within}
use Rattle.flat_net.specs.contracts.net.Net.{the_view}
use Rattle.flat_net.specs.View.{NetView}
use Rattle.flat_net.specs.Makes.{with_next}
use Rattle.flat_net.specs.Sound.{IsSound}
use Rattle.flat_net.proofs.Growth.{sound_along}
use Rattle.flat_net.proofs.NextSet.{sound_next, written}
use Rattle.flat_net.proofs.net.Net.put_next.Goals as goal

pub driver-requires : goal.driver-requires
driver-requires c = slice_get_within _ _ _ c.requires.latch.1

pub index_mut-requires : goal.index_mut-requires
index_mut-requires c =
    let sound : IsSound c.args.self.now = subst IsSound c.self.view_is c.self.invariant in
    let latch = sound.drivers c.args.latch.0 _ c.in-Latch.ensures in
    let within : c.in-Latch.j < length c.args.self.now.latches = slice_get_within _ _ _ latch.1 in
    omega (arith, within, ap (λ n. length n.latches) c.self.view_is, c.self.inside.latches.ok.0)

pub invariant_of-self : goal.invariant_of-self
invariant_of-self c =
    let j = c.in-Latch.j in
    let sound : IsSound c.args.self.now = subst IsSound c.self.view_is c.self.invariant in
    let latch = sound.drivers c.args.latch.0 _ c.in-Latch.ensures in
    let here : slice_get c.self.inside.latches.items j ≡ Some latch.0 = subst (λ (n : NetView). slice_get n.latches j ≡ Some latch.0) (sym c.self.view_is) latch.1 in
    sound_along (with_next c.args.self.now j c.args.next) (sound_next c.args.self.now j c.args.next sound c.requires.within)
    (written (the_view c.self.inside) c.args.self.now j c.args.next c.index_mut.result.now latch.0 c.self.view_is here c.index_mut.ensures.value)

pub returns-clause-set : goal.returns-clause-set
returns-clause-set c =
    let j = c.in-Latch.j in
    let sound : IsSound c.args.self.now = subst IsSound c.self.view_is c.self.invariant in
    let latch = sound.drivers c.args.latch.0 _ c.in-Latch.ensures in
    let here : slice_get c.self.inside.latches.items j ≡ Some latch.0 = subst (λ (n : NetView). slice_get n.latches j ≡ Some latch.0) (sym c.self.view_is) latch.1 in
    written (the_view c.self.inside) c.args.self.now j c.args.next c.index_mut.result.now latch.0 c.self.view_is here c.index_mut.ensures.value

pub returns-clause-within : goal.returns-clause-within
returns-clause-within c =
    let sound : IsSound c.args.self.now = subst IsSound c.self.view_is c.self.invariant in
    slice_get_within _ _ _ (sound.drivers c.args.latch.0 _ c.in-Latch.ensures).1
