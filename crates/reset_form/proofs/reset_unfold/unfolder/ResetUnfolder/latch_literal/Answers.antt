-- What the latch takes over has been met; in cycle 0 the latch has an initial value or is free.
use Rattle.std.proofs.Common.{◌∙◌, ◌+◌, ℕ, slice_get, length, refl, sym, ap, subst, arith}
use Rattle.std.proofs.lemmas.Option.{slice_get_within}
use Rattle.flat_net.specs.View.{NetView}
use Rattle.flat_net.specs.Sound.{IsSound}
use Rattle.flat_net.proofs.Drivers.{driven_latch}
use Rattle.cbf_unfold.proofs.unfold_places.Growing.{grown_none}
use Rattle.reset_form.proofs.reset_unfold.PlaceLits.{latch_met, latch_is, start_is, free_is}
use Rattle.reset_form.proofs.reset_unfold.unfolder.ResetUnfolder.latch_literal.Goals as goal

pub latch_of-latch-requires : goal.latch_of-latch-requires
latch_of-latch-requires c =
    let n = c.net-net.result.now in
    let drives = ap (λ (m : NetView). slice_get m.drivers c.args.place.1) c.net-net.ensures ∙ c.requires.drives in
    let l = driven_latch n c.keeps.ensures.sound c.args.place.1 c.args.j drives in
    slice_get_within n.latches c.args.j l.0 l.1

pub met-requires : goal.met-requires
met-requires c =
    let u = c.args.self.now in
    let sound : IsSound u.net = subst IsSound c.net-net.ensures c.keeps.ensures.sound in
    let at = ap (λ (n : NetView). slice_get n.latches c.args.j) (sym c.net-net.ensures) ∙ c.latch_of-latch.ensures.there in
    latch_met u sound c.args.place c.args.j c.latch_of-latch.result.now c.requires.drives at (omega arith) c.requires.ready

pub returns-then-place-gt0 : goal.returns-then-place-gt0
returns-then-place-gt0 c =
    let u = c.args.self.now in
    let sound : IsSound u.net = subst IsSound c.net-net.ensures c.keeps.ensures.sound in
    let at = ap (λ (n : NetView). slice_get n.latches c.args.j) (sym c.net-net.ensures) ∙ c.latch_of-latch.ensures.there in
    record {
      known = latch_is u sound c.args.place c.args.j c.latch_of-latch.result.now c.requires.drives at c.met.result c.args.aig.now c.args.places.now (omega arith) c.requires.known c.met.ensures;
      grown = grown_none c.args.aig.now c.args.places.now c.args.places.now 1 refl;
    }

pub returns-in-Some : goal.returns-in-Some
returns-in-Some c =
    let u = c.args.self.now in
    let sound : IsSound u.net = subst IsSound c.net-net.ensures c.keeps.ensures.sound in
    let at = ap (λ (n : NetView). slice_get n.latches c.args.j) (sym c.net-net.ensures) ∙ c.latch_of-latch.ensures.there in
    let some = slice_get_within c.args.aig.now 0 _ c.keeps-3.ensures.graph.constant in
    record {
      known = start_is u sound c.args.place c.args.j c.latch_of-latch.result.now c.requires.drives at c.constant.result.0 c.in-Some.bit c.args.aig.now c.args.places.now (omega arith) c.in-Some.ensures.here c.constant.ensures some;
      grown = grown_none c.args.aig.now c.args.places.now c.args.places.now 1 refl;
    }

pub overflow_add-base : goal.overflow_add-base
overflow_add-base c =
    let n = c.net-net.result.now in
    let inside = slice_get_within n.latches c.args.j c.latch_of-latch.result.now c.latch_of-latch.ensures.there in
    let same = ap (λ (m : NetView). length m.latches) c.net-net.ensures in
    omega (arith, inside, same, c.base.ensures, c.keeps-2.ensures.unfolder.room)

pub returns-in-None-clause-known : goal.returns-in-None-clause-known
returns-in-None-clause-known c =
    let u = c.args.self.now in
    let sound : IsSound u.net = subst IsSound c.net-net.ensures c.keeps.ensures.sound in
    let at = ap (λ (n : NetView). slice_get n.latches c.args.j) (sym c.net-net.ensures) ∙ c.latch_of-latch.ensures.there in
    free_is u sound c.args.place c.args.j c.latch_of-latch.result.now c.requires.drives at _ c.variable.new.aig c.variable.new.places c.variable.result (omega arith) c.in-None.ensures.none (ap (λ (k : ℕ). k + c.args.j) c.base.ensures) c.variable.ensures.here
