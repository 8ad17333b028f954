-- All places of the signal are met.
use Rattle.std.proofs.Common.{◌≡◌, ◌∙◌, ◌<◌, length, sym, ap, subst, arith, rules}
use Rattle.flat_net.specs.View.{NetView, circuit_of}
use Rattle.flat_net.specs.Sound.{IsSound}
use Rattle.cbf_unfold.proofs.unfold_places.Lists.{not_both}
use Rattle.reset_form.specs.reset_unfold.View.{ResetView}
use Rattle.reset_form.specs.reset_unfold.Building.{IsLaterReset}
use Rattle.reset_form.proofs.reset_unfold.Going.{later_none, met_later}
use Rattle.reset_form.proofs.reset_unfold.Finish.{begun, room_first, reach_is, reach_begun, holds_from, room_from, over_begun, over_more, over_walk, later_begun, there_met, fits_from}
use Rattle.reset_form.proofs.reset_unfold.unfolder.ResetUnfolder.literal_at.Goals as goal

pub reach-requires-clause-signal : goal.reach-requires-clause-signal
reach-requires-clause-signal c = subst (λ (n : NetView). c.args.start.1 < length n.drivers) (sym c.net-net.ensures) c.requires.signal

pub reach-requires-clause-small : goal.reach-requires-clause-small
reach-requires-clause-small c = omega (arith, c.cap.ensures, c.requires.fits.limit)

pub returns-in_err-unmet-clause-over : goal.returns-in_err-unmet-clause-over
returns-in_err-unmet-clause-over c = λ e.
    let u = c.args.self.now in
    over_more (circuit_of u.net) u.done c.args.start u.cap 2000000 c.requires.fits.limit (over_walk u c.net-net.result.now c.args.start c.cap.result c.keeps.ensures.sound c.net-net.ensures c.cap.ensures (c.reach.ensures.over (search rules)))

pub returns-in_err-unmet-clause-later : goal.returns-in_err-unmet-clause-later
returns-in_err-unmet-clause-later c = later_none c.args.self.now c.args.aig.now c.args.places.now (omega (arith, c.requires.fits.small, c.requires.fits.limit))

pub returns-in_err-begin-clause-later : goal.returns-in_err-begin-clause-later
returns-in_err-begin-clause-later c =
    subst (λ (z : ResetView). IsLaterReset c.args.self.now z c.args.aig.now c.args.aig.now c.args.places.now c.args.places.now) (sym c.in_err-begin.ensures.err)
    (later_none c.args.self.now c.args.aig.now c.args.places.now (omega (arith, c.requires.fits.small, c.requires.fits.limit)))

pub build-requires-clause-reach : goal.build-requires-clause-reach
build-requires-clause-reach c =
    let u = c.args.self.now in
    reach_begun u c.begin.new.self c.args.start c.as_slice-reached.result.now c.in_ok-begin.ensures.ok
    (reach_is u c.net-net.result.now c.memo.result.now c.args.start c.cap.result c.in_ok-unmet.unmet.items c.as_slice-reached.result.now c.net-net.ensures c.memo.ensures c.as_slice-reached.ensures.value c.in_ok-unmet.ensures.reach)

pub build-requires-clause-holds : goal.build-requires-clause-holds
build-requires-clause-holds c = holds_from c.args.self.now c.begin.new.self c.args.aig.now c.args.places.now c.args.start c.in_ok-begin.ensures.ok c.requires.signal c.requires.fits.holds

pub build-requires-clause-room : goal.build-requires-clause-room
build-requires-clause-room c =
    room_from c.args.self.now c.begin.new.self c.args.aig.now c.args.places.now c.args.start c.in_ok-begin.ensures.ok
    (room_first c.args.self.now c.args.aig.now c.args.places.now c.requires.fits.limit c.requires.fits.small c.requires.nodes c.requires.entries)

pub returns-in_err-build-clause-over : goal.returns-in_err-build-clause-over
returns-in_err-build-clause-over c = λ e. over_begun c.args.self.now c.begin.new.self c.args.start c.in_ok-begin.ensures.ok c.requires.fits.limit (c.build.ensures.over (search rules))

pub returns-in_err-build-clause-later : goal.returns-in_err-build-clause-later
returns-in_err-build-clause-later c =
    later_begun c.args.self.now c.begin.new.self c.build.new.self c.args.aig.now c.build.new.aig c.args.places.now c.build.new.places _ c.in_ok-begin.ensures.ok c.build.ensures.later

pub met-requires : goal.met-requires
met-requires c =
    let u = c.args.self.now in
    let w = c.build.new.self in
    let seen = c.as_slice-reached.result.now in
    let reach = reach_is u c.net-net.result.now c.memo.result.now c.args.start c.cap.result c.in_ok-unmet.unmet.items seen c.net-net.ensures c.memo.ensures c.as_slice-reached.ensures.value c.in_ok-unmet.ensures.reach in
    let later = later_begun u c.begin.new.self w c.args.aig.now c.build.new.aig c.args.places.now c.build.new.places _ c.in_ok-begin.ensures.ok c.build.ensures.later in
    there_met u.memo w.memo seen c.args.start (λ q m. met_later u w c.args.aig.now c.build.new.aig c.args.places.now c.build.new.places q later m) c.in_ok-build.ensures.met reach.are.root

pub returns-clause-fits : goal.returns-clause-fits
returns-clause-fits c =
    let u = c.args.self.now in
    let w = c.build.new.self in
    let seen = c.as_slice-reached.result.now in
    let reach = reach_is u c.net-net.result.now c.memo.result.now c.args.start c.cap.result c.in_ok-unmet.unmet.items seen c.net-net.ensures c.memo.ensures c.as_slice-reached.ensures.value c.in_ok-unmet.ensures.reach in
    let later = later_begun u c.begin.new.self w c.args.aig.now c.build.new.aig c.args.places.now c.build.new.places _ c.in_ok-begin.ensures.ok c.build.ensures.later in
    let sound : IsSound w.net = subst IsSound (c.net-net.ensures ∙ sym later.net) c.keeps.ensures.sound in
    let done : w.done ≡ (begun u c.args.start).done = c.build.ensures.done ∙ ap (λ (z : ResetView). z.done) c.in_ok-begin.ensures.ok in
    fits_from u w c.args.aig.now c.build.new.aig c.args.places.now c.build.new.places c.args.start seen sound c.requires.fits later.net later.cap done
    (λ p m. met_later u w c.args.aig.now c.build.new.aig c.args.places.now c.build.new.places p later m) later.small reach c.in_ok-build.ensures.met c.in_ok-build.ensures.holds c.keeps-2.ensures.apart

pub returns-clause-done : goal.returns-clause-done
returns-clause-done c = c.build.ensures.done ∙ ap (λ (z : ResetView). z.done) c.in_ok-begin.ensures.ok

pub returns-clause-later : goal.returns-clause-later
returns-clause-later c =
    later_begun c.args.self.now c.begin.new.self c.build.new.self c.args.aig.now c.build.new.aig c.args.places.now c.build.new.places _ c.in_ok-begin.ensures.ok c.build.ensures.later

pub returns-clause-over : goal.returns-clause-over
returns-clause-over c = λ e. absurd (not_both e)
