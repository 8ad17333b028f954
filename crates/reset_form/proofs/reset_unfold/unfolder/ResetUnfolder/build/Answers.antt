-- Each place can be unfolded once those before it have been met.
use Rattle.std.proofs.Common.{◌∙◌, get_or, subst, arith, refl}
use Rattle.std.proofs.lemmas.Option.{slice_get-get_or, slice_get_within}
use Rattle.circuit_theory.proofs.Lists.{at_of}
use Rattle.flat_net.specs.Sound.{IsSound}
use Rattle.reset_form.proofs.reset_unfold.Going.{ready_at, room_later, met_later, later_none, later_trans, met_next}
use Rattle.reset_form.proofs.reset_unfold.unfolder.ResetUnfolder.build.Goals as goal

pub loop-place-init : goal.loop-place-init
loop-place-init c = record {
  holds = c.requires.holds;
  met = λ j q below at. absurd (omega (arith, below));
  done = refl;
  later = later_none c.args.self.now c.args.aig.now c.args.places.now c.requires.room.small;
}

pub build_place-requires-clause-ready : goal.build_place-requires-clause-ready
build_place-requires-clause-ready c =
    let i = c.loop-place.place-index in
    ready_at c.args.self.now c.loop-place.self c.requires.reach.0 c.args.reach.now (subst IsSound c.net-net.ensures c.keeps.ensures.sound) c.requires.reach.1 c.requires.reach.2
    c.loop-place.invariant.later.net c.loop-place.invariant.done
    (λ q m. met_later c.args.self.now c.loop-place.self c.args.aig.now c.loop-place.aig c.args.places.now c.loop-place.places q c.loop-place.invariant.later m) i (get_or c.args.reach.now i (0, 0)) (slice_get-get_or c.args.reach.now i (0, 0) c.loop-place-test.true) c.loop-place.invariant.met

pub build_place-requires-clause-room : goal.build_place-requires-clause-room
build_place-requires-clause-room c = room_later c.args.self.now c.loop-place.self c.args.aig.now c.loop-place.aig c.args.places.now c.loop-place.places c.requires.room c.loop-place.invariant.later

pub loop-place-preserved : goal.loop-place-preserved
loop-place-preserved c = record {
  holds = c.in_ok-build_place.ensures.holds;
  met = met_next c.loop-place.self c.build_place.new.self c.loop-place.aig c.build_place.new.aig c.loop-place.places c.build_place.new.places c.args.reach.now c.loop-place.place-index (0, 0) c.loop-place-test.true
      c.build_place.ensures.later c.in_ok-build_place.ensures.met c.loop-place.invariant.met;
  done = c.build_place.ensures.done ∙ c.loop-place.invariant.done;
  later = later_trans c.args.self.now c.loop-place.self c.build_place.new.self c.args.aig.now c.loop-place.aig c.build_place.new.aig c.args.places.now c.loop-place.places c.build_place.new.places c.loop-place.invariant.later c.build_place.ensures.later;
}

pub returns-in_err-build_place-clause-done : goal.returns-in_err-build_place-clause-done
returns-in_err-build_place-clause-done c = c.build_place.ensures.done ∙ c.loop-place.invariant.done

pub returns-in_err-build_place-clause-later : goal.returns-in_err-build_place-clause-later
returns-in_err-build_place-clause-later c =
    later_trans c.args.self.now c.loop-place.self c.build_place.new.self c.args.aig.now c.loop-place.aig c.build_place.new.aig c.args.places.now c.loop-place.places c.build_place.new.places c.loop-place.invariant.later c.build_place.ensures.later

pub returns-clause-met : goal.returns-clause-met
returns-clause-met c = λ p h.
    let at = at_of c.args.reach.now p h in
    let inside = slice_get_within c.args.reach.now at.0 p at.1 in
    c.loop-place.invariant.met at.0 p (omega (arith, inside, c.loop-place-test.false)) at.1
