use Rattle.std.proofs.Common.{◌≡◌, ◌<◌, ℕ, List, [], ◌∷◌, ◌++◌, true, false, length, drop, slice_get, Some, subst, sym, ap, ◌∙◌, refl, arith}
use Rattle.std.proofs.Math.ListN.{set}
use Rattle.std.proofs.lemmas.Option.{slice_get_read, slice_get_within}
use Rattle.std.proofs.lemmas.Result.{IfOk-weaker}
use Rattle.signal_graph.proofs.flat_net.Growth.{length-push}
use Rattle.latch_graph.specs.Rounds.{IsTrail, IsRound}
use Rattle.latch_graph.proofs.Trails.{trail_more, trail_short, round_closes, trail_begins}
use Rattle.latch_graph.proofs.rounds.round_from.Goals as goal

pub walk-preserved : goal.walk-preserved
walk-preserved c =
    let l : c.walk.at < length c.walk.passed.items = omega (arith, c.walk.invariant.size, c.walk.invariant.ends.within) in
    let read = slice_get_read c.walk.passed.items (length c.walk.passed.items) c.walk.at c.index.result.now refl l c.index.ensures in
    let new : slice_get c.walk.passed.items c.walk.at ≡ Some false = read ∙ ap Some c.walk-test.true in
    subst (λ z. IsTrail c.args.nodes.now c.args.latches.now c.args.states.now (set c.walk.passed.items c.walk.at true) z c.next_latch-at.result) (sym c.in_ok-push.ensures.items)
    (trail_more c.args.nodes.now c.args.latches.now c.args.states.now c.walk.passed.items c.walk.trail.items c.walk.at c.next_latch-at.result c.walk.invariant new c.next_latch-at.ensures.endless c.next_latch-at.ensures.takes)

pub walk-smaller : goal.walk-smaller
walk-smaller c =
    let l : c.walk.at < length c.walk.passed.items = omega (arith, c.walk.invariant.size, c.walk.invariant.ends.within) in
    let read = slice_get_read c.walk.passed.items (length c.walk.passed.items) c.walk.at c.index.result.now refl l c.index.ensures in
    let new : slice_get c.walk.passed.items c.walk.at ≡ Some false = read ∙ ap Some c.walk-test.true in
    let more = trail_more c.args.nodes.now c.args.latches.now c.args.states.now c.walk.passed.items c.walk.trail.items c.walk.at c.next_latch-at.result c.walk.invariant new c.next_latch-at.ensures.endless c.next_latch-at.ensures.takes in
    let short = trail_short c.args.nodes.now c.args.latches.now c.args.states.now (set c.walk.passed.items c.walk.at true) (c.walk.trail.items ++ c.walk.at ∷ []) c.next_latch-at.result more in
    omega (arith, short, length-push c.walk.trail.items c.walk.at, ap length c.in_ok-push.ensures.items)

pub place_of-from-requires : goal.place_of-from-requires
place_of-from-requires c =
    let l : c.walk.at < length c.walk.passed.items = omega (arith, c.walk.invariant.size, c.walk.invariant.ends.within) in
    let read = slice_get_read c.walk.passed.items (length c.walk.passed.items) c.walk.at c.index.result.now refl l c.index.ensures in
    let there = c.walk.invariant.off c.walk.at (read ∙ ap Some c.walk-test.false) in
    (there.0, subst (λ (z : List ℕ). slice_get z there.0 ≡ Some c.walk.at) (sym c.as_slice.ensures.value) there.1)

pub returns : goal.returns
returns c =
    let from = c.place_of-from.result in
    let here = subst (λ (z : List ℕ). slice_get z from ≡ Some c.walk.at) c.as_slice.ensures.value c.place_of-from.ensures in
    let closes = round_closes c.args.nodes.now c.args.latches.now c.args.states.now c.walk.passed.items c.walk.trail.items c.walk.at from c.walk.invariant here in
    IfOk-weaker c.tail_from.result (λ made. made.items ≡ drop from c.as_slice-2.result.now) (λ made. IsRound c.args.nodes.now c.args.latches.now c.args.states.now made.items)
    (λ made e. subst (λ z. IsRound c.args.nodes.now c.args.latches.now c.args.states.now z) (sym (e ∙ ap (λ (z : List ℕ). drop from z) c.as_slice-2.ensures.value)) closes) c.tail_from.ensures

pub walk-init : goal.walk-init
walk-init c = trail_begins c.args.nodes.now c.args.latches.now c.args.states.now c.in_ok-passed.passed.items c.new-trail.result.items c.args.start c.new-trail.ensures.items c.in_ok-passed.ensures.size c.requires.start c.in_ok-passed.ensures.none

pub tail_from-requires : goal.tail_from-requires
tail_from-requires c =
    let within = slice_get_within c.as_slice.result.now c.place_of-from.result c.walk.at c.place_of-from.ensures in
    omega (arith, within, ap length c.as_slice.ensures.value, ap length c.as_slice-2.ensures.value)

pub next_latch-at-requires-clause-latch : goal.next_latch-at-requires-clause-latch
next_latch-at-requires-clause-latch c = c.walk.invariant.ends

pub next_latch-at-requires-clause-nodes : goal.next_latch-at-requires-clause-nodes
next_latch-at-requires-clause-nodes c = c.requires.nodes

pub next_latch-at-requires-clause-settled : goal.next_latch-at-requires-clause-settled
next_latch-at-requires-clause-settled c = c.requires.settled
