-- The steps so far, and one more; sorted, each step comes behind what it reads.
use Rattle.std.proofs.Common.{◌≡◌, ◌∙◌, ◌≤◌, ℕ, arith, length, slice_get, Some, refl, subst}
use Rattle.std.proofs.lemmas.List.{take_all}
use Rattle.std.proofs.lemmas.Option.{slice_get_within}
use Rattle.event_nodes.proofs.flat_net.Places.{All-at, one_at}
use Rattle.edbf_unfold.specs.declared.event_literals.event_walk.frames.Frame.{Frame}
use Rattle.edbf_unfold.specs.event_literals.event_walk.Plan.{AreSteps}
use Rattle.edbf_unfold.proofs.event_literals.event_walk.Planning.{planned, steps_none, steps_more}
use Rattle.edbf_unfold.proofs.event_literals.event_walk.walker.EventWalker.plan.Goals as goal

pub loop-number-init : goal.loop-number-init
loop-number-init c = steps_none c.args.self.now.frames c.args.nodes c.args.table.now c.args.ways.now c.in_ok-steps.steps.items c.in_ok-steps.ensures.items

pub frame-frame-requires : goal.frame-frame-requires
frame-frame-requires c =
    let seen = All-at (λ (p : ℕ × ℕ). (f : Frame) × (slice_get c.args.self.now.frames p.0 ≡ Some f) × (f.node ≤ c.args.nodes)) c.args.table.now c.loop-number.number c.pair-place.result c.pair-place.ensures c.requires.seen in
    slice_get_within c.args.self.now.frames c.pair-place.result.0 seen.0 seen.1

pub overflow_sub-nodes : goal.overflow_sub-nodes
overflow_sub-nodes c =
    let seen = All-at (λ (p : ℕ × ℕ). (f : Frame) × (slice_get c.args.self.now.frames p.0 ≡ Some f) × (f.node ≤ c.args.nodes)) c.args.table.now c.loop-number.number c.pair-place.result c.pair-place.ensures c.requires.seen in
    subst (λ (f : Frame). f.node ≤ c.args.nodes) (one_at c.args.self.now.frames c.pair-place.result.0 seen.0 c.frame-frame.result seen.1 c.frame-frame.ensures) seen.2

pub loop-number-preserved : goal.loop-number-preserved
loop-number-preserved c =
    steps_more c.args.self.now.frames c.args.nodes c.args.table.now c.args.ways.now c.loop-number.steps.items c.push.new.self.items c.loop-number.number c.pair-place.result _ _ c.loop-number.invariant
    c.pair-place.ensures (c.frame-frame.result, c.frame-frame.ensures, refl) c.in_ok-push.ensures.items

pub returns : goal.returns
returns c = λ e children many tree sound all.
    let whole : length c.args.table.now ≤ c.loop-number.number = omega (arith, c.loop-number-test.false, c.len-number-end.ensures) in
    let are : AreSteps c.args.self.now.frames c.args.nodes c.args.table.now c.args.ways.now c.loop-number.steps.items = record { places = c.loop-number.invariant.places ∙ take_all c.loop-number.number c.args.table.now whole; is = λ i p g here over. c.loop-number.invariant.is i p g (let k = slice_get_within c.args.table.now i p here in omega (arith, k, whole)) here over } in
    planned e sound c.args.self.now.frames children tree c.args.nodes many c.args.table.now c.args.ways.now all c.loop-number.steps.items c.sort.new.self.items are c.sort.ensures.permutation c.in_ok-sort.ensures.sorted
