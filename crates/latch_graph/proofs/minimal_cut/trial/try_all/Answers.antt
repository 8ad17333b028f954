-- One pair more is tried.
use Rattle.std.proofs.Common.{◌≡◌, ◌<◌, ℕ, List, length, get_or, sym, ap, ◌∙◌, subst, arith}
use Rattle.std.specs.Prelude.{◌||◌}
use Rattle.std.proofs.lemmas.Option.{slice_get-get_or}
use Rattle.latch_graph.proofs.minimal_cut.graph_components.flat_net.Places.{All-at}
use Rattle.latch_graph.specs.minimal_cut.Trying.{AreTried}
use Rattle.latch_graph.proofs.minimal_cut.Sides.{signal_within}
use Rattle.latch_graph.proofs.minimal_cut.Tried.{few_positions, tried_turn}
use Rattle.latch_graph.proofs.minimal_cut.trial.try_all.Goals as goal
use Rattle.latch_graph.proofs.minimal_cut.trial.try_all.Goals.{then-in_left, else-in_left}

pub overflow_cast-place : goal.overflow_cast-place
overflow_cast-place c =
    let few = few_positions c.args.a.now.graph.now c.requires.a.are c.args.a.now.positions.now c.requires.a.within c.requires.a.once in
    omega (arith, few, c.requires.a.are.few, c.loop-k-test.true)

pub overflow_add-turn : goal.overflow_add-turn
overflow_add-turn c =
    let few = few_positions c.args.a.now.graph.now c.requires.a.are c.args.a.now.positions.now c.requires.a.within c.requires.a.once in
    omega (arith, few, c.requires.a.are.few, c.loop-k-test.true)

pub closes_at-requires-clause-out : goal.closes_at-requires-clause-out
closes_at-requires-clause-out c = c.loop-k.invariant.on_left.waiting c.loop-k.k (get_or c.args.a.now.positions.now c.loop-k.k 0) (omega arith) (slice_get-get_or c.args.a.now.positions.now c.loop-k.k 0 c.loop-k-test.true)

pub closes_at-requires-in-loop-k-clause-out : goal.closes_at-requires-in-loop-k-clause-out
closes_at-requires-in-loop-k-clause-out c =
    let inside : c.loop-k.k < length c.args.b.now.positions.now = omega (arith, c.loop-k-test.true, c.requires.pairs) in
    c.loop-k.invariant.on_right.waiting c.loop-k.k (get_or c.args.b.now.positions.now c.loop-k.k 0) (omega arith) (slice_get-get_or c.args.b.now.positions.now c.loop-k.k 0 inside)

pub take_out_if-requires-clause-signal : goal.take_out_if-requires-clause-signal
take_out_if-requires-clause-signal c =
    let at = slice_get-get_or c.args.a.now.positions.now c.loop-k.k 0 c.loop-k-test.true in
    let l = signal_within c.args.a.now.graph.now c.requires.a.are (get_or c.args.a.now.positions.now c.loop-k.k 0) (All-at (λ z. z < length c.args.a.now.graph.now.latches) c.args.a.now.positions.now c.loop-k.k (get_or c.args.a.now.positions.now c.loop-k.k 0) at c.requires.a.within) in
    omega (arith, l, c.in_ok-in_left.ensures.marks.size)

pub take_out_if-requires-in-loop-k-clause-signal : goal.take_out_if-requires-in-loop-k-clause-signal
take_out_if-requires-in-loop-k-clause-signal c =
    let inside : c.loop-k.k < length c.args.b.now.positions.now = omega (arith, c.loop-k-test.true, c.requires.pairs) in
    let at = slice_get-get_or c.args.b.now.positions.now c.loop-k.k 0 inside in
    let l = signal_within c.args.b.now.graph.now c.requires.b.are (get_or c.args.b.now.positions.now c.loop-k.k 0) (All-at (λ z. z < length c.args.b.now.graph.now.latches) c.args.b.now.positions.now c.loop-k.k (get_or c.args.b.now.positions.now c.loop-k.k 0) at c.requires.b.within) in
    omega (arith, l, c.in_ok-in_right.ensures.marks.size)

pub loop-k-preserved : goal.loop-k-preserved
loop-k-preserved c =
    let needed_is : c.if-in_left.needed ≡ (c.in_ok-in_left.in_left || c.in_ok-in_right.in_right) =
    elim c.if-in_left.branch [
      | then-in_left w ↦ w.needed-is ∙ w.if-in_left.true ∙ sym (ap (λ z. z || c.in_ok-in_right.in_right) w.if-in_left.true)
      | else-in_left w ↦ w.needed-is ∙ sym (ap (λ z. z || c.in_ok-in_right.in_right) w.if-in_left.false)
    ] in
    tried_turn c.args.a.now.graph.now c.args.b.now.graph.now c.args.a.now.positions.now c.args.b.now.positions.now c.args.a.now.inner.items c.args.b.now.inner.items c.args.a.now.readers.items c.args.b.now.readers.items c.requires.a c.requires.b c.requires.pairs c.loop-k.k c.loop-k-test.true
    c.loop-k.places c.loop-k.left c.loop-k.right c.closes_at.new.marks c.closes_at-in-loop-k.new.marks c.loop-k.invariant c.in_ok-in_left.ensures.marks c.in_ok-in_right.ensures.marks c.in_ok-in_left.ensures.back c.in_ok-in_right.ensures.back
    c.in_ok-in_left.in_left c.in_ok-in_right.in_right c.in_ok-in_left.ensures.yes c.in_ok-in_left.ensures.no c.in_ok-in_right.ensures.yes c.in_ok-in_right.ensures.no c.if-in_left.needed needed_is c.take_out_if.new.marks
    c.take_out_if-in-loop-k.new.marks c.push_if.new.places c.take_out_if.ensures c.take_out_if-in-loop-k.ensures c.in_ok-push_if.ensures

pub loop-k-init : goal.loop-k-init
loop-k-init c =
    subst (λ (z : List ℕ). AreTried c.args.a.now.graph.now c.args.b.now.graph.now c.args.a.now.positions.now c.args.b.now.positions.now 0 c.args.left.now c.args.right.now z) (sym c.new-places.ensures) c.requires.none_tried

pub take_out_if-requires-clause-within : goal.take_out_if-requires-clause-within
take_out_if-requires-clause-within c = c.requires.a.within

pub take_out_if-requires-in-loop-k-clause-within : goal.take_out_if-requires-in-loop-k-clause-within
take_out_if-requires-in-loop-k-clause-within c = c.requires.b.within

pub returns : goal.returns
returns c =
    let end : c.loop-k.k ≡ length c.args.a.now.positions.now = omega (arith, c.loop-k-test.false, c.loop-k.auto.k-end) in
    subst (λ k. AreTried c.args.a.now.graph.now c.args.b.now.graph.now c.args.a.now.positions.now c.args.b.now.positions.now k c.loop-k.left c.loop-k.right c.loop-k.places) end c.loop-k.invariant
