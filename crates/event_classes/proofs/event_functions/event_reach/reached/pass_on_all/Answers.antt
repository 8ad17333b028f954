-- Each place of the table is passed on in its turn.
use Rattle.std.proofs.Common.{◌≡◌, ◌∙◌, ◌+◌, ◌-◌, ◌<◌, ℕ, length, refl, ap, arith}
use Rattle.std.proofs.lemmas.Option.{slice_get_within}
use Rattle.circuit_theory.proofs.Lists.{All-from_each, at_of}
use Rattle.event_nodes.proofs.flat_net.Places.{All-at}
use Rattle.event_nodes.specs.Nodes.{EventGraphView}
use Rattle.event_nodes.specs.Reach.{IsReachedPlace}
use Rattle.event_classes.specs.event_functions.event_reach.Made.{HasChild}
use Rattle.event_nodes.proofs.Growing.{grows_refl, grows_trans}
use Rattle.event_nodes.proofs.Lists.{adds_none, adds_trans, adds_length}
use Rattle.event_classes.proofs.event_functions.event_reach.Making.{no_nodes, nodes_since, children_next}
use Rattle.event_classes.proofs.event_functions.event_reach.Reaching.{reached_more, passed_more, passed_all}
use Rattle.event_classes.proofs.event_functions.event_reach.reached.pass_on_all.Goals as goal

pub loop-at-init : goal.loop-at-init
loop-at-init c = record {
  reached = λ x all. all;
  passed = λ depths i p below. absurd (omega (arith, below));
  children = λ i p below. absurd (omega (arith, below));
  made = λ x all. no_nodes c.args.circuit.now c.args.events.now.children x;
  kept = adds_none (λ (q : ℕ × ℕ). q ≡ q) c.args.table.now c.args.table.now refl;
  few = c.requires.few;
  grows = grows_refl c.args.events.now;
  same = refl;
  small = omega arith;
  inside = omega arith;
}

pub loop-at-smaller : goal.loop-at-smaller
loop-at-smaller c = let k : c.args.cap - (c.loop-at.at + 1) < c.args.cap - c.loop-at.at = omega (arith, c.loop-at-test.true, c.len.ensures, c.loop-at.invariant.few) in k

pub pass_on-requires-clause-latch : goal.pass_on-requires-clause-latch
pass_on-requires-clause-latch c =
    (All-at (IsReachedPlace c.args.circuit.now c.loop-at.events.children c.requires.reached.0) c.loop-at.table c.loop-at.at c.pair-place.result c.pair-place.ensures (c.loop-at.invariant.reached c.requires.reached.0 c.requires.reached.1)).latch

pub pass_on-requires-clause-node : goal.pass_on-requires-clause-node
pass_on-requires-clause-node c =
    (All-at (IsReachedPlace c.args.circuit.now c.loop-at.events.children c.requires.reached.0) c.loop-at.table c.loop-at.at c.pair-place.result c.pair-place.ensures (c.loop-at.invariant.reached c.requires.reached.0 c.requires.reached.1)).node

pub pass_on-requires-clause-room : goal.pass_on-requires-clause-room
pass_on-requires-clause-room c = omega (arith, c.loop-at-test.true, c.len.ensures, c.loop-at.invariant.few, c.loop-at.invariant.small, c.requires.room)

pub returns-in_err-pass_on-clause-kept : goal.returns-in_err-pass_on-clause-kept
returns-in_err-pass_on-clause-kept c = adds_trans (λ (q : ℕ × ℕ). q ≡ q) c.args.table.now c.loop-at.table c.pass_on.new.table c.loop-at.invariant.kept c.pass_on.ensures.kept

pub returns-in_err-pass_on-clause-grows : goal.returns-in_err-pass_on-clause-grows
returns-in_err-pass_on-clause-grows c = grows_trans c.args.events.now c.loop-at.events c.pass_on.new.events c.loop-at.invariant.grows c.pass_on.ensures.grows

pub returns-in_err-pass_on-clause-same : goal.returns-in_err-pass_on-clause-same
returns-in_err-pass_on-clause-same c = c.pass_on.ensures.same ∙ ap (λ (w : EventGraphView). record w { children = c.pass_on.new.events.children }) c.loop-at.invariant.same

pub returns-in_err-pass_on-clause-small : goal.returns-in_err-pass_on-clause-small
returns-in_err-pass_on-clause-small c = omega (arith, c.loop-at-test.true, c.len.ensures, c.loop-at.invariant.few, c.loop-at.invariant.small, c.pass_on.ensures.small)

pub loop-at-preserved : goal.loop-at-preserved
loop-at-preserved c = record {
  reached = λ x all. reached_more c.args.circuit.now c.loop-at.events c.pass_on.new.events c.pass_on.ensures.grows x c.loop-at.table c.pass_on.new.table c.loop-at.at c.pair-place.result c.pair-place.ensures (c.loop-at.invariant.reached x all)
      (c.in_ok-pass_on.ensures.sound x);
  made = λ x all. nodes_since c.args.circuit.now x c.loop-at.events c.pass_on.new.events c.pass_on.ensures.grows (length c.args.events.now.children) c.keeps.ensures.events.is_tree (c.loop-at.invariant.made x all)
      (c.pass_on.ensures.made x (All-at (IsReachedPlace c.args.circuit.now c.loop-at.events.children x) c.loop-at.table c.loop-at.at c.pair-place.result c.pair-place.ensures (c.loop-at.invariant.reached x all)));
  children = children_next c.args.circuit.now c.loop-at.events c.pass_on.new.events c.pass_on.ensures.grows c.loop-at.table c.pass_on.new.table c.loop-at.at c.pair-place.result c.pair-place.ensures c.pass_on.ensures.kept c.loop-at.invariant.children c.in_ok-pass_on.ensures.child;
  passed = λ depths. passed_more c.args.circuit.now c.loop-at.events c.pass_on.new.events c.pass_on.ensures.grows c.loop-at.table c.pass_on.new.table c.loop-at.at c.pair-place.result c.pair-place.ensures c.pass_on.ensures.kept
      (c.loop-at.invariant.passed depths) (c.in_ok-pass_on.ensures.passed depths);
  kept = adds_trans (λ (q : ℕ × ℕ). q ≡ q) c.args.table.now c.loop-at.table c.pass_on.new.table c.loop-at.invariant.kept c.pass_on.ensures.kept;
  few = c.in_ok-pass_on.ensures.few;
  grows = grows_trans c.args.events.now c.loop-at.events c.pass_on.new.events c.loop-at.invariant.grows c.pass_on.ensures.grows;
  same = c.pass_on.ensures.same ∙ ap (λ (w : EventGraphView). record w { children = c.pass_on.new.events.children }) c.loop-at.invariant.same;
  small = omega (arith, c.loop-at.invariant.small, c.pass_on.ensures.small);
  inside = let l = adds_length (λ (q : ℕ × ℕ). q ≡ q) c.loop-at.table c.pass_on.new.table c.pass_on.ensures.kept in omega (arith, l, c.loop-at-test.true, c.len.ensures);
}

pub returns-clause-passed : goal.returns-clause-passed
returns-clause-passed c = λ depths. passed_all c.args.circuit.now c.loop-at.events.children c.loop-at.table c.loop-at.at (omega (arith, c.loop-at-test.false, c.len.ensures)) (c.loop-at.invariant.passed depths)

pub returns-clause-reached : goal.returns-clause-reached
returns-clause-reached c = c.loop-at.invariant.reached

pub returns-clause-small : goal.returns-clause-small
returns-clause-small c = omega (arith, c.loop-at.invariant.inside, c.loop-at.invariant.few, c.loop-at.invariant.small)

pub returns-in_err-pass_on-clause-made : goal.returns-in_err-pass_on-clause-made
returns-in_err-pass_on-clause-made c = λ x all. nodes_since c.args.circuit.now x c.loop-at.events c.pass_on.new.events c.pass_on.ensures.grows (length c.args.events.now.children) c.keeps.ensures.events.is_tree (c.loop-at.invariant.made x all)
    (c.pass_on.ensures.made x (All-at (IsReachedPlace c.args.circuit.now c.loop-at.events.children x) c.loop-at.table c.loop-at.at c.pair-place.result c.pair-place.ensures (c.loop-at.invariant.reached x all)))

pub returns-clause-children : goal.returns-clause-children
returns-clause-children c =
    All-from_each (HasChild c.args.circuit.now c.loop-at.events.children) c.loop-at.table
    (λ p h. let i = at_of c.loop-at.table p h in c.loop-at.invariant.children i.0 p (let inside = slice_get_within c.loop-at.table i.0 p i.1 in omega (arith, inside, c.loop-at-test.false, c.len.ensures)) i.1)

pub returns-then-nodes-ge-MAX_EVENT_NODES-clause-small : goal.returns-then-nodes-ge-MAX_EVENT_NODES-clause-small
returns-then-nodes-ge-MAX_EVENT_NODES-clause-small c = omega (arith, c.loop-at.invariant.inside, c.loop-at.invariant.few, c.loop-at.invariant.small)
