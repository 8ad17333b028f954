-- Before the first turn, and after the last.
use Rattle.std.proofs.Common.{◌<◌, length, List, [], subst, sym, ap, ◌∙◌}
use Rattle.latch_graph.specs.minimal_cut.graph_components.flat_net.LatchAt.{LatchAt}
use Rattle.std.specs.List.{All}
use Rattle.latch_graph.specs.minimal_cut.graph_components.Node.{Node}
use Rattle.latch_graph.specs.minimal_cut.graph_components.Graph.{AreNodes}
use Rattle.latch_graph.specs.declared.minimal_cut.marks.Mark.{Mark}
use Rattle.latch_graph.specs.minimal_cut.Marks.{AreFirst}
use Rattle.latch_graph.specs.minimal_cut.Trying.{IsSide}
use Rattle.latch_graph.proofs.minimal_cut.Sides.{side_first}
use Rattle.latch_graph.proofs.minimal_cut.Tried.{tried_none, is_minimal}
use Rattle.latch_graph.proofs.minimal_cut.trial.chosen_in.Goals as goal

pub try_all-requires-clause-none_tried : goal.try_all-requires-clause-none_tried
try_all-requires-clause-none_tried c =
    let a = c.args.a.now.graph.now in
    let b = c.args.b.now.graph.now in
    let lefts = c.args.a.now.positions.now in
    let rights = c.args.b.now.positions.now in
    let left = side_first a lefts c.in_ok-left.left.items c.requires.a.within (c.in_ok-left.ensures.size ∙ ap length c.nodes.ensures)
    (subst (λ (z : List LatchAt). AreFirst z lefts (length lefts) c.in_ok-left.left.items) c.latches.ensures c.in_ok-left.ensures.first) c.requires.left_free in
    let right = side_first b rights c.in_ok-right.right.items c.requires.b.within (c.in_ok-right.ensures.size ∙ ap length c.nodes-2.ensures)
    (subst (λ (z : List LatchAt). AreFirst z rights (length rights) c.in_ok-right.right.items) c.latches-2.ensures c.in_ok-right.ensures.first) c.requires.right_free in
    tried_none a b lefts rights c.as_mut_slice.result.now c.as_mut_slice-2.result.now
    (subst (λ (z : List Mark). IsSide a lefts 0 [] z) (sym c.as_mut_slice.ensures.value) left) (subst (λ (z : List Mark). IsSide b rights 0 [] z) (sym c.as_mut_slice-2.ensures.value) right)

pub returns : goal.returns
returns c =
    is_minimal c.args.a.now.graph.now c.args.b.now.graph.now c.requires.a.are c.requires.b.are c.args.a.now.positions.now c.args.b.now.positions.now c.requires.a.within c.requires.b.within c.requires.a.once c.requires.b.once c.requires.pairs
    c.try_all.new.left c.try_all.new.right c.in_ok-places.places c.in_ok-places.ensures

pub first_marks-requires-clause-nodes : goal.first_marks-requires-clause-nodes
first_marks-requires-clause-nodes c =
    subst (λ (z : List Node). AreNodes z c.latches.result.now) (sym c.nodes.ensures) (subst (λ (z : List LatchAt). AreNodes c.args.a.now.graph.now.nodes z) (sym c.latches.ensures) c.requires.a.are)

pub first_marks-requires-2-clause-nodes : goal.first_marks-requires-2-clause-nodes
first_marks-requires-2-clause-nodes c =
    subst (λ (z : List Node). AreNodes z c.latches-2.result.now) (sym c.nodes-2.ensures) (subst (λ (z : List LatchAt). AreNodes c.args.b.now.graph.now.nodes z) (sym c.latches-2.ensures) c.requires.b.are)

pub first_marks-requires-clause-within : goal.first_marks-requires-clause-within
first_marks-requires-clause-within c = subst (λ (z : List LatchAt). All (λ j. j < length z) c.args.a.now.positions.now) (sym c.latches.ensures) c.requires.a.within

pub first_marks-requires-2-clause-within : goal.first_marks-requires-2-clause-within
first_marks-requires-2-clause-within c = subst (λ (z : List LatchAt). All (λ j. j < length z) c.args.b.now.positions.now) (sym c.latches-2.ensures) c.requires.b.within
