use Rattle.std.proofs.Common.{◌∙◌, ◌<◌, List, length, sym, ap, subst}
use Rattle.std.proofs.lemmas.List.{with_items_is}
use Rattle.std.proofs.lemmas.Option.{slice_get_within}
use Rattle.latch_graph.specs.declared.minimal_cut.marks.Mark.{Mark}
use Rattle.latch_graph.specs.minimal_cut.Marks.{AreFirst}
use Rattle.latch_graph.proofs.minimal_cut.marks.first_marks.Goals as goal

pub returns-clause-size : goal.returns-clause-size
returns-clause-size c =
    let v = c.in_ok-marks.marks in
    let new = c.mark_out.new.marks in
    ap length (with_items_is v new (c.mark_out.auto.marks ∙ c.as_mut_slice.ensures.len)) ∙ c.mark_out.auto.marks ∙ ap length c.as_mut_slice.ensures.value ∙ c.in_ok-marks.ensures.size

pub returns-clause-first : goal.returns-clause-first
returns-clause-first c =
    let v = c.in_ok-marks.marks in
    let new = c.mark_out.new.marks in
    subst (λ (z : List Mark). AreFirst c.args.latches.now c.args.positions.now (length c.args.positions.now) z) (sym (with_items_is v new (c.mark_out.auto.marks ∙ c.as_mut_slice.ensures.len))) c.mark_out.ensures

pub mark_out-requires-clause-out : goal.mark_out-requires-clause-out
mark_out-requires-clause-out c = λ j l h.
    let node = c.requires.nodes.out j l h in
    subst (λ n. l.out.0 < n) (sym (ap length c.as_mut_slice.ensures.value ∙ c.in_ok-marks.ensures.size)) (slice_get_within c.args.nodes.now l.out.0 node.0 node.1)
