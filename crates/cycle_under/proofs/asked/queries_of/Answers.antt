-- The variables of both sides are in order.
use Rattle.std.proofs.Common.{sym, subst}
use Rattle.cbf_unfold.specs.shift_variables.cycle_variables.Cycles.{AreInCycles}
use Rattle.reset_form.proofs.reset_asked.CycleQueries.{merge_in_order}
use Rattle.cycle_under.proofs.asked.queries_of.Goals as goal

pub merge_cycles-requires-2-clause-left : goal.merge_cycles-requires-2-clause-left
merge_cycles-requires-2-clause-left c =
    let places = c.args.places.now in
    subst (AreInCycles places) (sym c.as_slice-3.ensures)
    (merge_in_order places c.as_slice.result.now c.as_slice-2.result.now c.in_ok-sides.sides (subst (AreInCycles places) (sym c.as_slice.ensures) c.requires.left) (subst (AreInCycles places) (sym c.as_slice-2.ensures) c.requires.right)
    c.in_ok-sides.ensures)
