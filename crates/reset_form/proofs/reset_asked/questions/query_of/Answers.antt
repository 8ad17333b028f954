-- The variables are those of both functions.
use Rattle.std.proofs.Common.{sym, subst}
use Rattle.cbf_unfold.specs.shift_variables.cycle_variables.Cycles.{AreInCycles}
use Rattle.reset_form.proofs.reset_asked.questions.query_of.Goals as goal

pub merge_cycles-requires-clause-left : goal.merge_cycles-requires-clause-left
merge_cycles-requires-clause-left c = subst (AreInCycles c.args.places.now) (sym c.as_slice.ensures) c.requires.left

pub merge_cycles-requires-clause-right : goal.merge_cycles-requires-clause-right
merge_cycles-requires-clause-right c = subst (AreInCycles c.args.places.now) (sym c.as_slice-2.ensures) c.requires.right
