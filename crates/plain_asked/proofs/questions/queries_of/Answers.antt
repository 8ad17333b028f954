-- The variables are those of both functions.
use Rattle.std.proofs.Common.{sym, subst}
use Rattle.plain_asked.specs.Variables.{AreInOrder}
use Rattle.plain_asked.proofs.questions.queries_of.Goals as goal

pub merge_variables-requires-clause-left : goal.merge_variables-requires-clause-left
merge_variables-requires-clause-left c = subst (AreInOrder c.args.places.now) (sym c.as_slice.ensures) c.requires.left

pub merge_variables-requires-clause-right : goal.merge_variables-requires-clause-right
merge_variables-requires-clause-right c = subst (AreInOrder c.args.places.now) (sym c.as_slice-2.ensures) c.requires.right
