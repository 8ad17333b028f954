use Rattle.clause_base.proofs.Halves.{sorted_of_united, none_there, none_of_left, none_of_right}
use Rattle.clause_base.proofs.disjunction.both.Goals as goal

pub returns-in_default : goal.returns-in_default
returns-in_default c = none_of_left c.args.left.now c.args.right.now (none_there c.args.left.now c.in_default.not-Some)

pub returns-in_default-right : goal.returns-in_default-right
returns-in_default-right c = none_of_right c.args.left.now c.args.right.now (none_there c.args.right.now c.in_default-right.not-Some)

pub returns : goal.returns
returns c = sorted_of_united _ _ _ _ c.united.result c.in-Some.is c.in-Some-right.is c.united.ensures
