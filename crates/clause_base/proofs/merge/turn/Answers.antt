use Rattle.std.proofs.Common.{arith, sym, inl}
use Rattle.clause_base.proofs.Merges.{left_taken, right_taken}
use Rattle.clause_base.proofs.merge.turn.Goals as goal

pub returns-in_ok-push-in-Left : goal.returns-in_ok-push-in-Left
returns-in_ok-push-in-Left c =
    (left_taken _ _ _ _ _ _ _ c.index-left-i.result c.requires.left c.requires.merged c.in-Left.ensures.0 (sym c.index-left-i.is) c.in-Left.ensures.1 (inl (tt, c.in_ok-push-in-Left.ensures.items)), omega arith)

pub returns-in_ok-push-in-Right : goal.returns-in_ok-push-in-Right
returns-in_ok-push-in-Right c =
    (right_taken _ _ _ _ _ _ _ c.index-right-j.result c.requires.right c.requires.merged c.in-Right.ensures.0 (sym c.index-right-j.is) c.in-Right.ensures.1 (inl (tt, c.in_ok-push-in-Right.ensures.items)), omega arith)

pub turn_both-requires-clause-left : goal.turn_both-requires-clause-left
turn_both-requires-clause-left c = c.requires.left

pub turn_both-requires-clause-right : goal.turn_both-requires-clause-right
turn_both-requires-clause-right c = c.requires.right
