-- By what comes of the refinement.
use Rattle.std.proofs.Common.{sym, subst}
use Rattle.block_refine.specs.Refining.{AreCoarsest, IsRefined}
use Rattle.induct.proofs.OwnNumbers.{orders_long}
use Rattle.induct.proofs.induction.induct_light.Goals as goal

pub refine-requires-clause-long : goal.refine-requires-clause-long
refine-requires-clause-long c = orders_long c.args.a.now c.args.b.now c.in_ok-own.own c.in_ok-own.ensures.are

pub refine-requires-clause-small : goal.refine-requires-clause-small
refine-requires-clause-small c = (c.in_ok-own.ensures.left_small, c.in_ok-own.ensures.right_small)

pub split_limit-requires-clause-limit : goal.split_limit-requires-clause-limit
split_limit-requires-clause-limit c = subst (IsRefined c.args.a.now c.args.b.now c.in_ok-own.own c.args.conflicts) c.in-Limit.is c.in_ok-limit.ensures

pub over_blocks-requires-clause-coarsest : goal.over_blocks-requires-clause-coarsest
over_blocks-requires-clause-coarsest c =
    subst (AreCoarsest c.args.a.now c.args.b.now c.in_ok-own.own) (sym c.as_slice.ensures) (subst (IsRefined c.args.a.now c.args.b.now c.in_ok-own.own c.args.conflicts) c.in-Inductive.is c.in_ok-limit.ensures)
