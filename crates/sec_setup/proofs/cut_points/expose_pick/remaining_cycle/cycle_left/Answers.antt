use Rattle.std.proofs.Common.{length, ap, ◌∙◌}
use Rattle.sec_setup.proofs.cut_points.expose_pick.Removed.{none_left, some_left}
use Rattle.sec_setup.proofs.cut_points.expose_pick.remaining_cycle.cycle_left.Goals as goal

pub returns-clause-none : goal.returns-clause-none
returns-clause-none c = none_left c.args.graph.now c.in_ok-removed.removed c.args.positions.now c.in_ok-removed.ensures.set (c.in_ok-removed.ensures.size ∙ ap length c.latches.ensures) c.in_ok-found.found c.in_ok-found.ensures.none

pub returns-clause-some : goal.returns-clause-some
returns-clause-some c =
    some_left c.args.graph.now c.in_ok-removed.removed c.args.positions.now c.in_ok-removed.ensures.set (c.in_ok-removed.ensures.size ∙ ap length c.latches.ensures) c.in_ok-found.found c.in_ok-found.ensures.within c.in_ok-found.ensures.cycle
    c.in_ok-found.ensures.least
