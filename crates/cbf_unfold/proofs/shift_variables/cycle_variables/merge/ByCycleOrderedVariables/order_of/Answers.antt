use Rattle.cbf_unfold.proofs.shift_variables.Standing.{by_cycle, in_one_cycle}
use Rattle.cbf_unfold.proofs.shift_variables.cycle_variables.merge.ByCycleOrderedVariables.order_of.Goals as goal

pub returns-then-left_cycle-right_cycle : goal.returns-then-left_cycle-right_cycle
returns-then-left_cycle-right_cycle c = by_cycle c.args.self.now.places.now c.args.u c.args.v c.pair-left_number.result c.pair-right_number.result c.pair-left_number.ensures c.pair-right_number.ensures c.if-left_cycle-right_cycle.true c.cmp.result c.cmp.ensures

pub returns : goal.returns
returns c = in_one_cycle c.args.self.now.places.now c.args.u c.args.v c.pair-left_number.result c.pair-right_number.result c.pair-left_number.ensures c.pair-right_number.ensures c.keeps.ensures c.if-left_cycle-right_cycle.false c.cmp-2.result c.cmp-2.ensures
