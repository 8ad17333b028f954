use Rattle.cbf_unfold.proofs.shift_variables.Standing.{by_shift, at_one_shift}
use Rattle.cbf_unfold.proofs.shift_variables.merge.ByShiftOrderedVariables.order_of.Goals as goal

pub returns-then-left_shift-right_shift : goal.returns-then-left_shift-right_shift
returns-then-left_shift-right_shift c = by_shift c.args.self.now.places.now c.args.u c.args.v c.pair-left_input.result c.pair-right_input.result c.pair-left_input.ensures c.pair-right_input.ensures c.if-left_shift-right_shift.true c.cmp.result c.cmp.ensures

pub returns : goal.returns
returns c = at_one_shift c.args.self.now.places.now c.args.u c.args.v c.pair-left_input.result c.pair-right_input.result c.pair-left_input.ensures c.pair-right_input.ensures c.keeps.ensures c.if-left_shift-right_shift.false c.cmp-2.result c.cmp-2.ensures
