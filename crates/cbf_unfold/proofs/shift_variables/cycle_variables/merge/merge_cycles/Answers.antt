use Rattle.cbf_unfold.specs.shift_variables.Variables.{variable_of}
use Rattle.cbf_unfold.proofs.shift_variables.cycle_variables.CycleOrder.{cycle_trans}
use Rattle.cbf_unfold.proofs.shift_variables.cycle_variables.merge.merge_cycles.Goals as goal

pub merge-requires-clause-goes_on : goal.merge-requires-clause-goes_on
merge-requires-clause-goes_on c = λ u v w. cycle_trans (variable_of c.args.places.now u) (variable_of c.args.places.now v) (variable_of c.args.places.now w)
