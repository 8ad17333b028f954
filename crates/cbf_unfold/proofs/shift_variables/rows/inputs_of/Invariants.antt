use Rattle.std.proofs.Common.{◌≡◌, map, take}
use Rattle.cbf_unfold.specs.shift_variables.Variables.{variable_of}
use Rattle.cbf_unfold.proofs.shift_variables.rows.inputs_of.Given as goal

abbrev pub invariant-loop-v : goal.invariant-loop-v
invariant-loop-v l = l.inputs.items ≡ map (λ v. (variable_of l.places v).input) (take l.v-index l.vars)
