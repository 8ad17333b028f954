use Rattle.std.proofs.Common.{◌≡◌, take}
use Rattle.aig.specs.lane_eval.root_classes.Inputs.{inputs_of}
use Rattle.aig.proofs.lane_eval.root_classes.inputs.variables.Given as goal

abbrev pub invariant-loop-n : goal.invariant-loop-n
invariant-loop-n l = l.vars.items ≡ inputs_of (take l.n l.nodes)
