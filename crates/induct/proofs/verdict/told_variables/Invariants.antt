use Rattle.std.proofs.Common.{◌≡◌, map, take}
use Rattle.induct.specs.Inductions.{variable_told}
use Rattle.induct.proofs.verdict.told_variables.Given as goal

abbrev pub invariant-loop-v : goal.invariant-loop-v
invariant-loop-v l = l.told ≡ map (variable_told l.first l.count) (take l.v-index l.vars)
