use Rattle.std.proofs.Common.{◌≡◌, map, take, nat_eq, unwrap_or, false}
use Rattle.indexmap.specs.IndexMap.{get}
use Rattle.pair_decide.proofs.bits.bits_by.Given as goal

abbrev pub invariant-loop-v : goal.invariant-loop-v
invariant-loop-v l = l.bits ≡ map (λ v. unwrap_or (get nat_eq l.found v) false) (take l.v-index l.vars)
