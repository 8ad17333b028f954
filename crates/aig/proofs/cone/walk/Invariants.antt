use Rattle.std.proofs.Common.{ℕ, ◌-◌, List, length}
use Rattle.aig.specs.Cone.{IsWalk}
use Rattle.aig.proofs.cone.walk.Given as goal

abbrev pub invariant-loop-at : goal.invariant-loop-at
invariant-loop-at l = (roots : List ℕ) → IsWalk l.nodes roots l.initial.seen 0 → IsWalk l.nodes roots l.seen l.at

abbrev pub decreases-loop-at : goal.decreases-loop-at
decreases-loop-at l = length l.nodes - l.at
