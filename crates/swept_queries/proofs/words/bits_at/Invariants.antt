use Rattle.std.proofs.Common.{◌≡◌, take}
use Rattle.swept_queries.specs.Lanes.{lane_bits}
use Rattle.swept_queries.proofs.words.bits_at.Given as goal

abbrev pub invariant-loop-v : goal.invariant-loop-v
invariant-loop-v l = l.bits ≡ lane_bits l.words (take l.v-index l.vars) l.lane
