use Rattle.std.proofs.Common.{ℕ, ◌<◌, ◌↔◌, Contains}
use Rattle.event_nodes.proofs.event_variables.ranked_nodes.ranks.numbers_below.Given as goal

abbrev pub invariant-loop-v : goal.invariant-loop-v
invariant-loop-v l = (u : ℕ) → Contains l.numbers.items u ↔ (u < l.v)
