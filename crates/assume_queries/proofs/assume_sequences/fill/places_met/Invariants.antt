use Rattle.std.proofs.Common.{◌≡◌, ◌<◌, ℕ, false, length, take, get_or}
use Rattle.assume_queries.specs.assume_sequences.Filled.{has_place}
use Rattle.assume_queries.proofs.assume_sequences.fill.places_met.Given as goal

abbrev pub invariant-loop-v : goal.invariant-loop-v
invariant-loop-v l = record { long : length l.met.items ≡ l.size; met : (k : ℕ) → k < l.size → get_or l.met.items k false ≡ has_place l.table (take l.v-index l.vars) k }
