use Rattle.std.proofs.Common.{ℕ, ◌<◌, length, slice_index_or}
use Rattle.circuit_theory.specs.Names.{ListBefore}
use Rattle.elaborate.specs.Flat.{name_at}
use Rattle.flatten.proofs.loops.least.Given as goal

abbrev pub invariant-loop-place : goal.invariant-loop-place
invariant-loop-place l =
    (l.least < length l.numbers)
    × ((k : ℕ) → k < l.place → ListBefore (name_at l.flat.names (slice_index_or l.numbers k 0)) (name_at l.flat.names (slice_index_or l.numbers l.least 0)) → ⊥)
