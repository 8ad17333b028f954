use Rattle.std.proofs.Common.{◌≡◌, ◌<◌, ℕ, slice_get, Some}
use Rattle.latch_graph.specs.declared.states.State.TheVariants.{Endless}
use Rattle.latch_graph.proofs.rounds.first_endless.Given as goal

abbrev pub invariant-loop-s : goal.invariant-loop-s
invariant-loop-s l = (k : ℕ) → k < l.s → slice_get l.states k ≡ Some Endless → ⊥
